-- The cheats that document 01 names meet no contract: each at one state and image, computed.
use Prim.Native.Nat.{ℕ}
use mathlib.Core.Path.{◌≡◌, refl, sym, ap, ◌∙◌}
use mathlib.Core.Bool.{true}
use mathlib.Core.List.{List, []}
use native.Mathlib.Omega.{arith}
use borrow.Author.Tests.{leb-true}
use lib.ListN.{get_or}
use Rattle.medium.specs.Store.{laid, laid_first, laid_one}
use Rattle.metadata.specs.Metadata.{sizes_ok}
use Rattle.metadata.proofs.Samples.{fresh_bytes}
use Rattle.table.specs.declared.Mode.TheVariants.{Opened, Wiped, Written, Tail}
use Rattle.state.specs.declared.State.{State}
use Rattle.state.specs.State.{Answer}
use Rattle.state.specs.Change.{in_mode}
use Rattle.counts.specs.Counts.{Report}
use Rattle.counts.specs.Counts.{counts_of}
use Rattle.create.specs.Create.{fresh_state, fresh_image}
use Rattle.roll.specs.Begin.{begun_state}
use Rattle.head.specs.Start.{headed_state}
use Rattle.read.specs.Read.{Reading}
use Rattle.contracts.specs.Call.{Call, wipes, marks, appends, roll_begins, roll_writes, roll_lists, head_starts, head_finishes, tail_starts}
use Rattle.contracts.specs.Call.{tail_finishes, closes, does}
use Rattle.contracts.specs.Cheats.{Program, Meets, Excluded, Refuses, RefusesEverythingExcluded, OpenRefusesEverythingExcluded}
use Rattle.contracts.specs.Cheats.{StoresNothingExcluded, OneStateExcluded, OpenOneStateExcluded, WipingTailStartExcluded}
use Rattle.contracts.specs.Cheats.{InventedCountsExcluded, FixedCountsExcluded}
use Rattle.contracts.specs.Promises.{CountsNotInvented}
use Rattle.contracts.specs.Samples.{at, image, one, two, filled}
use Rattle.contracts.proofs.Determined.{counts_not_invented}
use Rattle.contracts.proofs.Begins.{fresh_opens}
use Rattle.contracts.proofs.Computing.{computing}
use Rattle.contracts.proofs.FirstWipe.{fresh_wipes, fresh_wiped}

-- what is done by the contract is done by the program
done_by : (c : Call) (f : Program) → Meets c f → (g : State) (l : List ℕ) → (does c g l).number ≡ 0 → (f g l).0.number ≡ 0
done_by c f m g l e = ap (λ (r : Answer). r.number) (m g l).answer ∙ e

refusing : (c : Call) (g : State) (l : List ℕ) → (does c g l).number ≡ 0 → Excluded c Refuses
refusing c g l e f m r = r g l (done_by c f m g l e)

pub refuses_everything_excluded : RefusesEverythingExcluded
unfolding does computing fresh_bytes
refuses_everything_excluded = record {
  wipe = refusing wipes (in_mode Opened (at 1 5)) (image []) refl;
  mark = refusing marks (in_mode Wiped (at 1 5)) (image []) refl;
  append = refusing (appends []) (at 1 5) (image []) refl;
  roll_begin = refusing (roll_begins 0) (at 2 56) (image (filled 42)) refl;
  roll_write = refusing (roll_writes []) (begun_state (at 2 56) 0) (image (filled 42)) refl;
  roll_list = refusing roll_lists (in_mode Written (begun_state (at 2 56) 0)) (image (filled 42)) refl;
  head_start = refusing (head_starts 2) (at 3 23) (image two) refl;
  head_finish = refusing head_finishes (headed_state (at 3 23) 2) (image two) refl;
  tail_start = refusing (tail_starts 1) (at 2 16) (image one) refl;
  tail_finish = refusing tail_finishes (in_mode Tail (at 2 16)) (image one) refl;
  close = refusing closes (at 1 5) (image []) refl;
  read = λ f m r. r (at 2 16) (image one) (ap (λ (x : Reading). x.number) (m (at 2 16) (image one)));
}

pub open_refuses_everything_excluded : OpenRefusesEverythingExcluded
unfolding OpenRefusesEverythingExcluded
open_refuses_everything_excluded f m r =
    r (fresh_image 64 2) (ap (λ (a : Answer). a.number) (m (fresh_image 64 2) ∙ fresh_opens 64 2 (unfold sizes_ok in refl)))

pub stores_nothing_excluded : StoresNothingExcluded
unfolding StoresNothingExcluded does computing fresh_bytes laid laid_first laid_one
stores_nothing_excluded f m r =
    let same : (f (at 1 5) (image [])).1 ≡ image [] = r (at 1 5) (image []) (done_by (appends []) f m (at 1 5) (image []) refl) in
    -- the record's closing byte
    let z : ◌≡◌ {A = ℕ} 165 0 = ap (λ (l : List ℕ). get_or l 97 0) (sym (m (at 1 5) (image [])).image ∙ same) in
    omega arith

pub one_state_excluded : OneStateExcluded
unfolding OneStateExcluded does
one_state_excluded f m (n, r) =
    let z : ◌≡◌ {A = ℕ} 64 65 = sym (size 64 (unfold sizes_ok in refl)) ∙ size 65 (unfold sizes_ok in refl) in
    omega arith
  where
    size : (e : ℕ) → sizes_ok e 2 ≡ true → n.e ≡ e
    size e t =
        let g : State = in_mode Opened (fresh_state e 2) in
        let l : List ℕ = fresh_image e 2 in
        ap (λ (x : State). x.e) (sym (r g l (done_by wipes f m g l (fresh_wipes e 2 t))))
        ∙ ap (λ (x : Answer). x.log.e) (m g l).answer
        ∙ fresh_wiped e 2 t

pub open_one_state_excluded : OpenOneStateExcluded
unfolding OpenOneStateExcluded
open_one_state_excluded f m n r =
    let z : ◌≡◌ {A = ℕ} 64 65 = sym (size 64 (unfold sizes_ok in refl)) ∙ size 65 (unfold sizes_ok in refl) in
    omega arith
  where
    size : (e : ℕ) → sizes_ok e 2 ≡ true → n.e ≡ e
    size e t =
        let opens = m (fresh_image e 2) ∙ fresh_opens e 2 t in
        ap (λ (x : State). x.e) (sym (r (fresh_image e 2) (ap (λ (a : Answer). a.number) opens)))
        ∙ ap (λ (a : Answer). a.log.e) opens
        ∙ (unfold fresh_state in refl)

pub wiping_tail_start_excluded : WipingTailStartExcluded
unfolding WipingTailStartExcluded does computing fresh_bytes laid laid_first laid_one
wiping_tail_start_excluded f m r =
    let d = m (at 2 16) (image one) in
    let wiped = r (at 2 16) (image one) (done_by (tail_starts 1) f m (at 2 16) (image one) refl) in
    let behind = rw (d.answer, d.image) at wiped in
    let z : ◌≡◌ {A = ℕ} 9 0 = behind 6 (leb-true 5 6 refl) (leb-true 7 64 refl) in
    omega arith

pub invented_counts_excluded : InventedCountsExcluded
unfolding InventedCountsExcluded CountsNotInvented
invented_counts_excluded f m g e other = other (counts_not_invented g (f g) (m g) e)

pub fixed_counts_excluded : FixedCountsExcluded
unfolding FixedCountsExcluded computing
fixed_counts_excluded f m c = (
  λ r. let z : ◌≡◌ {A = ℕ} 1 2 = free r (fresh_state 64 2) refl ∙ sym (free r (fresh_state 64 3) refl) in omega arith,
  λ r. let z : ◌≡◌ {A = ℕ} 0 2 = live r (at 1 5) refl ∙ sym (live r (at 3 23) refl) in omega arith,
)
  where
    number : (g : State) → (counts_of g).number ≡ 0 → (f g).number ≡ 0
    number g e = ap (λ (x : Report). x.number) (m g) ∙ e

    free : ((g : State) → (f g).number ≡ 0 → (f g).free ≡ c) → (g : State) → (counts_of g).number ≡ 0 → (counts_of g).free ≡ c
    free r g e = sym (ap (λ (x : Report). x.free) (m g)) ∙ r g (number g e)

    live : ((g : State) → (f g).number ≡ 0 → (f g).live ≡ c) → (g : State) → (counts_of g).number ≡ 0 → (counts_of g).live ≡ c
    live r g e = sym (ap (λ (x : Report). x.live) (m g)) ∙ r g (number g e)
