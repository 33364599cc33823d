-- The turns of wipe and tail finish: cut anywhere, a wipe from the write place to the extent's end leaves the book; whole, it leaves
-- the write extent clean.
use Prim.Native.Nat.{ℕ, ◌+◌, ◌-◌, ◌≤◌}
use mathlib.Core.Path.{◌≡◌, refl}
use mathlib.Core.Bool.{true, false}
use mathlib.Core.List.{List}
use native.Mathlib.Omega.{arith}
use lib.ListN.{length, length-replicate}
use Rattle.medium.specs.Store.{Store, count, wipe_of, laid, arrives}
use Rattle.medium.proofs.Laws.{moved}
use Rattle.table.specs.declared.Step.{Step}
use Rattle.table.specs.declared.Step.TheVariants.{Wipe, TailFinish}
use Rattle.state.specs.declared.State.{State}
use Rattle.state.specs.Change.{in_mode}
use Rattle.outcome.specs.Enter.{mode_after}
use Rattle.outcome.specs.Rest.{rest_store, rest_outcome}
use Rattle.outcome.proofs.Calls.{entered}
use Rattle.outcome.proofs.Modes.{mode_before}
use Rattle.contracts.specs.Call.{wipes, tail_finishes, does}
use Rattle.life.specs.Life.{History}
use Rattle.life.proofs.Book.{Book, place_in, write_part, Keeps}
use Rattle.life.proofs.Book.Pieces.{torn_wipe, whole_wipe}
use Rattle.life.proofs.Book.Frames.{base, own, keeps_own}
use Rattle.life.proofs.Invariant.{Rests, rests_on, Tied, marked_in, zeroed_in, written_in, Knows}
use Rattle.life.proofs.Invariant.Modes.{not_after}
use Rattle.life.proofs.Invariant.Ties.{e_is, place_is, write_slot_is}
use Rattle.life.proofs.Invariant.Wells.{write_long, place_inside}
use Rattle.life.proofs.Turns.Done.{done, outcome_as}
use Rattle.life.proofs.Turns.Moves.{Moves, Turning, turned}

abbrev rest_in : Book → Store
rest_in b = wipe_of (place_in b.write) (b.e - place_in b.write)

rest_store_is : {g : State} {b : Book} → Tied g b → rest_store g ≡ moved (base b) (rest_in b)
rest_store_is t = rw (e_is t, write_slot_is t, place_is t)

module _ {g : State} {l : List ℕ} {b : Book} {y : History} (r : Rests l b y) (s : Knows g l b y.rolled) (step : Step) where
  rest_moves :
      (marked_in (mode_after step g) ≡ true → b.clean ≡ false)
      → (zeroed_in (mode_after step g) ≡ true → ⊥)
      → (written_in (mode_after step g) ≡ true → ⊥)
      → Moves (done (in_mode (mode_after step g) g) (moved (base b) (rest_in b))) l b y
  rest_moves marked zeroed written =
      let room : place_in b.write ≤ b.e = place_inside r.keeps r.sound in
      let n : count (rest_in b) ≡ b.e - place_in b.write = length-replicate (b.e - place_in b.write) 0 in
      let fits : (rest_in b).place + count (rest_in b) ≤ b.e = omega arith in
      let long = write_long r.keeps r.sound in
      let q : List ℕ = write_part l b in
      let torn = torn_wipe q b.version b.last b.write b.e long r.keeps.write in
      let whole = whole_wipe q b.version b.last b.write b.e long r.keeps.write in
      let cut : (k : ℕ) → Keeps (laid k (moved (base b) (rest_in b)) l) b =
      λ k. keeps_own r.keeps r.sound (rest_in b) fits k b.write.payloads (torn k) in
      record {
        torn = λ k h. cut (arrives k (moved (base b) (rest_in b)));
        book = b;
        same = refl;
        rests = rests_on (cut (count (rest_in b))) r;
        knows = record {
          tied = record { is = s.tied.is };
          wiped = λ e. rw (own r.keeps r.sound (rest_in b) fits (count (rest_in b))) whole;
          marked = marked;
          zeroed = λ e. absurd (zeroed e);
          written = λ e. absurd (written e);
        };
      }

pub wipe_turn : Turning wipes
unfolding does rest_outcome
wipe_turn g l b y r s z =
    let d = outcome_as _ _ _ _ (rest_store_is s.tied) z in
    let n = entered Wipe g (length l) d.0 in
    turned d.1 (rest_moves r s Wipe (not_after n marked_in refl) (not_after n zeroed_in refl) (not_after n written_in refl))

pub tail_finish_turn : Turning tail_finishes
unfolding does rest_outcome
tail_finish_turn g l b y r s z =
    let d = outcome_as _ _ _ _ (rest_store_is s.tied) z in
    let n = entered TailFinish g (length l) d.0 in
    let marked = s.marked (mode_before n marked_in true refl) in
    turned d.1 (rest_moves r s TailFinish (λ e. marked) (not_after n zeroed_in refl) (not_after n written_in refl))
