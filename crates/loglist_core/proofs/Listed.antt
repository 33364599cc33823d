-- What is listed of an opened image: at most 64 extents, and of each its slot, its start, and as its end the LSN behind its last record.
use Prim.Native.Nat.{ℕ, ◌≤◌, ◌<◌}
use mathlib.Core.Path.{◌≡◌, sym, ap, ◌∙◌}
use mathlib.Core.List.{List}
use native.Mathlib.Omega.{arith}
use Rattle.std.specs.Prelude.{Result, Ok}
use Rattle.std.specs.Result.{IsErr}
use Rattle.refusals.specs.declared.Refusal.{Refusal}
use lib.ListN.{get_or, take, length-map, get_or-map}
use Rattle.slots.specs.Entries.{slot_nos, lsn_nos, lsn_array}
use Rattle.slots.proofs.Arrays.{starts_front}
use Rattle.scan.specs.declared.Opening.{Opening}
use Rattle.scan.specs.Scan.{Extent, end_of, View, Scan, refused, opened, scan}
use Rattle.scan.specs.Answers.{starts_of, opening_of, Tells}
use Rattle.scan.proofs.Indexed.{none, extent_at}
use Rattle.scan.proofs.Opens.{Opens, opens_says}
use Rattle.scan.proofs.Sequence.{lies_inside, count, extent_is}
use Rattle.loglist_core.specs.Ends.{end_at}
use Rattle.loglist_core.proofs.Ends.{end_is_reached}

-- ---- the count

pub at_most_64 : (l : List ℕ) (o : Opening) (k : Scan) → scan l ≡ k → Tells k (Ok o) → o.metadata.n ≤ 64
at_most_64 l o (refused k) e t = absurd (not_refused t.0)
  where
    not_refused : IsErr {T = Opening} {E = Refusal} (Ok o) → ⊥
    not_refused t = let z : ◌≡◌ {A = ℕ} 0 1 = cc in omega arith
at_most_64 l o (opened v) e t =
    let is : o ≡ opening_of v = cc in
    rw is (lies_inside l v.metadata v.extents (opens_says l v e)).n_high

-- ---- the lines

-- the numbers of line i are those of the extent x: entry i of the slots and of the starts, and as its end what end_of's contract gives
pub record Lists (o : Opening) (i : ℕ) (x : Extent) : Type 0 where
  pub slot : get_or (take o.metadata.n (slot_nos o.metadata.slots)) i 0 ≡ x.slot
  pub start : get_or (take o.metadata.n (lsn_nos o.starts)) i 0 ≡ x.start
  pub end : end_at (take o.metadata.n (lsn_nos o.starts)) o.tail.0 i ≡ end_of x

module _ (l : List ℕ) (v : View) (e : scan l ≡ opened v) where
  opens : Opens l v.metadata v.extents
  opens = opens_says l v e

  starts_listed : take v.metadata.n (lsn_nos (lsn_array (starts_of v.extents))) ≡ starts_of v.extents
  starts_listed =
      let long = length-map v.extents (λ (x : Extent). x.start) ∙ count l v.metadata v.extents opens in
      ap (λ (k : ℕ). take k (lsn_nos (lsn_array (starts_of v.extents)))) (sym long) ∙ starts_front (starts_of v.extents)

  lists_opened : (i : ℕ) → i < v.metadata.n → Lists (opening_of v) i (extent_at v.extents i)
  lists_opened i h =
      let long = count l v.metadata v.extents opens in
      record {
        slot = sym (ap (λ (x : Extent). x.slot) (extent_is l v.metadata v.extents opens i h));
        start = rw starts_listed (get_or-map (λ (x : Extent). x.start) v.extents i none);
        end = rw starts_listed (end_is_reached v.extents opens.join i (omega (arith, long)));
      }

  pub lists_the_scan : (o : Opening) → Tells (scan l) (Ok o) → (i : ℕ) → i < v.metadata.n → Lists o i (extent_at v.extents i)
  lists_the_scan o t i h =
      let told : ◌≡◌ {A = Result Opening Refusal} (Ok o) (Ok (opening_of v)) = rw e at t in
      let is : o ≡ opening_of v = cc in
      rw is (lists_opened i h)
