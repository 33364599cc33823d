-- The old write extent w joins the old ones, and another extent comes behind it: what the lists of a book then are, and that they stay
-- joined, distinct and below S. Roll list does this.
use Prim.Native.Nat.{ℕ, ◌≤◌, ◌<◌}
use mathlib.Core.Path.{◌≡◌, refl, sym, ◌∙◌}
use mathlib.Core.Bool.{true, false}
use mathlib.Core.List.{List, [], ◌∷◌, ◌++◌, map, append_assoc}
use borrow.Author.Tests.{lt-ltb}
use lib.Dec.{ltb}
use lib.ListN.{length}
use Rattle.numbers.proofs.Tests.{both}
use Rattle.metadata.specs.Metadata.{all_below}
use Rattle.slots.specs.Entries.{among, distinct}
use Rattle.slots.proofs.Members.{distinct_snoc}
use Rattle.scan.specs.Scan.{Extent, end_of, slot_part}
use Rattle.life.proofs.Book.{Clean, first_start, flat, Joined, BelowSecond, SlotsOk, Olds}

module _ (w : Extent) where
  pub map_behind : (f : Extent → ℕ) (os : List Extent) → map f (os ++ (w ∷ [])) ≡ map f os ++ (f w ∷ [])
  map_behind f [] = refl
  map_behind f (o ∷ os) = rw (map_behind f os)

  pub first_behind : (os : List Extent) (t : ℕ) → first_start (os ++ (w ∷ [])) t ≡ first_start os w.start
  first_behind [] t = refl
  first_behind (o ∷ os) t = refl

  pub joined_behind : (os : List Extent) → Joined os w.start → 1 ≤ length w.payloads → Joined (os ++ (w ∷ [])) (end_of w)
  joined_behind [] j h = (h, refl, tt)
  joined_behind (o ∷ os) j h = (j.0, j.1 ∙ sym (first_behind os (end_of w)), joined_behind os j.2 h)

  pub second_behind : (h : ℕ) (os : List Extent) → BelowSecond h os w.start → h < end_of w → BelowSecond h (os ++ (w ∷ [])) (end_of w)
  second_behind h [] q k = k
  second_behind h (o ∷ os) q k = rw (first_behind os (end_of w)) q

  pub olds_behind :
      (l : List ℕ) (e v last : ℕ) (os : List Extent)
      → Olds l e v last os
      → Clean (slot_part l e w.slot) v last w
      → Olds l e v last (os ++ (w ∷ []))
  olds_behind l e v last [] olds c = (c, tt)
  olds_behind l e v last (o ∷ os) olds c = (olds.0, olds_behind l e v last os olds.1 c)

  pub flat_behind : (os : List Extent) (x : Extent) → flat (os ++ (w ∷ [])) x ≡ flat os w ++ x.payloads
  unfolding flat
  flat_behind [] x = refl
  flat_behind (o ∷ os) x = rw (flat_behind os x) (sym (append_assoc o.payloads (flat os w) x.payloads))

-- ---- the slots

below_behind : (s k : ℕ) (xs : List ℕ) → all_below s xs ≡ true → k < s → all_below s (xs ++ (k ∷ [])) ≡ true
unfolding all_below
below_behind s k [] b h = rw (lt-ltb k s h)
below_behind s k (x ∷ xs) b h =
    let p = both (ltb x s) (all_below s xs) b in
    rw (p.0, below_behind s k xs p.1 h)

pub slots_behind : (s k : ℕ) (xs : List ℕ) → SlotsOk s xs → k < s → among k xs ≡ false → SlotsOk s (xs ++ (k ∷ []))
slots_behind s k xs f h a = record { below = below_behind s k xs f.below h; apart = distinct_snoc xs k f.apart a }

pub one_slot : (s k : ℕ) → k < s → SlotsOk s (k ∷ [])
unfolding all_below distinct among
one_slot s k h = record { below = rw (lt-ltb k s h); apart = refl }
