-- The end that is listed for an extent is the LSN behind its last record: the walk of each but the last stops where the next one starts.
use Prim.Native.Nat.{ℕ, zero, suc, ◌+◌, ◌<◌}
use mathlib.Core.Path.{◌≡◌, refl, sym}
use mathlib.Core.Bool.{true}
use mathlib.Core.List.{List, [], ◌∷◌}
use native.Mathlib.Nat.{le_of_suc-le-suc}
use native.Mathlib.Numerals.{add-one}
use native.Mathlib.Omega.{arith}
use lib.ListN.{length, get_or, get_or-map}
use Rattle.record.specs.declared.Lsn.{Lsn}
use Rattle.slots.specs.Entries.{lsn_nos}
use Rattle.scan.specs.Scan.{Extent, end_of, joined, tail_of_extents}
use Rattle.scan.specs.Answers.{starts_of}
use Rattle.scan.proofs.Indexed.{extent_at, joined_cons}
use Rattle.loglist_core.specs.Ends.{end_at}

-- the end is read of the starts as they are
pub end_read : (starts : List Lsn) (tail : Lsn) (i : ℕ) → end_at (lsn_nos starts) tail.0 i ≡ (get_or starts (i + 1) tail).0
unfolding end_at
end_read starts tail i = get_or-map (λ (x : Lsn). x.0) starts (i + 1) tail

-- ---- the end is where the walk stops

end_from : (xs : List Extent) → joined xs ≡ true → (i : ℕ) → i < length xs → get_or (starts_of xs) (suc i) (tail_of_extents xs) ≡ end_of (extent_at xs i)
unfolding tail_of_extents
end_from [] t i h = absurd (omega arith)
end_from (x ∷ []) t zero h = refl
end_from (x ∷ []) t (suc i) h = absurd (omega arith)
end_from (x ∷ y ∷ ys) t zero h = sym (joined_cons x y ys t).0.meets
end_from (x ∷ y ∷ ys) t (suc i) h = end_from (y ∷ ys) (joined_cons x y ys t).1 i (le_of_suc-le-suc h)

pub end_is_reached : (xs : List Extent) → joined xs ≡ true → (i : ℕ) → i < length xs → end_at (starts_of xs) (tail_of_extents xs) i ≡ end_of (extent_at xs i)
unfolding end_at
end_is_reached xs t i h = rw (add-one i) (end_from xs t i h)
