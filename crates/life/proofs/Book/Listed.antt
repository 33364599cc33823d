-- How many extents a book lists: as many slots as starts, and at most S, since the slots are distinct and below S. So they fit the 64
-- entries of a state, and the write extent's slot lies in the image.
use Prim.Native.Nat.{ℕ, ◌+◌, ◌≤◌, ◌<◌}
use mathlib.Core.Path.{◌≡◌, ap, ◌∙◌}
use mathlib.Core.List.{List, [], ◌∷◌, ◌++◌, map}
use native.Mathlib.Omega.{arith}
use lib.ListN.{length, length-append, length-map}
use lib.Seq.{get_or-append_seam}
use Rattle.metadata.proofs.Below.{below_at}
use Rattle.metadata.proofs.Facts.{sizes_say}
use Rattle.slots.proofs.Pigeon.{distinct_length}
use Rattle.scan.specs.Scan.{Extent}
use Rattle.life.proofs.Book.{Book, slot_list, start_list, book_slots, SoundBook}

module _ (os : List Extent) where
  pub slots_count : (k : ℕ) → length (slot_list os k) ≡ length os + 1
  slots_count k = length-append (map (λ x. x.slot) os) (k ∷ []) ∙ ap (λ (n : ℕ). n + 1) (length-map os (λ x. x.slot))

  pub starts_count : (a : ℕ) → length (start_list os a) ≡ length os + 1
  starts_count a = length-append (map (λ x. x.start) os) (a ∷ []) ∙ ap (λ (n : ℕ). n + 1) (length-map os (λ x. x.start))

-- distinct slots below S are at most S
pub listed_few : {b : Book} → SoundBook b → length (book_slots b) ≤ b.s
listed_few {b} f = distinct_length b.s (book_slots b) f.slots.apart f.slots.below

pub listed_fit : {b : Book} → SoundBook b → length (book_slots b) ≤ 64
listed_fit {b} f = omega (arith, listed_few f, (sizes_say b.e b.s f.size).s_high)

-- the write extent's slot is below S
pub write_below : {b : Book} → SoundBook b → b.write.slot < b.s
write_below {b} f =
    let ks : List ℕ = map (λ x. x.slot) b.olds in
    let i : length ks < length (ks ++ (b.write.slot ∷ [])) = rw length-append (omega arith) in
    rw (get_or-append_seam ks b.write.slot [] 0) at (below_at b.s (book_slots b) f.slots.below (length ks) i)
