-- In a rising list those above h stand behind its front: what a step leaves out at the front is all that it leaves out.
use Prim.Native.Nat.{ℕ, ◌≤◌, ◌<◌}
use mathlib.Core.Path.{◌≡◌, refl}
use mathlib.Core.Bool.{Bool, true, false}
use mathlib.Core.List.{List, [], ◌∷◌}
use native.Mathlib.Omega.{arith}
use borrow.Author.Tests.{le-ltb, lt-ltb, leb-true, leb-false}
use lib.Dec.{leb, ltb}
use lib.ListN.{length, drop}
use Rattle.refusals.specs.Order.{when}
use Rattle.slots.specs.Entries.{rising, leading, one_more}
use Rattle.slots.proofs.Order.{rising_cons}
use Rattle.contracts.specs.Promises.{above}

above_all : (h a : ℕ) (xs ys : List ℕ) → h ≤ a → rising a ys ≡ true → length xs ≡ length ys → above h xs ys ≡ xs
unfolding above
above_all h a [] ys low r n = refl
above_all h a (x ∷ xs) [] low r n = absurd (omega arith)
above_all h a (x ∷ xs) (y ∷ ys) low r n =
    let q = rising_cons a y ys r in
    rw (lt-ltb h y (omega (arith, q.0)), above_all h y xs ys (omega (arith, q.0)) q.1 (omega arith))

pub above_drop : (h a : ℕ) (xs ys : List ℕ) → rising a ys ≡ true → length xs ≡ length ys → above h xs ys ≡ drop (leading h ys) xs
unfolding above leading
above_drop h a [] [] r n = refl
above_drop h a [] (y ∷ ys) r n = absurd (omega arith)
above_drop h a (x ∷ xs) [] r n = absurd (omega arith)
above_drop h a (x ∷ xs) (y ∷ ys) r n = by (leb y h) refl (above_drop h y xs ys q (omega arith))
  where
    q : rising y ys ≡ true
    q = (rising_cons a y ys r).1

    by :
        (t : Bool)
        → leb y h ≡ t
        → above h xs ys ≡ drop (leading h ys) xs
        → when (ltb h y) (x ∷ above h xs ys) (above h xs ys) ≡ drop (one_more t (leading h ys)) (x ∷ xs)
    by true e ih = rw (le-ltb h y (leb-true y h e)) ih
    by false e ih = let low : h < y = leb-false y h e in rw (lt-ltb h y low, above_all h y xs ys (omega arith) q (omega arith))
