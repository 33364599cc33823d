-- Numerals read from a place on.
use Prim.Native.Nat.{ℕ, ◌+◌, ◌-◌, ◌*◌, ◌≤◌, ◌<◌}
use mathlib.Core.Path.{◌≡◌, refl}
use mathlib.Core.Bool.{Bool, true, false, cond, not, ◌&&◌, and-false}
use mathlib.Core.List.{List, [], ◌∷◌}
use native.Mathlib.Numerals.{add-one}
use native.Mathlib.Omega.{arith}
use borrow.Author.Tests.{le-leb, lt-leb, leb-true}
use lib.Dec.{leb, eqb}
use lib.ListN.{length, get_or, drop, drop_of_length-le}
use lib.Seq.{drop-cons}
use Rattle.std.proofs.lemmas.Bool.{and_parts}
use Rattle.std.specs.Prelude.{Option, Some, None}
use Rattle.text.specs.Numeral.{is_digit, digits, begins, value_from, number_of}

-- ---- what a word says by its three rules

module _ (bound : ℕ) (w : List ℕ) where
  pub says : begins w ≡ true → digits w ≡ true → value_from 0 w ≤ bound → number_of bound w ≡ Some (value_from 0 w)
  unfolding number_of
  says b d h = rw (b, d, le-leb (value_from 0 w) bound h)

-- ---- the beginning

pub begins_none : (w : List ℕ) → length w ≡ 0 → begins w ≡ false
unfolding begins
begins_none [] e = refl
begins_none (b ∷ l) e = absurd (omega arith)

pub begins_one : (w : List ℕ) → length w ≡ 1 → begins w ≡ true
unfolding begins
begins_one [] e = absurd (omega arith)
begins_one (b ∷ []) e = refl
begins_one (b ∷ d ∷ l) e = absurd (omega arith)

pub begins_more : (w : List ℕ) → (length w ≡ 0 → ⊥) → (length w ≡ 1 → ⊥) → begins w ≡ not (eqb (get_or w 0 0) 48)
unfolding begins
begins_more [] h₀ h₁ = absurd (h₀ refl)
begins_more (b ∷ []) h₀ h₁ = absurd (h₁ refl)
begins_more (b ∷ d ∷ l) h₀ h₁ = refl

pub ruleset beginnings = (begins_none, begins_one, begins_more)

-- ---- digit by digit

-- no digit makes a number smaller
pub grows : (v : ℕ) (l : List ℕ) → v ≤ value_from v l
unfolding value_from
grows v [] = omega arith
grows v (b ∷ l) = omega (arith, grows (v * 10 + (b - 48)) l)

-- what digits say behind others that say v, at or below the bound
unfoldable pub reads : ℕ → ℕ → List ℕ → Option ℕ
reads bound v l = cond (digits l && leb (value_from v l) bound) (Some (value_from v l)) None

module _ (bound v : ℕ) (l : List ℕ) (i : ℕ) where
  here : i < length l → drop i l ≡ get_or l i 0 ∷ drop (i + 1) l
  here h = rw (add-one i) (drop-cons l i 0 h)

  pub reads_on :
      i < length l
      → is_digit (get_or l i 0) ≡ true
      → reads bound v (drop i l) ≡ reads bound (v * 10 + (get_or l i 0 - 48)) (drop (i + 1) l)
  unfolding reads digits value_from
  reads_on h d = rw (here h, d)

  pub reads_stop : i < length l → is_digit (get_or l i 0) ≡ false → reads bound v (drop i l) ≡ None
  unfolding reads digits value_from
  reads_stop h d = rw (here h, d)

  pub reads_above : i < length l → bound < v * 10 + (get_or l i 0 - 48) → reads bound v (drop i l) ≡ None
  unfolding reads digits value_from
  reads_above h k =
      let w = v * 10 + (get_or l i 0 - 48) in
      let rest = drop (i + 1) l in
      rw (here h, lt-leb (value_from w rest) bound (omega (arith, grows w rest)), and-false (is_digit (get_or l i 0) && digits rest))

  pub reads_end : length l ≤ i → v ≤ bound → reads bound v (drop i l) ≡ Some v
  unfolding reads digits value_from
  reads_end h k = rw (drop_of_length-le l h, le-leb v bound k)

module _ (bound : ℕ) (w : List ℕ) where
  pub number_begins : begins w ≡ true → number_of bound w ≡ reads bound 0 w
  unfolding number_of reads
  number_begins b = rw b

  pub number_none : begins w ≡ false → number_of bound w ≡ None
  unfolding number_of
  number_none b = rw b

pub ruleset reading = (number_begins, number_none, reads_on, reads_stop, reads_above, reads_end)

-- ---- a number that is read is at or below its bound

told : (t : Bool) (n v : ℕ) → cond t (Some n) None ≡ Some v → (t ≡ true) × (n ≡ v)
told true n v e = (refl, cc)
told false n v e = let z : ◌≡◌ {A = ℕ} 0 1 = cc in absurd (omega arith)

pub bounded : (bound : ℕ) (w : List ℕ) (v : ℕ) → number_of bound w ≡ Some v → v ≤ bound
unfolding number_of
bounded bound w v e =
    let t = told (begins w && digits w && leb (value_from 0 w) bound) (value_from 0 w) v e in
    omega (arith, t.1, leb-true (value_from 0 w) bound (and_parts (begins w && digits w) (leb (value_from 0 w) bound) t.0).1)
