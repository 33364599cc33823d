-- A number's digits, the last one behind those of its tenth.
use Prim.Native.Nat.{ℕ, zero, suc, ◌+◌, ◌/◌, ◌%◌, ◌^◌, ◌≤◌, ◌<◌}
use mathlib.Core.Path.{◌≡◌, refl, sym, ap, ◌∙◌}
use mathlib.Core.Bool.{Bool, true, false, cond}
use mathlib.Core.List.{List, [], ◌∷◌, ◌++◌}
use native.Mathlib.Nat.{pow-suc}
use native.Mathlib.Omega.{arith}
use borrow.Author.Tests.{lt-ltb, le-ltb, ltb-true, ltb-false}
use lib.Dec.{ltb}
use lib.ListN.{length, set, length-append}
use lib.Seq.{sets}
use Rattle.numbers.proofs.Lists.{sets_append}
use Rattle.text.specs.Numeral.{digits_of, decimal_of}

abbrev pub last_digit : ℕ → List ℕ
last_digit n = (48 + n % 10) ∷ []

pub few : (k n : ℕ) → n < 10 → digits_of (suc k) n ≡ last_digit n
unfolding digits_of
few k n h = rw (lt-ltb n 10 h)

pub more : (k n : ℕ) → 10 ≤ n → digits_of (suc k) n ≡ digits_of k (n / 10) ++ last_digit n
unfolding digits_of
more k n h = rw (le-ltb n 10 h)

-- more room than a number needs changes nothing
room_more : (k n : ℕ) → digits_of (suc k) (n / 10) ≡ digits_of (suc (suc k)) (n / 10) → (t : Bool) → ltb n 10 ≡ t
    → digits_of (suc (suc k)) n ≡ digits_of (suc (suc (suc k))) n
room_more k n q true e = few (suc k) n (ltb-true n 10 e) ∙ sym (few (suc (suc k)) n (ltb-true n 10 e))
room_more k n q false e =
    more (suc k) n (ltb-false n 10 e)
    ∙ ap (λ (l : List ℕ). l ++ last_digit n) q
    ∙ sym (more (suc (suc k)) n (ltb-false n 10 e))

enough : (k n : ℕ) → n < 10 ^ suc k → digits_of (suc k) n ≡ digits_of (suc (suc k)) n
enough zero n h = few 0 n h ∙ sym (few 1 n h)
enough (suc k) n h =
    let q : n / 10 < 10 ^ suc k = omega (arith, pow-suc 10 (suc k)) in
    room_more k n (enough k (n / 10) q) (ltb n 10) refl

module _ (n : ℕ) where
  pub decimal_few : n < 10 → decimal_of n ≡ last_digit n
  decimal_few h = few 19 n h

  pub decimal_more : 10 ≤ n → n < 2 ^ 64 → decimal_of n ≡ decimal_of (n / 10) ++ last_digit n
  decimal_more h fits =
      more 19 n h ∙ ap (λ (l : List ℕ). l ++ last_digit n) (enough 18 (n / 10) (omega arith))

-- no more digits than there is room for
either_short : (t : Bool) (k : ℕ) (l : List ℕ) → length l ≤ k → length (cond t [] l) ≤ k
either_short true k l h = omega arith
either_short false k l h = h

short : (k n : ℕ) → length (digits_of k n) ≤ k
unfolding digits_of
short zero n = omega arith
short (suc k) n =
    rw (length-append (cond (ltb n 10) [] (digits_of k (n / 10))) (last_digit n))
    (omega (arith, either_short (ltb n 10) k (digits_of k (n / 10)) (short k (n / 10))))

pub decimal_short : (n : ℕ) → length (decimal_of n) ≤ 20
decimal_short n = short 20 n

-- ---- in a buffer

module _ (n : ℕ) where
  pub few_length : n < 10 → length (decimal_of n) ≡ 1
  few_length h = rw (decimal_few n h)

  pub more_length : 10 ≤ n → n < 2 ^ 64 → length (decimal_of n) ≡ length (decimal_of (n / 10)) + 1
  more_length h fits = rw (decimal_more n h fits) (length-append (decimal_of (n / 10)) (last_digit n))

module _ (out : List ℕ) (at n : ℕ) where
  pub put_few : n < 10 → set out at (48 + n % 10) ≡ sets out at (decimal_of n)
  put_few h = rw (decimal_few n h)

  pub put_more :
      (mid : List ℕ) (end : ℕ)
      → 10 ≤ n
      → n < 2 ^ 64
      → end ≡ at + length (decimal_of (n / 10))
      → mid ≡ sets out at (decimal_of (n / 10))
      → set mid end (48 + n % 10) ≡ sets out at (decimal_of n)
  put_more mid end h fits q e = rw (decimal_more n h fits, sets_append (decimal_of (n / 10)) (last_digit n) out at, e, q)

pub ruleset printing = (few_length, more_length, put_few, put_more, decimal_short)
