-- Hexadecimal digits, and payloads read from a place on.
use Prim.Native.Nat.{ℕ, zero, suc, ◌+◌, ◌-◌, ◌*◌, ◌/◌, ◌%◌, ◌≤◌, ◌<◌}
use mathlib.Core.Path.{◌≡◌, refl, sym, ap, ◌∙◌}
use mathlib.Core.Bool.{Bool, true, false, ◌&&◌, and-false}
use mathlib.Core.List.{List, [], ◌∷◌, ◌++◌, map}
use native.Mathlib.Nat.{zero-add}
use native.Mathlib.Numerals.{add-one}
use native.Mathlib.Omega.{arith}
use borrow.Author.Tests.{eq-eqb, ne_eqb, le-leb, lt-leb}
use lib.Dec.{eqb, leb}
use lib.ListN.{length, get_or, take, set, get_or-map}
use lib.Seq.{sets, length-take-le}
use Rattle.numbers.proofs.Lists.{sets_append, sets_turn, sets_done}
use Rattle.std.specs.List.{list_all}
use Rattle.std.specs.Simd.{first_chunks}
use Rattle.text.specs.Words.{same}
use Rattle.text.specs.Hex.{is_hex, nibble, pairs, is_payload, bytes_of, hex_digit, hex_of}

-- ---- a digit

module _ (b : ℕ) where
  pub hex_figure : 48 ≤ b → b ≤ 57 → is_hex b ≡ true
  hex_figure low high = rw (le-leb 48 b low, le-leb b 57 high)

  pub hex_letter : 97 ≤ b → is_hex b ≡ leb b 102
  hex_letter h = rw (lt-leb b 57 (omega arith), le-leb 97 b h, and-false (leb 48 b))

  -- its number
  pub nibble_figure : is_hex b ≡ true → b ≤ 57 → nibble b ≡ b - 48
  nibble_figure e h = rw (e, le-leb b 57 h)

  pub nibble_letter : is_hex b ≡ true → 57 < b → nibble b ≡ b - 87
  nibble_letter e h = rw (e, lt-leb b 57 h)

-- ---- pairs of digits

mixed : (a b e l : Bool) → ((a && b) && (e && l)) ≡ (e && (a && (b && l)))
mixed true true e l = refl
mixed true false e l = sym (and-false e)
mixed false b e l = sym (and-false e)

pairs_are : (l : List ℕ) → pairs l ≡ (eqb (length l % 2) 0 && list_all is_hex l)
unfolding pairs
pairs_are [] = refl
pairs_are (a ∷ []) = refl
pairs_are (a ∷ b ∷ l) =
    let e : length (a ∷ b ∷ l) % 2 ≡ length l % 2 = omega arith in
    rw (e, pairs_are l) (mixed (is_hex a) (is_hex b) (eqb (length l % 2) 0) (list_all is_hex l))

pub pairs_even : (l : List ℕ) → length l % 2 ≡ 0 → pairs l ≡ list_all is_hex l
pairs_even l e = pairs_are l ∙ rw (eq-eqb (length l % 2) 0 e)

pub pairs_odd : (l : List ℕ) → (length l % 2 ≡ 0 → ⊥) → pairs l ≡ false
pairs_odd l h = pairs_are l ∙ rw (ne_eqb (length l % 2) 0 h)

-- ---- their bytes

pub bytes_length : (l : List ℕ) → length (bytes_of l) ≡ length l / 2
unfolding bytes_of
bytes_length [] = refl
bytes_length (a ∷ []) = refl
bytes_length (a ∷ b ∷ l) = omega (arith, bytes_length l)

-- the byte of a pair
abbrev byte : List ℕ → ℕ
byte p = nibble (get_or p 0 0) * 16 + nibble (get_or p 1 0)

bytes_are : (l : List ℕ) → bytes_of l ≡ map byte (first_chunks 2 (length l / 2) l)
unfolding bytes_of
bytes_are [] = refl
bytes_are (a ∷ []) = refl
bytes_are (a ∷ b ∷ l) =
    let e : length (a ∷ b ∷ l) / 2 ≡ suc (length l / 2) = omega arith in
    rw e (ap (λ (r : List ℕ). (nibble a * 16 + nibble b) ∷ r) (bytes_are l))

-- in a buffer, one byte more, and all of them
module _ (l out mid : List ℕ) (i : ℕ) (e : mid ≡ sets out 0 (take i (bytes_of l))) where
  pub byte_put :
      (ps : List (List ℕ)) (x y : ℕ)
      → ps ≡ first_chunks 2 (length l / 2) l
      → i < length l / 2
      → x ≡ nibble (get_or (get_or ps i []) 0 0)
      → y ≡ nibble (get_or (get_or ps i []) 1 0)
      → set mid i (x * 16 + y) ≡ sets out 0 (take (i + 1) (bytes_of l))
  byte_put ps x y f h p q =
      let at : get_or (bytes_of l) i 0 ≡ byte (get_or ps i []) =
      rw (bytes_are l, ← f) (get_or-map byte ps i []) in
      let turn = sets_turn out (bytes_of l) mid 0 i e (omega (arith, bytes_length l)) in
      rw (p, q) (rw (zero-add i, at) at turn)

  pub bytes_put : length l / 2 ≤ i → mid ≡ sets out 0 (bytes_of l)
  bytes_put h = sets_done out (bytes_of l) mid 0 i e (omega (arith, bytes_length l))

-- ---- a payload

pub payload_empty : (w : List ℕ) → length w ≡ 0 → is_payload w ≡ false
unfolding is_payload same
payload_empty [] h = refl
payload_empty (b ∷ w) h = absurd (omega arith)

pub payload_none : (w : List ℕ) → length w ≡ 1 → get_or w 0 0 ≡ 45 → is_payload w ≡ true
unfolding is_payload same
payload_none [] h e = absurd (omega arith)
payload_none (b ∷ []) h e = rw (eq-eqb b 45 e)
payload_none (b ∷ d ∷ w) h e = absurd (omega arith)

pub payload_pairs : (w : List ℕ) → (length w ≡ 0 → ⊥) → (length w ≡ 1 → get_or w 0 0 ≡ 45 → ⊥) → is_payload w ≡ pairs w
unfolding is_payload same
payload_pairs [] h k = absurd (h refl)
payload_pairs (b ∷ []) h k = rw (ne_eqb b 45 (k refl))
payload_pairs (b ∷ d ∷ w) h k = rw (and-false (eqb b 45), le-leb 1 (length (b ∷ d ∷ w)) (omega arith))

pub ruleset payloads = (payload_empty, payload_none, payload_pairs)

-- ---- printed

pub hex_length : (l : List ℕ) → length (hex_of l) ≡ 2 * length l
unfolding hex_of
hex_length [] = refl
hex_length (b ∷ l) = omega (arith, hex_length l)

abbrev pub two_digits : ℕ → List ℕ
two_digits b = hex_digit (b / 16) ∷ hex_digit (b % 16) ∷ []

hex_more : (l : List ℕ) (i : ℕ) → i < length l → hex_of (take (suc i) l) ≡ hex_of (take i l) ++ two_digits (get_or l i 0)
unfolding hex_of
hex_more [] i h = absurd (omega arith)
hex_more (b ∷ l) zero h = refl
hex_more (b ∷ l) (suc i) h = ap (λ (r : List ℕ). hex_digit (b / 16) ∷ hex_digit (b % 16) ∷ r) (hex_more l i (omega arith))

-- one byte more
module _ (l out mid : List ℕ) (at i : ℕ) where
  pub hex_put :
      i < length l
      → mid ≡ sets out at (hex_of (take i l))
      → set (set mid (at + 2 * i) (hex_digit (get_or l i 0 / 16))) (at + 2 * i + 1) (hex_digit (get_or l i 0 % 16))
      ≡ sets out at (hex_of (take (i + 1) l))
  hex_put h e =
      let long : length (hex_of (take i l)) ≡ 2 * i = hex_length (take i l) ∙ ap (λ (k : ℕ). 2 * k) (length-take-le i l (omega arith)) in
      rw (add-one (at + 2 * i), add-one i, hex_more l i h, sets_append (hex_of (take i l)) (two_digits (get_or l i 0)) out at, long, e)

pub hex_none : (out : List ℕ) (at : ℕ) → out ≡ sets out at (hex_of [])
unfolding hex_of
hex_none out at = refl

pub ruleset spelling = (hex_put, hex_none)
