-- What is printed reads back: a number from its digits, bytes from their hexadecimal digits.
use Prim.Native.Nat.{ℕ, zero, suc, ◌+◌, ◌-◌, ◌*◌, ◌/◌, ◌%◌, ◌^◌, ◌≤◌, ◌<◌}
use mathlib.Core.Path.{◌≡◌, refl, sym, ap, ◌∙◌}
use mathlib.Core.Bool.{Bool, true, false}
use mathlib.Core.List.{List, [], ◌∷◌, ◌++◌}
use native.Mathlib.Nat.{pow-suc}
use native.Mathlib.Omega.{arith}
use borrow.Author.Tests.{le-leb, ltb-true, ltb-false, ne_eqb}
use lib.Dec.{ltb}
use lib.ListN.{length, get_or, length-append, get_or-append}
use Rattle.numbers.specs.Numbers.{Bytes}
use Rattle.std.proofs.lemmas.Bool.{and_parts}
use Rattle.std.specs.Prelude.{Some}
use Rattle.text.specs.Numeral.{is_digit, digits, begins, value_from, number_of, digits_of, decimal_of}
use Rattle.text.specs.Hex.{is_hex, nibble, pairs, bytes_of, hex_digit, hex_of}
use Rattle.text.proofs.Numerals.{says}
use Rattle.text.proofs.Printing.{last_digit, few, more}
use Rattle.text.proofs.Nibbles.{hex_figure, hex_letter, nibble_figure, nibble_letter}

-- ---- decimal: one digit behind others

value_behind : (l : List ℕ) (v b : ℕ) → value_from v (l ++ (b ∷ [])) ≡ value_from v l * 10 + (b - 48)
unfolding value_from
value_behind [] v b = refl
value_behind (a ∷ l) v b = value_behind l (v * 10 + (a - 48)) b

digits_behind : (l : List ℕ) (b : ℕ) → digits l ≡ true → is_digit b ≡ true → digits (l ++ (b ∷ [])) ≡ true
unfolding digits
digits_behind [] b h t = rw t
digits_behind (a ∷ l) b h t =
    let q = and_parts (is_digit a) (digits l) h in
    rw (q.0, digits_behind l b q.1 t)

-- what a number's digits are: digits, which say it, and the first of them is a zero only where the number is
record Spelled (n : ℕ) (l : List ℕ) : Type 0 where
  all : digits l ≡ true
  value : value_from 0 l ≡ n
  some : 1 ≤ length l
  lead : 1 ≤ n → get_or l 0 0 ≡ 48 → ⊥
  start : begins l ≡ true

begins_behind : (l : List ℕ) (b : ℕ) → 1 ≤ length l → (get_or l 0 0 ≡ 48 → ⊥) → begins (l ++ (b ∷ [])) ≡ true
unfolding begins
begins_behind [] b h z = absurd (omega arith)
begins_behind (a ∷ []) b h z = rw (ne_eqb a 48 z)
begins_behind (a ∷ d ∷ l) b h z = rw (ne_eqb a 48 z)

figure : (n : ℕ) → is_digit (48 + n % 10) ≡ true
figure n = rw (le-leb 48 (48 + n % 10) (omega arith), le-leb (48 + n % 10) 57 (omega arith))

spelled_few : (n : ℕ) → n < 10 → Spelled n (last_digit n)
unfolding digits begins value_from
spelled_few n h = record { all = rw (figure n); value = omega arith; some = omega arith; lead = λ k e. omega arith; start = refl }

spelled_more : (n : ℕ) (l : List ℕ) → 10 ≤ n → Spelled (n / 10) l → Spelled n (l ++ last_digit n)
spelled_more n l h f =
    record {
      all = digits_behind l (48 + n % 10) f.all (figure n);
      value = value_behind l 0 (48 + n % 10) ∙ omega (arith, f.value);
      some = rw (length-append l (last_digit n)) (omega arith);
      lead = λ k e. f.lead (omega arith) (sym (get_or-append l (last_digit n) 0 0 f.some) ∙ e);
      start = begins_behind l (48 + n % 10) f.some (f.lead (omega arith));
    }

spelled_either : (k n : ℕ) → Spelled (n / 10) (digits_of k (n / 10)) → (t : Bool) → ltb n 10 ≡ t → Spelled n (digits_of (suc k) n)
spelled_either k n f true e = let h = ltb-true n 10 e in rw (few k n h) (spelled_few n h)
spelled_either k n f false e = let h = ltb-false n 10 e in rw (more k n h) (spelled_more n (digits_of k (n / 10)) h f)

spelled : (k n : ℕ) → n < 10 ^ suc k → Spelled n (digits_of (suc k) n)
spelled zero n h = rw (few 0 n h) (spelled_few n h)
spelled (suc k) n h =
    let q : n / 10 < 10 ^ suc k = omega (arith, pow-suc 10 (suc k)) in
    spelled_either (suc k) n (spelled k (n / 10) q) (ltb n 10) refl

-- ---- the number comes back

pub number_reads_back : (bound n : ℕ) → n ≤ bound → n < 2 ^ 64 → number_of bound (decimal_of n) ≡ Some n
number_reads_back bound n h fits =
    let f = spelled 19 n (omega arith) in
    says bound (decimal_of n) f.start f.all (rw f.value h) ∙ ap Some f.value

-- ---- hexadecimal

nibble_back : (d : ℕ) → d < 16 → (t : Bool) → ltb d 10 ≡ t → (is_hex (hex_digit d) ≡ true) × (nibble (hex_digit d) ≡ d)
nibble_back d h true e =
    let low = ltb-true d 10 e in
    let t = hex_figure (48 + d) (omega arith) (omega arith) in
    rw e (t, nibble_figure (48 + d) t (omega arith) ∙ omega arith)
nibble_back d h false e =
    let high = ltb-false d 10 e in
    let t = hex_letter (87 + d) (omega arith) ∙ le-leb (87 + d) 102 (omega arith) in
    rw e (t, nibble_letter (87 + d) t (omega arith) ∙ omega arith)

pub bytes_read_back : (l : List ℕ) → Bytes l → (pairs (hex_of l) ≡ true) × (bytes_of (hex_of l) ≡ l)
unfolding pairs bytes_of hex_of
bytes_read_back [] h = (refl, refl)
bytes_read_back (b ∷ l) h =
    let rest = bytes_read_back l (λ i. h (suc i)) in
    let up = nibble_back (b / 16) (omega (arith, h 0)) (ltb (b / 16) 10) refl in
    let low = nibble_back (b % 16) (omega arith) (ltb (b % 16) 10) refl in
    let back : b / 16 * 16 + b % 16 ≡ b = omega arith in
    (rw (up.0, low.0, rest.0), rw (up.1, low.1, rest.1, back))
