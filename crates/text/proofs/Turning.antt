-- Bits that go out of a CRC together: the low ones decide, and the others only move down.
use Prim.Native.Nat.{ℕ, zero, suc, ◌+◌, ◌*◌, ◌/◌, ◌%◌, ◌^◌, ◌<◌}
use mathlib.Core.Path.{◌≡◌, refl, sym, ap, ap₂, ◌∙◌}
use mathlib.Core.Bool.{cond}
use mathlib.Core.List.{List, [], ◌∷◌, map}
use native.Mathlib.Nat.{add-zero, zero-add, mul-one, div-add-mod'}
use native.Mathlib.Omega.{arith}
use lib.Arith.{bin_ind, digits_mod}
use lib.Bits.{bit_xor, differ, xor_step, xor_shr, xor_shifted, xor_zero_l, xor_comm, shifted_half, shifted_even}
use lib.Dec.{eqb}
use lib.ListN.{get_or, get_or-map}
use Rattle.std.specs.List.{fold}
use Rattle.text.specs.Crc.{polynomial, ones, shifted, turned, crc_byte, crc_from, crc_of}

-- ---- exclusive or is associative

differ_assoc : (x y z : ℕ) → x < 2 → y < 2 → z < 2 → differ (differ x y) z ≡ differ x (differ y z)
differ_assoc zero y z hx hy hz = refl
differ_assoc (suc zero) zero z hx hy hz = refl
differ_assoc (suc zero) (suc zero) zero hx hy hz = refl
differ_assoc (suc zero) (suc zero) (suc zero) hx hy hz = refl
differ_assoc (suc zero) (suc zero) (suc (suc z)) hx hy hz = absurd (omega arith)
differ_assoc (suc zero) (suc (suc y)) z hx hy hz = absurd (omega arith)
differ_assoc (suc (suc x)) y z hx hy hz = absurd (omega arith)

differ_bit : (x y : ℕ) → x < 2 → y < 2 → differ x y < 2
differ_bit zero y hx hy = hy
differ_bit (suc x) zero hx hy = hx
differ_bit (suc x) (suc y) hx hy = differ_bit x y (omega arith) (omega arith)

module _ (a b : ℕ) where
  halved : bit_xor a b / 2 ≡ bit_xor (a / 2) (b / 2)
  halved = xor_shr a b 1

  low_bit : bit_xor a b % 2 ≡ differ (a % 2) (b % 2)
  low_bit =
      let d : differ (a % 2) (b % 2) < 2 = differ_bit (a % 2) (b % 2) (omega arith) (omega arith) in
      ap (λ (x : ℕ). x % 2) (xor_step a b) ∙ digits_mod (bit_xor (a / 2) (b / 2)) d

pub xor_assoc : (a b c : ℕ) → bit_xor (bit_xor a b) c ≡ bit_xor a (bit_xor b c)
xor_assoc =
    bin_ind (λ (a : ℕ). (b c : ℕ) → bit_xor (bit_xor a b) c ≡ bit_xor a (bit_xor b c))
    (λ b c. ap (λ (x : ℕ). bit_xor x c) (xor_zero_l b) ∙ sym (xor_zero_l (bit_xor b c)))
    (λ a ih b c. go a b c (ih (b / 2) (c / 2)))
  where
    go :
        (a b c : ℕ)
        → bit_xor (bit_xor (a / 2) (b / 2)) (c / 2) ≡ bit_xor (a / 2) (bit_xor (b / 2) (c / 2))
        → bit_xor (bit_xor a b) c ≡ bit_xor a (bit_xor b c)
    go a b c h =
        xor_step (bit_xor a b) c
        ∙ ap₂ (λ (x y : ℕ). bit_xor x (c / 2) * 2 + differ y (c % 2)) (halved a b) (low_bit a b)
        ∙ ap₂ (λ (x y : ℕ). x * 2 + y) h (differ_assoc (a % 2) (b % 2) (c % 2) (omega arith) (omega arith) (omega arith))
        ∙ sym (ap₂ (λ (x y : ℕ). bit_xor (a / 2) x * 2 + differ (a % 2) y) (halved b c) (low_bit b c))
        ∙ sym (xor_step a (bit_xor b c))

-- ---- what stands above the bits that go out moves down unchanged

module _ (x h k : ℕ) where
  same_low : bit_xor x (h * 2 ^ suc k) % 2 ≡ x % 2
  same_low = low_bit x (h * 2 ^ suc k) ∙ ap (differ (x % 2)) (shifted_even h k) ∙ differ_none (x % 2)
    where
      differ_none : (n : ℕ) → differ n 0 ≡ n
      differ_none zero = refl
      differ_none (suc n) = refl

  shifts : shifted (bit_xor x (h * 2 ^ suc k)) ≡ bit_xor (shifted x) (h * 2 ^ k)
  shifts =
      let p : ℕ = cond (eqb (x % 2) 1) polynomial 0 in
      ap₂ (λ (low up : ℕ). bit_xor (cond (eqb low 1) polynomial 0) up) same_low
      (halved x (h * 2 ^ suc k) ∙ ap (bit_xor (x / 2)) (shifted_half h k))
      ∙ sym (xor_assoc p (x / 2) (h * 2 ^ k))

pub turns : (k x h : ℕ) → turned k (bit_xor x (h * 2 ^ k)) ≡ bit_xor (turned k x) h
unfolding turned
turns zero x h = ap (bit_xor x) (mul-one h)
turns (suc k) x h = ap (turned k) (shifts x h k) ∙ turns k (shifted x) h

-- four bits at once
pub half_turn : (c : ℕ) → turned 4 c ≡ bit_xor (turned 4 (c % 16)) (c / 16)
half_turn c =
    ap (turned 4)
    (sym (div-add-mod' c 16) ∙ sym (xor_shifted (c / 16) 4 (c % 16) (omega arith)) ∙ xor_comm (c / 16 * 16) (c % 16))
    ∙ turns 4 (c % 16) (c / 16)

pub whole_turn : (c : ℕ) → turned 8 c ≡ turned 4 (turned 4 c)
unfolding turned
whole_turn c = refl

-- ---- the table of four bits

unfoldable pub counted : ℕ → ℕ → List ℕ
counted k zero = []
counted k (suc n) = k ∷ counted (suc k) n

counted_at : (k n i : ℕ) → i < n → get_or (counted k n) i 0 ≡ k + i
unfolding counted
counted_at k zero i h = absurd (omega arith)
counted_at k (suc n) zero h = sym (add-zero k)
counted_at k (suc n) (suc i) h = counted_at (suc k) n i (omega arith) ∙ omega arith

-- a table that holds what four bits make of each number below 16
abbrev pub half_turns : List ℕ
half_turns = map (turned 4) (counted 0 16)

pub entry_at : (i : ℕ) → i < 16 → get_or half_turns i 0 ≡ turned 4 i
unfolding turned
entry_at i h = get_or-map (turned 4) (counted 0 16) i 0 ∙ ap (turned 4) (counted_at 0 16 i h ∙ zero-add i)

-- ---- all of the bytes

crc_runs : (c : ℕ) (l : List ℕ) → crc_from c l ≡ fold crc_byte c l
unfolding crc_from
crc_runs c [] = refl
crc_runs c (b ∷ l) = crc_runs (crc_byte c b) l

pub crc_fold : (l : List ℕ) → crc_of l ≡ bit_xor (fold crc_byte ones l) ones
unfolding crc_of
crc_fold l = ap (λ (c : ℕ). bit_xor c ones) (crc_runs ones l)
