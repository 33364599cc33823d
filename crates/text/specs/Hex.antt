-- Payloads in lower-case hexadecimal, as they are read and as they are printed.
use Rattle.std.specs.Prelude.{ℕ, ◌+◌, ◌-◌, ◌*◌, ◌/◌, ◌%◌, Bool, true, false, cond, ◌&&◌, ◌||◌, List, [], ◌∷◌, ltb, leb, length}
use Rattle.text.specs.Words.{bytes, same}

-- ---- reading

-- `0` to `9`, `a` to `f`
abbrev pub is_hex : ℕ → Bool
is_hex b = (leb 48 b && leb b 57) || (leb 97 b && leb b 102)

-- the number of a digit, 0 for what is none
abbrev pub nibble : ℕ → ℕ
nibble b = cond (is_hex b) (cond (leb b 57) (b - 48) (b - 87)) 0

-- pairs of digits, whole
unfoldable pub pairs : List ℕ → Bool
pairs [] = true
pairs (a ∷ []) = false
pairs (a ∷ b ∷ l) = is_hex a && is_hex b && pairs l

-- a payload in a word: `-` for none, else a pair of digits for each byte
unfoldable pub is_payload : List ℕ → Bool
is_payload w = same w (bytes "-") || (ltb 0 (length w) && pairs w)

-- the bytes of the pairs
unfoldable pub bytes_of : List ℕ → List ℕ
bytes_of [] = []
bytes_of (a ∷ []) = []
bytes_of (a ∷ b ∷ l) = (nibble a * 16 + nibble b) ∷ bytes_of l

-- ---- printing

-- the digit of a number below 16
abbrev pub hex_digit : ℕ → ℕ
hex_digit n = cond (ltb n 10) (48 + n) (87 + n)

unfoldable pub hex_of : List ℕ → List ℕ
hex_of [] = []
hex_of (b ∷ l) = hex_digit (b / 16) ∷ hex_digit (b % 16) ∷ hex_of l
