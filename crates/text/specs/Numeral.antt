-- Decimal numbers, as they are read and as they are printed.
use Rattle.std.specs.Prelude.{ℕ, zero, suc, ◌+◌, ◌-◌, ◌*◌, ◌/◌, ◌%◌, Bool, true, false, cond, not, ◌&&◌, List, [], ◌∷◌, ◌++◌, ltb, leb, eqb, Option, Some, None}

-- ---- reading

-- `0` to `9`
abbrev pub is_digit : ℕ → Bool
is_digit b = leb 48 b && leb b 57

unfoldable pub digits : List ℕ → Bool
digits [] = true
digits (b ∷ l) = is_digit b && digits l

-- no leading zero: `0` begins a numeral only where it stands alone
unfoldable pub begins : List ℕ → Bool
begins [] = false
begins (b ∷ []) = true
begins (b ∷ d ∷ l) = not (eqb b 48)

-- the number that digits say behind others that say v
unfoldable pub value_from : ℕ → List ℕ → ℕ
value_from v [] = v
value_from v (b ∷ l) = value_from (v * 10 + (b - 48)) l

-- the number that a word says, if it says one at or below a bound
unfoldable pub number_of : ℕ → List ℕ → Option ℕ
number_of bound w = cond (begins w && digits w && leb (value_from 0 w) bound) (Some (value_from 0 w)) None

-- ---- printing

-- the digits of a number of at most so many: those of its tenth, if that is not 0, and its last one
unfoldable pub digits_of : ℕ → ℕ → List ℕ
digits_of zero n = []
digits_of (suc k) n = cond (ltb n 10) [] (digits_of k (n / 10)) ++ ((48 + n % 10) ∷ [])

-- 64 bits take at most 20 digits
abbrev pub decimal_of : ℕ → List ℕ
decimal_of n = digits_of 20 n
