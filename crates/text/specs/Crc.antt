-- CRC-32 as zlib and gzip have it: reflected, polynomial 0xEDB88320, from all ones, and all bits turned at the end.
use Rattle.std.specs.Prelude.{ℕ, zero, suc, ◌/◌, ◌%◌, cond, List, [], ◌∷◌, eqb}
use Rattle.std.specs.Int.Bits.{bit_xor}

abbrev pub polynomial : ℕ
polynomial = 0xEDB88320

abbrev pub ones : ℕ
ones = 0xFFFFFFFF

-- one bit goes out at the low end
abbrev pub shifted : ℕ → ℕ
shifted c = bit_xor (cond (eqb (c % 2) 1) polynomial 0) (c / 2)

-- so many bits
unfoldable pub turned : ℕ → ℕ → ℕ
turned zero c = c
turned (suc k) c = turned k (shifted c)

-- a byte goes in, and its eight bits go out
abbrev pub crc_byte : ℕ → ℕ → ℕ
crc_byte c b = turned 8 (bit_xor b c)

unfoldable pub crc_from : ℕ → List ℕ → ℕ
crc_from c [] = c
crc_from c (b ∷ l) = crc_from (crc_byte c b) l

unfoldable pub crc_of : List ℕ → ℕ
crc_of l = bit_xor (crc_from ones l) ones
