-- Samples of the definitions, computed: numbers and bytes as they are printed, CRCs as others compute them.
use mathlib.Core.Path.{◌≡◌, refl}
use mathlib.Core.List.{[], ◌∷◌, map}
use lib.ListN.{replicate}
use Rattle.text.specs.Words.{bytes}
use Rattle.text.specs.Numeral.{digits_of, decimal_of}
use Rattle.text.specs.Hex.{hex_of}
use Rattle.text.specs.Crc.{turned, crc_from, crc_of}

-- ---- printed

printed : map decimal_of (0 ∷ 10 ∷ 4294967295 ∷ 18446744073709551615 ∷ []) ≡ map bytes ("0" ∷ "10" ∷ "4294967295" ∷ "18446744073709551615" ∷ [])
unfolding digits_of
printed = refl

hex_printed : hex_of (0 ∷ 65 ∷ 165 ∷ 255 ∷ []) ≡ bytes "0041a5ff"
unfolding hex_of
hex_printed = refl

-- ---- CRCs

crc_of_digits : crc_of (bytes "123456789") ≡ 0xcbf43926
unfolding turned crc_from crc_of
crc_of_digits = refl

crc_of_none : crc_of [] ≡ 0
unfolding turned crc_from crc_of
crc_of_none = refl

crc_of_zeros : crc_of (replicate 212 0) ≡ 0xf6f3e2c3
unfolding turned crc_from crc_of
crc_of_zeros = refl
