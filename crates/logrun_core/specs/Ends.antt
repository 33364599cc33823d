-- Bytes and their line ends.
use Rattle.std.specs.Prelude.{ℕ, ◌≡◌, ◌≢◌, ◌+◌, ◌-◌, ◌<◌, ◌≤◌, List, length, get_or}

-- the last byte is a line end
abbrev pub EndsLine : List ℕ → Type 0
EndsLine l = (0 < length l) × (get_or l (length l - 1) 0 ≡ 10)

-- so many bytes stand behind the last line end; all where there is none
abbrev pub IsRest : List ℕ → ℕ → Type 0
IsRest l left =
    (left ≤ length l)
    × ((k : ℕ) → k < length l → length l ≤ k + left → get_or l k 0 ≢ 10)
    × (left < length l → get_or l (length l - left - 1) 0 ≡ 10)
