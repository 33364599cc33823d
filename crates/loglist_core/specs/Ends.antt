-- Where a listed extent ends (document 01, sample 12).
use Rattle.std.specs.Prelude.{ℕ, ◌+◌, List, get_or}

-- the next start, of the last the tail
unfoldable pub end_at : List ℕ → ℕ → ℕ → ℕ
end_at starts tail i = get_or starts (i + 1) tail
