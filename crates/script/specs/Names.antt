-- Names as text.
use Rattle.std.specs.Prelude.{ℕ, cond, List, []}
use Rattle.std.specs.Str.{is_utf8}

-- a word as a name: what is no text is empty, as no name is
unfoldable pub name_of : List ℕ → List ℕ
name_of w = cond (is_utf8 w) w []
