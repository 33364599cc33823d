-- A line as text: its bytes, and its words.
use Rattle.std.specs.Prelude.{ℕ, Bool, true, false, ◌&&◌, List, [], ◌∷◌, eqb, get_or}
use Prim.Native.Char.{code}
use Prim.Native.String.{String, [] as empty, ◌∷◌ as ◌then◌}

-- the bytes of a text of ASCII characters
abbrev pub bytes : String → List ℕ
bytes empty = []
bytes (◌then◌ c s) = code c ∷ bytes s

-- two runs of bytes are the same
unfoldable pub same : List ℕ → List ℕ → Bool
same [] [] = true
same [] (y ∷ ys) = false
same (x ∷ xs) [] = false
same (x ∷ xs) (y ∷ ys) = eqb x y && same xs ys

-- a byte in front of words: a space (32) is a word's end, any other byte goes on the first word
abbrev pub in_front : Bool → ℕ → List (List ℕ) → List (List ℕ)
in_front true b ws = [] ∷ ws
in_front false b [] = (b ∷ []) ∷ []
in_front false b (w ∷ ws) = (b ∷ w) ∷ ws

-- the words of a line, parted by exactly one space: two spaces in a row have an empty word between them, and an empty line is one empty word
unfoldable pub words : List ℕ → List (List ℕ)
words [] = [] ∷ []
words (b ∷ l) = in_front (eqb b 32) b (words l)

-- word i, empty where there are not so many
abbrev pub word_at : List ℕ → ℕ → List ℕ
word_at l i = get_or (words l) i []
