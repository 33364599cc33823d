-- What a line of so many words says.
use Rattle.std.proofs.Common.{◌≡◌, ◌≤◌, ℕ, zero, suc, None, List, [], ◌∷◌, length, get_or, refl, sym, ap, ◌∙◌, arith}
use Rattle.text.specs.Words.{words, word_at}
use Rattle.text.proofs.Nibbles.{bytes_length}
use Rattle.text.proofs.Parting.{some_word}
use Rattle.script.specs.Names.{name_of}
use Rattle.script.specs.Grammar.{command_of, line_command}
use Rattle.script.proofs.Names.{command_name}

abbrev listed : (ℕ → List ℕ) → ℕ → List (List ℕ)
listed f zero = []
listed f (suc n) = f 0 ∷ listed (λ i. f (suc i)) n

all_listed : (ws : List (List ℕ)) (n : ℕ) → length ws ≡ n → ws ≡ listed (λ i. get_or ws i []) n
all_listed [] zero e = refl
all_listed [] (suc n) e = absurd (omega arith)
all_listed (w ∷ ws) zero e = absurd (omega arith)
all_listed (w ∷ ws) (suc n) e = ap (λ (r : List (List ℕ)). w ∷ r) (all_listed ws n (omega arith))

module _ (l : List ℕ) where
  line_of :
      (n : ℕ)
      → length (words l) ≡ suc n
      → line_command l ≡ command_of (name_of (word_at l 0) ∷ listed (λ i. word_at l (suc i)) n)
  unfolding line_command
  line_of n e =
      ap command_of (all_listed (words l) (suc n) e)
      ∙ sym (command_name (word_at l 0) (listed (λ i. word_at l (suc i)) n))

  pub line_one : length (words l) ≡ 1 → line_command l ≡ command_of (name_of (word_at l 0) ∷ [])
  line_one e = line_of 0 e

  pub line_two : length (words l) ≡ 2 → line_command l ≡ command_of (name_of (word_at l 0) ∷ word_at l 1 ∷ [])
  line_two e = line_of 1 e

  pub line_three : length (words l) ≡ 3 → line_command l ≡ command_of (name_of (word_at l 0) ∷ word_at l 1 ∷ word_at l 2 ∷ [])
  line_three e = line_of 2 e

  pub line_four :
      length (words l) ≡ 4
      → line_command l ≡ command_of (name_of (word_at l 0) ∷ word_at l 1 ∷ word_at l 2 ∷ word_at l 3 ∷ [])
  line_four e = line_of 3 e

many_none : (ws : List (List ℕ)) → 5 ≤ length ws → command_of ws ≡ None
unfolding command_of
many_none [] h = absurd (omega arith)
many_none (w ∷ []) h = absurd (omega arith)
many_none (w ∷ a ∷ []) h = absurd (omega arith)
many_none (w ∷ a ∷ b ∷ []) h = absurd (omega arith)
many_none (w ∷ a ∷ b ∷ c ∷ []) h = absurd (omega arith)
many_none (w ∷ a ∷ b ∷ c ∷ d ∷ ws) h = refl

pub line_many : (l : List ℕ) → 5 ≤ length (words l) → line_command l ≡ None
unfolding line_command
line_many l h = many_none (words l) h

pub ruleset lines = (line_one, line_two, line_three, line_four, line_many, some_word)

pub ruleset payloads = (some_word, bytes_length)
