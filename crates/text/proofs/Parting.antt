-- A line parted into its words: they are what std's `split` gives at each space.
use Rattle.std.proofs.Common.{◌≡◌, ℕ, zero, suc, Bool, true, false, cond, List, [], ◌∷◌, ◌≤◌, eqb, length, get_or, refl, sym, ap, ◌∙◌, arith, Option, Some, None, Bor}
use Rattle.std.specs.List.{slice_get, slice_split, onto_first}
use Rattle.std.specs.Option.{option_map, unwrap_or}
use Rattle.std.proofs.lemmas.List.Splits.{length-slice_split}
use Rattle.text.specs.Words.{in_front, words, word_at}

in_front_is : (t : Bool) (b : ℕ) (ws : List (List ℕ)) → in_front t b ws ≡ cond t ([] ∷ ws) (onto_first b ws)
in_front_is true b ws = refl
in_front_is false b [] = refl
in_front_is false b (w ∷ ws) = refl

pub words_split : (l : List ℕ) → words l ≡ slice_split (λ b. eqb b 32) l
unfolding words
words_split [] = refl
words_split (b ∷ l) =
    in_front_is (eqb b 32) b (words l)
    ∙ ap (λ (ws : List (List ℕ)). cond (eqb b 32) ([] ∷ ws) (onto_first b ws)) (words_split l)

-- there is a first word in every line
pub some_word : (l : List ℕ) → 1 ≤ length (words l)
some_word l = rw (words_split l, length-slice_split (λ (b : ℕ). eqb b 32) l) (omega arith)

-- ---- word i of them, empty where there are not so many

found :
    (ws : List (List ℕ)) (i : ℕ) (r : Option (Bor (List ℕ))) (none : Bor (List ℕ))
    → none.now ≡ []
    → option_map (λ x. x.now) r ≡ slice_get ws i
    → (unwrap_or r none).now ≡ get_or ws i []
found [] i None none h e = h
found [] i (Some x) none h e = cc
found (w ∷ ws) zero None none h e = cc
found (w ∷ ws) zero (Some x) none h e = cc
found (w ∷ ws) (suc i) r none h e = found ws i r none h e

front_short :
    (t : Bool) (b : ℕ) (ws : List (List ℕ)) (n : ℕ)
    → ((j : ℕ) → length (get_or ws j []) ≤ n)
    → (i : ℕ)
    → length (get_or (in_front t b ws) i []) ≤ suc n
front_short true b ws n h zero = omega arith
front_short true b ws n h (suc i) = omega (arith, h i)
front_short false b [] n h zero = omega arith
front_short false b [] n h (suc i) = omega arith
front_short false b (w ∷ ws) n h zero = omega (arith, h 0)
front_short false b (w ∷ ws) n h (suc i) = omega (arith, h (suc i))

word_short : (l : List ℕ) (i : ℕ) → length (word_at l i) ≤ length l
unfolding words
word_short [] zero = omega arith
word_short [] (suc i) = omega arith
word_short (b ∷ l) i = front_short (eqb b 32) b (words l) (length l) (word_short l) i

pub word_found :
    (l : List ℕ) (i : ℕ) (r : Option (Bor (List ℕ))) (none : Bor (List ℕ))
    → none.now ≡ []
    → option_map (λ x. x.now) r ≡ slice_get (slice_split (λ b. eqb b 32) l) i
    → ((unwrap_or r none).now ≡ word_at l i) × (length (unwrap_or r none).now ≤ length l)
word_found l i r none h e =
    let parts = e ∙ ap (λ (ws : List (List ℕ)). slice_get ws i) (sym (words_split l)) in
    let word : (unwrap_or r none).now ≡ word_at l i = found (words l) i r none h parts in
    (word, omega (arith, word_short l i, ap length word))
