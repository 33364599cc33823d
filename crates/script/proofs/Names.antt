-- Names: a word that is one of them, or none.
use Rattle.std.proofs.Common.{◌≡◌, ℕ, zero, suc, Bool, true, false, List, [], ◌∷◌, map, None, ltb, refl, sym, ap, ◌∙◌, ◌&&◌, arith, rules}
use borrow.Author.Tests.{ltb-true}
use Rattle.std.specs.Bool.{Decides}
use Rattle.std.specs.List.{list_all}
use Rattle.std.specs.Str.{IsAscii, IsUtf8, is_utf8}
use Rattle.std.proofs.lemmas.Bool.{and_parts, false≢true}
use Rattle.std.proofs.lemmas.Slice.Eq.{compares_Decides}
use Rattle.std.proofs.lemmas.Str.{IsUtf8-from_ascii, IsUtf8-from_is_utf8, is_utf8-from_IsUtf8}
use Rattle.text.specs.Words.{bytes, same}
use Rattle.script.specs.Names.{name_of}
use Rattle.script.specs.Grammar.{Named, lookup, plain_calls, plain_call, payload_calls, number_calls, argument_call, field_with, fields, set_command, pair_with, pairs, pair_command, command_of}

decides : (n w : List ℕ) → Decides (same n w) (n ≡ w)
unfolding same
decides n w = compares_Decides same (search rules) n w

pub same_is : (n w : List ℕ) → w ≡ n → same n w ≡ true
same_is n w e = (decides n w).1 (sym e)

pub same_not : (n w : List ℕ) → (w ≡ n → ⊥) → same n w ≡ false
same_not n w h = either (same n w) refl
  where
    either : (t : Bool) → same n w ≡ t → same n w ≡ false
    either true e = absurd (h (sym ((decides n w).0 e)))
    either false e = e

pub ruleset named = (same_is, same_not)

-- ---- a name that is read as text

name_text : (w : List ℕ) → is_utf8 w ≡ true → name_of w ≡ w
unfolding name_of
name_text w t = rw t

name_none : (w : List ℕ) → is_utf8 w ≡ false → name_of w ≡ []
unfolding name_of
name_none w t = rw t

pub name_ok : (w : List ℕ) → IsUtf8 w → name_of w ≡ w
name_ok w h = name_text w (is_utf8-from_IsUtf8 w h)

pub name_bad : (w : List ℕ) → (IsUtf8 w → ⊥) → name_of w ≡ []
name_bad w h = either (is_utf8 w) refl
  where
    either : (t : Bool) → is_utf8 w ≡ t → name_of w ≡ []
    either true t = absurd (h (IsUtf8-from_is_utf8 w t))
    either false t = name_none w t

pub ruleset read = (name_ok, name_bad)

-- names that are ASCII, and not empty
abbrev plain : List ℕ → Bool
plain [] = false
plain (b ∷ n) = list_all (λ c. ltb c 128) (b ∷ n)

ascii_is : (n : List ℕ) → list_all (λ c. ltb c 128) n ≡ true → IsAscii n
ascii_is [] p i = omega arith
ascii_is (b ∷ n) p zero = ltb-true b 128 (and_parts (ltb b 128) (list_all (λ c. ltb c 128) n) p).0
ascii_is (b ∷ n) p (suc i) = ascii_is n (and_parts (ltb b 128) (list_all (λ c. ltb c 128) n) p).1 i

same_name : (n w : List ℕ) → plain n ≡ true → same n (name_of w) ≡ same n w
same_name [] w p = cc
same_name (b ∷ n) w p = either (is_utf8 w) refl
  where
    either : (t : Bool) → is_utf8 w ≡ t → same (b ∷ n) (name_of w) ≡ same (b ∷ n) w
    either true t = ap (same (b ∷ n)) (name_text w t)
    either false t =
        let text : is_utf8 (b ∷ n) ≡ true = is_utf8-from_IsUtf8 (b ∷ n) (IsUtf8-from_ascii (b ∷ n) (ascii_is (b ∷ n) p)) in
        let other : w ≡ b ∷ n → ⊥ = λ e. false≢true (sym t ∙ ap is_utf8 e ∙ text) in
        ap (same (b ∷ n)) (name_none w t)
        ∙ same_not (b ∷ n) [] (λ e. cc)
        ∙ sym (same_not (b ∷ n) w other)

abbrev all_plain : {A : Type 0} → List (Named A) → Bool
all_plain [] = true
all_plain (e ∷ es) = plain e.0 && all_plain es

lookup_name :
    {A : Type 0} (es : List (Named A)) (other : A) (w : List ℕ)
    → all_plain es ≡ true
    → lookup es other (name_of w) ≡ lookup es other w
unfolding lookup
lookup_name [] other w p = refl
lookup_name (e ∷ es) other w p =
    let both = and_parts (plain e.0) (all_plain es) p in
    rw (same_name e.0 w both.0, lookup_name es other w both.1)

-- ---- what a name says, read as text, is what the word says

module _ (w : List ℕ) where
  pub plain_name : plain_call (name_of w) ≡ plain_call w
  unfolding plain_call
  plain_name = lookup_name plain_calls None w refl

  pub argument_name : (a : List ℕ) → argument_call (name_of w) a ≡ argument_call w a
  unfolding argument_call
  argument_name a = rw (lookup_name payload_calls None w refl, lookup_name number_calls (λ v. None) w refl)

  pub set_name : (a : List ℕ) → set_command (name_of w) a ≡ set_command w a
  unfolding set_command
  set_name a = lookup_name (map (field_with a) fields) None w refl

  pair_name : (a b : List ℕ) → pair_command (name_of w) a b ≡ pair_command w a b
  unfolding pair_command
  pair_name a b = lookup_name (map (pair_with a b) pairs) None w refl

  pub command_name : (ws : List (List ℕ)) → command_of (name_of w ∷ ws) ≡ command_of (w ∷ ws)
  unfolding command_of
  command_name [] = rw (plain_name, same_name (bytes "dump") w refl)
  command_name (a ∷ []) = rw (argument_name a, same_name (bytes "new") w refl)
  command_name (a ∷ b ∷ []) = rw (same_name (bytes "set") w refl, same_name (bytes "cut") w refl, pair_name a b)
  command_name (a ∷ b ∷ c ∷ []) = rw (same_name (bytes "cut") w refl)
  command_name (a ∷ b ∷ c ∷ d ∷ ws) = refl

pub ruleset as_text = (plain_name, argument_name, set_name)
