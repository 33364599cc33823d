-- What is spelled into a buffer of its own, and what two writes append.
use Prim.Native.Nat.{ℕ, ◌+◌, ◌≤◌}
use mathlib.Core.Path.{◌≡◌, refl, sym, ap, ◌∙◌}
use mathlib.Core.List.{List, [], ◌∷◌, ◌++◌, append_assoc, append-nil}
use native.Mathlib.Omega.{arith}
use lib.ListN.{length, take, drop}
use lib.Seq.{sets, sets-eq, take_at}
use Rattle.std.specs.Prelude.{Option, Some, None}
use Rattle.std.specs.Io.KnownBytes.{Appends}
use Rattle.text.specs.Hex.{hex_of}
use Rattle.text.proofs.Printing.{decimal_short}
use Rattle.text.proofs.Nibbles.{hex_length}

-- what is put at the front of a buffer is its first bytes
pub put_in_front : (l vs : List ℕ) (n : ℕ) → n ≡ 0 + length vs → length vs ≤ length l → take n (sets l 0 vs) ≡ vs
put_in_front l vs n e h =
    rw (sets-eq vs l 0 (omega (arith, h))) (take_at vs (drop (0 + length vs) l) n (omega (arith, e)))

pub appends_both : (u v w : Option (List ℕ)) (a b : List ℕ) → Appends u v a → Appends v w b → Appends u w (a ++ b)
appends_both None v w a b x y = tt
appends_both (Some xs) None w a b x y = absurd x
appends_both (Some xs) (Some ys) None a b x y = y
appends_both (Some xs) (Some ys) (Some zs) a b x y = y ∙ ap (λ (t : List ℕ). t ++ b) x ∙ append_assoc xs a b

-- bytes in hex, piece by piece
pub hex_append : (l m : List ℕ) → hex_of (l ++ m) ≡ hex_of l ++ hex_of m
unfolding hex_of
hex_append [] m = refl
hex_append (b ∷ l) m = rw (hex_append l m)

-- all has come where nothing is left
pub all_came : (l came rest : List ℕ) → l ≡ came ++ rest → length rest ≡ 0 → came ≡ l
all_came l came [] e h = sym (e ∙ append-nil came)
all_came l came (b ∷ rest) e h = absurd (omega (arith, h))

pub ruleset spelling = (put_in_front, decimal_short, hex_length)
