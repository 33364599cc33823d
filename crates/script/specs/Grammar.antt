-- The commands: a line's words, and what they say.
use Rattle.std.specs.Prelude.{ℕ, ◌-◌, cond, List, [], ◌∷◌, map, length, Option, Some, None}
use Prim.Native.String.{String}
use Rattle.text.specs.Words.{bytes, same, words, word_at}
use Rattle.text.specs.Numeral.{number_of}
use Rattle.text.specs.Hex.{is_payload, bytes_of}
use Rattle.table.specs.Next.{mode_of}
use Rattle.script.specs.declared.Call.{Call}
use Rattle.script.specs.declared.Setting.{Setting}
use Rattle.script.specs.declared.Command.{Command}
use Rattle.script.specs.declared.Command.TheVariants.{New, Create, Do, Cut, Poke, Set, SetSlot, SetStart, Dump}

-- ---- arguments

-- the largest number where no other bound is said
abbrev pub most : ℕ
most = 4294967295

abbrev pub with_number : {A : Type 0} → Option ℕ → (ℕ → A) → A → A
with_number (Some v) f bad = f v
with_number None f bad = bad

abbrev pub asked : {A : Type 0} → Option Call → (Call → A) → A → A
asked (Some c) f bad = f c
asked None f bad = bad

-- what stands beside a name
abbrev pub Named : Type 0 → Type 0
Named A = List ℕ × A

unfoldable pub lookup : {A : Type 0} → List (Named A) → A → List ℕ → A
lookup [] other w = other
lookup (e ∷ es) other w = cond (same e.0 w) e.1 (lookup es other w)

-- ---- the calls that can be cut

abbrev pub plain_calls : List (Named (Option Call))
plain_calls =
    (bytes "open", Some Call.Open)
    ∷ (bytes "wipe", Some Call.Wipe)
    ∷ (bytes "mark", Some Call.Mark)
    ∷ (bytes "list", Some Call.List)
    ∷ (bytes "headfinish", Some Call.HeadFinish)
    ∷ (bytes "tailfinish", Some Call.TailFinish)
    ∷ (bytes "close", Some Call.Close)
    ∷ (bytes "counts", Some Call.Counts)
    ∷ []

abbrev pub payload_calls : List (Named (Option Call))
payload_calls = (bytes "append", Some Call.Append) ∷ (bytes "write", Some Call.Write) ∷ []

abbrev pub number_calls : List (Named (ℕ → Option Call))
number_calls =
    (bytes "begin", λ p. Some (Call.Begin p))
    ∷ (bytes "head", λ h. Some (Call.Head h))
    ∷ (bytes "tail", λ t. Some (Call.Tail t))
    ∷ (bytes "read", λ x. Some (Call.Read x))
    ∷ []

unfoldable pub plain_call : List ℕ → Option Call
plain_call w = lookup plain_calls None w

-- a call with one argument: a payload, or a number
unfoldable pub argument_call : List ℕ → List ℕ → Option Call
argument_call w a =
    asked (lookup payload_calls None w)
    (λ c. cond (is_payload a) (Some c) None)
    (with_number (number_of most a) (lookup number_calls (λ v. None) w) None)

-- ---- commands of two arguments

unfoldable pub cut_command : List ℕ → Option Call → Option Command
cut_command k c = with_number (number_of most k) (λ n. asked c (λ call. Some (Cut n call)) None) None

-- a field of the state, and its largest number
pub record Field : Type 0 where
  pub name : List ℕ
  pub bound : ℕ
  pub made : ℕ → Setting

abbrev pub field : String → ℕ → (ℕ → Setting) → Field
field s n f = record { name = bytes s; bound = n; made = f }

abbrev pub fields : List Field
fields =
    field "mode" 9 (λ k. Setting.Mode (mode_of k))
    ∷ field "E" most Setting.E
    ∷ field "S" 255 Setting.S
    ∷ field "n" 255 Setting.N
    ∷ field "head" most Setting.Head
    ∷ field "tail" most Setting.Tail
    ∷ field "last" most Setting.Last
    ∷ field "version" 65535 Setting.Version
    ∷ field "place" most Setting.Place
    ∷ field "pending" 18446744073709551615 Setting.Pending
    ∷ field "rollslot" 255 Setting.RollSlot
    ∷ field "rolllen" most Setting.RollLen
    ∷ []

-- what a field's name and the word behind it say
abbrev pub field_with : List ℕ → Field → Named (Option Command)
field_with a f = (f.name, with_number (number_of f.bound a) (λ v. Some (Set (f.made v))) None)

unfoldable pub set_command : List ℕ → List ℕ → Option Command
set_command w a = lookup (map (field_with a) fields) None w

-- a command of two numbers, and the largest of each
pub record Pair : Type 0 where
  pub name : List ℕ
  pub bound₁ : ℕ
  pub bound₂ : ℕ
  pub made : ℕ → ℕ → Command

abbrev pub pair : String → ℕ → ℕ → (ℕ → ℕ → Command) → Pair
pair s m n f = record { name = bytes s; bound₁ = m; bound₂ = n; made = f }

abbrev pub pairs : List Pair
pairs = pair "create" most 255 Create ∷ pair "poke" most 255 Poke ∷ pair "setslot" 63 255 SetSlot ∷ pair "setstart" 63 most SetStart ∷ []

-- what a pair's name and the two words behind it say
abbrev pub pair_with : List ℕ → List ℕ → Pair → Named (Option Command)
pair_with a b p =
    (p.name, with_number (number_of p.bound₁ a) (λ x. with_number (number_of p.bound₂ b) (λ y. Some (p.made x y)) None) None)

unfoldable pub pair_command : List ℕ → List ℕ → List ℕ → Option Command
pair_command w a b = lookup (map (pair_with a b) pairs) None w

-- ---- a line

unfoldable pub command_of : List (List ℕ) → Option Command
command_of [] = None
command_of (w ∷ []) = asked (plain_call w) (λ c. Some (Do c)) (cond (same (bytes "dump") w) (Some Dump) None)
command_of (w ∷ a ∷ []) = asked (argument_call w a) (λ c. Some (Do c))
    (cond (same (bytes "new") w) (with_number (number_of 65536 a) (λ n. Some (New n)) None) None)
command_of (w ∷ a ∷ b ∷ []) =
    cond (same (bytes "set") w) (set_command a b)
    (cond (same (bytes "cut") w) (cut_command a (plain_call b)) (pair_command w a b))
command_of (w ∷ a ∷ b ∷ c ∷ []) = cond (same (bytes "cut") w) (cut_command a (argument_call b c)) None
command_of (w ∷ a ∷ b ∷ c ∷ d ∷ ws) = None

unfoldable pub line_command : List ℕ → Option Command
line_command l = command_of (words l)

-- the payload of a line whose command has one: the bytes of the last word
unfoldable pub line_payload : List ℕ → List ℕ
line_payload l = bytes_of (word_at l (length (words l) - 1))
