-- The invariant of a life: the image keeps a sound book whose records are the history's, the state in hand says what the book says,
-- and each mode knows a little more. The files below say what follows for a state, its walks and open.
pub mod Modes
pub mod Ties
pub mod Wells
pub mod Finds
pub mod Reaches
use Prim.Native.Nat.{ℕ}
use mathlib.Core.Path.{◌≡◌}
use mathlib.Core.Bool.{Bool, true, false}
use mathlib.Core.List.{List, [], ◌∷◌}
use lib.ListN.{length}
use Rattle.numbers.specs.Numbers.{zeros}
use Rattle.table.specs.declared.Mode.{Mode}
use Rattle.table.specs.declared.Mode.TheVariants.{Opened, Wiped, Run, Zeroed, Written, Tail, RunH, ZeroedH, WrittenH}
use Rattle.table.specs.Next.{one_of}
use Rattle.slots.specs.Entries.{lsn, lsn_array}
use Rattle.scan.specs.Scan.{Extent, slot_part}
use Rattle.state.specs.declared.State.{State}
use Rattle.state.specs.Change.{in_mode, pending_at, rolling}
use Rattle.well.specs.Well.{well_formed}
use Rattle.recovery.specs.Recovery.{found_state}
use Rattle.life.specs.Life.{History, World}
use Rattle.life.proofs.Book.{Book, Constants, constants, tail, place_in, book_starts, metadata_in, write_part, Clean, live_in, SoundBook, Keeps}

-- what an image is worth when the power goes
pub record Rests (l : List ℕ) (b : Book) (y : History) : Type 0 where
  pub keeps : Keeps l b
  pub sound : SoundBook b
  pub head : b.head ≡ y.head
  pub live : live_in b.head b.olds b.write ≡ y.payloads

-- on another image that keeps the book, whatever a roll has written
pub rests_on :
    {l l' : List ℕ} {b : Book} {y : History} {p : List ℕ}
    → Keeps l' b
    → Rests l b y
    → Rests l' b (record { head = y.head; payloads = y.payloads; rolled = p })
rests_on k r = record { keeps = k; sound = r.sound; head = r.head; live = r.live }

-- the state that open finds in the book
abbrev pub state_of : Book → State
state_of b = found_state (record {
  metadata = metadata_in b;
  starts = lsn_array (book_starts b);
  tail = lsn (tail b);
  place = place_in b.write;
})

-- mode, pending slots and roll aside, which no image keeps
abbrev pub at_rest : State → State
at_rest g = in_mode Opened (pending_at 0 (rolling 0 0 g))

-- the state says what the book says
pub record Tied (g : State) (b : Book) : Type 0 where
  pub is : at_rest g ≡ state_of b

-- ---- what a mode knows

-- the write extent is zero behind the write place
abbrev pub wiped_in : Mode → Bool
wiped_in = one_of (Wiped ∷ Run ∷ Zeroed ∷ Written ∷ RunH ∷ ZeroedH ∷ WrittenH ∷ [])

-- after mark: the clean mark is 0
abbrev pub marked_in : Mode → Bool
marked_in = one_of (Run ∷ Zeroed ∷ Written ∷ Tail ∷ RunH ∷ ZeroedH ∷ WrittenH ∷ [])

-- the roll's slot is all zero
abbrev pub zeroed_in : Mode → Bool
zeroed_in = one_of (Zeroed ∷ ZeroedH ∷ [])

-- the roll's slot is the new extent
abbrev pub written_in : Mode → Bool
written_in = one_of (Written ∷ WrittenH ∷ [])

-- the extent that a roll has written: one record, with the tail as its start
abbrev pub rolled_extent : State → Book → List ℕ → Extent
rolled_extent g b p = record { slot = g.roll_slot.0; start = tail b; payloads = p ∷ [] }

-- its slot holds it, with zeros behind
pub record Rolled (g : State) (l : List ℕ) (b : Book) (p : List ℕ) : Type 0 where
  pub clean : Clean (slot_part l b.e g.roll_slot.0) b.version b.last (rolled_extent g b p)
  pub size : length p ≡ g.roll_len

-- what the state says, and what its mode knows of image and book beside
pub record Knows (g : State) (l : List ℕ) (b : Book) (p : List ℕ) : Type 0 where
  pub tied : Tied g b
  pub wiped : wiped_in g.mode ≡ true → Clean (write_part l b) b.version b.last b.write
  pub marked : marked_in g.mode ≡ true → b.clean ≡ false
  pub zeroed : zeroed_in g.mode ≡ true → slot_part l b.e g.roll_slot.0 ≡ zeros b.e
  pub written : written_in g.mode ≡ true → Rolled g l b p

-- a state in hand. A Closed one too: close and create leave it as the image has it
pub record Stands (g : State) (l : List ℕ) (b : Book) (p : List ℕ) : Type 0 where
  pub well : well_formed g ≡ true
  pub knows : Knows g l b p

abbrev pub StandsIn : World → Book → Type 0
StandsIn w b = Stands w.log w.image b w.history.rolled

-- in hand it stands; lost, it has E 0, and every call but open refuses it
abbrev pub InHand : Bool → State → List ℕ → Book → List ℕ → Type 0
InHand true g l b p = Stands g l b p
InHand false g l b p = g.e ≡ 0

pub record Inv (f : Constants) (w : World) : Type 0 where
  pub book : Book
  pub same : constants book ≡ f
  pub rests : Rests w.image book w.history
  pub hand : InHand w.held w.log w.image book w.history.rolled
