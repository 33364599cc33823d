-- The cheats that document 01 names, as kinds of programs: none meets the contracts ("What the contracts have to say").
use Rattle.std.specs.Prelude.{ℕ, ◌+◌, ◌-◌, ◌≤◌, ◌<◌, ◌≡◌, List, [], get_or}
use Rattle.refusals.specs.Refusals.{DONE}
use Rattle.metadata.specs.Layout.{slot_place}
use Rattle.free.specs.Word.{count}
use Rattle.state.specs.declared.State.{State}
use Rattle.state.specs.State.{Answer}
use Rattle.state.specs.State.{write_slot, free_in}
use Rattle.outcome.specs.Outcome.{Did}
use Rattle.counts.specs.Counts.{Report}
use Rattle.counts.specs.Counts.{CountsContract}
use Rattle.recovery.specs.Recovery.{OpenContract}
use Rattle.read.specs.Read.{Reading}
use Rattle.read.specs.Read.{ReadContract}
use Rattle.contracts.specs.Call.{Call, wipes, marks, appends, roll_begins, roll_writes, roll_lists, head_starts, head_finishes, tail_starts}
use Rattle.contracts.specs.Call.{tail_finishes, closes, does}

-- a call as a program: from a state and an image to an answer and an image
abbrev pub Program : Type 0
Program = State → List ℕ → Answer × List ℕ

-- it meets a call's contract on every state and image
abbrev pub Meets : Call → Program → Type 0
Meets c f = (g : State) (l : List ℕ) → Did (does c g l) l (f g l).0 (f g l).1

-- none of a kind does
abbrev pub Excluded : Call → (Program → Type 0) → Type 0
Excluded c Kind = (f : Program) → Meets c f → Kind f → ⊥

-- ---- a log that refuses everything

abbrev pub Refuses : Program → Type 0
Refuses f = (g : State) (l : List ℕ) → (f g l).0.number ≡ DONE → ⊥

-- each step is done somewhere, so no step may always refuse
pub record RefusesEverythingExcluded : Type 0 where
  pub wipe : Excluded wipes Refuses
  pub mark : Excluded marks Refuses
  pub append : Excluded (appends []) Refuses
  pub roll_begin : Excluded (roll_begins 0) Refuses
  pub roll_write : Excluded (roll_writes []) Refuses
  pub roll_list : Excluded roll_lists Refuses
  pub head_start : Excluded (head_starts 2) Refuses
  pub head_finish : Excluded head_finishes Refuses
  pub tail_start : Excluded (tail_starts 1) Refuses
  pub tail_finish : Excluded tail_finishes Refuses
  pub close : Excluded closes Refuses
  pub read : (f : State → List ℕ → Reading) → ((g : State) (l : List ℕ) → ReadContract g l 1 (f g l)) → ((g : State) (l : List ℕ) → (f g l).number ≡ DONE → ⊥) → ⊥

-- nor may open: what create leaves opens
unfoldable pub OpenRefusesEverythingExcluded : Type 0
OpenRefusesEverythingExcluded =
    (f : List ℕ → Answer)
    → ((l : List ℕ) → OpenContract l (f l))
    → ((l : List ℕ) → (f l).number ≡ DONE → ⊥)
    → ⊥

-- ---- a log that answers 0 and stores nothing

abbrev pub StoresNothing : Program → Type 0
StoresNothing f = (g : State) (l : List ℕ) → (f g l).0.number ≡ DONE → (f g l).1 ≡ l

unfoldable pub StoresNothingExcluded : Type 0
StoresNothingExcluded = Excluded (appends []) StoresNothing

-- ---- a log that always gives one fixed state

abbrev pub GivesOneState : Program → Type 0
GivesOneState f = (n : State) × ((g : State) (l : List ℕ) → (f g l).0.number ≡ DONE → (f g l).0.log ≡ n)

unfoldable pub OneStateExcluded : Type 0
OneStateExcluded = Excluded wipes GivesOneState

unfoldable pub OpenOneStateExcluded : Type 0
OpenOneStateExcluded =
    (f : List ℕ → Answer)
    → ((l : List ℕ) → OpenContract l (f l))
    → (n : State)
    → ((l : List ℕ) → (f l).number ≡ DONE → (f l).log ≡ n)
    → ⊥

-- ---- a tail start that also wipes, leaving tail finish to pretend

-- an answer and an image: from the write place to the end of the write extent all is zero
abbrev pub ZeroBehind : Answer → List ℕ → Type 0
ZeroBehind a l = (i : ℕ) → a.log.place ≤ i → i < a.log.e → get_or l (slot_place a.log.e (write_slot a.log) + i) 0 ≡ 0

abbrev pub AlsoWipes : Program → Type 0
AlsoWipes f = (g : State) (l : List ℕ) → (f g l).0.number ≡ DONE → ZeroBehind (f g l).0 (f g l).1

unfoldable pub WipingTailStartExcluded : Type 0
WipingTailStartExcluded = Excluded (tail_starts 1) AlsoWipes

-- ---- an invented free count or live count

-- where a program's counts are done they are the free rule's and tail less head
unfoldable pub InventedCountsExcluded : Type 0
InventedCountsExcluded =
    (f : State → Report)
    → ((g : State) → CountsContract g (f g))
    → (g : State)
    → (f g).number ≡ DONE
    → (((f g).free ≡ count (free_in g) 64) × ((f g).live ≡ g.tail.0 - g.head.0) → ⊥)
    → ⊥

-- so neither count is one number for all states
unfoldable pub FixedCountsExcluded : Type 0
FixedCountsExcluded =
    (f : State → Report)
    → ((g : State) → CountsContract g (f g))
    → (c : ℕ)
    → (((g : State) → (f g).number ≡ DONE → (f g).free ≡ c) → ⊥) × (((g : State) → (f g).number ≡ DONE → (f g).live ≡ c) → ⊥)
