-- What follows from demand 3, each for every life: a withdrawn record stays out, a kept one stays, a state in hand is never found
-- malformed and says what the history says, recovery can be cut and repeated, the log is never stuck, and read shows the history and
-- nothing else.
use Rattle.std.specs.Prelude.{ℕ, ◌+◌, ◌-◌, ◌≤◌, ◌<◌, ◌≡◌, true, ◌⊎◌, List, [], ◌∷◌, length, get_or}
use Rattle.refusals.specs.Refusals.{DONE, SIZE, MALFORMED, NOT_FOUND}
use Rattle.medium.specs.Store.{count}
use Rattle.metadata.specs.Metadata.{sizes_ok}
use Rattle.table.specs.Next.{next_of}
use Rattle.table.specs.declared.Mode.TheVariants.{Run}
use Rattle.table.specs.declared.Step.TheVariants.{Read}
use Rattle.scan.specs.Scan.{Scan, refused, opened, scan}
use Rattle.state.specs.State.{Answer}
use Rattle.outcome.specs.Enter.{leads}
use Rattle.counts.specs.Counts.{counts_of}
use Rattle.create.specs.Create.{CreateContract}
use Rattle.read.specs.Read.{read_answer, shown}
use Rattle.contracts.specs.Call.{Call, opens, wipes, marks, appends, roll_lists, head_starts, tail_starts, does}
use Rattle.life.specs.Life.{History, World, Event, call, cut, dark, step, lives, created, Record, numbered, records_of, live}

-- ---- any world of any life

pub record InLife (w : World) : Type 0 where
  pub e : ℕ
  pub s : ℕ
  pub sized : sizes_ok e s ≡ true
  pub events : List Event
  pub is : w ≡ lives events (created e s)

-- a done create gives the world in which lives begin
unfoldable pub CreateBegins : Type 0
CreateBegins =
    (e s : ℕ) (l : List ℕ) (r : Answer) (l' : List ℕ)
    → CreateContract e s l r l'
    → r.number ≡ DONE
    → (sizes_ok e s ≡ true) × (r.log ≡ (created e s).log) × (l' ≡ (created e s).image)

-- ---- what open shows

abbrev pub live_by : Scan → List Record
live_by (refused k) = []
live_by (opened v) = live v.metadata.head.0 (records_of v.extents)

-- the records from head up to tail, as the walk finds them
abbrev pub shows : List ℕ → List Record
shows l = live_by (scan l)

abbrev pub Among : Record → List Record → Type 0
Among r [] = ⊥
Among r (q ∷ qs) = (r ≡ q) ⊎ Among r qs

-- ---- the history's records, and its end

abbrev pub records_in : History → List Record
records_in y = numbered y.head y.payloads

abbrev pub end_in : History → ℕ
end_in y = y.head + length y.payloads

-- ---- what an event does in a world

-- it is a call of c that is done, and all of the call's store has arrived: no power cut, or one that comes too late
pub data Decides (w : World) (c : Call) : Event → Type 0 where
  whole : (does c w.log w.image).number ≡ DONE → Decides w c (call c)
  late : {k : ℕ} → (does c w.log w.image).number ≡ DONE → count (does c w.log w.image).store ≤ k → Decides w c (cut c k)

-- it adds a record with payload p at the end
pub data Adds (p : List ℕ) (w : World) (v : Event) : Type 0 where
  appended : Decides w (appends p) v → Adds p w v
  listed : Decides w roll_lists v → w.history.rolled ≡ p → Adds p w v

-- it gives LSN x to a new record
pub record Takes (x : ℕ) (w : World) (v : Event) : Type 0 where
  pub payload : List ℕ
  pub adds : Adds payload w v
  pub here : end_in w.history ≡ x

-- it removes the record at x: a head start above it, or a tail start at it or below
pub data Removes (x : ℕ) (w : World) (v : Event) : Type 0 where
  released : (h : ℕ) → Decides w (head_starts h) v → x < h → Removes x w v
  withdrawn : (t : ℕ) → Decides w (tail_starts t) v → t ≤ x → Removes x w v

-- no event of a list does so, each in the world that the events before it left
abbrev pub Never : (World → Event → Type 0) → List Event → World → Type 0
Never does_so [] w = Unit
Never does_so (v ∷ vs) w = (does_so w v → ⊥) × Never does_so vs (step v w)

-- ---- records

-- a withdrawn record never comes back: after a whole tail start no later open shows it, until a new record takes its LSN
unfoldable pub WithdrawnStaysOut : Type 0
WithdrawnStaysOut =
    (w : World)
    → InLife w
    → (v : Event) (t x : ℕ)
    → Decides w (tail_starts t) v
    → t ≤ x
    → (vs : List Event)
    → Never (Takes x) vs (step v w)
    → (p : List ℕ)
    → Among (record { lsn = x; payload = p }) (shows (lives vs (step v w)).image)
    → ⊥

-- a kept record is never lost: every later open shows it, until a whole head start or tail start removes it
unfoldable pub KeptStays : Type 0
KeptStays =
    (w : World)
    → InLife w
    → (r : Record)
    → Among r (records_in w.history)
    → (vs : List Event)
    → Never (Removes r.lsn) vs w
    → Among r (shows (lives vs w).image)

-- so it is from the append or roll list on that adds it
unfoldable pub AddedStays : Type 0
AddedStays =
    (w : World)
    → InLife w
    → (v : Event) (p : List ℕ)
    → Adds p w v
    → (vs : List Event)
    → Never (Removes (end_in w.history)) vs (step v w)
    → Among (record { lsn = end_in w.history; payload = p }) (shows (lives vs (step v w)).image)

-- ---- answers

abbrev pub OneTwoOrFifteen : ℕ → Type 0
OneTwoOrFifteen k = (k ≡ SIZE) ⊎ (k ≡ MALFORMED) ⊎ (k ≡ NOT_FOUND)

-- a state in hand has the history's head and end, and counts answers 0 with the history's length as live count
pub record Agrees (w : World) : Type 0 where
  pub head : w.log.head.0 ≡ w.history.head
  pub tail : w.log.tail.0 ≡ end_in w.history
  pub counted : (counts_of w.log).number ≡ DONE
  pub live : (counts_of w.log).live ≡ length w.history.payloads

unfoldable pub HandAgrees : Type 0
HandAgrees = (w : World) → InLife w → w.held ≡ true → Agrees w

-- with a state in hand, not one lost in a cut and not yet opened again, no call answers 1, 2 or 15
unfoldable pub NeverMalformed : Type 0
NeverMalformed =
    (w : World)
    → InLife w
    → w.held ≡ true
    → (c : Call)
    → OneTwoOrFifteen (does c w.log w.image).number
    → ⊥

-- in hand or not, open answers 0
unfoldable pub AlwaysOpens : Type 0
AlwaysOpens = (w : World) → InLife w → (does opens w.log w.image).number ≡ DONE

-- ---- recovery: open, wipe, mark

pub data Recovering : Call → Type 0 where
  opening : Recovering opens
  wiping : Recovering wipes
  marking : Recovering marks

-- calls and cuts of those three, and power cuts between them
abbrev pub Recovery : List Event → Type 0
Recovery [] = Unit
Recovery (call c ∷ vs) = Recovering c × Recovery vs
Recovery (cut c k ∷ vs) = Recovering c × Recovery vs
Recovery (dark ∷ vs) = Recovery vs

-- cut and repeated any number of times, it leaves the same records
unfoldable pub RecoveryAgain : Type 0
RecoveryAgain = (w : World) → InLife w → (vs : List Event) → Recovery vs → shows (lives vs w).image ≡ shows w.image

-- one whole recovery
abbrev pub opened_again : World → World
opened_again w = step (call opens) w

abbrev pub wiped_again : World → World
wiped_again w = step (call wipes) (opened_again w)

abbrev pub runs_again : World → World
runs_again w = step (call marks) (wiped_again w)

-- each of the three answers 0, and the log runs, with its state in hand and the history that it had
pub record Recovers (w : World) : Type 0 where
  pub open_answers : (does opens w.log w.image).number ≡ DONE
  pub wipe_answers : (does wipes (opened_again w).log (opened_again w).image).number ≡ DONE
  pub mark_answers : (does marks (wiped_again w).log (wiped_again w).image).number ≡ DONE
  pub runs : (runs_again w).log.mode ≡ Run
  pub in_hand : (runs_again w).held ≡ true
  pub same : (runs_again w).history ≡ w.history

-- the log is never stuck
unfoldable pub NeverStuck : Type 0
NeverStuck = (w : World) → InLife w → Recovers w

-- ---- reading

-- read answers 0 and shows the history's payload, for each LSN of the history
abbrev pub Reads : World → History → Type 0
Reads w y =
    (x : ℕ)
    → y.head ≤ x
    → x < end_in y
    → ((read_answer w.log w.image x).number ≡ DONE) × (shown (read_answer w.log w.image x) w.image ≡ get_or y.payloads (x - y.head) [])

-- in every mode that admits it
unfoldable pub ReadsShow : Type 0
ReadsShow = (w : World) → InLife w → w.held ≡ true → leads (next_of Read w.log.mode) ≡ true → Reads w w.history

-- read is done for an LSN of the history and for no other, in hand or not
unfoldable pub ReadsOnly : Type 0
ReadsOnly =
    (w : World)
    → InLife w
    → (x : ℕ)
    → (read_answer w.log w.image x).number ≡ DONE
    → (w.history.head ≤ x) × (x < end_in w.history)

-- and so once the log runs again, after any cut
unfoldable pub ReadsAgain : Type 0
ReadsAgain = (w : World) → InLife w → Reads (runs_again w) w.history
