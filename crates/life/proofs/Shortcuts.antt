-- Shortcuts that break the log (document 01, the last part): each computed on a small log, beside the right way. The first of them,
-- wiping front to back, is `front_to_back` of record/proofs/Wiping.antt.
use Prim.Native.Nat.{ℕ}
use mathlib.Core.Path.{◌≡◌, refl, sym, ap, ◌∙◌}
use mathlib.Core.Bool.{false}
use mathlib.Core.List.{List, [], ◌∷◌}
use borrow.Author.Tests.{eqb-false}
use lib.Dec.{eqb}
use lib.ListN.{get_or}
use Rattle.numbers.specs.Numbers.{zeros}
use Rattle.medium.specs.Store.{laid_one, laid_first, laid, arrives}
use Rattle.record.specs.Record.{record_bytes}
use Rattle.stores.specs.Stores.{extent_bytes}
use Rattle.scan.specs.Scan.{scan}
use Rattle.state.specs.State.{Answer}
use Rattle.recovery.specs.Recovery.{open_answer}
use Rattle.contracts.specs.Call.{Call, opens, wipes, marks, appends, roll_begins, roll_writes, roll_lists, head_starts, head_finishes, tail_starts}
use Rattle.contracts.specs.Call.{tail_finishes, does}
use Rattle.contracts.proofs.Computing.{computing}
use Rattle.life.specs.Life.{World, Event, call, cut, dark, step, lives, created, Found}
use Rattle.life.specs.Follows.{end_in}

-- ---- what is looked at

abbrev pub seen : Answer → List ℕ
seen a = a.number ∷ a.log.head.0 ∷ a.log.tail.0 ∷ []

-- open's number, and the head and the tail that it finds
abbrev pub finds : World → List ℕ
finds w = seen (open_answer (scan w.image))

-- what is due: 0, and the history's head and end
abbrev pub due : World → List ℕ
due w = 0 ∷ w.history.head ∷ end_in w.history ∷ []

-- demand 3 says that open finds what is due
demanded : {e s : ℕ} (w : World) → Found e s w.image w.history → finds w ≡ due w
unfolding open_answer
demanded w f = rw (f.opens, f.head, f.tail)

-- the right way: open finds what is due
abbrev pub Right : World → List ℕ → Type 0
Right w x = (finds w ≡ x) × (due w ≡ x)

-- a shortcut: open finds x where y is due, and so demand 3 does not hold
pub record Wrong (w : World) (x y : List ℕ) : Type 0 where
  pub is_found : finds w ≡ x
  pub is_due : due w ≡ y
  pub breaks : Found 64 2 w.image w.history → ⊥

-- where x and y differ at i
differs_at : (i : ℕ) {w : World} {x y : List ℕ} → finds w ≡ x → due w ≡ y → eqb (get_or x i 0) (get_or y i 0) ≡ false → Wrong w x y
differs_at i {w} p q n = record {
  is_found = p;
  is_due = q;
  breaks = λ f. eqb-false _ _ n (ap (λ (l : List ℕ). get_or l i 0) (sym p ∙ demanded w f ∙ q));
}

-- ---- lives, and a call without its store

-- the world after these events, at E = 64, S = 2; what a life computes by is opened with it
unfoldable pub after : List Event → World
unfolding computing laid_one laid_first laid arrives extent_bytes does step lives
after es = lives es (created 64 2)

-- the state that a call leads to, its store left out: image and history know nothing of it
abbrev pub unstored : Call → World → World
unstored c w = record { log = (step (call c) w).log; image = w.image; history = w.history; held = w.held }

-- a running log: record 1, of payload p, in slot 0, and record 2 in slot 1, with no room behind it
abbrev pub two_extents : List ℕ → World
two_extents p =
    after
    (call opens
    ∷ call wipes
    ∷ call marks
    ∷ call (appends p)
    ∷ call (roll_begins 42)
    ∷ call (roll_writes (zeros 42))
    ∷ call roll_lists
    ∷ [])

-- ---- taking a slot for a roll without wiping it

-- slot 0 is free again, and its old bytes are there
abbrev pub freed : List ℕ → World
freed p = lives (call (head_starts 2) ∷ call head_finishes ∷ []) (two_extents p)

-- the rest of the roll: record 3, empty
abbrev pub rolled : World → World
rolled w = lives (call (roll_writes []) ∷ call roll_lists ∷ []) w

abbrev pub wiped : List ℕ → World
wiped p = rolled (step (call (roll_begins 0)) (freed p))

abbrev pub unwiped : List ℕ → World
unwiped p = rolled (unstored (roll_begins 0) (freed p))

-- an old payload: one byte, and then, where record 3 will end, what looks like a record 4
abbrev pub lookalike : List ℕ
lookalike = 0 ∷ record_bytes [] 4 1

-- it is read as the next record: open finds tail 5, and the history ends at 4
pub roll_without_wipe :
    Right (wiped lookalike) (0 ∷ 2 ∷ 4 ∷ [])
    × Wrong (unwiped lookalike) (0 ∷ 2 ∷ 5 ∷ []) (0 ∷ 2 ∷ 4 ∷ [])
unfolding after
roll_without_wipe = ((refl, refl), differs_at 2 refl refl refl)

-- an append of 10 bytes, torn after 8
abbrev pub torn : World → World
torn w = step (cut (appends (0x41 ∷ [])) 8) w

-- the old record 1 ends where this one would have, and its 165 closes it: open finds tail 5, and the history ends at 4
pub torn_without_wipe :
    Right (torn (wiped (zeros 10))) (0 ∷ 2 ∷ 4 ∷ [])
    × Wrong (torn (unwiped (zeros 10))) (0 ∷ 2 ∷ 5 ∷ []) (0 ∷ 2 ∷ 4 ∷ [])
unfolding after
torn_without_wipe = ((refl, refl), differs_at 2 refl refl refl)

-- ---- wiping before tail start's metadata

-- a running log with records 1 and 2
abbrev pub two_records : World
two_records =
    after (call opens ∷ call wipes ∷ call marks ∷ call (appends (0x41 ∷ [])) ∷ call (appends (0x42 ∷ [])) ∷ [])

-- power goes between the two stores of a tail truncation, in either order
abbrev pub metadata_first : World
metadata_first = lives (call (tail_starts 2) ∷ dark ∷ []) two_records

abbrev pub wipe_first : World
wipe_first = lives (call tail_finishes ∷ dark ∷ []) (unstored (tail_starts 2) two_records)

-- record 2 is lost, and was never withdrawn: open finds tail 2, and the history ends at 3
pub wipe_before_tail_start : Right metadata_first (0 ∷ 1 ∷ 2 ∷ []) × Wrong wipe_first (0 ∷ 1 ∷ 2 ∷ []) (0 ∷ 1 ∷ 3 ∷ [])
unfolding after
wipe_before_tail_start = ((refl, refl), differs_at 2 refl refl refl)

-- ---- freeing a slot before the metadata that drops it is stored

-- a roll takes slot 0 and wipes it, and power goes
abbrev pub reused : World → World
reused w = lives (call head_finishes ∷ call (roll_begins 0) ∷ dark ∷ []) w

-- the metadata still lists slot 0, whose header is gone: open is refused with 13
pub freed_before_its_store :
    Right (reused (step (call (head_starts 2)) (two_extents []))) (0 ∷ 2 ∷ 3 ∷ [])
    × Wrong (reused (unstored (head_starts 2) (two_extents []))) (13 ∷ 0 ∷ 0 ∷ []) (0 ∷ 1 ∷ 3 ∷ [])
unfolding after
freed_before_its_store = ((refl, refl), differs_at 0 refl refl refl)
