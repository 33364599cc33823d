-- Document 01's samples at E = 64, S = 2, those marked there with a star: one table of what the definitions give and what the
-- document says.
use Rattle.std.specs.Prelude.{ℕ, ◌-◌, ◌≡◌, List, [], ◌∷◌, ◌++◌, map, length, take, set}
use Rattle.numbers.specs.Numbers.{zeros}
use Rattle.medium.specs.Store.{laid}
use Rattle.record.specs.Record.{record_bytes}
use Rattle.extent.specs.Extent.{header_bytes}
use Rattle.metadata.specs.Layout.{area_length}
use Rattle.metadata.proofs.Samples.{fresh_bytes}
use Rattle.table.specs.declared.Mode.TheVariants.{Run}
use Rattle.scan.specs.Scan.{scan}
use Rattle.state.specs.declared.State.{State}
use Rattle.state.specs.State.{Answer}
use Rattle.state.specs.State.{longest}
use Rattle.state.specs.Change.{in_mode, tail_at}
use Rattle.outcome.specs.Outcome.{Outcome}
use Rattle.create.specs.Create.{fresh_state, create_image}
use Rattle.recovery.specs.Recovery.{open_answer}
use Rattle.append.specs.Append.{append_outcome}
use Rattle.roll.specs.Begin.{roll_begin_outcome}
use Rattle.head.specs.Start.{head_start_outcome}
use Rattle.tail.specs.Start.{tail_start_outcome}

-- ---- a running log: head 1, version 1, slot 0 listed

-- its state, with a tail and a write place
abbrev pub at : ℕ → ℕ → State
at tail place = tail_at tail place (in_mode Run (fresh_state 64 2))

-- its image, with these records in slot 0
abbrev pub image : List ℕ → List ℕ
image records = set fresh_bytes 18 0 ++ (header_bytes 1 ++ (records ++ zeros (59 - length records))) ++ zeros 64

-- sample 2's record, two empty ones, and one whose payload is p zeros
abbrev pub one : List ℕ
one = record_bytes (0x41 ∷ 0x42 ∷ []) 1 1

abbrev pub two : List ℕ
two = record_bytes [] 1 1 ++ record_bytes [] 2 1

abbrev pub filled : ℕ → List ℕ
filled p = record_bytes (zeros p) 1 1

-- ---- what is looked at

abbrev pub number_and_place : Outcome → List ℕ
number_and_place o = o.number ∷ o.next.place ∷ []

abbrev pub number_and_slot : Outcome → List ℕ
number_and_slot o = o.number ∷ o.next.roll_slot.0 ∷ []

-- what open finds where a call's store was cut after k bytes: its number, the tail and the version
abbrev pub found : Answer → List ℕ
found a = a.number ∷ a.log.tail.0 ∷ a.log.version.0 ∷ []

abbrev pub open_finds : ℕ → Outcome → List ℕ → List ℕ
open_finds k o l = found (open_answer (scan (laid k o.store l)))

-- ---- the table

-- what the definitions give, and what document 01 says
pub record Sample : Type 0 where
  pub gives : List ℕ
  pub says : List ℕ

infix 70 ◌is◌
abbrev pub ◌is◌ : List ℕ → List ℕ → Sample
a is b = record { gives = a; says = b }

abbrev pub Holds : List Sample → Type 0
Holds [] = Unit
Holds (x ∷ xs) = (x.gives ≡ x.says) × Holds xs

abbrev pub table : List Sample
table =
    -- 1. fresh metadata
    take area_length (create_image 64 2 (zeros 212)) is fresh_bytes
    -- 2. payload 41 42 at LSN 1, version 1
    ∷ (append_outcome (at 1 5) (image []) (0x41 ∷ 0x42 ∷ [])).store.bytes is (0x00 ∷ 0x09 ∷ 0x00 ∷ 0x01 ∷ 0x00 ∷ 0x00 ∷ 0x00 ∷ 0x01 ∷ 0x41 ∷ 0x42 ∷ 0xA5 ∷ [])
    -- 3. M is 50; payload 50 fills an empty extent; 51 gives 4
    ∷ (longest (at 1 5) ∷ []) is (50 ∷ [])
    ∷ number_and_place (append_outcome (at 1 5) (image []) (zeros 50)) is (0 ∷ 64 ∷ [])
    ∷ number_and_place (append_outcome (at 1 5) (image []) (zeros 51)) is (4 ∷ 5 ∷ [])
    -- 4. write place 55, payload 0: roll begin gives 6; append moves to 64
    ∷ number_and_place (roll_begin_outcome (at 2 55) (image (filled 41)) 0) is (6 ∷ 55 ∷ [])
    ∷ number_and_place (append_outcome (at 2 55) (image (filled 41)) []) is (0 ∷ 64 ∷ [])
    -- 5. write place 56, payload 0: append gives 5, roll begin takes slot 1
    ∷ number_and_place (append_outcome (at 2 56) (image (filled 42)) []) is (5 ∷ 56 ∷ [])
    ∷ number_and_slot (roll_begin_outcome (at 2 56) (image (filled 42)) 0) is (0 ∷ 1 ∷ [])
    -- 6. sample 2 cut after 10 bytes: open finds tail 1; after 11: tail 2
    ∷ open_finds 10 (append_outcome (at 1 5) (image []) (0x41 ∷ 0x42 ∷ [])) (image []) is (0 ∷ 1 ∷ 1 ∷ [])
    ∷ open_finds 11 (append_outcome (at 1 5) (image []) (0x41 ∷ 0x42 ∷ [])) (image []) is (0 ∷ 2 ∷ 1 ∷ [])
    -- 7. after sample 2, tail start 1, then a cut: open finds tail 1, version 2
    ∷ open_finds 84 (tail_start_outcome (at 2 16) (image one) 1) (image one) is (0 ∷ 1 ∷ 2 ∷ [])
    -- 8. head 1, tail 3: head start 1 and 4 give 10; 2 and 3 are done
    ∷ map (λ h. (head_start_outcome (at 3 23) (image two) h).number) (1 ∷ 4 ∷ 2 ∷ 3 ∷ []) is (10 ∷ 10 ∷ 0 ∷ 0 ∷ [])
    -- 9. the same: tail start 0 and 3 give 10; 1 and 2 are done
    ∷ map (λ t. (tail_start_outcome (at 3 23) (image two) t).number) (0 ∷ 3 ∷ 1 ∷ 2 ∷ []) is (10 ∷ 10 ∷ 0 ∷ 0 ∷ [])
    -- 11. clean 2 gives 12
    ∷ ((open_answer (scan (set (create_image 64 2 (zeros 212)) 18 2))).number ∷ []) is (12 ∷ [])
    ∷ []
