-- What a call over the mirror does: on a known mode what the call does, mirrored back, with the name of its store; on any other byte,
-- which is a malformed state, 1 or 2, with state and image as they were and no store.
use Rattle.std.specs.Prelude.{ℕ, ◌≡◌, List, length}
use Rattle.refusals.specs.Order.{when}
use Rattle.medium.specs.Store.{count, laid}
use Rattle.scan.specs.Scan.{scan}
use Rattle.outcome.specs.Outcome.{Outcome}
use Rattle.outcome.specs.Enter.{sized}
use Rattle.create.specs.Create.{create_answer, create_image}
use Rattle.recovery.specs.Recovery.{open_answer}
use Rattle.contracts.specs.Call.{Call, head_finishes, without_store, does}
use Rattle.named.specs.Named.{nothing, named}
use Rattle.mirror.specs.declared.State.{State}
use Rattle.mirror.specs.declared.Answer.{Answer}
use Rattle.mirror.specs.Mirror.{known, log_of, state_of, answer, unknown_number}

abbrev pub mirrored : Outcome → Answer
mirrored o = answer o.number (named o.store) (state_of o.next)

unfoldable pub told_answer : Call → State → List ℕ → Answer
told_answer call state l =
    when (known state.mode) (mirrored (does call (log_of state) l)) (answer (unknown_number (sized state.e state.s (length l))) nothing state)

unfoldable pub told_image : Call → State → List ℕ → List ℕ
told_image call state l =
    when (known state.mode) (laid (count (does call (log_of state) l).store) (does call (log_of state) l).store l) l

-- a call that takes state and an image l answers r, and leaves l'
pub record Told (call : Call) (state : State) (l : List ℕ) (r : Answer) (l' : List ℕ) : Type 0 where
  pub answer : r ≡ told_answer call state l
  pub image : l' ≡ told_image call state l

-- head finish has no image to change; create and open take no state. Create's answer names no store: it lays the whole image, before the
-- log's life begins
abbrev pub HeadFinishTold : State → List ℕ → Answer → Type 0
HeadFinishTold state l r = r ≡ told_answer head_finishes state l

abbrev pub CreateTold : ℕ → ℕ → List ℕ → Answer → List ℕ → Type 0
CreateTold e s l r l' = (r ≡ mirrored (without_store (create_answer e s (length l)))) × (l' ≡ create_image e s l)

abbrev pub OpenTold : List ℕ → Answer → Type 0
OpenTold l r = r ≡ mirrored (without_store (open_answer (scan l)))
