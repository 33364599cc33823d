-- What an exported step owes, once for all: an unknown mode is answered with its number and changes nothing, a known one with what
-- the step on the log did.
use Prim.Native.Nat.{ℕ}
use mathlib.Core.Path.{◌≡◌, refl}
use mathlib.Core.List.{List}
use mathlib.Core.Bool.{true, false}
use Rattle.std.specs.Prelude.{Result, Ok, Err}
use Rattle.std.specs.Result.{result_unwrap_or}
use Rattle.refusals.specs.Refusals.{number_in}
use Rattle.refusals.specs.declared.Refusal.{Refusal}
use lib.ListN.{length}
use Rattle.state.specs.declared.State.{State as Log}
use Rattle.state.specs.State.{answered}
use Rattle.outcome.specs.Outcome.{Did}
use Rattle.outcome.specs.Enter.{sized}
use Rattle.contracts.specs.Call.{Call, does}
use Rattle.named.specs.declared.Named.{Named}
use Rattle.named.specs.Named.{nothing, named}
use Rattle.mirror.specs.declared.State.{State}
use Rattle.mirror.specs.declared.Answer.{Answer}
use Rattle.mirror.specs.Mirror.{known, log_of, state_of, answer, unknown_number}
use Rattle.liftlog.specs.Told.{Told, mirrored, told_answer, told_image}

-- the number of an answer is that of how the call ended
pub answered_number : (g : Log) (ended : Result Log Refusal) → (answered g ended).number ≡ number_in ended
answered_number g (Ok next) = refl
answered_number g (Err why) = refl

-- and its state: the next one, or the one before the call
pub answered_log : (g : Log) (ended : Result Log Refusal) → result_unwrap_or ended g ≡ (answered g ended).log
answered_log g (Ok next) = refl
answered_log g (Err why) = refl

module _ (call : Call) (state : State) (l : List ℕ) where
  pub unknown_answer :
      false ≡ known state.mode → answer (unknown_number (sized state.e state.s (length l))) nothing state ≡ told_answer call state l
  unfolding told_answer
  unknown_answer k = rw (← k)

  pub known_answer : true ≡ known state.mode → mirrored (does call (log_of state) l) ≡ told_answer call state l
  unfolding told_answer
  known_answer k = rw (← k)

  pub unknown_told :
      (r : Answer) → false ≡ known state.mode → r ≡ answer (unknown_number (sized state.e state.s (length l))) nothing state → Told call state l r l
  unfolding told_image
  unknown_told r k e = rw e (record { answer = unknown_answer k; image = rw (← k) })

  pub known_told :
      (g : Log) (ended : Result Log Refusal) (store : Named) (r : Answer) (l' : List ℕ)
      → true ≡ known state.mode
      → g ≡ log_of state
      → Did (does call g l) l (answered g ended) l'
      → store ≡ named (does call g l).store
      → r ≡ answer (answered g ended).number store (state_of (answered g ended).log)
      → Told call state l r l'
  unfolding told_image
  known_told g ended store r l' k e did s m =
      rw (m, did.answer, s, e) (record { answer = known_answer k; image = rw (← k, ← e) did.image })
