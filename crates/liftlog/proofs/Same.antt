-- On a known mode an exported step is the step below, on the log that the state mirrors: what is proved of a log's life holds
-- of a life through these calls.
use Prim.Native.Nat.{ℕ}
use mathlib.Core.Path.{◌≡◌}
use mathlib.Core.Bool.{true}
use mathlib.Core.List.{List}
use Rattle.state.specs.State.{answer as log_answer}
use Rattle.outcome.specs.Outcome.{Did}
use Rattle.contracts.specs.Call.{Call, does}
use Rattle.mirror.specs.declared.State.{State}
use Rattle.mirror.specs.declared.Answer.{Answer}
use Rattle.mirror.specs.Mirror.{known, log_of}
use Rattle.liftlog.specs.Told.{Told, told_answer, told_image}
use Rattle.mirror.proofs.Mirrors.{log_back}

pub same_step :
    (call : Call) (state : State) (l : List ℕ) (r : Answer) (l' : List ℕ)
    → known state.mode ≡ true
    → Told call state l r l'
    → Did (does call (log_of state) l) l (log_answer r.number (log_of r.state)) l'
unfolding told_answer told_image
same_step call state l r l' k t =
    let a = rw k at t.answer in
    let i = rw k at t.image in
    record { answer = rw (a, log_back (does call (log_of state) l).next); image = i }
