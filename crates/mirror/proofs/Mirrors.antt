-- The mirror loses nothing: a log comes back from its mirror, a state with a known mode from its log, and every mirror of a log
-- has a known mode.
use mathlib.Core.Path.{◌≡◌}
use mathlib.Core.Bool.{true}
use borrow.Author.Tests.{ltb-true, lt-ltb}
use Rattle.table.specs.Next.{mode_no}
use Rattle.table.proofs.Rule.{mode_below, mode_back, number_back}
use Rattle.state.specs.declared.State.{State as Log}
use Rattle.mirror.specs.declared.State.{State}
use Rattle.mirror.specs.Mirror.{known, log_of, state_of}

pub log_back : (g : Log) → log_of (state_of g) ≡ g
unfolding log_of state_of
log_back g = rw (mode_back g.mode)

pub state_back : (state : State) → known state.mode ≡ true → state_of (log_of state) ≡ state
unfolding log_of state_of
state_back state t = rw (number_back state.mode (ltb-true state.mode 10 t))

pub made_known : (g : Log) → known (state_of g).mode ≡ true
unfolding state_of
made_known g = lt-ltb (mode_no g.mode) 10 (mode_below g.mode)
