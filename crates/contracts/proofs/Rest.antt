-- A state with no pending slot, and a state with no roll.
use mathlib.Core.Path.{◌≡◌}
use mathlib.Core.Bool.{false}
use Rattle.table.specs.Modes.{in_roll}
use Rattle.free.specs.Word.{bit_at}
use Rattle.free.proofs.Words.{none_at}
use Rattle.state.specs.declared.State.{State}
use Rattle.well.proofs.Facts.{Pending, Resting, Roll, differ}

pub none_pending : (g : State) → g.pending ≡ 0 → Pending g
none_pending g e = record { unlisted = λ k h b. absurd (differ (bit_at 0 k) (rw e at b) (none_at k)); none = λ n. e }

pub no_roll : (g : State) → in_roll g.mode ≡ false → Resting g → Roll g
no_roll g i r = record { rolling = λ e. absurd (differ (in_roll g.mode) e i); resting = λ e. r }
