-- What is asked only in modes to which a step does not lead need not be shown of its next state: read off the table's lines, one
-- computed test each.
use Prim.Native.Nat.{ℕ}
use mathlib.Core.Path.{◌≡◌, sym, ◌∙◌}
use mathlib.Core.Bool.{Bool, true, false}
use native.Mathlib.Omega.{arith}
use Rattle.table.specs.Next.{lines}
use Rattle.table.specs.declared.Mode.{Mode}
use Rattle.table.specs.declared.Step.{Step}
use Rattle.table.proofs.Rule.{all}
use Rattle.state.specs.declared.State.{State}
use Rattle.well.specs.Well.{same}
use Rattle.outcome.specs.Enter.{mode_after}
use Rattle.outcome.proofs.Calls.{Entered}
use Rattle.outcome.proofs.Modes.{mode_after_is}

pub never : {A : Type 0} → false ≡ true → A
never e = absurd (let z : ◌≡◌ {A = ℕ} 0 1 = cc in omega arith)

-- no line of the step leads to a mode in f
pub not_after :
    {A : Type 0} {step : Step} {g : State} {len : ℕ} (n : Entered step g len) (f : Mode → Bool)
    → all (λ x. same (f x.to) false) (lines step) ≡ true
    → f (mode_after step g) ≡ true
    → A
not_after n f t e = never (sym (mode_after_is n f false t) ∙ e)
