-- A done call is its outcome; a call on a state leaves in hand what was, and is refused by a lost state.
use Prim.Native.Nat.{ℕ}
use mathlib.Core.Path.{◌≡◌, sym, ap, ◌∙◌}
use mathlib.Core.List.{List}
use mathlib.Core.Bool.{Bool}
use native.Mathlib.Omega.{arith}
use Rattle.medium.specs.Store.{Store}
use Rattle.metadata.proofs.Facts.{sizes_say}
use Rattle.stores.specs.Stores.{metadata_store}
use Rattle.state.specs.declared.State.{State}
use Rattle.state.specs.State.{metadata_of}
use Rattle.outcome.specs.Outcome.{Outcome, outcome}
use Rattle.contracts.specs.Call.{Call, does}
use Rattle.contracts.proofs.Cases.{number_is, done_is}
use Rattle.contracts.proofs.OnState.{OnState}
use Rattle.life.specs.Life.{opening, World}

-- ---- outcomes

-- what a call does in a world
abbrev pub did : World → Call → Outcome
did w c = does c w.log w.image

abbrev pub done : State → Store → Outcome
done next store = record { number = 0; next = next; store = store }

-- a deciding step, which stores the next state's metadata
abbrev pub decided : Bool → State → Outcome
decided clean next = done next (metadata_store (metadata_of clean next))

pub outcome_done : (k : ℕ) (g next : State) (store : Store) → (outcome k g next store).number ≡ 0 → (k ≡ 0) × (outcome k g next store ≡ done next store)
outcome_done k g next store e =
    let z : k ≡ 0 = sym (number_is k g next store) ∙ e in
    (z, done_is k g next store z)

-- with its store told otherwise
pub outcome_as :
    (k : ℕ) (g next : State) (store : Store) {told : Store}
    → store ≡ told
    → (outcome k g next store).number ≡ 0
    → (k ≡ 0) × (outcome k g next store ≡ done next told)
outcome_as k g next store same e = let d = outcome_done k g next store e in (d.0, d.1 ∙ ap (done next) same)

-- ---- calls on a state

-- they leave in hand what was
pub keeps_hand : {c : Call} → OnState c → (held : Bool) → opening c held ≡ held
keeps_hand on held = rw on.on_state

-- the state of zeros is refused by each
pub lost_refuses : {c : Call} (o : OnState c) (g : State) (l : List ℕ) → g.e ≡ 0 → (does c g l).number ≡ 0 → ⊥
lost_refuses o g l z e = omega (arith, (sizes_say g.e g.s (o.sized g l e)).e_low)
