-- The first step of every log's life is done, for all E and S in range: wipe of what open gives of what create leaves.
use Prim.Native.Nat.{ℕ, ◌+◌, ◌*◌}
use mathlib.Core.Path.{◌≡◌, refl, ap}
use mathlib.Core.Bool.{true}
use borrow.Author.Tests.{eq-eqb}
use lib.ListN.{length}
use Rattle.refusals.specs.Order.{first_of}
use Rattle.metadata.specs.Metadata.{sizes_ok}
use Rattle.table.specs.Next.{next_of}
use Rattle.table.specs.declared.Mode.TheVariants.{Opened}
use Rattle.table.specs.declared.Step.{Step}
use Rattle.table.specs.declared.Step.TheVariants.{Wipe}
use Rattle.state.specs.declared.State.{State}
use Rattle.state.specs.Change.{in_mode}
use Rattle.well.specs.Well.{well_formed}
use Rattle.well.proofs.Facts.{well_kept}
use Rattle.outcome.specs.Outcome.{Outcome}
use Rattle.outcome.specs.Enter.{sized, leads, enter_number}
use Rattle.outcome.specs.Rest.{rest_outcome}
use Rattle.create.specs.Create.{fresh_state, fresh_image}
use Rattle.recovery.specs.Recovery.{wipe_outcome}
use Rattle.contracts.proofs.Cases.{done_is}
use Rattle.contracts.proofs.Begins.{fresh_sized}
use Rattle.contracts.proofs.Created.{fresh_well}

enter_kept :
    (step : Step) (g : State) (len : ℕ)
    → sized g.e g.s len ≡ true
    → well_formed g ≡ true
    → leads (next_of step g.mode) ≡ true
    → enter_number step g len ≡ 0
unfolding enter_number first_of
enter_kept step g len t w a = rw (t, w, a)

module _ (e s : ℕ) (t : sizes_ok e s ≡ true) where
  fresh_enters : enter_number Wipe (in_mode Opened (fresh_state e s)) (length (fresh_image e s)) ≡ 0
  unfolding sized next_of fresh_state
  fresh_enters =
      enter_kept Wipe (in_mode Opened (fresh_state e s)) (length (fresh_image e s))
      (rw (t, eq-eqb (length (fresh_image e s)) (84 + s * e) (fresh_sized e s t)))
      (well_kept (in_mode Opened (fresh_state e s)) (fresh_well e s t Opened refl))
      refl

  pub fresh_wipes : (wipe_outcome (in_mode Opened (fresh_state e s)) (fresh_image e s)).number ≡ 0
  unfolding rest_outcome
  fresh_wipes = ap (λ (o : Outcome). o.number) (done_is _ _ _ _ fresh_enters)

  pub fresh_wiped : (wipe_outcome (in_mode Opened (fresh_state e s)) (fresh_image e s)).next.e ≡ e
  unfolding rest_outcome fresh_state
  fresh_wiped = ap (λ (o : Outcome). o.next.e) (done_is _ _ _ _ fresh_enters)
