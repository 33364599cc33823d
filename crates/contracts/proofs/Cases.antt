-- The two cases of an outcome: done where the number is 0, refused where it is not.
use Prim.Native.Nat.{ℕ}
use mathlib.Core.Path.{◌≡◌, refl, sym}
use mathlib.Core.Bool.{Bool, true, false}
use borrow.Author.Tests.{eq-eqb, ne_eqb, eqb-true}
use lib.Dec.{eqb}
use Rattle.refusals.specs.Order.{when}
use Rattle.medium.specs.Store.{Store}
use Rattle.stores.specs.Stores.{no_store}
use Rattle.state.specs.declared.State.{State}
use Rattle.outcome.specs.Outcome.{Outcome, outcome}

module _ (k : ℕ) (g next : State) (store : Store) where
  pub done_is : k ≡ 0 → outcome k g next store ≡ record { number = 0; next = next; store = store }
  unfolding outcome
  done_is e = rw (eq-eqb k 0 e)

  pub refused_is : (k ≡ 0 → ⊥) → outcome k g next store ≡ record { number = k; next = g; store = no_store }
  unfolding outcome
  refused_is no' = rw (ne_eqb k 0 no')

  pub number_is : (outcome k g next store).number ≡ k
  unfolding outcome
  number_is = by (eqb k 0) refl
    where
      by : (t : Bool) → eqb k 0 ≡ t → (when {A = Outcome} t (record { number = 0; next = next; store = store }) (record { number = k; next = g; store = no_store })).number ≡ k
      by true e = sym (eqb-true k 0 e)
      by false e = refl
