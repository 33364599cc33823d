-- Which extents stay and which slots are free: what roll list keeps, and what head finish frees.
use Prim.Native.Nat.{ℕ, ◌^◌, ◌<◌}
use mathlib.Core.Path.{◌≡◌, refl, sym, ◌∙◌}
use mathlib.Core.Bool.{Bool, true, false}
use borrow.Author.Tests.{ne_eqb}
use lib.ListN.{length}
use Rattle.table.specs.Modes.{in_roll}
use Rattle.table.specs.declared.Step.TheVariants.{HeadFinish, RollList}
use Rattle.free.specs.Word.{bit_at}
use Rattle.free.proofs.Words.{none_at, one_at}
use Rattle.free.proofs.Free.{free_kept, free_says}
use Rattle.state.specs.declared.State.{State}
use Rattle.state.specs.State.{slots_in, or_zero, free_in}
use Rattle.well.proofs.Facts.{differ, roll_slot_below}
use Rattle.outcome.specs.Enter.{enter_number, mode_after}
use Rattle.outcome.proofs.Calls.{Entered, entered}
use Rattle.outcome.proofs.Modes.{mode_keeps}
use Rattle.roll.specs.List.{roll_list_outcome}
use Rattle.head.specs.Finish.{unpended_state, head_finish_outcome}
use Rattle.contracts.specs.Call.{does}
use Rattle.contracts.specs.Promises.{RollListKeeps, HeadFinishFrees}
use Rattle.contracts.proofs.Cases.{done_is, number_is}
use Rattle.contracts.proofs.RollList.{rolled_keeps}

-- ---- head finish

module _ (g : State) (len : ℕ) (n : Entered HeadFinish g len) (k : ℕ) (small : k < 64) (pending : bit_at g.pending k ≡ true) where
  -- the slot that a roll holds is not pending
  not_held : (t : Bool) → in_roll g.mode ≡ t → bit_at (or_zero t (2 ^ g.roll_slot.0)) k ≡ false
  not_held false e = none_at k
  not_held true e =
      let st = n.stands in
      let f = free_says g.s (slots_in g) g.pending 0 g.roll_slot.0 (st.well.roll.rolling e).free in
      let other : k ≡ g.roll_slot.0 → ⊥ = λ q. differ (bit_at g.pending g.roll_slot.0) (rw q at pending) f.not_pending in
      one_at g.roll_slot.0 k (roll_slot_below st e) small ∙ ne_eqb k g.roll_slot.0 other

  finished_frees : free_in (unpended_state g) k ≡ true
  finished_frees =
      let f = free_says g.s (slots_in g) 0 0 k (n.stands.well.pending.unlisted k small pending) in
      free_kept g.s (slots_in g) 0 (or_zero (in_roll (mode_after HeadFinish g)) (2 ^ g.roll_slot.0)) k
      (record { below = f.below; unlisted = f.unlisted; not_pending = none_at k; not_held = rw (mode_keeps n in_roll refl) (not_held (in_roll g.mode) refl) })

pub head_finish_frees : HeadFinishFrees
unfolding HeadFinishFrees does head_finish_outcome
head_finish_frees g l e k small pending =
    let z : enter_number HeadFinish g (length l) ≡ 0 = sym (number_is _ _ _ _) ∙ e in
    rw (done_is _ _ _ _ z) (finished_frees g (length l) (entered HeadFinish g (length l) z) k small pending)

-- ---- roll list

pub roll_list_keeps : RollListKeeps
unfolding RollListKeeps does roll_list_outcome
roll_list_keeps g l slots starts e =
    let z : enter_number RollList g (length l) ≡ 0 = sym (number_is _ _ _ _) ∙ e in
    rw (done_is _ _ _ _ z) (rolled_keeps g (length l) (entered RollList g (length l) z) slots starts)
