-- Recovery: open, wipe, mark change no record, however often they are cut, and whole they lead to Run. So recovery can be repeated, and
-- the log is never stuck.
use Prim.Native.Nat.{ℕ}
use mathlib.Core.Path.{◌≡◌, refl, sym, ap, ◌∙◌}
use mathlib.Core.List.{List, [], ◌∷◌}
use mathlib.Core.Bool.{Bool, true, false, ◌&&◌}
use lib.Dec.{leb, eqb}
use lib.ListN.{length}
use Rattle.refusals.specs.Order.{when}
use Rattle.medium.specs.Store.{count}
use Rattle.table.specs.Next.{next_of}
use Rattle.table.specs.declared.Mode.{Mode}
use Rattle.table.specs.declared.Mode.TheVariants.{Opened, Wiped, Run}
use Rattle.table.specs.declared.Step.{Step}
use Rattle.table.specs.declared.Step.TheVariants.{Wipe, Mark}
use Rattle.std.specs.Prelude.{Some}
use Rattle.outcome.specs.Outcome.{Outcome}
use Rattle.outcome.specs.Enter.{led_to, enter_number}
use Rattle.outcome.specs.Rest.{rest_outcome}
use Rattle.recovery.specs.Recovery.{mark_outcome}
use Rattle.contracts.specs.Call.{Call, opens, wipes, marks, does}
use Rattle.contracts.proofs.Cases.{number_is}
use Rattle.life.specs.Life.{History, happens, World, Event, call, cut, dark, recorded, step, lives}
use Rattle.life.specs.Follows.{records_in, Recovering, opening, wiping, marking, Recovery, RecoveryAgain, opened_again, wiped_again, Recovers}
use Rattle.life.specs.Follows.{NeverStuck}
use Rattle.life.proofs.Book.{Constants}
use Rattle.life.proofs.Invariant.{Inv}
use Rattle.life.proofs.Turns.Done.{did, outcome_done}
use Rattle.life.proofs.Turns.Reopens.{open_does}
use Rattle.life.proofs.Events.{stands_in, open_number_is, event_inv}
use Rattle.life.proofs.Lives.{lives_inv, lived_inv}
use Rattle.life.proofs.Follows.Stays.{shown_is}
use Rattle.life.proofs.Follows.Fine.{enter_is}

-- ---- the history stays

recovering_same : {c : Call} (y : History) → Recovering c → happens c y ≡ y
recovering_same y opening = refl
recovering_same y wiping = refl
recovering_same y marking = refl

recorded_same : {c : Call} (o : Outcome) (k : ℕ) (y : History) → Recovering c → recorded c o k y ≡ y
recorded_same {c} o k y r = by (eqb o.number 0 && leb (count o.store) k)
  where
    by : (t : Bool) → when t (happens c y) y ≡ y
    by true = recovering_same y r
    by false = refl

recovery_history : (vs : List Event) (w : World) → Recovery vs → (lives vs w).history ≡ w.history
unfolding lives step
recovery_history [] w r = refl
recovery_history (call c ∷ vs) w r = recovery_history vs (step (call c) w) r.1 ∙ recorded_same (did w c) _ w.history r.0
recovery_history (cut c k ∷ vs) w r = recovery_history vs (step (cut c k) w) r.1 ∙ recorded_same (did w c) k w.history r.0
recovery_history (dark ∷ vs) w r = recovery_history vs (step dark w) r

-- ---- one whole recovery

module _ {f : Constants} (w : World) (i : Inv f w) where
  opened_mode : (opened_again w).log.mode ≡ Opened
  unfolding step
  opened_mode = ap (λ (o : Outcome). o.next.mode) (open_does i.rests w.log)

  -- in a mode that admits it, wipe or mark answers 0 and leads where the table says
  enters_in :
      (step : Step) (m n : Mode)
      → w.held ≡ true
      → w.log.mode ≡ m
      → next_of step m ≡ Some n
      → enter_number step w.log (length w.image) ≡ 0
  enters_in step m n h e q = enter_is i.rests (stands_in i h) step ∙ rw (e, q)

  leads_in : (step : Step) (m n : Mode) → w.log.mode ≡ m → next_of step m ≡ Some n → led_to (next_of step w.log.mode) w.log.mode ≡ n
  leads_in step m n e q = rw (e, q)

  module _ (h : w.held ≡ true) where
    wipe_number : w.log.mode ≡ Opened → (did w wipes).number ≡ 0
    unfolding does rest_outcome next_of
    wipe_number e = number_is _ _ _ _ ∙ enters_in Wipe Opened Wiped h e refl

    wipe_mode : w.log.mode ≡ Opened → (did w wipes).next.mode ≡ Wiped
    unfolding does rest_outcome next_of
    wipe_mode e = ap (λ (o : Outcome). o.next.mode) (outcome_done _ _ _ _ (wipe_number e)).1 ∙ leads_in Wipe Opened Wiped e refl

    mark_number : w.log.mode ≡ Wiped → (did w marks).number ≡ 0
    unfolding does mark_outcome next_of
    mark_number e = number_is _ _ _ _ ∙ enters_in Mark Wiped Run h e refl

    mark_mode : w.log.mode ≡ Wiped → (did w marks).next.mode ≡ Run
    unfolding does mark_outcome next_of
    mark_mode e = ap (λ (o : Outcome). o.next.mode) (outcome_done _ _ _ _ (mark_number e)).1 ∙ leads_in Mark Wiped Run e refl

pub recovers : {f : Constants} (w : World) → Inv f w → Recovers w
unfolding step lives
recovers w i =
    let w₁ : World = opened_again w in
    let w₂ : World = wiped_again w in
    let i₁ = event_inv w i (call opens) in
    let m₁ = opened_mode w i in
    let i₂ = event_inv w₁ i₁ (call wipes) in
    let m₂ : w₂.log.mode ≡ Wiped = wipe_mode w₁ i₁ refl m₁ in
    record {
      open_answers = open_number_is w i;
      wipe_answers = wipe_number w₁ i₁ refl m₁;
      mark_answers = mark_number w₂ i₂ refl m₂;
      runs = mark_mode w₂ i₂ refl m₂;
      in_hand = refl;
      same = recovery_history (call opens ∷ call wipes ∷ call marks ∷ []) w (opening, (wiping, (marking, tt)));
    }

pub never_stuck : NeverStuck
unfolding NeverStuck
never_stuck w n = recovers w (lived_inv n)

pub recovery_again : RecoveryAgain
unfolding RecoveryAgain
recovery_again w n vs r =
    let i = lived_inv n in
    shown_is (lives_inv vs w i) ∙ ap records_in (recovery_history vs w r) ∙ sym (shown_is i)
