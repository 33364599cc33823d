-- The calls one by one, once: each but open is a call on a state, which changes nothing where it is refused, is done only where E
-- and S are in range, and then leaves a well-formed state. What holds of every call follows.
use Prim.Native.Nat.{ℕ}
use mathlib.Core.Path.{◌≡◌, refl, sym, ◌∙◌}
use mathlib.Core.List.{List}
use mathlib.Core.Bool.{true, false}
use native.Mathlib.Omega.{arith}
use lib.ListN.{length}
use Rattle.refusals.proofs.First.{none_refuses}
use Rattle.medium.specs.Store.{Store}
use Rattle.metadata.specs.Metadata.{sizes_ok}
use Rattle.table.specs.declared.Step.{Step}
use Rattle.table.specs.declared.Step.TheVariants.{Wipe, Mark, Append, RollBegin, RollWrite, RollList, HeadStart, HeadFinish, TailStart, TailFinish}
use Rattle.table.specs.declared.Step.TheVariants.{Close, Read}
use Rattle.state.specs.declared.State.{State}
use Rattle.well.proofs.Facts.{Well, Standing, well_kept}
use Rattle.outcome.specs.Outcome.{outcome}
use Rattle.outcome.specs.Enter.{enter_number}
use Rattle.outcome.specs.Rest.{rest_outcome}
use Rattle.outcome.proofs.Calls.{laid_nothing, entered}
use Rattle.counts.proofs.Stand.{counts_stand}
use Rattle.recovery.specs.Recovery.{mark_outcome}
use Rattle.append.specs.Append.{append_number, append_outcome}
use Rattle.append.proofs.Appends.{appends as appends_says}
use Rattle.roll.specs.Begin.{roll_begin_number, roll_begin_outcome}
use Rattle.roll.specs.Write.{roll_write_number, roll_write_outcome}
use Rattle.roll.specs.List.{roll_list_outcome}
use Rattle.roll.proofs.Rolls.{begins, writes}
use Rattle.head.specs.Start.{head_start_number, head_start_outcome}
use Rattle.head.specs.Finish.{head_finish_outcome}
use Rattle.head.proofs.Heads.{heads}
use Rattle.tail.specs.Start.{tail_start_number, tail_start_outcome}
use Rattle.close.specs.Close.{close_outcome}
use Rattle.read.specs.Read.{number_of_read}
use Rattle.contracts.specs.Call.{Call, opens, wipes, marks, appends, roll_begins, roll_writes, roll_lists, head_starts, head_finishes, tail_starts}
use Rattle.contracts.specs.Call.{tail_finishes, closes, reads, counts, is_open_call, does}
use Rattle.contracts.specs.Promises.{Leaves, Settled, Settles}
use Rattle.contracts.proofs.Cases.{done_is, refused_is, number_is}
use Rattle.contracts.proofs.Stay.{moved_well, closed_well, unpended_well, appended_well, begun_well}
use Rattle.contracts.proofs.HeadStart.{headed_well, headed_arrays}
use Rattle.contracts.proofs.RollList.{rolled_well, rolled_arrays}
use Rattle.contracts.proofs.TailStart.{tails, withdrawn_well, withdrawn_arrays}

pub record OnState (c : Call) : Type 0 where
  pub on_state : is_open_call c ≡ false
  pub refused : (g : State) (l : List ℕ) → Leaves g (does c g l)
  pub sized : (g : State) (l : List ℕ) → (does c g l).number ≡ 0 → sizes_ok g.e g.s ≡ true
  pub settles : (g : State) (l : List ℕ) → Settles g (does c g l)

pub data OpenOr : Call → Type 0 where
  is_open : OpenOr opens
  others : {c : Call} → OnState c → OpenOr c

settled : {g : State} → Well g → length g.slots ≡ 64 → length g.starts ≡ 64 → Settled g
settled {g} w slots starts = record { well = well_kept g w; slots = slots; starts = starts }

-- a step: an outcome whose number begins with 1, 2, 3
step_on :
    (c : Call) (step : Step) (number : State → List ℕ → ℕ) (next : State → List ℕ → State) (store : State → List ℕ → Store)
    → is_open_call c ≡ false
    → ((g : State) (l : List ℕ) → does c g l ≡ outcome (number g l) g (next g l) (store g l))
    → ((g : State) (l : List ℕ) → number g l ≡ 0 → enter_number step g (length l) ≡ 0)
    → ((g : State) (l : List ℕ) → number g l ≡ 0 → length g.slots ≡ 64 → length g.starts ≡ 64 → Settled (next g l))
    → OpenOr c
step_on c step number next store on is enters keeps = others {c = c} (record {
  on_state = on;
  refused = λ g l. rw (is g l) (λ no'.
      rw (refused_is (number g l) g (next g l) (store g l) (λ e. no' (number_is (number g l) g (next g l) (store g l) ∙ e))) (refl, laid_nothing));
  sized = λ g l e. (entered step g (length l) (enters g l (done g l e))).stands.sizes;
  settles = λ g l slots starts e.
      let z = done g l e in
      rw (is g l, done_is (number g l) g (next g l) (store g l) z) (keeps g l z slots starts);
})
  where
    done : (g : State) (l : List ℕ) → (does c g l).number ≡ 0 → number g l ≡ 0
    done g l e = sym (number_is (number g l) g (next g l) (store g l)) ∙ (rw (is g l) at e)

-- the eleven steps, and the two calls that only look
pub open_or : (c : Call) → OpenOr c
unfolding
    does rest_outcome mark_outcome append_outcome append_number roll_begin_outcome roll_begin_number roll_write_outcome roll_write_number roll_list_outcome
    head_start_outcome head_start_number head_finish_outcome tail_start_outcome tail_start_number close_outcome
open_or opens = is_open
open_or wipes = step_on wipes Wipe _ _ _ refl (λ g l. refl) (λ g l e. e) (λ g l e. settled (moved_well (entered Wipe g (length l) e) refl refl))
open_or marks = step_on marks Mark _ _ _ refl (λ g l. refl) (λ g l e. e) (λ g l e. settled (moved_well (entered Mark g (length l) e) refl refl))
open_or (appends p) =
    step_on (appends p) Append _ _ _ refl (λ g l. refl) (λ g l e. (none_refuses _ _ e).0)
    (λ g l e. settled (appended_well g (length l) (length p) (appends_says g (length l) (length p) e)))
open_or (roll_begins n) =
    step_on (roll_begins n) RollBegin _ _ _ refl (λ g l. refl) (λ g l e. (none_refuses _ _ e).0)
    (λ g l e. settled (begun_well g (length l) n (begins g (length l) n e)))
open_or (roll_writes p) =
    step_on (roll_writes p) RollWrite _ _ _ refl (λ g l. refl) (λ g l e. (none_refuses _ _ e).0)
    (λ g l e. settled (moved_well (writes g (length l) (length p) e).enters refl refl))
open_or roll_lists =
    step_on roll_lists RollList _ _ _ refl (λ g l. refl) (λ g l e. e) (λ g l e slots starts.
    let n = entered RollList g (length l) e in
    let r = rolled_arrays g (length l) n slots starts in
    settled (rolled_well g (length l) n slots starts) r.0 r.1)
open_or (head_starts h) =
    step_on (head_starts h) HeadStart _ _ _ refl (λ g l. refl) (λ g l e. (none_refuses _ _ e).0) (λ g l e slots starts.
    let n = heads g (length l) h e in
    let r = headed_arrays g (length l) h n slots starts in
    settled (headed_well g (length l) h n slots starts) r.0 r.1)
open_or head_finishes =
    step_on head_finishes HeadFinish _ _ _ refl (λ g l. refl) (λ g l e. e)
    (λ g l e. settled (unpended_well g (length l) (entered HeadFinish g (length l) e)))
open_or (tail_starts t) =
    step_on (tail_starts t) TailStart _ _ _ refl (λ g l. refl) (λ g l e. (none_refuses _ _ e).0) (λ g l e slots starts.
    let n = tails g l t e in
    let r = withdrawn_arrays g l t n slots starts in
    settled (withdrawn_well g l t n slots starts) r.0 r.1)
open_or tail_finishes =
    step_on tail_finishes TailFinish _ _ _ refl (λ g l. refl) (λ g l e. e)
    (λ g l e. settled (moved_well (entered TailFinish g (length l) e) refl refl))
open_or closes =
    step_on closes Close _ _ _ refl (λ g l. refl) (λ g l e. e) (λ g l e. settled (closed_well g (length l) (entered Close g (length l) e)))
open_or (reads x) = others {c = reads x} (record {
  on_state = refl;
  refused = λ g l no'. (refl, laid_nothing);
  sized = λ g l e. (stands g l e).sizes;
  settles = λ g l slots starts e. settled (stands g l e).well slots starts;
})
  where
    stands : (g : State) (l : List ℕ) → number_of_read g l x ≡ 0 → Standing g
    stands g l e = unfold number_of_read in (entered Read g (length l) (none_refuses _ _ e).0).stands
open_or counts = others {c = counts} (record {
  on_state = refl;
  refused = λ g l no'. (refl, laid_nothing);
  sized = λ g l e. (counts_stand g e).sizes;
  settles = λ g l slots starts e. settled (counts_stand g e).well slots starts;
})

-- every call but open is one
pub state_call : (c : Call) → is_open_call c ≡ false → OnState c
state_call c e = by (open_or c) e
  where
    by : {c : Call} → OpenOr c → is_open_call c ≡ false → OnState c
    by is_open q = let z : ◌≡◌ {A = ℕ} 0 1 = cc in absurd (omega arith)
    by (others on) q = on
