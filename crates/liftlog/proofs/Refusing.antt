-- A refused call changes neither state nor image: on a known mode since the step on the log changes nothing, on any other byte since
-- no step is made.
use Prim.Native.Nat.{ℕ}
use mathlib.Core.Path.{◌≡◌, refl, ap, ◌∙◌}
use mathlib.Core.Bool.{Bool, true, false}
use mathlib.Core.List.{List}
use lib.ListN.{length}
use Rattle.refusals.specs.Order.{when}
use Rattle.medium.specs.Store.{count, laid}
use Rattle.metadata.specs.Metadata.{sizes_ok}
use Rattle.scan.specs.Scan.{scan}
use Rattle.state.specs.Change.{zero_state}
use Rattle.outcome.specs.Outcome.{Outcome}
use Rattle.outcome.specs.Enter.{sized}
use Rattle.counts.specs.Counts.{counts_of}
use Rattle.read.specs.Read.{read_answer}
use Rattle.contracts.specs.Call.{Call, head_finishes, is_open_call, does}
use Rattle.contracts.specs.Promises.{RefusedReadShowsNothing, RefusedCountsReportNothing}
use Rattle.contracts.proofs.OnState.{state_call}
use Rattle.contracts.proofs.Refusing.{create_leaves, open_leaves, refused_read_shows_nothing}
use Rattle.contracts.proofs.Determined.{refused_counts_report_nothing}
use Rattle.named.specs.Named.{nothing}
use Rattle.mirror.specs.declared.State.{State}
use Rattle.mirror.specs.declared.Answer.{Answer}
use Rattle.liftlog.specs.declared.Reading.{Reading}
use Rattle.liftlog.specs.declared.Report.{Report}
use Rattle.mirror.specs.Mirror.{known, log_of, state_of, answer, unknown_number}
use Rattle.liftlog.specs.Told.{Told, HeadFinishTold, CreateTold, OpenTold, mirrored, told_answer, told_image}
use Rattle.liftlog.specs.Shown.{reading, reading_of, told_reading, ReadTold, report, report_of, told_report, CountsTold}
use Rattle.mirror.proofs.Mirrors.{state_back}

-- ---- the steps

abbrev pub Stays : Call → Type 0
Stays c = (state : State) (l : List ℕ) (r : Answer) (l' : List ℕ) → Told c state l r l' → (r.number ≡ 0 → ⊥) → (r.state ≡ state) × (l' ≡ l)

-- every call on a state: where it leaves a log and its image, it leaves their mirror
pub step_stays : (c : Call) → is_open_call c ≡ false → Stays c
unfolding told_answer told_image
step_stays c on state l r l' t no' = by (known state.mode) refl t.answer t.image
  where
    o : Outcome
    o = does c (log_of state) l

    by :
        (b : Bool)
        → known state.mode ≡ b
        → r ≡ when b (mirrored o) (answer (unknown_number (sized state.e state.s (length l))) nothing state)
        → l' ≡ when b (laid (count o.store) o.store l) l
        → (r.state ≡ state) × (l' ≡ l)
    by true k a i =
        let left = (state_call c on).refused (log_of state) l (λ e. no' (ap (λ (x : Answer). x.number) a ∙ e)) in
        (ap (λ (x : Answer). x.state) a ∙ ap state_of left.0 ∙ state_back state k, i ∙ left.1 (count o.store) l)
    by false k a i = (ap (λ (x : Answer). x.state) a, i)

-- head finish takes the image only to measure it, so its contract speaks of the answer alone
pub head_finish_stays : (state : State) (l : List ℕ) (r : Answer) → HeadFinishTold state l r → (r.number ≡ 0 → ⊥) → r.state ≡ state
head_finish_stays state l r p no' =
    (step_stays head_finishes refl state l r (told_image head_finishes state l) (record { answer = p; image = refl }) no').0

-- ---- the calls that make a state: refused, a Closed state of zeros, and the image as it was

pub create_stays :
    (e s : ℕ) (l : List ℕ) (r : Answer) (l' : List ℕ)
    → CreateTold e s l r l'
    → (r.number ≡ 0 → ⊥)
    → (r.state ≡ state_of zero_state) × (l' ≡ l)
create_stays e s l r l' p no' =
    let left = create_leaves e s l (λ z. no' (ap (λ (x : Answer). x.number) p.0 ∙ z)) in
    (ap (λ (x : Answer). x.state) p.0 ∙ ap state_of left.0, p.1 ∙ left.1)

pub open_stays : (l : List ℕ) (r : Answer) → OpenTold l r → (r.number ≡ 0 → ⊥) → r.state ≡ state_of zero_state
open_stays l r p no' =
    ap (λ (x : Answer). x.state) p ∙ ap state_of (open_leaves (scan l) (λ z. no' (ap (λ (x : Answer). x.number) p ∙ z)))

-- ---- the calls that change nothing show nothing

pub read_shows_nothing :
    (state : State) (l : List ℕ) (x : ℕ) (r : Reading)
    → ReadTold state l x r
    → (r.number ≡ 0 → ⊥)
    → (r.place ≡ 0) × (r.length ≡ 0)
unfolding told_reading RefusedReadShowsNothing
read_shows_nothing state l x r p no' = by (known state.mode) p
  where
    by : (b : Bool) → r ≡ when b (reading_of (read_answer (log_of state) l x)) (reading (unknown_number (sized state.e state.s (length l))) 0 0) → (r.place ≡ 0) × (r.length ≡ 0)
    by true a =
        let none : (read_answer (log_of state) l x).number ≡ 0 → ⊥ = λ z. no' (ap (λ (y : Reading). y.number) a ∙ z) in
        let left = refused_read_shows_nothing (log_of state) l x in
        (ap (λ (y : Reading). y.place) a ∙ left.place none, ap (λ (y : Reading). y.length) a ∙ left.length none)
    by false a = (ap (λ (y : Reading). y.place) a, ap (λ (y : Reading). y.length) a)

pub counts_shows_nothing : (state : State) (r : Report) → CountsTold state r → (r.number ≡ 0 → ⊥) → (r.free ≡ 0) × (r.live ≡ 0)
unfolding told_report RefusedCountsReportNothing
counts_shows_nothing state r p no' = by (known state.mode) p
  where
    by : (b : Bool) → r ≡ when b (report_of (counts_of (log_of state))) (report (unknown_number (sizes_ok state.e state.s)) 0 0) → (r.free ≡ 0) × (r.live ≡ 0)
    by true a =
        let left = refused_counts_report_nothing (log_of state) (counts_of (log_of state)) refl (λ z. no' (ap (λ (y : Report). y.number) a ∙ z)) in
        (ap (λ (y : Report). y.free) a ∙ left.0, ap (λ (y : Report). y.live) a ∙ left.1)
    by false a = (ap (λ (y : Report). y.free) a, ap (λ (y : Report). y.live) a)
