-- Each contract leaves one outcome: it is an equation with a definition. And an answer is that of one `Result`.
use Prim.Native.Nat.{◌-◌}
use mathlib.Core.Path.{◌≡◌, refl, sym, ap, ◌∙◌}
use mathlib.Core.Bool.{Bool, true, false}
use borrow.Author.Tests.{eqb-false}
use lib.Dec.{eqb}
use Rattle.refusals.specs.Order.{when}
use Rattle.free.specs.Word.{count}
use Rattle.state.specs.declared.State.{State}
use Rattle.state.specs.State.{free_in}
use Rattle.state.specs.Change.{zero_state}
use Rattle.state.proofs.Once.{answered_once}
use Rattle.counts.specs.Counts.{Report}
use Rattle.counts.specs.Counts.{counts_number, counted, uncounted, counts_of, CountsContract}
use Rattle.counts.proofs.Once.{reported_once}
use Rattle.read.proofs.Once.{shown_once}
use Rattle.contracts.specs.Promises.{Refused, NoSecondOutcome, NoSecondAnswer, NoSecondResult, CountsNotInvented, RefusedCountsReportNothing}

one : {A : Type 0} (x r r' : A) → r ≡ x → r' ≡ x → r ≡ r'
one x r r' p q = p ∙ sym q

pub no_second_outcome : NoSecondOutcome
unfolding NoSecondOutcome
no_second_outcome c g k l r r' a a' p q = (one _ r r' p.answer q.answer, one _ a a' p.image q.image)

pub no_second_answer : NoSecondAnswer
no_second_answer = record {
  of_create = λ e s l r r' a a' p q. (one _ r r' p.0 q.0, one _ a a' p.1 q.1);
  of_open = λ l r r' p q. one _ r r' p q;
  of_head_finish = λ g l r r' p q. one _ r r' p q;
  of_read = λ g l x r r' p q. one _ r r' p q;
  of_part = λ g l x a a' p q. one _ a a' p q;
  of_counts = λ g r r' p q. one _ r r' p q;
}

pub no_second_result : NoSecondResult
no_second_result = record {
  of_create = λ e s l r r' a a' p q. (answered_once zero_state r r' (one _ _ _ p.0 q.0), one _ a a' p.1 q.1);
  of_open = λ l r r' p q. answered_once zero_state r r' (one _ _ _ p q);
  of_step = λ c g k l r r' a a' p q. (answered_once g r r' (one _ _ _ p.answer q.answer), one _ a a' p.image q.image);
  of_head_finish = λ g l r r' p q. answered_once g r r' (one _ _ _ p q);
  of_read = λ g l x r r' p q. shown_once g r r' (one _ _ _ p q);
  of_counts = λ g r r' p q. reported_once r r' (one _ _ _ p q);
}

-- ---- counts: done, or refused

module _ (g : State) (r : Report) (p : CountsContract g r) where
  abbrev answered : Bool → Report
  answered t = when t (counted g) (uncounted (counts_number g))

  pub counts_by : (P : Report → Type 0) → (r ≡ counted g → P r) → (Refused (counts_number g) → r ≡ uncounted (counts_number g) → P r) → P r
  unfolding counts_of
  counts_by P done refused = by (eqb (counts_number g) 0) refl p
    where
      by : (t : Bool) → eqb (counts_number g) 0 ≡ t → r ≡ answered t → P r
      by true q s = done s
      by false q s = refused (eqb-false (counts_number g) 0 q) s

pub counts_not_invented : CountsNotInvented
unfolding CountsNotInvented
counts_not_invented g r p e =
    counts_by g r p (λ (c : Report). (c.free ≡ count (free_in g) 64) × (c.live ≡ g.tail.0 - g.head.0))
    (λ s. (ap (λ (c : Report). c.free) s, ap (λ (c : Report). c.live) s))
    (λ no' s. absurd (no' (sym (ap (λ (c : Report). c.number) s) ∙ e)))

pub refused_counts_report_nothing : RefusedCountsReportNothing
unfolding RefusedCountsReportNothing
refused_counts_report_nothing g r p no' =
    counts_by g r p (λ (c : Report). (c.free ≡ 0) × (c.live ≡ 0))
    (λ s. absurd (no' (ap (λ (c : Report). c.number) s)))
    (λ no'' s. (ap (λ (c : Report). c.free) s, ap (λ (c : Report). c.live) s))
