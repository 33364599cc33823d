-- The turns of the calls that store nothing: head finish, read and counts leave the image and the book. Head finish leads to the mode
-- without H, which knows the same.
use Prim.Native.Nat.{ℕ}
use mathlib.Core.Path.{refl, sym, ◌∙◌}
use lib.ListN.{length}
use Rattle.stores.specs.Stores.{no_store}
use Rattle.table.specs.declared.Step.TheVariants.{HeadFinish}
use Rattle.outcome.proofs.Calls.{entered}
use Rattle.outcome.proofs.Modes.{mode_keeps}
use Rattle.head.specs.Finish.{head_finish_outcome}
use Rattle.contracts.specs.Call.{head_finishes, reads, counts, does}
use Rattle.life.proofs.Invariant.{wiped_in, marked_in, zeroed_in, written_in}
use Rattle.life.proofs.Turns.Done.{done, outcome_done}
use Rattle.life.proofs.Turns.Moves.{Turning, turned, still}

-- head finish: the mode without H knows what the mode with it knew
pub head_finish_turn : Turning head_finishes
unfolding does head_finish_outcome
head_finish_turn g l b y r s z =
    let d = outcome_done _ _ _ _ z in
    let n = entered HeadFinish g (length l) d.0 in
    turned d.1 (still r (record {
      tied = record { is = s.tied.is };
      wiped = λ e. s.wiped (sym (mode_keeps n wiped_in refl) ∙ e);
      marked = λ e. s.marked (sym (mode_keeps n marked_in refl) ∙ e);
      zeroed = λ e. s.zeroed (sym (mode_keeps n zeroed_in refl) ∙ e);
      written = λ e. let w = s.written (sym (mode_keeps n written_in refl) ∙ e) in record { clean = w.clean; size = w.size };
    }))

-- read and counts: only a look
pub read_turn : (x : ℕ) → Turning (reads x)
unfolding does
read_turn x g l b y r s z = turned {o = done g no_store} (rw z) (still r s)

pub counts_turn : Turning counts
unfolding does
counts_turn g l b y r s z = turned {o = done g no_store} (rw z) (still r s)
