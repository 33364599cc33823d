-- An unknown mode is refused; on a known one the counts of the log are shown.
use Rattle.liftlog.specs.Shown.{told_report}
use Rattle.liftlog.proofs.show.liftlog_counts.Goals as goal

pub returns-in_default : goal.returns-in_default
unfolding told_report
returns-in_default c = rw (c.refused.ensures, c.unknown.ensures, c.sizes_ok-sized.ensures, ← c.in_default.ensures.0)

pub returns-in-Ok-count : goal.returns-in-Ok-count
unfolding told_report
returns-in-Ok-count c = rw (← c.in-Ok.ensures.0, ← c.in-Ok.ensures.1.0, ← c.in-Ok-count.ensures)

pub returns-in-Err : goal.returns-in-Err
unfolding told_report
returns-in-Err c = rw (c.refused-in-Err.ensures, ← c.in-Ok.ensures.0, ← c.in-Ok.ensures.1.0, ← c.in-Err.ensures)
