-- An unknown mode is refused; on a known one the reading of the log is shown, without the log.
use Rattle.liftlog.specs.Shown.{told_reading}
use Rattle.liftlog.proofs.show.liftlog_read.Goals as goal

pub returns-in_default : goal.returns-in_default
unfolding told_reading
returns-in_default c = rw (c.refused.ensures, c.unknown.ensures, c.sized-sized.ensures, ← c.in_default.ensures.0)

pub returns-in-Ok-read : goal.returns-in-Ok-read
unfolding told_reading
returns-in-Ok-read c = rw (← c.in-Ok.ensures.0, ← c.in-Ok.ensures.1.0, ← c.in-Ok-read.ensures)

pub returns-in-Err : goal.returns-in-Err
unfolding told_reading
returns-in-Err c = rw (c.refused-in-Err.ensures, ← c.in-Ok.ensures.0, ← c.in-Ok.ensures.1.0, ← c.in-Err.ensures)
