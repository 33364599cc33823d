-- What open answers, mirrored.
use Rattle.named.specs.Named.{named}
use Rattle.liftlog.proofs.begin.liftlog_open.Goals as goal

pub returns : goal.returns
unfolding named
returns c = rw (c.mirrored.ensures, c.zero.ensures, c.nothing.ensures, c.«open».ensures)
