-- What create answers, mirrored.
use Rattle.std.proofs.Common.{refl}
use Rattle.named.specs.Named.{named}
use Rattle.liftlog.proofs.begin.liftlog_create.Goals as goal

pub returns : goal.returns
unfolding named
returns c = rw (c.mirrored.ensures, c.zero.ensures, c.nothing.ensures, c.create.ensures.0) (refl, c.create.ensures.1)
