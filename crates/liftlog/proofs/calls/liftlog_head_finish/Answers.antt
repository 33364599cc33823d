-- As every step, without an image to change.
use Rattle.liftlog.proofs.Stored.{finish_told}
use Rattle.liftlog.proofs.Tells.{unknown_answer}
use Rattle.liftlog.proofs.calls.liftlog_head_finish.Goals as goal

pub returns-in_default : goal.returns-in_default
returns-in_default c = rw c.refused.ensures (unknown_answer _ _ _ c.in_default.ensures.0)

pub returns : goal.returns
returns c =
    rw (c.mirrored.ensures, c.nothing.ensures, c.head_finish.ensures, c.in-Ok.ensures.1.0)
    (finish_told _ _ c.in-Ok.ensures.0)
