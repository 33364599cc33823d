-- An unknown mode is refused; on a known one the step's answer is mirrored, with the name of its store.
use Rattle.contracts.specs.Call.{does}
use Rattle.liftlog.proofs.Tells.{unknown_told, known_told}
use Rattle.liftlog.proofs.Stored.{close_stored}
use Rattle.liftlog.proofs.calls.liftlog_close.Goals as goal

pub returns-in_default : goal.returns-in_default
returns-in_default c = unknown_told _ _ _ _ c.in_default.ensures.0 c.refused.ensures

pub returns : goal.returns
unfolding does
returns c =
    let store = close_stored _ c.in-Ok.ensures.1.1 c.in-Ok.ensures.1.2 _ _ _ _ c.close-ended.ensures c.of_metadata.ensures in
    known_told _ _ _ _ _ _ _ _ c.in-Ok.ensures.0 c.in-Ok.ensures.1.0 c.close-ended.ensures store c.mirrored.ensures
