-- An unknown mode is refused; on a known one the step's answer is mirrored, with the name of its store.
use Rattle.contracts.specs.Call.{does}
use Rattle.liftlog.proofs.Tells.{unknown_told, known_told}
use Rattle.liftlog.proofs.Stored.{append_known, append_stored}
use Rattle.liftlog.proofs.calls.liftlog_append.Goals as goal

pub returns-in_default : goal.returns-in_default
returns-in_default c = unknown_told _ _ _ _ c.in_default.ensures.0 c.refused.ensures

pub of_append-requires : goal.of_append-requires
of_append-requires c = append_known _ _ _ _ _ c.append-ended.ensures

pub returns : goal.returns
unfolding does
returns c =
    let store = append_stored _ _ _ _ _ c.append-ended.ensures _ c.of_append.ensures in
    known_told _ _ _ _ _ _ _ _ c.in-Ok.ensures.0 c.in-Ok.ensures.1.0 c.append-ended.ensures store c.mirrored.ensures
