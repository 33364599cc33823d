-- A piece's digits go behind those of what came before it.
use Rattle.std.proofs.Common.{[], ◌∷◌, ◌++◌, ℕ, List, sym, ap, ◌∙◌, append_assoc}
use Rattle.text.specs.Hex.{hex_of}
use Rattle.logrun_show.proofs.Spelled.{appends_both, hex_append, all_came}
use Rattle.logrun_show.proofs.show.hex.Goals as goal

pub loop-piece-init : goal.loop-piece-init
unfolding hex_of
loop-piece-init g c =
    let items = c.chunks-piece-items.ensures in
    rw c.into_iter-piece-iterator.ensures.into_iter_gives (items.size, ([], sym items.rest, c.in_ok-write_all.ensures.appends))

pub loop-piece-preserved : goal.loop-piece-preserved
loop-piece-preserved g c =
    let before = c.loop-piece.invariant in
    let came = before.1.0 in
    let piece = c.in-Some.piece.now in
    let steps = c.in-Some.ensures.steps in
    let more = before.1.1 ∙ ap (λ (l : List ℕ). came ++ l) steps.1.0 ∙ sym (append_assoc came piece c.next.new.self.rest.now) in
    let digits = appends_both _ _ _ (32 ∷ hex_of came) (hex_of piece) before.1.2 c.in_ok-hex_piece.ensures in
    (steps.0 ∙ before.0, (came ++ piece, more, rw (hex_append came piece) digits))

pub returns-clause-some : goal.returns-clause-some
returns-clause-some g c =
    let before = c.loop-piece.invariant in
    λ _. rw (sym (all_came c.args.bytes.now before.1.0 c.loop-piece.piece-iterator.rest.now before.1.1 c.in-None.ensures.steps.1.0)) before.1.2
