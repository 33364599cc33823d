use Rattle.std.proofs.Common.{sym, ◌∙◌, rules, tests}
use Rattle.std.proofs.lemmas.Iterator.{YieldsList-from_slice}
use Rattle.std.proofs.lemmas.Iterator.Search.{all_from_yields_List}
use Rattle.text.specs.Hex.{is_hex}
use Rattle.text.proofs.Nibbles.{pairs_even}
use Rattle.text.proofs.hex.pairs.Goals as goal

pub returns-then-word-eq0 : goal.returns-then-word-eq0
returns-then-word-eq0 c =
    all_from_yields_List (λ b. is_hex b) _ _ _ c.all.ensures.ran (YieldsList-from_slice c.args.word.now cc) (λ x b q k. search (rules, tests))
    ∙ sym (pairs_even c.args.word.now c.if-word-eq0.true)
