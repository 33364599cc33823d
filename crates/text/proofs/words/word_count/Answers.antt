use Rattle.std.proofs.Common.{eqb, rules, tests}
use Rattle.std.proofs.lemmas.Iterator.Consumers.{count_from_yields_List}
use Rattle.std.proofs.lemmas.Iterator.Splits.{YieldsList-from_slice_split}
use Rattle.text.proofs.Parting.{words_split}
use Rattle.text.proofs.words.word_count.Goals as goal

pub returns : goal.returns
returns c =
    let split = c.split.ensures in
    rw (words_split c.args.line.now)
    (count_from_yields_List _ _ c.count.ensures.ran
    (YieldsList-from_slice_split _ (λ b. eqb b 32) c.args.line.now split.rest split.done split.closure (λ x r q k. search (rules, tests))))
