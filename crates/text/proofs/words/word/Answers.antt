use Rattle.std.proofs.Common.{eqb, refl, rules, tests}
use Rattle.std.proofs.lemmas.Iterator.Consumers.{nth_from_yields_List}
use Rattle.std.proofs.lemmas.Iterator.Splits.{YieldsList-from_slice_split}
use Rattle.text.proofs.Parting.{word_found}
use Rattle.text.proofs.words.word.Goals as goal

pub returns : goal.returns
returns c =
    let split = c.split.ensures in
    let found = nth_from_yields_List _ _ _ c.nth.ensures.ran
    (YieldsList-from_slice_split _ (λ b. eqb b 32) c.args.line.now split.rest split.done split.closure (λ x r q k. search (rules, tests))) in
    rw c.unwrap_or.ensures (word_found c.args.line.now c.args.i c.nth.result _ refl found)
