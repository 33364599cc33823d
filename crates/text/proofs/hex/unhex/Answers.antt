use Rattle.std.proofs.Common.{◌≡◌, ◌/◌, length, sym, ◌∙◌, arith}
use Rattle.text.proofs.Nibbles.{bytes_length, bytes_put}
use Rattle.text.proofs.hex.unhex.Goals as goal

pub returns : goal.returns
returns c =
    let count : length c.as_chunks.result.0.now ≡ length c.args.word.now / 2 = c.as_chunks.ensures.front_len in
    (count ∙ sym (bytes_length _), bytes_put _ _ _ c.loop-i.i c.loop-i.invariant (omega arith))
