use Rattle.std.proofs.Common.{arith}
use Rattle.text.proofs.Printing.{more_length, decimal_short}
use Rattle.text.proofs.decimal.+put_decimal.Goals as goal

-- the tenth has a digit less than 20
pub bounds-out-end : goal.bounds-out-end
bounds-out-end t c =
    let n = c.args.n in
    let tenth = c.put_decimal-end in
    omega (arith, more_length n (omega arith) (omega arith), decimal_short n, tenth.ensures.0, tenth.auto.out)
