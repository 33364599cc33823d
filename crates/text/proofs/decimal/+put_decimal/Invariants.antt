-- The tenth's digits stand in front, by the call of itself; the number itself is the measure.
use Rattle.text.proofs.decimal.+put_decimal.Given as goal

abbrev pub decreases-put_decimal : goal.decreases-put_decimal
decreases-put_decimal l = l.n
