-- From the start and from here, the rest of the digits says the same number at or below the bound.
use Rattle.std.proofs.Common.{◌≡◌, ◌≤◌, drop}
use Rattle.text.proofs.Numerals.{reads}
use Rattle.text.proofs.decimal.number.Given as goal

abbrev pub invariant-loop-b : goal.invariant-loop-b
invariant-loop-b l = (l.v ≤ l.bound) × (reads l.bound 0 l.word ≡ reads l.bound l.v (drop l.b-index l.word))
