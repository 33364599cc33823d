-- The bytes of the pairs so far stand at the front.
use Rattle.std.proofs.Common.{◌≡◌, take}
use Rattle.std.proofs.lemmas.List.Edits.{sets}
use Rattle.text.specs.Hex.{bytes_of}
use Rattle.text.proofs.hex.unhex.Given as goal

abbrev pub invariant-loop-i : goal.invariant-loop-i
invariant-loop-i l = l.out ≡ sets l.initial.out 0 (take l.i (bytes_of l.word))
