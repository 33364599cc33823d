-- The digits of the bytes so far stand at the place.
use Rattle.std.proofs.Common.{◌≡◌, take}
use Rattle.std.proofs.lemmas.List.Edits.{sets}
use Rattle.text.specs.Hex.{hex_of}
use Rattle.text.proofs.hex.put_hex.Given as goal

abbrev pub invariant-loop-i : goal.invariant-loop-i
invariant-loop-i l = l.out ≡ sets l.initial.out l.at (hex_of (take l.i l.src))
