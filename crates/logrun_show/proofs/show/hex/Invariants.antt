-- Piece by piece: the bytes that came are behind the space, in hex.
use Rattle.std.proofs.Common.{◌≡◌, ◌∷◌, ◌++◌, ℕ, List}
use Rattle.std.specs.Io.KnownBytes.{Appends}
use Rattle.text.specs.Hex.{hex_of}
use Rattle.logrun_show.specs.Held.{held}
use Rattle.logrun_show.proofs.show.hex.Given as goal

abbrev pub invariant-loop-piece : goal.invariant-loop-piece
invariant-loop-piece g l =
    (l.piece-iterator.size ≡ 512)
    × ((came : List ℕ)
    × (l.fn.bytes ≡ came ++ l.piece-iterator.rest.now)
    × Appends (held g.W.Write.contents l.fn.out) (held g.W.Write.contents l.out) (32 ∷ hex_of came))
