-- What stands before the rest ends with a line end.
use Prim.Native.Nat.{ℕ, ◌-◌}
use mathlib.Core.Path.{◌≡◌, ◌∙◌}
use mathlib.Core.List.{List}
use mathlib.Core.Logic.{◌≢◌}
use native.Mathlib.Omega.{arith}
use lib.ListN.{length, take}
use lib.Seq.{length-take-le, get_or-take}
use Rattle.logrun_core.specs.Ends.{IsRest, EndsLine}

pub ended : (l : List ℕ) (left : ℕ) → IsRest l left → length l - left ≢ 0 → EndsLine (take (length l - left) l)
ended l left h some =
    let n = length l - left in
    let e : length (take n l) ≡ n = length-take-le n l (omega arith) in
    rw e (omega (arith, some), get_or-take n l (n - 1) 0 (omega (arith, some)) ∙ h.2 (omega (arith, some)))

pub ruleset lines = (ended)
