-- A done create leaves the world in which lives begin.
use Prim.Native.Nat.{ℕ}
use mathlib.Core.Path.{◌≡◌, refl, sym, ap, ◌∙◌}
use mathlib.Core.Bool.{Bool, true, false}
use native.Mathlib.Omega.{arith}
use lib.ListN.{length}
use Rattle.refusals.specs.Order.{when}
use Rattle.state.specs.State.{Answer}
use Rattle.state.specs.State.{answer}
use Rattle.state.specs.Change.{zero_state}
use Rattle.outcome.specs.Enter.{sized}
use Rattle.outcome.proofs.Sizing.{sized_says}
use Rattle.create.specs.Create.{fresh_state, create_answer, create_image}
use Rattle.life.specs.Follows.{CreateBegins}

-- done where the sizes are the image's
done_sized : (e s : ℕ) (t : Bool) → (when t (answer 0 (fresh_state e s)) (answer 1 zero_state)).number ≡ 0 → t ≡ true
done_sized e s true z = refl
done_sized e s false z = absurd (omega arith)

pub create_begins : CreateBegins
unfolding CreateBegins create_answer create_image
create_begins e s l r l' c z =
    let t = done_sized e s (sized e s (length l)) (sym (ap (λ (a : Answer). a.number) c.0) ∙ z) in
    ((sized_says e s (length l) t).0, rw t at (ap (λ (a : Answer). a.log) c.0), rw t at c.1)
