-- The fresh state is well formed, closed as create gives it and opened as open does.
use Prim.Native.Nat.{ℕ}
use mathlib.Core.Path.{◌≡◌, refl}
use mathlib.Core.Bool.{true, false}
use mathlib.Core.List.{[], ◌∷◌}
use native.Mathlib.Omega.{arith}
use borrow.Author.Tests.{lt-ltb}
use lib.ListN.{length}
use Rattle.metadata.specs.Metadata.{sizes_ok, all_below}
use Rattle.metadata.proofs.Facts.{Sizes, sizes_say}
use Rattle.table.specs.declared.Mode.{Mode}
use Rattle.table.specs.Modes.{in_roll}
use Rattle.slots.specs.Entries.{among, distinct, rising}
use Rattle.state.specs.declared.State.{State}
use Rattle.state.specs.Change.{in_mode}
use Rattle.well.proofs.Facts.{Well}
use Rattle.create.specs.Create.{fresh_state}
use Rattle.contracts.proofs.Rest.{none_pending, no_roll}
use Rattle.contracts.proofs.Relisted.{relisted, reunused, remade}

module _ (e s : ℕ) (t : sizes_ok e s ≡ true) where
  -- in any mode without a roll
  pub fresh_well : (m : Mode) → in_roll m ≡ false → Well (in_mode m (fresh_state e s))
  unfolding fresh_state distinct among rising all_below
  fresh_well m rests =
      let z : Sizes e s = sizes_say e s t in
      let g : State = in_mode m (fresh_state e s) in
      record {
        listed = relisted g (0 ∷ []) (1 ∷ []) refl refl refl refl (omega arith) refl (rw (lt-ltb 0 s (omega arith))) refl;
        headed = record { first = omega arith; high = omega arith; second = λ h. absurd (omega arith); last = omega arith };
        marked = record { low = omega arith; high = omega arith; version = omega arith };
        placed = record { low = omega arith; high = omega arith; first = λ p. refl; empty = λ p. refl };
        pending = none_pending g refl;
        roll = no_roll g rests (record { slot = refl; length = refl });
        unused = reunused g (0 ∷ []) (1 ∷ []) refl refl refl refl;
      }

  pub fresh_arrays : (length (fresh_state e s).slots ≡ 64) × (length (fresh_state e s).starts ≡ 64)
  unfolding fresh_state
  fresh_arrays = remade (fresh_state e s) (0 ∷ []) (1 ∷ []) refl refl refl refl (omega arith)
