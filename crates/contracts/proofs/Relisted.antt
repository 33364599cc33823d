-- A state whose arrays were made from lists: the lists are its listed slots and starts, and it is well listed where they are.
use Prim.Native.Nat.{ℕ, ◌≤◌}
use mathlib.Core.Path.{◌≡◌}
use mathlib.Core.Bool.{true}
use mathlib.Core.List.{List}
use native.Mathlib.Omega.{arith}
use lib.ListN.{length, drop, length-map}
use lib.Seq.{length-take-le}
use Rattle.metadata.specs.Metadata.{number, all_below}
use Rattle.slots.specs.Entries.{slot_nos, lsn_nos, slot_array, lsn_array, distinct, rising}
use Rattle.slots.proofs.Arrays.{slots_front, slots_rest, slots_length, starts_front, starts_rest, starts_length}
use Rattle.slots.proofs.Pigeon.{distinct_length}
use Rattle.state.specs.declared.State.{State}
use Rattle.state.specs.State.{slots_in, starts_in}
use Rattle.well.proofs.Facts.{Listed, Unused}

-- as many entries are listed as the count says
module _ (g : State) (few : g.n ≤ 64) where
  pub slots_many : length g.slots ≡ 64 → length (slots_in g) ≡ g.n
  slots_many long = length-take-le g.n (slot_nos g.slots) (rw (length-map g.slots number) (omega arith))

  pub starts_many : length g.starts ≡ 64 → length (starts_in g) ≡ g.n
  starts_many long = length-take-le g.n (lsn_nos g.starts) (rw (length-map g.starts (λ x. x.0)) (omega arith))

module _ (g : State) (ks : List ℕ) (made : g.slots ≡ slot_array ks) (many : length ks ≡ g.n) where
  pub slots_listed : slots_in g ≡ ks
  slots_listed = rw (made, ← many) (slots_front ks)

  slots_unused : all_below 1 (drop g.n (slot_nos g.slots)) ≡ true
  slots_unused = rw (made, ← many) (slots_rest ks)

module _ (g : State) (ss : List ℕ) (made : g.starts ≡ lsn_array ss) (many : length ss ≡ g.n) where
  pub starts_listed : starts_in g ≡ ss
  starts_listed = rw (made, ← many) (starts_front ss)

  starts_unused : all_below 1 (drop g.n (lsn_nos g.starts)) ≡ true
  starts_unused = rw (made, ← many) (starts_rest ss)

module _ (g : State) (ks ss : List ℕ) (slots : g.slots ≡ slot_array ks) (starts : g.starts ≡ lsn_array ss) (many : length ks ≡ g.n) (each : length ss ≡ g.n) where
  -- distinct slots below S are at most S
  pub relisted : 1 ≤ g.n → distinct ks ≡ true → all_below g.s ks ≡ true → rising 0 ss ≡ true → Listed g
  relisted low apart below rises = record {
    low = low;
    high = omega (arith, distinct_length g.s ks apart below);
    apart = rw (slots_listed g ks slots many) apart;
    below = rw (slots_listed g ks slots many) below;
    rises = rw (starts_listed g ss starts each) rises;
  }

  pub reunused : Unused g
  reunused = record { slots = slots_unused g ks slots many; starts = starts_unused g ss starts each }

  pub remade : g.n ≤ 64 → (length g.slots ≡ 64) × (length g.starts ≡ 64)
  remade h = (rw slots (slots_length ks (omega arith)), rw starts (starts_length ss (omega arith)))
