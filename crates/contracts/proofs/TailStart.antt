-- Tail start leaves a well-formed state: what stays of the list is a front of it, and the write place is where the walk to t ends.
use Prim.Native.Nat.{ℕ, ◌+◌, ◌-◌, ◌≤◌, ◌<◌}
use mathlib.Core.Path.{◌≡◌, refl, ap, ◌∙◌}
use mathlib.Core.Bool.{false, ◌&&◌}
use mathlib.Core.List.{List, []}
use native.Mathlib.Omega.{arith}
use borrow.Author.Tests.{ltb-true, leb-true, eqb-true}
use lib.Dec.{ltb, leb, eqb}
use lib.ListN.{length, get_or, take}
use lib.Seq.{get_or-take, length-take-le, take-take}
use Rattle.refusals.proofs.First.{none_refuses, must_holds}
use Rattle.numbers.proofs.Tests.{both}
use Rattle.extent.specs.Extent.{payloads, sizes}
use Rattle.extent.proofs.Count.{nine_each}
use Rattle.table.specs.declared.Step.TheVariants.{TailStart}
use Rattle.table.specs.Modes.{in_roll, has_h}
use Rattle.slots.specs.Entries.{slot_nos}
use Rattle.slots.proofs.Front.{leading_below, leading_all}
use Rattle.slots.proofs.Order.{rising_above, rising_take}
use Rattle.slots.proofs.Members.{distinct_take}
use Rattle.state.specs.declared.State.{State}
use Rattle.state.specs.State.{slots_in, starts_in, last_start}
use Rattle.well.proofs.Facts.{Well, Listed, Headed, Marked, Placed}
use Rattle.outcome.proofs.Calls.{Entered, entered}
use Rattle.outcome.proofs.Modes.{mode_before, mode_after_is}
use Rattle.head.proofs.Heads.{below_front}
use Rattle.walk.specs.Walk.{live_rule, up_to, start_of, extent_at, walked_to}
use Rattle.walk.proofs.Walks.{up_to_le, place_inside}
use Rattle.tail.specs.Start.{tail_start_rules, tail_start_number, withdrawn_state}
use Rattle.contracts.proofs.Rest.{none_pending, no_roll}
use Rattle.contracts.proofs.Relisted.{slots_many, starts_many, starts_listed, relisted, reunused, remade}

-- ---- a done tail start: what its numbers leave known

pub record Tails (g : State) (l : List ℕ) (t : ℕ) : Type 0 where
  pub enters : Entered TailStart g (length l)
  pub low : g.head.0 ≤ t
  pub high : t < g.tail.0
  pub left : g.version.0 < 65535
  pub reaches : (walked_to g l t).lsn.0 ≡ t

pub tails : (g : State) (l : List ℕ) (t : ℕ) → tail_start_number g l t ≡ 0 → Tails g l t
unfolding tail_start_number tail_start_rules live_rule
tails g l t e =
    let q₁ = none_refuses _ _ e in
    let q₂ = none_refuses _ _ q₁.1 in
    let q₃ = none_refuses _ _ q₂.1 in
    let b = both _ _ (must_holds (leb g.head.0 t && ltb t g.tail.0) 9 q₂.0) in
    record {
      enters = entered TailStart g (length l) q₁.0;
      low = leb-true _ _ b.0;
      high = ltb-true _ _ b.1;
      left = ltb-true _ _ (must_holds (ltb g.version.0 65535) 8 q₃.0);
      reaches = eqb-true _ _ (must_holds (eqb (walked_to g l t).lsn.0 t) 14 q₃.1);
    }

-- ---- a walk of no record ends where it begins

no_sizes : (ps : List (List ℕ)) → ps ≡ [] → 5 + sizes ps ≡ 5
unfolding sizes
no_sizes ps e = rw e

-- ---- the state

module _ (g : State) (l : List ℕ) (t : ℕ) (a : Tails g l t) (slots : length g.slots ≡ 64) (starts : length g.starts ≡ 64) where
  w : Well g
  w = a.enters.stands.well

  few : g.n ≤ 64
  few = a.enters.stands.narrow.n_high

  counted : length (starts_in g) ≡ g.n
  counted = starts_many g few starts

  -- the first extent stays
  some : 0 < up_to g t
  some = leading_all t 0 (starts_in g) w.listed.rises 0 (omega (arith, counted, w.listed.low)) (omega (arith, w.headed.first, a.low))

  many : length (take (up_to g t) (slots_in g)) ≡ up_to g t
  many = length-take-le (up_to g t) (slots_in g) (omega (arith, up_to_le g t, slots_many g few slots))

  each : length (take (up_to g t) (starts_in g)) ≡ up_to g t
  each = length-take-le (up_to g t) (starts_in g) (omega (arith, up_to_le g t, counted))

  kept_starts : starts_in (withdrawn_state g l t) ≡ take (up_to g t) (starts_in g)
  kept_starts = starts_listed (withdrawn_state g l t) (take (up_to g t) (starts_in g)) refl each

  -- a kept start is where it was; the last is that of the extent in which t stands
  start_kept : (i : ℕ) → i < up_to g t → get_or (starts_in (withdrawn_state g l t)) i 0 ≡ get_or (starts_in g) i 0
  start_kept i h = rw kept_starts (get_or-take (up_to g t) (starts_in g) i 0 h)

  last_is : last_start (withdrawn_state g l t) ≡ start_of g t
  last_is = start_kept (up_to g t - 1) (omega (arith, some))

  from_start : start_of g t ≤ t
  from_start = leading_below t (starts_in g) (up_to g t - 1) (omega (arith, some))

  withdrawn_listed : Listed (withdrawn_state g l t)
  withdrawn_listed =
      let f = w.listed in
      relisted (withdrawn_state g l t) (take (up_to g t) (slots_in g)) (take (up_to g t) (starts_in g)) refl refl many each
      some
      (distinct_take (up_to g t) (slots_in g) f.apart)
      (rw (take-take (up_to g t) g.n (slot_nos g.slots) (up_to_le g t)) (below_front g.s (up_to g t) g.n (slot_nos g.slots) (up_to_le g t) f.below))
      (rising_take 0 (starts_in g) (up_to g t) f.rises)

  withdrawn_headed : Headed (withdrawn_state g l t)
  withdrawn_headed = record {
    first = omega (arith, start_kept 0 some, w.headed.first);
    high = a.low;
    second = λ m. omega (arith, start_kept 1 m, w.headed.second (omega (arith, up_to_le g t)));
    last = omega (arith, last_is, from_start);
  }

  withdrawn_marked : Marked (withdrawn_state g l t)
  withdrawn_marked = record {
    low = omega (arith, rising_above 0 (starts_in g) w.listed.rises 0 (omega (arith, counted, w.listed.low)), w.headed.first, a.low);
    high = omega arith;
    version = omega arith;
  }

  withdrawn_placed : Placed (withdrawn_state g l t)
  withdrawn_placed =
      let ps : List (List ℕ) = payloads (extent_at g l t) (start_of g t) g.version.0 g.last.0 in
      let walked : List (List ℕ) = take (t - start_of g t) ps in
      record {
        low = omega arith;
        high = place_inside a.enters.stands l t a.enters.size;
        first = λ e. last_is ∙ omega (arith, a.reaches, nine_each walked);
        empty = λ e.
            let none : t - start_of g t ≡ 0 = omega (arith, last_is) in
            no_sizes walked (ap (λ (k : ℕ). take k ps) none);
      }

  pub withdrawn_well : Well (withdrawn_state g l t)
  withdrawn_well =
      let n = a.enters in
      let r = w.roll.resting (mode_before n in_roll false refl) in
      record {
        listed = withdrawn_listed;
        headed = withdrawn_headed;
        marked = withdrawn_marked;
        placed = withdrawn_placed;
        pending = none_pending (withdrawn_state g l t) (w.pending.none (mode_before n has_h false refl));
        roll = no_roll (withdrawn_state g l t) (mode_after_is n in_roll false refl) (record { slot = r.slot; length = r.length });
        unused = reunused (withdrawn_state g l t) (take (up_to g t) (slots_in g)) (take (up_to g t) (starts_in g)) refl refl many each;
      }

  pub withdrawn_arrays : (length (withdrawn_state g l t).slots ≡ 64) × (length (withdrawn_state g l t).starts ≡ 64)
  withdrawn_arrays =
      remade (withdrawn_state g l t) (take (up_to g t) (slots_in g)) (take (up_to g t) (starts_in g)) refl refl many each (omega (arith, up_to_le g t, few))
