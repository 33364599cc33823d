-- The calls that keep the list: the next state has the same listed extents, head and sizes.
use Prim.Native.Nat.{ℕ, ◌+◌, ◌≤◌}
use mathlib.Core.Path.{◌≡◌, refl, sym, ◌∙◌}
use mathlib.Core.Bool.{true, false}
use native.Mathlib.Omega.{arith}
use Rattle.table.specs.Next.{lines}
use Rattle.table.specs.declared.Mode.{Mode}
use Rattle.table.specs.declared.Step.{Step}
use Rattle.table.specs.declared.Step.TheVariants.{Append, HeadFinish, Close}
use Rattle.table.specs.Modes.{in_roll, has_h}
use Rattle.table.proofs.Rule.{all}
use Rattle.free.specs.Word.{is_free}
use Rattle.free.proofs.Words.{none_at}
use Rattle.free.proofs.Free.{Free, free_kept, free_says, free_lowest}
use Rattle.state.specs.declared.State.{State}
use Rattle.state.specs.State.{slots_in, held_in}
use Rattle.state.specs.Change.{in_mode, tail_at, marking, pending_at, rolling}
use Rattle.well.specs.Well.{same}
use Rattle.well.proofs.Facts.{Well, Placed, Pending, Roll, differ}
use Rattle.outcome.specs.Enter.{mode_after}
use Rattle.outcome.proofs.Calls.{Entered}
use Rattle.outcome.proofs.Modes.{mode_keeps, mode_before, mode_after_is}
use Rattle.append.specs.Append.{grown_state}
use Rattle.append.proofs.Appends.{Appends}
use Rattle.roll.specs.Begin.{lowest_free, begun_state}
use Rattle.roll.proofs.Rolls.{Begins}
use Rattle.head.specs.Finish.{unpended_state}
use Rattle.close.specs.Close.{closed_state}
use Rattle.contracts.proofs.Rest.{none_pending, no_roll}

-- ---- the state with another mode, tail, write place, last tail LSN, pending word and roll

abbrev over : State → Mode → ℕ → ℕ → ℕ → ℕ → ℕ → ℕ → State
over g m tail place last pending k p = rolling k p (pending_at pending (marking last g.version.0 (tail_at tail place (in_mode m g))))

module _ {g : State} (w : Well g) where
  over_well :
      (m : Mode) (tail place last pending k p : ℕ)
      → g.tail.0 ≤ tail
      → 1 ≤ last
      → last ≤ tail
      → Placed (over g m tail place last pending k p)
      → Pending (over g m tail place last pending k p)
      → Roll (over g m tail place last pending k p)
      → Well (over g m tail place last pending k p)
  over_well m tail place last pending k p up low high placed pends rolls = record {
    listed = let f = w.listed in record { low = f.low; high = f.high; apart = f.apart; below = f.below; rises = f.rises };
    headed = let f = w.headed in record { first = f.first; high = omega (arith, f.high); second = f.second; last = omega (arith, f.last) };
    marked = record { low = low; high = high; version = w.marked.version };
    placed = placed;
    pending = pends;
    roll = rolls;
    unused = let f = w.unused in record { slots = f.slots; starts = f.starts };
  }

  placed_stays : (m : Mode) (last pending k p : ℕ) → Placed (over g m g.tail.0 g.place last pending k p)
  placed_stays m last pending k p = let f = w.placed in record { low = f.low; high = f.high; first = f.first; empty = f.empty }

  pending_stays : (m : Mode) (tail place last k p : ℕ) → has_h m ≡ has_h g.mode → Pending (over g m tail place last g.pending k p)
  pending_stays m tail place last k p h = let f = w.pending in record { unlisted = f.unlisted; none = λ e. f.none (sym h ∙ e) }

  -- a roll stays, also where the pending slots are freed
  roll_stays :
      (m : Mode) (last pending : ℕ)
      → in_roll m ≡ in_roll g.mode
      → (is_free g.s (slots_in g) g.pending 0 g.roll_slot.0 ≡ true → is_free g.s (slots_in g) pending 0 g.roll_slot.0 ≡ true)
      → Roll (over g m g.tail.0 g.place last pending g.roll_slot.0 g.roll_len)
  roll_stays m last pending i still = record {
    rolling = λ e. let f = w.roll.rolling (sym i ∙ e) in record { free = still f.free; short = f.short; tight = f.tight; left = f.left };
    resting = λ e. let f = w.roll.resting (sym i ∙ e) in record { slot = f.slot; length = f.length };
  }

-- ---- the calls

module _ {step : Step} {g : State} {len : ℕ} (n : Entered step g len) where
  -- wipe, mark, roll write and tail finish change the mode alone, and neither the roll nor H
  pub moved_well :
      all (λ x. same (in_roll x.to) (in_roll x.from)) (lines step) ≡ true
      → all (λ x. same (has_h x.to) (has_h x.from)) (lines step) ≡ true
      → Well (in_mode (mode_after step g) g)
  moved_well r h =
      let w : Well g = n.stands.well in
      let m : Mode = mode_after step g in
      over_well w m g.tail.0 g.place g.last.0 g.pending g.roll_slot.0 g.roll_len
      (omega arith)
      w.marked.low
      w.marked.high
      (placed_stays w m g.last.0 g.pending g.roll_slot.0 g.roll_len)
      (pending_stays w m g.tail.0 g.place g.last.0 g.roll_slot.0 g.roll_len (mode_keeps n has_h h))
      (roll_stays w m g.last.0 g.pending (mode_keeps n in_roll r) (λ f. f))

pub closed_well : (g : State) (len : ℕ) → Entered Close g len → Well (closed_state g)
closed_well g len n =
    let w : Well g = n.stands.well in
    let m : Mode = mode_after Close g in
    over_well w m g.tail.0 g.place g.tail.0 g.pending g.roll_slot.0 g.roll_len
    (omega arith)
    (omega (arith, w.marked.low, w.marked.high))
    (omega arith)
    (placed_stays w m g.tail.0 g.pending g.roll_slot.0 g.roll_len)
    (pending_stays w m g.tail.0 g.place g.tail.0 g.roll_slot.0 g.roll_len (mode_keeps n has_h refl))
    (roll_stays w m g.tail.0 g.pending (mode_keeps n in_roll refl) (λ f. f))

pub unpended_well : (g : State) (len : ℕ) → Entered HeadFinish g len → Well (unpended_state g)
unpended_well g len n =
    let w : Well g = n.stands.well in
    let m : Mode = mode_after HeadFinish g in
    over_well w m g.tail.0 g.place g.last.0 0 g.roll_slot.0 g.roll_len
    (omega arith)
    w.marked.low
    w.marked.high
    (placed_stays w m g.last.0 0 g.roll_slot.0 g.roll_len)
    (none_pending (unpended_state g) refl)
    (roll_stays w m g.last.0 0 (mode_keeps n in_roll refl) (λ e. unpended (free_says g.s (slots_in g) g.pending 0 g.roll_slot.0 e)))
  where
    unpended : Free g.s (slots_in g) g.pending 0 g.roll_slot.0 → is_free g.s (slots_in g) 0 0 g.roll_slot.0 ≡ true
    unpended f =
        free_kept g.s (slots_in g) 0 0 g.roll_slot.0
        (record { below = f.below; unlisted = f.unlisted; not_pending = none_at g.roll_slot.0; not_held = none_at g.roll_slot.0 })

pub appended_well : (g : State) (len p : ℕ) → Appends g len p → Well (in_mode (mode_after Append g) (grown_state g p))
appended_well g len p a =
    let n = a.enters in
    let w : Well g = n.stands.well in
    let m : Mode = mode_after Append g in
    let f = w.roll.resting (mode_before n in_roll false refl) in
    over_well w m (g.tail.0 + 1) (g.place + p + 9) g.last.0 g.pending g.roll_slot.0 g.roll_len
    (omega arith)
    w.marked.low
    (omega (arith, w.marked.high))
    (record {
      low = omega (arith, w.placed.low);
      high = a.room;
      first = λ e. absurd (omega arith);
      empty = λ e. absurd (omega (arith, w.headed.last));
    })
    (pending_stays w m (g.tail.0 + 1) (g.place + p + 9) g.last.0 g.roll_slot.0 g.roll_len (mode_keeps n has_h refl))
    (no_roll (in_mode m (grown_state g p)) (mode_after_is n in_roll false refl) (record { slot = f.slot; length = f.length }))

pub begun_well : (g : State) (len p : ℕ) → Begins g len p → Well (begun_state g p)
begun_well g len p b =
    let n = b.enters in
    let w : Well g = n.stands.well in
    let m : Mode = mode_after _ g in
    let f = free_lowest g.s (slots_in g) g.pending (held_in g) 64 b.some in
    let rolls : in_roll m ≡ true = mode_after_is n in_roll true refl in
    over_well w m g.tail.0 g.place g.last.0 g.pending (lowest_free g) p
    (omega arith)
    w.marked.low
    w.marked.high
    (placed_stays w m g.last.0 g.pending (lowest_free g) p)
    (pending_stays w m g.tail.0 g.place g.last.0 (lowest_free g) p (mode_keeps n has_h refl))
    (record {
      rolling = λ e. record {
        free =
            free_kept g.s (slots_in g) g.pending 0 (lowest_free g)
            (record { below = f.below; unlisted = f.unlisted; not_pending = f.not_pending; not_held = none_at (lowest_free g) });
        short = b.short;
        tight = b.tight;
        left = b.left;
      };
      resting = λ e. absurd (differ (in_roll m) rolls e);
    })
