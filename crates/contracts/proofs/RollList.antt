-- Roll list leaves a well-formed state. Its starts are the old ones with the tail behind them, less a front that ends at or below
-- head: the tail is above the last start, since a record that does not fit means that the write extent is not empty.
use Prim.Native.Nat.{ℕ, ◌+◌, ◌-◌, ◌≤◌, ◌<◌}
use mathlib.Core.Path.{◌≡◌, refl, sym, ap, ◌∙◌}
use mathlib.Core.Bool.{true, false}
use mathlib.Core.List.{List, [], ◌∷◌, ◌++◌}
use native.Mathlib.Omega.{arith}
use borrow.Author.Tests.{ne_eqb}
use lib.ListN.{length, get_or, drop, length-append, length-drop, get_or-append}
use lib.Seq.{drop-append-le, get_or-append_seam}
use Rattle.table.specs.declared.Step.TheVariants.{RollList}
use Rattle.table.specs.Modes.{in_roll, has_h}
use Rattle.slots.specs.Entries.{among, leading, rising}
use Rattle.free.specs.Word.{bit_at, is_free}
use Rattle.slots.proofs.Front.{leading_le}
use Rattle.slots.proofs.Order.{rising_above, rising_drop, rising_snoc}
use Rattle.slots.proofs.Members.{among_append, among_drop, distinct_drop, distinct_snoc}
use Rattle.slots.proofs.Another.{below_snoc}
use Rattle.free.proofs.Words.{none_at}
use Rattle.free.proofs.Free.{Free, free_kept, free_says}
use Rattle.state.specs.declared.State.{State}
use Rattle.state.specs.State.{slots_in, starts_in, last_start}
use Rattle.well.proofs.Facts.{Well, Listed, Headed, Placed, Pending, Rolling, differ}
use Rattle.outcome.proofs.Calls.{Entered}
use Rattle.outcome.proofs.Modes.{mode_keeps, mode_before, mode_after_is}
use Rattle.roll.specs.List.{ends_in, ended, rolled_state}
use Rattle.contracts.specs.Promises.{KeepsAboveHead}
use Rattle.contracts.proofs.Above.{above_drop}
use Rattle.contracts.proofs.Rest.{no_roll}
use Rattle.contracts.proofs.Relisted.{slots_many, starts_many, slots_listed, starts_listed, relisted, reunused, remade}
use Rattle.contracts.proofs.Leaves.{left_first, left_second, below_drop}

snoc_not_among : (k x : ℕ) (xs : List ℕ) → among k xs ≡ false → (k ≡ x → ⊥) → among k (xs ++ (x ∷ [])) ≡ false
unfolding among
snoc_not_among k x xs e ne = rw (among_append k xs (x ∷ []), e, ne_eqb k x ne)

-- the starts and the tail behind them
abbrev ends : State → List ℕ
ends g = starts_in g ++ (g.tail.0 ∷ [])

-- those that leave: the next of them, or the tail, is at or below head
abbrev out : State → ℕ
out g = leading g.head.0 (drop 1 (ends g))

abbrev new_slots : State → List ℕ
new_slots g = drop (ended g) (slots_in g) ++ (g.roll_slot.0 ∷ [])

abbrev new_starts : State → List ℕ
new_starts g = drop (ended g) (starts_in g) ++ (g.tail.0 ∷ [])

module _ (g : State) (len : ℕ) (n : Entered RollList g len) (slots : length g.slots ≡ 64) (starts : length g.starts ≡ 64) where
  w : Well g
  w = n.stands.well

  few : g.n ≤ 64
  few = n.stands.narrow.n_high

  rolls : Rolling g
  rolls = w.roll.rolling (mode_before n in_roll true refl)

  held : Free g.s (slots_in g) g.pending 0 g.roll_slot.0
  held = free_says g.s (slots_in g) g.pending 0 g.roll_slot.0 rolls.free

  -- the write extent holds a record
  above : last_start g < g.tail.0
  above =
      let full : g.place ≡ 5 → ⊥ = λ e. omega (arith, rolls.short, rolls.tight, n.stands.narrow.e_low) in
      let not_tail : last_start g ≡ g.tail.0 → ⊥ = λ e. full (w.placed.empty e) in
      omega (arith, w.headed.last)

  counted : length (starts_in g) ≡ g.n
  counted = starts_many g few starts

  ends_rise : rising 0 (ends g) ≡ true
  ends_rise =
      rising_snoc 0 (starts_in g) g.tail.0 w.listed.rises
      (omega (arith, w.marked.low, w.marked.high))
      (λ h. rw counted above)

  ended_is : ended g ≡ out g
  ended_is = ap (leading g.head.0) (sym (drop-append-le 1 (starts_in g) (g.tail.0 ∷ []) (omega (arith, counted, w.listed.low))))

  within : ended g ≤ g.n
  within =
      omega (arith, leading_le g.head.0 (drop 1 (ends g)), ended_is, length-drop 1 (ends g), length-append (starts_in g) (g.tail.0 ∷ []), counted)

  new_starts_is : new_starts g ≡ drop (out g) (ends g)
  new_starts_is = rw (← ended_is) (sym (drop-append-le (ended g) (starts_in g) (g.tail.0 ∷ []) (omega (arith, within, counted))))

  many : length (new_slots g) ≡ g.n - ended g + 1
  many = omega (arith, length-append (drop (ended g) (slots_in g)) (g.roll_slot.0 ∷ []), length-drop (ended g) (slots_in g), slots_many g few slots)

  each : length (new_starts g) ≡ g.n - ended g + 1
  each = omega (arith, length-append (drop (ended g) (starts_in g)) (g.tail.0 ∷ []), length-drop (ended g) (starts_in g), counted)

  listed_slots_is : slots_in (rolled_state g) ≡ new_slots g
  listed_slots_is = slots_listed (rolled_state g) (new_slots g) refl many

  listed_starts : starts_in (rolled_state g) ≡ drop (out g) (ends g)
  listed_starts = starts_listed (rolled_state g) (new_starts g) refl each ∙ new_starts_is

  last_is : last_start (rolled_state g) ≡ g.tail.0
  last_is =
      let place : g.n - ended g + 1 - 1 ≡ length (drop (ended g) (starts_in g)) = omega (arith, length-drop (ended g) (starts_in g), counted) in
      rw (starts_listed (rolled_state g) (new_starts g) refl each, place) (get_or-append_seam (drop (ended g) (starts_in g)) g.tail.0 [] 0)

  -- exactly the extents whose end is above head stay
  pub rolled_keeps : KeepsAboveHead g (rolled_state g)
  rolled_keeps =
      let ends_are : ends_in g ≡ drop 1 (ends g) = sym (drop-append-le 1 (starts_in g) (g.tail.0 ∷ []) (omega (arith, counted, w.listed.low))) in
      let rise : rising 0 (ends_in g) ≡ true = rw ends_are (rising_drop 0 0 (ends g) 1 ends_rise (rising_above 0 (ends g) ends_rise 1)) in
      let long : length (ends_in g) ≡ g.n = rw ends_are (omega (arith, length-drop 1 (ends g), length-append (starts_in g) (g.tail.0 ∷ []), counted)) in
      record {
        slots = rw (above_drop g.head.0 0 (slots_in g) (ends_in g) rise (slots_many g few slots ∙ sym long)) listed_slots_is;
        starts = rw (above_drop g.head.0 0 (starts_in g) (ends_in g) rise (counted ∙ sym long)) (starts_listed (rolled_state g) (new_starts g) refl each);
      }

  rolled_listed : Listed (rolled_state g)
  rolled_listed =
      let f = w.listed in
      let d : ℕ = ended g in
      let k : ℕ = g.roll_slot.0 in
      relisted (rolled_state g) (new_slots g) (new_starts g) refl refl many each
      (omega arith)
      (distinct_snoc (drop d (slots_in g)) k (distinct_drop d (slots_in g) f.apart) (among_drop k d (slots_in g) held.unlisted))
      (below_snoc g.s k (drop d (slots_in g)) (below_drop g.s d (slots_in g) f.below) held.below)
      (rw new_starts_is (rising_drop 0 0 (ends g) (out g) ends_rise (rising_above 0 (ends g) ends_rise (out g))))

  rolled_headed : Headed (rolled_state g)
  rolled_headed =
      let first : get_or (ends g) 0 0 ≡ get_or (starts_in g) 0 0 = get_or-append (starts_in g) (g.tail.0 ∷ []) 0 0 (omega (arith, counted, w.listed.low)) in
      record {
        first = rw listed_starts (left_first g.head.0 (ends g) (omega (arith, w.headed.first)));
        high = omega (arith, w.headed.high);
        second = λ m. rw listed_starts (left_second g.head.0 (ends g) (omega (arith, ended_is, length-append (starts_in g) (g.tail.0 ∷ []), counted)));
        last = omega (arith, last_is);
      }

  rolled_placed : Placed (rolled_state g)
  rolled_placed = record {
    low = omega arith;
    high = omega (arith, rolls.short, n.stands.narrow.e_low);
    first = λ e. absurd (omega arith);
    empty = λ e. absurd (omega (arith, last_is));
  }

  -- a pending slot is not listed, and it is not the roll's
  rolled_pending : Pending (rolled_state g)
  rolled_pending = record { unlisted = λ k h b. still k h b; none = λ e. w.pending.none (sym (mode_keeps n has_h refl) ∙ e) }
    where
      still : (k : ℕ) → k < 64 → bit_at g.pending k ≡ true → is_free g.s (slots_in (rolled_state g)) 0 0 k ≡ true
      still k h b =
          let f = free_says g.s (slots_in g) 0 0 k (w.pending.unlisted k h b) in
          let other : k ≡ g.roll_slot.0 → ⊥ = λ e. differ (bit_at g.pending g.roll_slot.0) (rw e at b) held.not_pending in
          free_kept g.s (slots_in (rolled_state g)) 0 0 k
          (record {
            below = f.below;
            unlisted = rw listed_slots_is (snoc_not_among k g.roll_slot.0 (drop (ended g) (slots_in g)) (among_drop k (ended g) (slots_in g) f.unlisted) other);
            not_pending = none_at k;
            not_held = none_at k;
          })

  pub rolled_well : Well (rolled_state g)
  rolled_well = record {
    listed = rolled_listed;
    headed = rolled_headed;
    marked = let f = w.marked in record { low = f.low; high = omega (arith, f.high); version = f.version };
    placed = rolled_placed;
    pending = rolled_pending;
    roll = no_roll (rolled_state g) (mode_after_is n in_roll false refl) (record { slot = refl; length = refl });
    unused = reunused (rolled_state g) (new_slots g) (new_starts g) refl refl many each;
  }

  pub rolled_arrays : (length (rolled_state g).slots ≡ 64) × (length (rolled_state g).starts ≡ 64)
  rolled_arrays =
      remade (rolled_state g) (new_slots g) (new_starts g) refl refl many each (omega (arith, rolled_listed.high, n.stands.narrow.s_high))
