-- Head start leaves a well-formed state: what stays of the list is a rear part of it, and what left is pending.
use Prim.Native.Nat.{ℕ, ◌-◌, ◌≤◌, ◌<◌}
use mathlib.Core.Path.{◌≡◌, refl, sym, ap, ◌∙◌}
use mathlib.Core.Bool.{true, false}
use native.Mathlib.Omega.{arith}
use lib.ListN.{length, get_or, take, drop, length-drop, length-take}
use lib.Seq.{get_or-take}
use Rattle.metadata.proofs.Below.{below_at}
use Rattle.table.specs.Modes.{in_roll, has_h}
use Rattle.slots.specs.Entries.{lsn_nos, among}
use Rattle.free.specs.Word.{is_free}
use Rattle.slots.proofs.Order.{rising_above, rising_drop}
use Rattle.slots.proofs.Members.{among_at, distinct_drop, distinct_apart}
use Rattle.free.proofs.Words.{at_word, none_at}
use Rattle.free.proofs.Free.{free_kept}
use Rattle.state.specs.declared.State.{State}
use Rattle.state.specs.State.{slots_in, starts_in, last_start}
use Rattle.well.proofs.Facts.{Well, Listed, Headed, Placed, Pending, Roll, differ}
use Rattle.outcome.proofs.Modes.{mode_before, mode_after_is}
use Rattle.head.specs.Start.{leaving, headed_state}
use Rattle.head.proofs.Heads.{Heads, some_stay}
use Rattle.contracts.proofs.Rest.{no_roll}
use Rattle.contracts.proofs.Relisted.{slots_many, starts_many, slots_listed, starts_listed, relisted, reunused, remade}
use Rattle.contracts.proofs.Leaves.{left_first, left_second, left_last, below_drop}

module _ (g : State) (len h : ℕ) (a : Heads g len h) (slots : length g.slots ≡ 64) (starts : length g.starts ≡ 64) where
  w : Well g
  w = a.enters.stands.well

  few : g.n ≤ 64
  few = a.enters.stands.narrow.n_high

  -- the write extent stays
  stays : leaving g h < g.n
  stays = some_stay h g.n (lsn_nos g.starts) w.listed.low

  many : length (drop (leaving g h) (slots_in g)) ≡ g.n - leaving g h
  many = length-drop (leaving g h) (slots_in g) ∙ ap (λ (n : ℕ). n - leaving g h) (slots_many g few slots)

  each : length (drop (leaving g h) (starts_in g)) ≡ g.n - leaving g h
  each = length-drop (leaving g h) (starts_in g) ∙ ap (λ (n : ℕ). n - leaving g h) (starts_many g few starts)

  kept_slots : slots_in (headed_state g h) ≡ drop (leaving g h) (slots_in g)
  kept_slots = slots_listed (headed_state g h) (drop (leaving g h) (slots_in g)) refl many

  kept_starts : starts_in (headed_state g h) ≡ drop (leaving g h) (starts_in g)
  kept_starts = starts_listed (headed_state g h) (drop (leaving g h) (starts_in g)) refl each

  last_kept : last_start (headed_state g h) ≡ last_start g
  last_kept = rw kept_starts (left_last (leaving g h) g.n (starts_in g) stays)

  headed_listed : Listed (headed_state g h)
  headed_listed =
      let f = w.listed in
      relisted (headed_state g h) (drop (leaving g h) (slots_in g)) (drop (leaving g h) (starts_in g)) refl refl many each
      (omega (arith, stays))
      (distinct_drop (leaving g h) (slots_in g) f.apart)
      (below_drop g.s (leaving g h) (slots_in g) f.below)
      (rising_drop 0 0 (starts_in g) (leaving g h) f.rises (rising_above 0 (starts_in g) f.rises (leaving g h)))

  headed_headed : Headed (headed_state g h)
  headed_headed = record {
    first = rw kept_starts (left_first h (starts_in g) (omega (arith, w.headed.first, a.above)));
    high = a.within;
    second = λ m. rw kept_starts (left_second h (starts_in g) (omega (arith, starts_many g few starts)));
    last = omega (arith, last_kept, w.headed.last);
  }

  headed_placed : Placed (headed_state g h)
  headed_placed = let f = w.placed in record {
    low = f.low;
    high = f.high;
    first = λ e. last_kept ∙ f.first e;
    empty = λ e. f.empty (sym last_kept ∙ e);
  }

  -- one of those that left is below S and not listed any more
  gone : (k : ℕ) → among k (take (leaving g h) (slots_in g)) ≡ true → is_free g.s (slots_in (headed_state g h)) 0 0 k ≡ true
  gone k e =
      let f = w.listed in
      let p = among_at k (take (leaving g h) (slots_in g)) e in
      let inside : p.0 < leaving g h = omega (arith, p.1, length-take (leaving g h) (slots_in g)) in
      let stands : get_or (slots_in g) p.0 0 ≡ k = sym (get_or-take (leaving g h) (slots_in g) p.0 0 inside) ∙ p.2 in
      free_kept g.s (slots_in (headed_state g h)) 0 0 k
      (record {
        below = rw stands at (below_at g.s (slots_in g) f.below p.0 (omega (arith, inside, stays, slots_many g few slots)));
        unlisted = rw kept_slots (distinct_apart (leaving g h) (slots_in g) f.apart k e);
        not_pending = none_at k;
        not_held = none_at k;
      })

  headed_pending : Pending (headed_state g h)
  headed_pending = record {
    unlisted = λ k l b. gone k (sym (at_word (λ j. among j (take (leaving g h) (slots_in g))) k 64 l) ∙ b);
    none = λ e. absurd (differ (has_h (headed_state g h).mode) (mode_after_is a.enters has_h true refl) e);
  }

  headed_roll : Roll (headed_state g h)
  headed_roll =
      let r = w.roll.resting (mode_before a.enters in_roll false refl) in
      no_roll (headed_state g h) (mode_after_is a.enters in_roll false refl) (record { slot = r.slot; length = r.length })

  pub headed_well : Well (headed_state g h)
  headed_well = record {
    listed = headed_listed;
    headed = headed_headed;
    marked = let f = w.marked in record { low = f.low; high = f.high; version = f.version };
    placed = headed_placed;
    pending = headed_pending;
    roll = headed_roll;
    unused = reunused (headed_state g h) (drop (leaving g h) (slots_in g)) (drop (leaving g h) (starts_in g)) refl refl many each;
  }

  pub headed_arrays : (length (headed_state g h).slots ≡ 64) × (length (headed_state g h).starts ≡ 64)
  headed_arrays =
      remade (headed_state g h) (drop (leaving g h) (slots_in g)) (drop (leaving g h) (starts_in g)) refl refl many each (omega (arith, few))
