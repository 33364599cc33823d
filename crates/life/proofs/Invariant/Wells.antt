-- A state that is tied to a sound book, with no pending slot and no roll, is well formed: as open and create leave it. And the write
-- extent's records lie within its slot.
use Prim.Native.Nat.{ℕ, ◌+◌, ◌≤◌, ◌<◌}
use mathlib.Core.Path.{◌≡◌, refl, sym, ap, ◌∙◌}
use mathlib.Core.List.{List, [], ◌∷◌}
use mathlib.Core.Bool.{true, false}
use native.Mathlib.Omega.{arith}
use lib.ListN.{length, get_or}
use Rattle.extent.specs.Extent.{sizes}
use Rattle.extent.proofs.Count.{nine_each, walk_within}
use Rattle.metadata.proofs.Facts.{sizes_say}
use Rattle.table.specs.Modes.{in_roll}
use Rattle.slots.specs.Entries.{rising}
use Rattle.slots.proofs.Order.{cons_rising}
use Rattle.scan.specs.Scan.{Extent, end_of}
use Rattle.scan.proofs.Within.{slot_within, slot_length}
use Rattle.state.specs.declared.State.{State}
use Rattle.well.specs.Well.{well_formed}
use Rattle.well.proofs.Facts.{Listed, Headed, Marked, Placed, Resting, Unused, well_kept}
use Rattle.contracts.proofs.Relisted.{relisted, reunused}
use Rattle.contracts.proofs.Rest.{none_pending, no_roll}
use Rattle.life.proofs.Book.{Book, place_in, start_list, book_slots, book_starts, write_part, first_start, Joined, BelowSecond, SoundBook, Keeps}
use Rattle.life.proofs.Book.Listed.{write_below}
use Rattle.life.proofs.Invariant.{Tied}
use Rattle.life.proofs.Invariant.Ties.{e_is, s_is, n_is, slots_are, starts_are, head_is, tail_is, last_is, version_is, place_is, count_is}
use Rattle.life.proofs.Invariant.Ties.{starts_many, starts_in_is, last_start_written}

-- ---- the starts

starts_rise : (x : ℕ) (os : List Extent) (a : ℕ) → Joined os a → x < first_start os a → rising x (start_list os a) ≡ true
starts_rise x [] a j h = cons_rising x a [] h (unfold rising in refl)
starts_rise x (o ∷ os) a j h = cons_rising x o.start (start_list os a) h (starts_rise o.start os a j.2 (omega (arith, j.0, j.1)))

first_at : (os : List Extent) (a : ℕ) → get_or (start_list os a) 0 0 ≡ first_start os a
first_at [] a = refl
first_at (o ∷ os) a = refl

second_at : (h : ℕ) (os : List Extent) (a : ℕ) → BelowSecond h os a → 1 < length os + 1 → h < get_or (start_list os a) 1 0
second_at h [] a q k = absurd (omega arith)
second_at h (o ∷ os) a q k = rw (first_at os a) q

no_sizes : (ps : List (List ℕ)) → length ps ≡ 0 → sizes ps ≡ 0
unfolding sizes
no_sizes [] e = refl
no_sizes (p ∷ ps) e = absurd (omega arith)

-- ---- the write place

-- the write extent's bytes
pub write_long : {l : List ℕ} {b : Book} → Keeps l b → SoundBook b → length (write_part l b) ≡ b.e
write_long {l} {b} k f = slot_length l b.e b.write.slot (omega (arith, k.size, slot_within b.write.slot b.s b.e (write_below f)))

pub place_inside : {l : List ℕ} {b : Book} → Keeps l b → SoundBook b → place_in b.write ≤ b.e
place_inside {l} {b} k f =
    let q : List ℕ = write_part l b in
    let long : length q ≡ b.e = write_long k f in
    let low : 64 ≤ b.e = (sizes_say b.e b.s f.size).e_low in
    rw k.write.walk at (rw long at (walk_within q 5 b.write.start b.version b.last (omega arith)))

-- ---- the state

module _ {g : State} {b : Book} (t : Tied g b) (f : SoundBook b) where
  listed_so : Listed g
  listed_so =
      relisted g (book_slots b) (book_starts b) (slots_are t) (starts_are t) (sym (n_is t)) (starts_many t)
      (omega (arith, count_is t))
      f.slots.apart
      (rw (s_is t) f.slots.below)
      (starts_rise 0 b.olds b.write.start f.chain.joined f.chain.from)

  headed_so : Headed g
  headed_so = record {
    first = rw (starts_in_is t, head_is t, first_at b.olds b.write.start) f.chain.low;
    high = rw (head_is t, tail_is t) f.chain.high;
    second = λ k. rw (starts_in_is t, head_is t) (second_at b.head b.olds b.write.start f.chain.second (omega (arith, count_is t)));
    last = rw (last_start_written t, tail_is t) (omega arith);
  }

  marked_so : Marked g
  marked_so = record {
    low = rw (last_is t) f.marks.last_low;
    high = rw (last_is t, tail_is t) f.marks.last_high;
    version = rw (version_is t) f.marks.version_low;
  }

  placed_so : place_in b.write ≤ b.e → Placed g
  placed_so room = record {
    low = rw (place_is t) (omega arith);
    high = rw (place_is t, e_is t) room;
    first = λ e. rw (last_start_written t, tail_is t) (omega (arith, e, place_is t, nine_each b.write.payloads));
    empty = λ e.
        let z : b.write.start ≡ end_of b.write = sym (last_start_written t) ∙ e ∙ tail_is t in
        place_is t ∙ ap (λ (n : ℕ). 5 + n) (no_sizes b.write.payloads (omega arith));
  }

  unused_so : Unused g
  unused_so =
      reunused g (book_slots b) (book_starts b) (slots_are t) (starts_are t) (sym (n_is t)) (starts_many t)

  pub book_well : place_in b.write ≤ b.e → g.pending ≡ 0 → in_roll g.mode ≡ false → Resting g → well_formed g ≡ true
  book_well room none resting rest = well_kept g (record {
    listed = listed_so;
    headed = headed_so;
    marked = marked_so;
    placed = placed_so room;
    pending = none_pending g none;
    roll = no_roll g resting rest;
    unused = unused_so;
  })
