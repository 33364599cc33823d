-- The turn of roll list: the extents whose end is above head stay, and the new one comes behind them. Either all stay, the old write
-- extent with a record in it, or there is that one alone and head has reached its end, and then none does.
use Prim.Native.Nat.{ℕ, ◌+◌, ◌-◌, ◌≤◌, ◌<◌}
use mathlib.Core.Path.{◌≡◌, refl, sym, ap, ◌∙◌}
use mathlib.Core.Bool.{true, false}
use mathlib.Core.List.{List, [], ◌∷◌, ◌++◌, map}
use native.Mathlib.Omega.{arith}
use native.Mathlib.Decide.{dec_lt}
use borrow.Author.Tests.{le-leb, lt-leb}
use lib.ListN.{length, drop, length-append}
use Rattle.extent.specs.Extent.{sizes}
use Rattle.metadata.proofs.Facts.{sizes_say}
use Rattle.table.specs.declared.Step.TheVariants.{RollList}
use Rattle.table.specs.Modes.{in_roll}
use Rattle.slots.specs.Entries.{leading}
use Rattle.free.proofs.Free.{Free, free_says}
use Rattle.scan.specs.Scan.{Extent}
use Rattle.state.specs.declared.State.{State}
use Rattle.state.specs.Change.{listing, tail_at}
use Rattle.state.specs.State.{slots_in, starts_in}
use Rattle.well.proofs.Facts.{Rolling}
use Rattle.outcome.specs.Enter.{enter_number}
use Rattle.outcome.proofs.Calls.{Entered, entered}
use Rattle.outcome.proofs.Modes.{mode_before}
use Rattle.roll.specs.List.{ended, rolled_state, roll_list_outcome}
use Rattle.contracts.specs.Call.{roll_lists, does}
use Rattle.life.specs.Life.{History, happens}
use Rattle.life.proofs.Book.{Book, book_with, tail, place_in, slot_list, start_list, book_slots, book_starts, extents, first_start, flat, live_in}
use Rattle.life.proofs.Book.{Joined, BelowSecond, SlotsOk, Olds}
use Rattle.life.proofs.Book.Listed.{slots_count}
use Rattle.life.proofs.Book.Sequences.{first_below, live_behind}
use Rattle.life.proofs.Book.Longer.{map_behind, first_behind, joined_behind, second_behind, olds_behind, flat_behind, slots_behind, one_slot}
use Rattle.life.proofs.Invariant.{Rests, Tied, wiped_in, zeroed_in, written_in, rolled_extent, Rolled, Knows}
use Rattle.life.proofs.Invariant.Modes.{not_after}
use Rattle.life.proofs.Invariant.Ties.{e_is, s_is, head_is, tail_is, place_is, count_is, slots_in_is, starts_in_is}
use Rattle.life.proofs.Invariant.Finds.{tail_ends}
use Rattle.life.proofs.Turns.Done.{decided, outcome_done}
use Rattle.life.proofs.Turns.Moves.{Moves, Turning, turned}
use Rattle.life.proofs.Turns.Committing.{unclean, Next, committed}

-- ---- the next book: the extents os, and the new one behind them

abbrev listed_book : Book → List Extent → Extent → Book
listed_book b os x = book_with b b.head b.last b.version false os x

-- what is asked of those that stay
record Staying (g : State) (l : List ℕ) (b : Book) (y : List (List ℕ)) (p : List ℕ) (os : List Extent) : Type 0 where
  count : g.n - ended g ≡ length os
  slots : drop (ended g) (slots_in g) ≡ map (λ x. x.slot) os
  starts : drop (ended g) (starts_in g) ≡ map (λ x. x.start) os
  listed : SlotsOk b.s (slot_list os g.roll_slot.0)
  joined : Joined os (tail b)
  from : 1 ≤ first_start os (tail b)
  low : first_start os (tail b) ≤ b.head
  second : BelowSecond b.head os (tail b)
  olds : Olds l b.e b.version b.last os
  live : live_in b.head os (rolled_extent g b p) ≡ y ++ (p ∷ [])

-- ---- who stays

-- all ends are above head
none_ends : (h : ℕ) (os : List Extent) (a t : ℕ) → h < t → BelowSecond h os a → leading h (drop 1 (start_list os a) ++ (t ∷ [])) ≡ 0
unfolding leading
none_ends h [] a t k q = rw (lt-leb t h k)
none_ends h (o ∷ []) a t k q = rw (lt-leb a h q)
none_ends h (o ∷ u ∷ os) a t k q = rw (lt-leb u.start h q)

-- the only one is not
one_ends : (h a t : ℕ) → t ≤ h → leading h (drop 1 (start_list [] a) ++ (t ∷ [])) ≡ 1
unfolding leading
one_ends h a t k = rw (le-leb t h k)

-- head reaches the tail in one extent alone
alone : (h : ℕ) (os : List Extent) (a t : ℕ) → Joined os a → a ≤ t → BelowSecond h os a → t ≤ h → os ≡ []
alone h [] a t j k q e = refl
alone h (o ∷ os) a t j k q e = absurd (omega (arith, first_below os a j.2))

some_record : (ps : List (List ℕ)) → 0 < sizes ps → 1 ≤ length ps
unfolding sizes
some_record [] h = absurd (omega arith)
some_record (p ∷ ps) h = omega arith

nothing : (ps : List (List ℕ)) → length ps ≡ 0 → ps ≡ []
nothing [] e = refl
nothing (p ∷ ps) e = absurd (omega arith)

module _ {g : State} {l : List ℕ} {b : Book} {y : History} (r : Rests l b y) (s : Knows g l b y.rolled) (roll : Rolling g) where
  abbrev p : List ℕ
  p = y.rolled

  abbrev new : Extent
  new = rolled_extent g b p

  module _ (os : List Extent) (stay : Staying g l b y.payloads p os) where
    listed_tied : length p ≡ g.roll_len → Tied (rolled_state g) (listed_book b os new)
    unfolding sizes
    listed_tied size =
        let t = s.tied in
        let k : ℕ = new.slot in
        let n : g.n - ended g + 1 ≡ length (slot_list os k) = omega (arith, stay.count, slots_count os k) in
        let end : g.tail.0 + 1 ≡ tail (listed_book b os new) = omega (arith, tail_is t) in
        let place : 5 + (g.roll_len + 9) ≡ place_in new = omega arith in
        record {
          is =
              ap (tail_at (g.tail.0 + 1) (5 + (g.roll_len + 9)))
              (ap (listing (g.n - ended g + 1) (drop (ended g) (slots_in g) ++ (k ∷ [])) (drop (ended g) (starts_in g) ++ (g.tail.0 ∷ []))) t.is)
              ∙ rw (n, stay.slots, stay.starts, end, place, tail_is t);
        }

    listed_next : Rolled g l b p → Next l b (listed_book b os new) (happens roll_lists y)
    listed_next rolled =
        let f = r.sound in
        let left : tail b < 4294967295 = omega (arith, roll.left, tail_is s.tied) in
        record {
          same = refl;
          sound = record {
            size = f.size;
            slots = stay.listed;
            chain = record {
              joined = stay.joined;
              from = stay.from;
              low = stay.low;
              high = omega (arith, f.chain.high);
              second = stay.second;
              limit = omega arith;
            };
            marks = unclean f.marks (omega arith);
          };
          olds = stay.olds;
          write = rolled.clean.holds;
          head = r.head;
          live = stay.live;
        }

    listed_moves :
        Entered RollList g (length l)
        → Moves (decided false (rolled_state g)) l b (happens roll_lists y)
    listed_moves n =
        let rolled : Rolled g l b p = s.written (mode_before n written_in true refl) in
        committed r.keeps (listed_next rolled) (record {
          tied = listed_tied rolled.size;
          wiped = λ e. rolled.clean;
          marked = λ e. refl;
          zeroed = not_after n zeroed_in refl;
          written = not_after n written_in refl;
        })

  -- ---- all stay, or none

  new_slot : Free b.s (book_slots b) g.pending 0 g.roll_slot.0
  new_slot = rw (← s_is s.tied, ← slots_in_is s.tied) (free_says g.s (slots_in g) g.pending 0 g.roll_slot.0 roll.free)

  ended_is : ended g ≡ leading b.head (drop 1 (book_starts b) ++ (tail b ∷ []))
  ended_is = rw (head_is s.tied, starts_in_is s.tied, tail_is s.tied)

  all_stay : wiped_in g.mode ≡ true → b.head < tail b → Staying g l b y.payloads p (extents b)
  all_stay mode h =
      let t = s.tied in
      let c = r.sound.chain in
      let w : Extent = b.write in
      let k : ℕ = g.roll_slot.0 in
      let none : ended g ≡ 0 = ended_is ∙ none_ends b.head b.olds w.start (tail b) h c.second in
      let low : 64 ≤ b.e = (sizes_say b.e b.s r.sound.size).e_low in
      let some : 1 ≤ length w.payloads = some_record w.payloads (omega (arith, roll.tight, roll.short, place_is t, e_is t)) in
      record {
        count = omega (arith, none, count_is t, length-append b.olds (w ∷ []));
        slots = rw none (slots_in_is t ∙ sym (map_behind w (λ x. x.slot) b.olds));
        starts = rw none (starts_in_is t ∙ sym (map_behind w (λ x. x.start) b.olds));
        listed =
            rw (map_behind w (λ x. x.slot) b.olds)
            (slots_behind b.s k (slot_list b.olds w.slot) r.sound.slots new_slot.below new_slot.unlisted);
        joined = joined_behind w b.olds c.joined some;
        from = rw (first_behind w b.olds (tail b)) c.from;
        low = rw (first_behind w b.olds (tail b)) c.low;
        second = second_behind w b.head b.olds c.second h;
        olds = olds_behind w l b.e b.version b.last b.olds r.keeps.olds (s.wiped mode);
        live = rw (first_behind w b.olds (tail b), flat_behind w b.olds new) (live_behind r.sound p y.payloads r.live);
      }

  none_stay : (b.head < tail b → ⊥) → Staying g l b y.payloads p []
  unfolding flat
  none_stay h =
      let t = s.tied in
      let c = r.sound.chain in
      let only : b.olds ≡ [] = alone b.head b.olds b.write.start (tail b) c.joined (omega arith) c.second (omega arith) in
      let one : ended g ≡ 1 = ended_is ∙ rw only (one_ends b.head b.write.start (tail b) (omega arith)) in
      let gone : y.payloads ≡ [] = nothing y.payloads (omega (arith, tail_ends r, r.head, c.high)) in
      let here : b.head - tail b ≡ 0 = omega (arith, c.high) in
      record {
        count = omega (arith, one, count_is t, ap length only);
        slots = rw (one, slots_in_is t, only);
        starts = rw (one, starts_in_is t, only);
        listed = one_slot b.s g.roll_slot.0 new_slot.below;
        joined = tt;
        from = omega (arith, c.from, c.low, c.high);
        low = omega arith;
        second = tt;
        olds = tt;
        live = rw (here, gone);
      }

pub roll_list_turn : Turning roll_lists
unfolding does roll_list_outcome
roll_list_turn g l b y r s z = turned d.1 (by (dec_lt b.head (tail b)))
  where
    d : (enter_number RollList g (length l) ≡ 0) × (roll_list_outcome g l ≡ decided false (rolled_state g))
    d = outcome_done _ _ _ _ z

    n : Entered RollList g (length l)
    n = entered RollList g (length l) d.0

    roll : Rolling g
    roll = n.stands.well.roll.rolling (mode_before n in_roll true refl)

    by : Dec (b.head < tail b) → Moves (decided false (rolled_state g)) l b (happens roll_lists y)
    by (yes h) = listed_moves r s roll (extents b) (all_stay r s roll (mode_before n wiped_in true refl) h) n
    by (no h) = listed_moves r s roll [] (none_stay r s roll h) n
