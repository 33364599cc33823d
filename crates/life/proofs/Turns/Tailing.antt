-- The turn of tail start: the metadata lists the extents up to t, with the next version, under which the records from t on are stale.
-- The history drops them.
use Prim.Native.Nat.{ℕ, zero, suc, ◌+◌, ◌-◌, ◌≤◌, ◌<◌}
use mathlib.Core.Path.{◌≡◌, refl, sym, ap, ◌∙◌}
use mathlib.Core.List.{List, [], ◌∷◌}
use mathlib.Core.Bool.{false}
use native.Mathlib.Nat.{sub-zero, zero-sub, suc-sub-suc}
use native.Mathlib.Omega.{arith}
use lib.ListN.{length, take, drop}
use lib.Seq.{length-take-le, take-nil, drop-nil}
use Rattle.slots.proofs.Front.{leading_le}
use Rattle.state.specs.declared.State.{State}
use Rattle.state.specs.Change.{listing, tail_at, marking}
use Rattle.state.specs.State.{slots_in, starts_in}
use Rattle.walk.specs.Walk as Place
use Rattle.tail.specs.Start.{withdrawn_state}
use Rattle.contracts.specs.Call.{tail_starts}
use Rattle.life.specs.Life.{History, happens}
use Rattle.life.proofs.Book.{Book, book_with, tail, book_slots, book_starts, book_start, book_payloads, live_in, SoundBook}
use Rattle.life.proofs.Book.Listed.{slots_count, starts_count}
use Rattle.life.proofs.Book.Withdrawing.{keeping, slots_front, keeping_is, Withdrawn, withdrawn}
use Rattle.life.proofs.Book.Pieces.{up_to}
use Rattle.life.proofs.Invariant.{Rests, Tied, wiped_in, zeroed_in, written_in}
use Rattle.life.proofs.Invariant.Modes.{never, not_after}
use Rattle.life.proofs.Invariant.Ties.{head_is, tail_is, version_is, slots_in_is, starts_in_is}
use Rattle.life.proofs.Invariant.Reaches.{holder_in, place_found}
use Rattle.life.proofs.Turns.Moves.{Turning, turned}
use Rattle.life.proofs.Turns.Committing.{Next, committed}
use Rattle.life.proofs.Turns.Truncates.{tail_does}

abbrev tailed_book : Book → ℕ → Book
tailed_book b t = book_with b b.head t (b.version + 1) false (keeping t b.olds b.write.start) (up_to t (holder_in b t))

drop_take : (i n : ℕ) (ps : List (List ℕ)) → drop i (take n ps) ≡ take (n - i) (drop i ps)
drop_take zero n ps = rw sub-zero
drop_take (suc i) zero ps = rw (zero-sub, drop-nil)
drop_take (suc i) (suc n) [] = rw (take-nil (suc n - suc i))
drop_take (suc i) (suc n) (p ∷ ps) = rw suc-sub-suc (drop_take i n ps)

module _ {g : State} {l : List ℕ} {b : Book} {y : History} (r : Rests l b y) (d : Tied g b) (t : ℕ) (low : b.head ≤ t) (high : t < tail b) where
  first_low : book_start b ≤ t
  first_low = omega (arith, r.sound.chain.low)

  left : Withdrawn l b.e b.version b.last t b.write b.olds (keeping t b.olds b.write.start) (holder_in b t)
  left = withdrawn l b.e b.version b.last t b.write b.olds r.sound.chain.joined first_low high r.keeps.olds r.keeps.write

  -- ---- the state

  listed_slots_is : take (Place.up_to g t) (slots_in g) ≡ book_slots (tailed_book b t)
  listed_slots_is = rw (slots_in_is d, starts_in_is d) (keeping_is t b.write (λ o. o.slot) b.olds r.sound.chain.joined first_low)

  listed_starts : take (Place.up_to g t) (starts_in g) ≡ book_starts (tailed_book b t)
  listed_starts = rw (starts_in_is d) (keeping_is t b.write (λ o. o.start) b.olds r.sound.chain.joined first_low)

  tailed_tied : Tied (withdrawn_state g l t) (tailed_book b t)
  tailed_tied =
      let n : length (starts_in g) ≡ length (slots_in g) =
      ap length (starts_in_is d) ∙ starts_count b.olds b.write.start ∙ sym (ap length (slots_in_is d) ∙ slots_count b.olds b.write.slot) in
      let few : Place.up_to g t ≤ length (slots_in g) = omega (arith, leading_le t (starts_in g)) in
      let many = sym (length-take-le (Place.up_to g t) (slots_in g) few) ∙ ap length listed_slots_is in
      record {
        is =
            ap (λ (x : State). marking t (x.version.0 + 1) (tail_at t (Place.walked_to g l t).place x))
            (ap (listing (Place.up_to g t) (take (Place.up_to g t) (slots_in g)) (take (Place.up_to g t) (starts_in g))) d.is)
            ∙ rw (listed_slots_is, listed_starts, place_found r d t (low, high), many, left.end);
      }

  -- ---- the book

  tailed_sound : b.version < 65535 → SoundBook (tailed_book b t)
  tailed_sound more =
      let f = r.sound in
      let c = f.chain in
      let q = left in
      let all : take (Place.up_to g t) (book_slots b) ≡ book_slots (tailed_book b t) =
      rw (slots_in_is d) at listed_slots_is in
      record {
        size = f.size;
        slots = rw all at (slots_front b.s (Place.up_to g t) (book_slots b) f.slots);
        chain = record {
          joined = q.joined;
          from = rw q.first c.from;
          low = rw q.first c.low;
          high = rw q.end low;
          second = q.second b.head c.second;
          limit = omega (arith, q.end, c.limit);
        };
        marks = record {
          last_low = omega (arith, c.from, c.low);
          last_high = omega (arith, q.end);
          version_low = omega arith;
          version_high = omega arith;
          shut = λ e. never e;
        };
      }

  tailed_live : live_in b.head (keeping t b.olds b.write.start) (up_to t (holder_in b t)) ≡ take (t - y.head) y.payloads
  tailed_live =
      let a : ℕ = book_start b in
      let all : List (List ℕ) = book_payloads b in
      let n : t - a - (b.head - a) ≡ t - y.head = omega (arith, r.head, r.sound.chain.low) in
      rw (left.first, left.kept) (drop_take (b.head - a) (t - a) all ∙ rw (n, r.live))

  tailed_next : b.version < 65535 → Next l b (tailed_book b t) (happens (tail_starts t) y)
  tailed_next more = record {
    same = refl;
    sound = tailed_sound more;
    olds = left.olds;
    write = left.write;
    head = r.head;
    live = tailed_live;
  }

-- ---- the turn

pub tail_start_turn : (t : ℕ) → Turning (tail_starts t)
tail_start_turn t g l b y r s z =
    let d = tail_does g l t z in
    let n = d.0.enters in
    let low : b.head ≤ t = omega (arith, d.0.low, head_is s.tied) in
    let high : t < tail b = omega (arith, d.0.high, tail_is s.tied) in
    let more : b.version < 65535 = omega (arith, d.0.left, version_is s.tied) in
    turned d.1 (committed {b' = tailed_book b t} r.keeps (tailed_next r s.tied t low high more) (record {
      tied = tailed_tied r s.tied t low high;
      wiped = not_after n wiped_in refl;
      marked = λ e. refl;
      zeroed = not_after n zeroed_in refl;
      written = not_after n written_in refl;
    }))
