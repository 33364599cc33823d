-- The turn of append: cut anywhere short of its end, the record is not there; whole, the write extent has one record more, and the
-- history too.
use Prim.Native.Nat.{ℕ, ◌+◌, ◌≤◌, ◌<◌}
use mathlib.Core.Path.{◌≡◌, refl, sym, ap, ap₂, ◌∙◌}
use mathlib.Core.Bool.{true, false}
use mathlib.Core.List.{List, [], ◌∷◌, ◌++◌, append_assoc}
use native.Mathlib.Omega.{arith}
use lib.ListN.{length, length-append}
use Rattle.medium.specs.Store.{Store, count}
use Rattle.medium.proofs.Laws.{moved, can_arrives}
use Rattle.record.proofs.Exactly.{record_length}
use Rattle.stores.specs.Stores.{record_store}
use Rattle.table.specs.declared.Step.TheVariants.{Append}
use Rattle.scan.specs.Scan.{Extent, end_of}
use Rattle.state.specs.declared.State.{State}
use Rattle.state.specs.Change.{in_mode, tail_at}
use Rattle.state.specs.State.{write_at}
use Rattle.outcome.specs.Enter.{mode_after}
use Rattle.outcome.proofs.Calls.{Entered}
use Rattle.outcome.proofs.Modes.{mode_before}
use Rattle.append.specs.Append.{grown_state, append_outcome}
use Rattle.append.proofs.Appends as Facts
use Rattle.contracts.specs.Call.{appends, does}
use Rattle.life.specs.Life.{History, happens}
use Rattle.life.proofs.Book.{Book, tail, place_in, write_part, Clean, flat, live_in, SoundBook}
use Rattle.life.proofs.Book.Sequences.{live_behind}
use Rattle.life.proofs.Book.Pieces.{holding, sizes_more, torn_append, whole_append}
use Rattle.life.proofs.Book.Frames.{writing, base, own, keeps_own}
use Rattle.life.proofs.Invariant.{Rests, state_of, Tied, wiped_in, marked_in, zeroed_in, written_in, Knows}
use Rattle.life.proofs.Invariant.Modes.{not_after}
use Rattle.life.proofs.Invariant.Ties.{e_is, tail_is, version_is, place_is, write_slot_is}
use Rattle.life.proofs.Invariant.Wells.{write_long}
use Rattle.life.proofs.Turns.Done.{done, outcome_as}
use Rattle.life.proofs.Turns.Moves.{Moves, Turning, turned}
use Rattle.life.proofs.Turns.Committing.{unclean}

-- ---- the book with one record more

abbrev more : Extent → List ℕ → List (List ℕ)
more w p = w.payloads ++ (p ∷ [])

pub end_more : (w : Extent) (p : List ℕ) → end_of (holding w (more w p)) ≡ end_of w + 1
end_more w p = omega (arith, length-append w.payloads (p ∷ []))

flat_more : (os : List Extent) (w : Extent) (p : List ℕ) → flat os (holding w (more w p)) ≡ flat os w ++ (p ∷ [])
unfolding flat
flat_more [] w p = refl
flat_more (o ∷ os) w p = rw (flat_more os w p) (sym (append_assoc o.payloads (flat os w) (p ∷ [])))

module _ {b : Book} (sound : SoundBook b) (p : List ℕ) where
  sound_more : b.clean ≡ false → tail b < 4294967295 → SoundBook (writing b (more b.write p))
  sound_more unmarked left =
      let c = sound.chain in
      let n = end_more b.write p in
      record {
        size = sound.size;
        slots = sound.slots;
        chain = record { joined = c.joined; from = c.from; low = c.low; high = omega (arith, c.high); second = c.second; limit = omega arith };
        marks = rw unmarked (unclean sound.marks (omega arith));
      }

  live_more :
      (y : List (List ℕ))
      → live_in b.head b.olds b.write ≡ y
      → live_in b.head b.olds (holding b.write (more b.write p)) ≡ y ++ (p ∷ [])
  live_more y live = rw (flat_more b.olds b.write p) (live_behind sound p y live)

-- ---- the turn

abbrev append_in : Book → List ℕ → Store
append_in b p = record_store (place_in b.write) p (tail b) b.version

-- what its numbers leave known, of the book
record Room (b : Book) (p : List ℕ) : Type 0 where
  short : length p ≤ 1024
  room : place_in b.write + length p + 9 ≤ b.e
  left : tail b < 4294967295

room_of : {g : State} {b : Book} {len : ℕ} {p : List ℕ} → Tied g b → Facts.Appends g len (length p) → Room b p
room_of {g} {b} {len} {p} t a =
    let end : g.tail.0 ≡ tail b = tail_is t in
    record { short = omega (arith, a.short); room = omega (arith, a.room, place_is t, e_is t); left = omega (arith, a.left) }

abbrev appended : State → List ℕ → State
appended g p = in_mode (mode_after Append g) (grown_state g (length p))

append_store :
    {g : State} {b : Book} (p : List ℕ) → Tied g b → record_store (write_at g) p g.tail.0 g.version.0 ≡ moved (base b) (append_in b p)
append_store p t = rw (e_is t, write_slot_is t, place_is t, tail_is t, version_is t)

module _ {g : State} {l : List ℕ} {b : Book} {y : History} (r : Rests l b y) (s : Knows g l b y.rolled) (p : List ℕ) where
  append_tied : Tied (appended g p) (writing b (more b.write p))
  append_tied =
      let end : tail b + 1 ≡ tail (writing b (more b.write p)) = omega (arith, end_more b.write p) in
      let place : place_in b.write + length p + 9 ≡ place_in (writing b (more b.write p)).write = omega (arith, sizes_more b.write.payloads p) in
      record {
        is =
            ap (λ (x : State). tail_at (x.tail.0 + 1) (x.place + length p + 9) x) s.tied.is
            ∙ ap₂ (λ (t a : ℕ). tail_at t a (state_of b)) end place;
      }

  append_moves :
      Room b p
      → Entered Append g (length l)
      → Moves (done (appended g p) (moved (base b) (append_in b p))) l b (happens (appends p) y)
  append_moves room n =
      let q : List ℕ = write_part l b in
      let long : length q ≡ b.e = write_long r.keeps r.sound in
      let size : count (append_in b p) ≡ length p + 9 = record_length p (tail b) b.version in
      let fits : (append_in b p).place + count (append_in b p) ≤ b.e = omega (arith, room.room) in
      let clean : Clean q b.version b.last b.write = s.wiped (mode_before n wiped_in true refl) in
      let in_q : place_in b.write + length p + 9 ≤ length q = omega (arith, room.room) in
      let m = r.sound.marks in
      let whole = whole_append q b.version b.last b.write p room.short in_q clean m.version_low m.version_high room.left in
      record {
        torn = λ k h.
            rw (can_arrives k (moved (base b) (append_in b p)) (omega arith))
            (keeps_own r.keeps r.sound (append_in b p) fits k b.write.payloads
            (torn_append q b.version b.last b.write p room.short in_q clean (tail b) b.version k (omega arith)));
        book = writing b (more b.write p);
        same = refl;
        rests = record {
          keeps = keeps_own r.keeps r.sound (append_in b p) fits (count (append_in b p)) (more b.write p) whole.holds;
          sound = sound_more r.sound p (s.marked (mode_before n marked_in true refl)) room.left;
          head = r.head;
          live = live_more r.sound p y.payloads r.live;
        };
        knows = record {
          tied = append_tied;
          wiped = λ e. rw (own r.keeps r.sound (append_in b p) fits (count (append_in b p))) whole;
          marked = λ e. s.marked (mode_before n marked_in true refl);
          zeroed = not_after n zeroed_in refl;
          written = not_after n written_in refl;
        };
      }

pub append_turn : (p : List ℕ) → Turning (appends p)
unfolding does append_outcome
append_turn p g l b y r s z =
    let d = outcome_as _ _ _ _ (append_store p s.tied) z in
    let a = Facts.appends g (length l) (length p) d.0 in
    turned d.1 (append_moves r s p (room_of s.tied a) a.enters)
