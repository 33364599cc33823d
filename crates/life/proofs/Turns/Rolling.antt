-- The turns of roll begin and roll write. Both store in a slot that is not listed, so the book stays, cut or whole; whole, the slot is
-- all zero, and then it is the new extent.
use Prim.Native.Nat.{ℕ, ◌+◌, ◌*◌, ◌≤◌, ◌<◌}
use mathlib.Core.Path.{◌≡◌, refl, sym, ap, ◌∙◌}
use mathlib.Core.Bool.{true, false}
use mathlib.Core.List.{List, append-nil}
use native.Mathlib.Nat.{add-zero}
use native.Mathlib.Omega.{arith}
use lib.ListN.{length, length-replicate, drop_of_length-le}
use Rattle.numbers.specs.Numbers.{zeros}
use Rattle.medium.specs.Store.{Store, count, wipe_of, laid, arrives}
use Rattle.medium.proofs.Laws.{moved, laid_whole}
use Rattle.metadata.specs.Layout.{slot_place}
use Rattle.metadata.proofs.Facts.{sizes_say}
use Rattle.stores.specs.Stores.{extent_store}
use Rattle.stores.proofs.Bytes.{extent_length}
use Rattle.table.specs.declared.Step.TheVariants.{RollWrite}
use Rattle.table.specs.Modes.{in_roll}
use Rattle.slots.specs.Entries.{among}
use Rattle.free.proofs.Free.{free_says, free_lowest}
use Rattle.scan.specs.Scan.{slot_part}
use Rattle.scan.proofs.Within.{slot_within, slot_length}
use Rattle.state.specs.declared.State.{State}
use Rattle.state.specs.Change.{in_mode}
use Rattle.state.specs.State.{slots_in, held_in}
use Rattle.well.proofs.Facts.{Rolling}
use Rattle.outcome.specs.Enter.{mode_after}
use Rattle.outcome.proofs.Modes.{mode_before}
use Rattle.roll.specs.Begin.{lowest_free, begun_state, roll_begin_outcome}
use Rattle.roll.specs.Write.{roll_write_outcome}
use Rattle.roll.proofs.Rolls.{Begins, begins, Writes, writes}
use Rattle.contracts.specs.Call.{roll_begins, roll_writes, does}
use Rattle.life.specs.Life.{History, happens}
use Rattle.life.proofs.Book.{Book, tail, book_slots, Clean}
use Rattle.life.proofs.Book.Pieces.{first_record}
use Rattle.life.proofs.Book.Frames.{keeps_beside, slot_beside, write_beside}
use Rattle.life.proofs.Invariant.{Rests, rests_on, Tied, wiped_in, marked_in, zeroed_in, written_in, rolled_extent, Knows}
use Rattle.life.proofs.Invariant.Modes.{not_after}
use Rattle.life.proofs.Invariant.Ties.{e_is, s_is, tail_is, version_is, slots_in_is}
use Rattle.life.proofs.Turns.Done.{done, outcome_as}
use Rattle.life.proofs.Turns.Moves.{Moves, Turning, turned}

-- the store of a roll in slot i
abbrev in_slot : Book → ℕ → Store → Store
in_slot b i st = moved (84 + i * b.e) st

-- ---- begin

-- wiped whole, a slot is zeros
wiped_whole : (q : List ℕ) (e : ℕ) → length q ≡ e → laid (count (wipe_of 0 e)) (wipe_of 0 e) q ≡ zeros e
wiped_whole q e size =
    let n : length (zeros e) ≡ e = length-replicate e 0 in
    let past : length q ≤ 0 + length (zeros e) = omega arith in
    laid_whole (wipe_of 0 e) q (omega arith) ∙ rw (drop_of_length-le q past, append-nil)

begin_store : {g : State} {b : Book} → Tied g b → wipe_of (slot_place g.e (lowest_free g)) g.e ≡ in_slot b (lowest_free g) (wipe_of 0 b.e)
begin_store t = rw (e_is t, add-zero)

module _ {g : State} {l : List ℕ} {b : Book} {y : History} (r : Rests l b y) (s : Knows g l b y.rolled) (n : ℕ) where
  begin_moves :
      Begins g (length l) n
      → Moves (done (begun_state g n) (in_slot b (lowest_free g) (wipe_of 0 b.e))) l b y
  begin_moves begun =
      let i : ℕ = lowest_free g in
      let t = s.tied in
      let st : Store = wipe_of 0 b.e in
      let size : count st ≡ b.e = length-replicate b.e 0 in
      let free = free_lowest g.s (slots_in g) g.pending (held_in g) 64 begun.some in
      let unlisted : among i (book_slots b) ≡ false = ap (among i) (sym (slots_in_is t)) ∙ free.unlisted in
      let fits : st.place + count st ≤ b.e = omega arith in
      let long : length (slot_part l b.e i) ≡ b.e =
      slot_length l b.e i (omega (arith, r.keeps.size, slot_within i b.s b.e (omega (arith, free.below, s_is t)))) in
      let clean = s.wiped (mode_before begun.enters wiped_in true refl) in
      record {
        torn = λ k h. keeps_beside r.keeps i unlisted st fits (arrives k (in_slot b i st));
        book = b;
        same = refl;
        rests = rests_on (keeps_beside r.keeps i unlisted st fits (count st)) r;
        knows = record {
          tied = record { is = t.is };
          wiped = λ e. rw (write_beside r.keeps i unlisted st fits (count st)) clean;
          marked = λ e. s.marked (mode_before begun.enters marked_in true refl);
          zeroed = λ e. slot_beside r.keeps i unlisted st fits (count st) ∙ wiped_whole (slot_part l b.e i) b.e long;
          written = not_after begun.enters written_in refl;
        };
      }

-- ---- write

-- header and record, counted from the slot's beginning
abbrev new_extent : Book → List ℕ → Store
new_extent b p = extent_store 0 p (tail b) b.version

write_store :
    {g : State} {b : Book} (p : List ℕ)
    → Tied g b
    → extent_store (slot_place g.e g.roll_slot.0) p g.tail.0 g.version.0 ≡ in_slot b g.roll_slot.0 (new_extent b p)
write_store p t = rw (e_is t, tail_is t, version_is t, add-zero)

module _ {g : State} {l : List ℕ} {b : Book} {y : History}
    (r : Rests l b y)
    (s : Knows g l b y.rolled)
    (p : List ℕ)
    (w : Writes g (length l) (length p)) where
  abbrev i : ℕ
  i = g.roll_slot.0

  abbrev st : Store
  st = new_extent b p

  roll : Rolling g
  roll = w.enters.stands.well.roll.rolling (mode_before w.enters in_roll true refl)

  unlisted : among i (book_slots b) ≡ false
  unlisted = ap (among i) (sym (slots_in_is s.tied)) ∙ (free_says g.s (slots_in g) g.pending 0 i roll.free).unlisted

  room : length p + 14 ≤ b.e
  room = omega (arith, roll.short, w.same, e_is s.tied, (sizes_say b.e b.s r.sound.size).e_low)

  fits : st.place + count st ≤ b.e
  fits = omega (arith, room, extent_length p (tail b) b.version)

  -- the slot was all zero, and now it is the new extent
  clean_there : Clean (slot_part (laid (count st) (in_slot b i st) l) b.e i) b.version b.last (rolled_extent g b p)
  clean_there =
      let m = r.sound.marks in
      let left : tail b < 4294967295 = rw (tail_is s.tied) at roll.left in
      let zero = s.zeroed (mode_before w.enters zeroed_in true refl) in
      rw (slot_beside r.keeps i unlisted st fits (count st), zero)
      (first_record b.e i (tail b) b.version b.last p w.short room m.version_low m.version_high left)

  write_moves : Moves (done (in_mode (mode_after RollWrite g) g) (in_slot b i st)) l b (happens (roll_writes p) y)
  write_moves =
      let clean = s.wiped (mode_before w.enters wiped_in true refl) in
      record {
        torn = λ k h. keeps_beside r.keeps i unlisted st fits (arrives k (in_slot b i st));
        book = b;
        same = refl;
        rests = rests_on (keeps_beside r.keeps i unlisted st fits (count st)) r;
        knows = record {
          tied = record { is = s.tied.is };
          wiped = λ e. rw (write_beside r.keeps i unlisted st fits (count st)) clean;
          marked = λ e. s.marked (mode_before w.enters marked_in true refl);
          zeroed = not_after w.enters zeroed_in refl;
          written = λ e. record { clean = clean_there; size = w.same };
        };
      }

-- ---- the turns

pub roll_begin_turn : (n : ℕ) → Turning (roll_begins n)
unfolding does roll_begin_outcome
roll_begin_turn n g l b y r s z =
    let d = outcome_as _ _ _ _ (begin_store s.tied) z in
    turned d.1 (begin_moves r s n (begins g (length l) n d.0))

pub roll_write_turn : (p : List ℕ) → Turning (roll_writes p)
unfolding does roll_write_outcome
roll_write_turn p g l b y r s z =
    let d = outcome_as _ _ _ _ (write_store p s.tied) z in
    turned d.1 (write_moves r s p (writes g (length l) (length p) d.0))
