-- The turns of mark and close: both change the metadata's marks alone, and under the new marks the extents hold the same records. Close
-- makes the tail the last tail LSN, below which a record may have any version up to the current one.
use Prim.Native.Nat.{ℕ, ◌≤◌}
use mathlib.Core.Path.{refl, ap}
use mathlib.Core.Bool.{Bool, true, false}
use mathlib.Core.List.{List, [], ◌∷◌}
use native.Mathlib.Omega.{arith}
use lib.ListN.{length}
use Rattle.table.specs.declared.Step.TheVariants.{Mark, Close}
use Rattle.scan.specs.Scan.{Extent, end_of, slot_part}
use Rattle.state.specs.declared.State.{State}
use Rattle.state.specs.Change.{marking}
use Rattle.outcome.proofs.Calls.{entered}
use Rattle.outcome.proofs.Modes.{mode_before}
use Rattle.recovery.specs.Recovery.{mark_outcome}
use Rattle.close.specs.Close.{closed_state, close_outcome}
use Rattle.contracts.specs.Call.{marks, closes, does}
use Rattle.life.specs.Life.{History}
use Rattle.life.proofs.Book.{Book, book_with, tail, write_part, Joined, Olds}
use Rattle.life.proofs.Book.Sequences.{first_below}
use Rattle.life.proofs.Book.Pieces.{clean_rebase, close_holds}
use Rattle.life.proofs.Invariant.{Rests, Tied, wiped_in, marked_in, zeroed_in, written_in}
use Rattle.life.proofs.Invariant.Modes.{not_after}
use Rattle.life.proofs.Turns.Done.{outcome_done}
use Rattle.life.proofs.Turns.Moves.{Turning, turned}
use Rattle.life.proofs.Turns.Committing.{unclean, Next, committed}

-- ---- the book under other marks

abbrev marked_book : Book → ℕ → Bool → Book
marked_book b last clean = book_with b b.head last b.version clean b.olds b.write

-- ---- old extents, which end where the write extent starts or before it, under other marks

module _ (l : List ℕ) (e v last : ℕ) where
  pub olds_rebase :
      (v' t : ℕ) → v ≤ v' → (os : List Extent) (a : ℕ) → Joined os a → a ≤ t → Olds l e v last os → Olds l e v' t os
  olds_rebase v' t hv [] a j h olds = olds
  olds_rebase v' t hv (o ∷ os) a j h olds =
      let ends : end_of o ≤ t = omega (arith, j.1, first_below os a j.2) in
      (clean_rebase (slot_part l e o.slot) v last o v' t hv ends olds.0, olds_rebase v' t hv os a j.2 h olds.1)

-- ---- mark

marked_next : {l : List ℕ} {b : Book} {y : History} → Rests l b y → Next l b (marked_book b b.last false) y
marked_next r =
    let f = r.sound in
    record {
      same = refl;
      sound = record { size = f.size; slots = f.slots; chain = f.chain; marks = unclean f.marks (omega arith) };
      olds = r.keeps.olds;
      write = r.keeps.write;
      head = r.head;
      live = r.live;
    }

pub mark_turn : Turning marks
unfolding does mark_outcome
mark_turn g l b y r s z =
    let d = outcome_done _ _ _ _ z in
    let n = entered Mark g (length l) d.0 in
    turned d.1 (committed r.keeps (marked_next r) (record {
      tied = record { is = s.tied.is };
      wiped = λ e. s.wiped (mode_before n wiped_in true refl);
      marked = λ e. refl;
      zeroed = not_after n zeroed_in refl;
      written = not_after n written_in refl;
    }))

-- ---- close

closed_next : {l : List ℕ} {b : Book} {y : History} → Rests l b y → Next l b (marked_book b (tail b) true) y
closed_next {l} {b} r =
    let f = r.sound in
    let m = f.marks in
    record {
      same = refl;
      sound = record {
        size = f.size;
        slots = f.slots;
        chain = f.chain;
        marks = record {
          last_low = omega (arith, f.chain.from, f.chain.low, f.chain.high);
          last_high = omega arith;
          version_low = m.version_low;
          version_high = m.version_high;
          shut = λ e. refl;
        };
      };
      olds =
          olds_rebase l b.e b.version b.last b.version (tail b) (omega arith) b.olds b.write.start f.chain.joined
          (omega arith)
          r.keeps.olds;
      write = close_holds (write_part l b) b.version b.last b.write m.last_high r.keeps.write;
      head = r.head;
      live = r.live;
    }

closed_tied : {g : State} {b : Book} → Tied g b → Tied (closed_state g) (marked_book b (tail b) true)
closed_tied t = record { is = ap (λ (x : State). marking x.tail.0 x.version.0 x) t.is }

pub close_turn : Turning closes
unfolding does close_outcome
close_turn g l b y r s z =
    let d = outcome_done _ _ _ _ z in
    let n = entered Close g (length l) d.0 in
    turned d.1 (committed r.keeps (closed_next r) (record {
      tied = closed_tied s.tied;
      wiped = not_after n wiped_in refl;
      marked = not_after n marked_in refl;
      zeroed = not_after n zeroed_in refl;
      written = not_after n written_in refl;
    }))
