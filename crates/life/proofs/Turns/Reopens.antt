-- Open needs no state: in any image that keeps a sound book it answers 0, with the state that the book says. Its turn asks for the image
-- alone, and so it is the way back after a cut.
use Prim.Native.Nat.{ℕ}
use mathlib.Core.Path.{◌≡◌, refl, ap}
use mathlib.Core.Bool.{true}
use mathlib.Core.List.{List}
use Rattle.stores.specs.Stores.{no_store}
use Rattle.scan.specs.Scan.{Scan}
use Rattle.state.specs.declared.State.{State}
use Rattle.well.specs.Well.{well_formed}
use Rattle.recovery.specs.Recovery.{open_answer, opened_state}
use Rattle.contracts.specs.Call.{opens, does, without_store}
use Rattle.life.specs.Life.{History}
use Rattle.life.proofs.Book.{Book, view_of}
use Rattle.life.proofs.Book.Sequences.{tail_of, place_of_is, starts_of_is}
use Rattle.life.proofs.Invariant.{Rests, Tied, Knows}
use Rattle.life.proofs.Invariant.Modes.{never}
use Rattle.life.proofs.Invariant.Wells.{place_inside, book_well}
use Rattle.life.proofs.Invariant.Finds.{opens_so}
use Rattle.life.proofs.Turns.Done.{done}
use Rattle.life.proofs.Turns.Moves.{Turn, turned, still}

opened_tied : (b : Book) → Tied (opened_state (view_of b)) b
opened_tied b = record { is = rw (starts_of_is b.write b.olds, tail_of b.write b.olds, place_of_is b.write b.olds) }

module _ {l : List ℕ} {b : Book} {y : History} (r : Rests l b y) where
  pub open_does : (g : State) → does opens g l ≡ done (opened_state (view_of b)) no_store
  unfolding does open_answer
  open_does g = ap (λ (x : Scan). without_store (open_answer x)) (opens_so r)

  opened_knows : (p : List ℕ) → Knows (opened_state (view_of b)) l b p
  opened_knows p = record {
    tied = opened_tied b;
    wiped = λ e. never e;
    marked = λ e. never e;
    zeroed = λ e. never e;
    written = λ e. never e;
  }

  pub open_turn : (g : State) → Turn opens g l b y
  open_turn g = turned (open_does g) (still r (opened_knows y.rolled))

  pub open_well : (g : State) → well_formed (does opens g l).next ≡ true
  open_well g =
      rw (open_does g)
      (book_well (opened_tied b) r.sound (place_inside r.keeps r.sound) refl refl (record { slot = refl; length = refl }))
