-- A turn: what a done call owes the invariant. Its store cut short leaves the same book, and whole it leaves the next one, with a state
-- that knows what its mode knows; that this state is well formed too is the steps' own promise.
use Prim.Native.Nat.{ℕ, ◌<◌}
use mathlib.Core.Path.{◌≡◌, refl}
use mathlib.Core.List.{List}
use native.Mathlib.Omega.{arith}
use Rattle.medium.specs.Store.{count, laid, arrives}
use Rattle.stores.specs.Stores.{no_store}
use Rattle.state.specs.declared.State.{State}
use Rattle.outcome.specs.Outcome.{Outcome}
use Rattle.outcome.proofs.Calls.{laid_nothing}
use Rattle.contracts.specs.Call.{Call, does}
use Rattle.life.specs.Life.{History, happens}
use Rattle.life.proofs.Book.{Book, SameSizes, Keeps}
use Rattle.life.proofs.Invariant.{Rests, Knows}
use Rattle.life.proofs.Turns.Done.{done}

-- of its outcome
pub record Moves (o : Outcome) (l : List ℕ) (b : Book) (y : History) : Type 0 where
  pub torn : (k : ℕ) → k < count o.store → Keeps (laid (arrives k o.store) o.store l) b
  pub book : Book
  pub same : SameSizes b book
  pub rests : Rests (laid (count o.store) o.store l) book y
  pub knows : Knows o.next (laid (count o.store) o.store l) book y.rolled

-- of the call
pub record Turn (c : Call) (g : State) (l : List ℕ) (b : Book) (y : History) : Type 0 where
  pub moves : Moves (does c g l) l b (happens c y)

-- from every image and state that the invariant admits
abbrev pub Turning : Call → Type 0
Turning c =
    (g : State) (l : List ℕ) (b : Book) (y : History)
    → Rests l b y
    → Knows g l b y.rolled
    → (does c g l).number ≡ 0
    → Turn c g l b y

pub turned : {c : Call} {g : State} {l : List ℕ} {b : Book} {y : History} {o : Outcome} → does c g l ≡ o → Moves o l b (happens c y) → Turn c g l b y
turned e m = record { moves = rw e m }

-- a call that stores nothing leaves the book
pub still : {g : State} {l : List ℕ} {b : Book} {y : History} → Rests l b y → Knows g l b y.rolled → Moves (done g no_store) l b y
still {g} {l} {b} r s = record {
  torn = λ k h. absurd (omega arith);
  book = b;
  same = refl;
  rests = rw (laid_nothing 0 l) r;
  knows = rw (laid_nothing 0 l) s;
}
