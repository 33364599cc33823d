-- A done head start and a done tail start: what they do, and where h and t lie in the history. The turns need the first,
-- Follows/Stays.antt the second.
use Prim.Native.Nat.{ℕ, ◌≤◌, ◌<◌}
use mathlib.Core.Path.{◌≡◌}
use mathlib.Core.List.{List}
use mathlib.Core.Bool.{false}
use native.Mathlib.Omega.{arith}
use lib.ListN.{length}
use Rattle.state.specs.declared.State.{State}
use Rattle.head.specs.Start.{headed_state, head_start_outcome}
use Rattle.head.proofs.Heads.{Heads, heads}
use Rattle.tail.specs.Start.{withdrawn_state, tail_start_outcome}
use Rattle.contracts.specs.Call.{head_starts, tail_starts, does}
use Rattle.contracts.proofs.TailStart.{Tails, tails}
use Rattle.life.specs.Life.{History}
use Rattle.life.specs.Follows.{end_in}
use Rattle.life.proofs.Book.{Book}
use Rattle.life.proofs.Invariant.{Rests, Tied}
use Rattle.life.proofs.Invariant.Ties.{head_is, tail_is}
use Rattle.life.proofs.Invariant.Finds.{tail_ends}
use Rattle.life.proofs.Turns.Done.{decided, outcome_done}

-- ---- what the call does, and what its numbers leave known

pub head_does :
    (g : State) (l : List ℕ) (h : ℕ)
    → (does (head_starts h) g l).number ≡ 0
    → Heads g (length l) h × (does (head_starts h) g l ≡ decided false (headed_state g h))
unfolding does head_start_outcome
head_does g l h z =
    let d = outcome_done _ _ _ _ z in
    (heads g (length l) h d.0, d.1)

pub tail_does :
    (g : State) (l : List ℕ) (t : ℕ)
    → (does (tail_starts t) g l).number ≡ 0
    → Tails g l t × (does (tail_starts t) g l ≡ decided false (withdrawn_state g l t))
unfolding does tail_start_outcome
tail_does g l t z =
    let d = outcome_done _ _ _ _ z in
    (tails g l t d.0, d.1)

-- ---- in the history

module _ {g : State} {l : List ℕ} {b : Book} {y : History} (r : Rests l b y) (t : Tied g b) where
  pub head_within : (h : ℕ) → (does (head_starts h) g l).number ≡ 0 → (y.head < h) × (h ≤ end_in y)
  head_within h e =
      let q = (head_does g l h e).0 in
      (omega (arith, q.above, head_is t, r.head), omega (arith, q.within, tail_is t, tail_ends r))

  pub tail_within : (x : ℕ) → (does (tail_starts x) g l).number ≡ 0 → (y.head ≤ x) × (x < end_in y)
  tail_within x e =
      let q = (tail_does g l x e).0 in
      (omega (arith, q.low, head_is t, r.head), omega (arith, q.high, tail_is t, tail_ends r))
