-- A state in hand says what the history says: its head and its end are the history's, so that read is done for the history's LSNs
-- alone and the live count is the history's length.
use Prim.Native.Nat.{ℕ, ◌≤◌, ◌<◌}
use mathlib.Core.Path.{◌≡◌, refl, ap, ◌∙◌}
use mathlib.Core.Bool.{Bool, true, false, ◌&&◌}
use mathlib.Core.List.{List}
use native.Mathlib.Omega.{arith}
use borrow.Author.Tests.{leb-true, ltb-true, eqb-true, eq-eqb}
use lib.Dec.{leb, ltb, eqb}
use Rattle.refusals.specs.Order.{when}
use Rattle.refusals.proofs.First.{none_refuses, must_holds}
use Rattle.numbers.proofs.Tests.{both}
use Rattle.state.specs.declared.State.{State}
use Rattle.counts.specs.Counts.{Report}
use Rattle.counts.specs.Counts.{counts_number, counted, counts_of}
use Rattle.walk.specs.Walk.{live_rule}
use Rattle.read.specs.Read.{read_rules, number_of_read, reading, read_answer}
use Rattle.contracts.specs.Call.{reads, does}
use Rattle.contracts.proofs.OnState.{state_call}
use Rattle.life.specs.Life.{World}
use Rattle.life.specs.Follows.{end_in, ReadsOnly, HandAgrees}
use Rattle.life.proofs.Book.{Constants}
use Rattle.life.proofs.Invariant.{Inv}
use Rattle.life.proofs.Invariant.Ties.{head_is, tail_is}
use Rattle.life.proofs.Invariant.Finds.{tail_ends}
use Rattle.life.proofs.Events.{stands_in, in_hand}
use Rattle.life.proofs.Lives.{lived_inv}
use Rattle.life.proofs.Follows.Fine.{counts_answers}

module _ {f : Constants} (w : World) (i : Inv f w) (h : w.held ≡ true) where
  head_agrees : w.log.head.0 ≡ w.history.head
  head_agrees = head_is (stands_in i h).knows.tied ∙ i.rests.head

  tail_agrees : w.log.tail.0 ≡ end_in w.history
  tail_agrees = tail_is (stands_in i h).knows.tied ∙ tail_ends i.rests

counts_done : (g : State) → counts_number g ≡ 0 → counts_of g ≡ counted g
unfolding counts_of
counts_done g e = rw (eq-eqb (counts_number g) 0 e)

pub hand_agrees : HandAgrees
unfolding HandAgrees
hand_agrees w n h =
    let i = lived_inv n in
    let head = head_agrees w i h in
    let tail = tail_agrees w i h in
    let done = counts_done w.log (counts_answers i.rests (stands_in i h)) in
    record {
      head = head;
      tail = tail;
      counted = ap (λ (c : Report). c.number) done;
      live = ap (λ (c : Report). c.live) done ∙ omega (arith, head, tail);
    }

-- ---- read

read_number : (g : State) (l : List ℕ) (x : ℕ) → (read_answer g l x).number ≡ 0 → number_of_read g l x ≡ 0
unfolding read_answer
read_number g l x e = by _ _ (eqb (number_of_read g l x) 0) refl e
  where
    by :
        (place size : ℕ) (t : Bool)
        → eqb (number_of_read g l x) 0 ≡ t
        → (when t (reading 0 g place size) (reading (number_of_read g l x) g 0 0)).number ≡ 0
        → number_of_read g l x ≡ 0
    by place size true q z = eqb-true (number_of_read g l x) 0 q
    by place size false q z = z

live_only : (g : State) (l : List ℕ) (x : ℕ) → number_of_read g l x ≡ 0 → (g.head.0 ≤ x) × (x < g.tail.0)
unfolding number_of_read read_rules live_rule
live_only g l x z =
    let p = none_refuses _ _ (none_refuses _ _ z).1 in
    let q = both _ _ (must_holds (leb g.head.0 x && ltb x g.tail.0) 9 p.0) in
    (leb-true g.head.0 x q.0, ltb-true x g.tail.0 q.1)

pub reads_only : ReadsOnly
unfolding ReadsOnly
reads_only w n x e =
    let i = lived_inv n in
    let z = read_number w.log w.image x e in
    let h = (in_hand w i (state_call (reads x) refl) (unfold does in z)).0 in
    let q = live_only w.log w.image x z in
    (omega (arith, q.0, head_agrees w i h), omega (arith, q.1, tail_agrees w i h))
