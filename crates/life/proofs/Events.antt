-- Every event keeps the invariant: a call that is done, by its turn; a call that is refused, since it changes nothing; a call whose
-- store is cut, by the torn half of its turn; the power that goes between calls.
use Prim.Native.Nat.{ℕ, ◌≤◌}
use mathlib.Core.Path.{◌≡◌, refl, ap, ◌∙◌}
use mathlib.Core.List.{List}
use mathlib.Core.Bool.{Bool, true, false}
use native.Mathlib.Omega.{arith}
use borrow.Author.Tests.{le-leb, leb-true, leb-false, eqb-true, eqb-false}
use lib.Dec.{leb, eqb}
use Rattle.medium.specs.Store.{Store, count, laid, arrives, through}
use Rattle.medium.specs.declared.Kind.{Kind}
use Rattle.medium.specs.declared.Kind.TheVariants.{Metadata, Record, Wipe}
use Rattle.state.specs.Change.{zero_state}
use Rattle.well.specs.Well.{well_formed}
use Rattle.contracts.specs.Call.{Call, opens}
use Rattle.contracts.proofs.OnState.{OnState, OpenOr, is_open, others, open_or}
use Rattle.life.specs.Life.{History, World, Event, call, cut, dark, opening, called, cut_after, step}
use Rattle.life.proofs.Book.{Book, Constants, constants}
use Rattle.life.proofs.Invariant.{Rests, rests_on, StandsIn, InHand, Inv}
use Rattle.life.proofs.Invariant.Modes.{never}
use Rattle.life.proofs.Invariant.Ties.{arrays_long}
use Rattle.life.proofs.Turns.Done.{did, keeps_hand, lost_refuses}
use Rattle.life.proofs.Turns.Moves.{Turn}
use Rattle.life.proofs.Turns.Reopens.{open_does, open_turn, open_well}
use Rattle.life.proofs.Turns.{turns}

-- ---- what arrives

all_arrive : (kind : Kind) (n k : ℕ) → n ≤ k → through kind n k ≡ n
all_arrive Metadata n k h = rw (le-leb n k h)
all_arrive Record n k h = omega arith
all_arrive Wipe n k h = omega arith

arrives_whole : (s : Store) (k : ℕ) → count s ≤ k → arrives k s ≡ count s
unfolding arrives
arrives_whole s k h = all_arrive s.kind (count s) k h

-- ---- the power goes: the image and the history are left

lost_inv :
    {f : Constants} (l : List ℕ) (y : History) (b : Book)
    → constants b ≡ f
    → Rests l b y
    → Inv f (record { log = zero_state; image = l; history = y; held = false })
unfolding zero_state
lost_inv l y b same r = record { book = b; same = same; rests = r; hand = refl }

-- ---- the state in hand

pub stands_in : {f : Constants} {w : World} (i : Inv f w) → w.held ≡ true → StandsIn w i.book
stands_in {w = w} i h = by w.held h i.hand
  where
    by : (t : Bool) → t ≡ true → InHand t w.log w.image i.book w.history.rolled → StandsIn w i.book
    by true e q = q
    by false e q = never e

module _ {f : Constants} (w : World) (i : Inv f w) where
  -- a state is in hand where a call other than open is done
  pub in_hand : {c : Call} → OnState c → (did w c).number ≡ 0 → (w.held ≡ true) × StandsIn w i.book
  in_hand {c} on z = by w.held i.hand
    where
      by : (h : Bool) → InHand h w.log w.image i.book w.history.rolled → (h ≡ true) × StandsIn w i.book
      by true q = (refl, q)
      by false q = absurd (lost_refuses on w.log w.image q z)

  pub open_number_is : (did w opens).number ≡ 0
  open_number_is = ap (λ o. o.number) (open_does i.rests w.log)

  -- and is in hand behind it
  hand_after : {c : Call} → OpenOr c → (did w c).number ≡ 0 → opening c w.held ≡ true
  hand_after is_open z = refl
  hand_after (others on) z = keeps_hand on w.held ∙ (in_hand on z).0

  -- a refused call leaves the image, and what was in hand
  record Refused (c : Call) : Type 0 where
    next : (did w c).next ≡ w.log
    image : (k : ℕ) → laid k (did w c).store w.image ≡ w.image
    hand : opening c w.held ≡ w.held

  refused : {c : Call} → OpenOr c → ((did w c).number ≡ 0 → ⊥) → Refused c
  refused is_open h = absurd (h open_number_is)
  refused (others on) h =
      let q = on.refused w.log w.image h in
      record { next = q.0; image = λ k. q.1 k w.image; hand = keeps_hand on w.held }

  -- ---- what each event leaves

  turn_of : {c : Call} → OpenOr c → (did w c).number ≡ 0 → Turn c w.log w.image i.book w.history
  turn_of is_open z = open_turn i.rests w.log
  turn_of (others {c} on) z = turns c w.log w.image i.book w.history i.rests (in_hand on z).1.knows z

  well_after : {c : Call} → OpenOr c → (did w c).number ≡ 0 → well_formed (did w c).next ≡ true
  well_after is_open z = open_well i.rests w.log
  well_after (others on) z =
      let s = (in_hand on z).1 in
      let long = arrays_long s.knows.tied i.rests.sound in
      (on.settles w.log w.image long.0 long.1 z).well

  call_inv : (c : Call) → Inv f (called c (did w c) w)
  call_inv c = by (eqb (did w c).number 0) refl
    where
      by : (t : Bool) → eqb (did w c).number 0 ≡ t → Inv f (called c (did w c) w)
      by true q =
          let z : (did w c).number ≡ 0 = eqb-true _ 0 q in
          let t = (turn_of (open_or c) z).moves in
          let n : ℕ = count (did w c).store in
          rw (q, le-leb n n (omega arith), hand_after (open_or c) z)
          (record { book = t.book; same = t.same ∙ i.same; rests = t.rests; hand = record { well = well_after (open_or c) z; knows = t.knows } })
      by false q =
          let r = refused (open_or c) (eqb-false _ 0 q) in
          let n : ℕ = count (did w c).store in
          rw (q, r.next, r.image n, r.hand)
          (record { book = i.book; same = i.same; rests = i.rests; hand = i.hand })

  cut_inv : (c : Call) (k : ℕ) → Inv f (cut_after c (did w c) k w)
  cut_inv c k = by (eqb (did w c).number 0) (leb (count (did w c).store) k) refl refl
    where
      by :
          (t u : Bool)
          → eqb (did w c).number 0 ≡ t
          → leb (count (did w c).store) k ≡ u
          → Inv f (cut_after c (did w c) k w)
      by true true q u =
          let t = (turn_of (open_or c) (eqb-true _ 0 q)).moves in
          rw (q, u, arrives_whole (did w c).store k (leb-true _ k u))
          (lost_inv _ _ t.book (t.same ∙ i.same) t.rests)
      by true false q u =
          let t = (turn_of (open_or c) (eqb-true _ 0 q)).moves in
          rw (q, u) (lost_inv _ _ i.book i.same (rests_on (t.torn k (leb-false _ k u)) i.rests))
      by false u q p =
          let r = refused (open_or c) (eqb-false _ 0 q) in
          rw (q, r.image (arrives k (did w c).store)) (lost_inv w.image w.history i.book i.same i.rests)

  pub event_inv : (v : Event) → Inv f (step v w)
  unfolding step
  event_inv (call c) = call_inv c
  event_inv (cut c k) = cut_inv c k
  event_inv dark = lost_inv w.image w.history i.book i.same i.rests
