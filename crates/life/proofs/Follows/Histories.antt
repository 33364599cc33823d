-- What an event does to the history: nothing, or what the call that it decides does. Four calls change the records, and the others
-- leave them.
use Prim.Native.Nat.{ℕ}
use mathlib.Core.Path.{◌≡◌, refl}
use mathlib.Core.List.{List}
use mathlib.Core.Bool.{Bool, true, false}
use native.Mathlib.Omega.{arith}
use borrow.Author.Tests.{le-leb, leb-true, eq-eqb, eqb-true}
use lib.Dec.{leb, eqb}
use Rattle.medium.specs.Store.{count}
use Rattle.contracts.specs.Call.{Call, opens, wipes, marks, appends, roll_begins, roll_writes, roll_lists, head_starts, head_finishes, tail_starts}
use Rattle.contracts.specs.Call.{tail_finishes, closes, reads, counts}
use Rattle.life.specs.Life.{History, happens, World, Event, call, cut, dark, step}
use Rattle.life.specs.Follows.{Decides, whole, late}
use Rattle.life.proofs.Turns.Done.{did}

pub data Goes (w : World) (v : Event) : Type 0 where
  stays : (step v w).history ≡ w.history → Goes w v
  turns : (c : Call) → Decides w c v → Goes w v

pub goes : (w : World) (v : Event) → Goes w v
unfolding step
goes w (call c) = by (eqb (did w c).number 0) refl
  where
    by : (t : Bool) → eqb (did w c).number 0 ≡ t → Goes w (call c)
    by true e = turns c (whole (eqb-true _ 0 e))
    by false e = stays (rw e)
goes w (cut c k) = by (eqb (did w c).number 0) (leb (count (did w c).store) k) refl refl
  where
    by : (t u : Bool) → eqb (did w c).number 0 ≡ t → leb (count (did w c).store) k ≡ u → Goes w (cut c k)
    by true true e f = turns c (late (eqb-true _ 0 e) (leb-true _ k f))
    by true false e f = stays (rw (e, f))
    by false u e f = stays (rw e)
goes w dark = stays refl

pub decides_done : {w : World} {c : Call} {v : Event} → Decides w c v → (did w c).number ≡ 0
decides_done (whole z) = z
decides_done (late z h) = z

-- what a decided call leaves
pub decides_goes : {w : World} {c : Call} {v : Event} → Decides w c v → (step v w).history ≡ happens c w.history
unfolding step
decides_goes {w} {c} (whole z) =
    let n : ℕ = count (did w c).store in
    rw (eq-eqb _ 0 z, le-leb n n (omega arith))
decides_goes {w} {c} (late {k} z h) = rw (eq-eqb _ 0 z, le-leb _ k h)

-- ---- the four calls that change the records, and the others

pub data Effect : Call → Type 0 where
  none : {c : Call} → ((y : History) → ((happens c y).head ≡ y.head) × ((happens c y).payloads ≡ y.payloads)) → Effect c
  one_more : (p : List ℕ) → Effect (appends p)
  rolled_on : Effect roll_lists
  head_goes : (h : ℕ) → Effect (head_starts h)
  tail_goes : (t : ℕ) → Effect (tail_starts t)

pub effect : (c : Call) → Effect c
effect opens = none {c = opens} (λ y. (refl, refl))
effect wipes = none {c = wipes} (λ y. (refl, refl))
effect marks = none {c = marks} (λ y. (refl, refl))
effect (appends p) = one_more p
effect (roll_begins n) = none {c = roll_begins n} (λ y. (refl, refl))
effect (roll_writes p) = none {c = roll_writes p} (λ y. (refl, refl))
effect roll_lists = rolled_on
effect (head_starts h) = head_goes h
effect head_finishes = none {c = head_finishes} (λ y. (refl, refl))
effect (tail_starts t) = tail_goes t
effect tail_finishes = none {c = tail_finishes} (λ y. (refl, refl))
effect closes = none {c = closes} (λ y. (refl, refl))
effect (reads x) = none {c = reads x} (λ y. (refl, refl))
effect counts = none {c = counts} (λ y. (refl, refl))
