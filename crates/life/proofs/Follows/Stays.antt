-- What is withdrawn stays out and what is kept stays: event by event, over the history, which open shows. A withdrawn LSN lies above the
-- history's end until a new record takes it.
use Prim.Native.Nat.{ℕ, ◌+◌, ◌-◌, ◌≤◌, ◌<◌}
use mathlib.Core.Path.{◌≡◌, refl}
use mathlib.Core.List.{List, [], ◌∷◌, ◌++◌}
use native.Mathlib.Omega.{arith}
use lib.ListN.{length, length-append, length-take, length-drop}
use Rattle.contracts.specs.Call.{Call, head_starts, tail_starts}
use Rattle.contracts.proofs.OnState.{state_call}
use Rattle.life.specs.Life.{happens, World, Event, step, lives, Record}
use Rattle.life.specs.Follows.{shows, Among, records_in, end_in, Decides, Adds, appended, listed, Takes, Removes, released, withdrawn, Never}
use Rattle.life.specs.Follows.{WithdrawnStaysOut, KeptStays, AddedStays}
use Rattle.life.proofs.Book.{Constants}
use Rattle.life.proofs.Invariant.{Inv}
use Rattle.life.proofs.Turns.Truncates.{head_within, tail_within}
use Rattle.life.proofs.Events.{in_hand, event_inv}
use Rattle.life.proofs.Lives.{inv_found, lives_inv, lived_inv}
use Rattle.life.proofs.Follows.Histories.{Goes, stays, turns, goes, decides_done, decides_goes, Effect, none, one_more, rolled_on, head_goes}
use Rattle.life.proofs.Follows.Histories.{tail_goes, effect}
use Rattle.life.proofs.Follows.Shown.{found_shows, among_range, among_drop, among_take, among_more, among_last}

-- open shows the history's records
pub shown_is : {f : Constants} {w : World} → Inv f w → shows w.image ≡ records_in w.history
shown_is i = found_shows (inv_found i)

-- ---- one event

module _ {f : Constants} (w : World) (i : Inv f w) (v : Event) where
  head_bounds : (h : ℕ) → Decides w (head_starts h) v → (w.history.head < h) × (h ≤ end_in w.history)
  head_bounds h d =
      let z = decides_done d in
      head_within i.rests (in_hand w i (state_call (head_starts h) refl) z).1.knows.tied h z

  tail_bounds : (t : ℕ) → Decides w (tail_starts t) v → (w.history.head ≤ t) × (t < end_in w.history)
  tail_bounds t d =
      let z = decides_done d in
      tail_within i.rests (in_hand w i (state_call (tail_starts t) refl) z).1.knows.tied t z

  -- the end after a truncation
  head_end : (h : ℕ) → Decides w (head_starts h) v → end_in (happens (head_starts h) w.history) ≡ end_in w.history
  head_end h d = rw length-drop (omega (arith, head_bounds h d))

  tail_end : (t : ℕ) → Decides w (tail_starts t) v → end_in (happens (tail_starts t) w.history) ≡ t
  tail_end t d = rw length-take (omega (arith, tail_bounds t d))

  end_more : (p : List ℕ) → w.history.head + length (w.history.payloads ++ (p ∷ [])) ≡ end_in w.history + 1
  end_more p = rw length-append (omega arith)

  -- the history ends at x or below it, and no new record takes x
  module _ (x : ℕ) (low : end_in w.history ≤ x) (untaken : Takes x w v → ⊥) where
    passed : (p : List ℕ) → Adds p w v → end_in w.history + 1 ≤ x
    passed p a = let apart : end_in w.history ≡ x → ⊥ = λ q. untaken (record { payload = p; adds = a; here = q }) in omega arith

    below_call : {c : Call} → Effect c → Decides w c v → end_in (happens c w.history) ≤ x
    below_call (none f) d = rw ((f w.history).0, (f w.history).1) low
    below_call (one_more p) d = omega (arith, end_more p, passed p (appended d))
    below_call rolled_on d = omega (arith, end_more w.history.rolled, passed w.history.rolled (listed d refl))
    below_call (head_goes h) d = omega (arith, head_end h d)
    below_call (tail_goes t) d = omega (arith, tail_end t d, (tail_bounds t d).1)

    below_event : end_in (step v w).history ≤ x
    below_event = by (goes w v)
      where
        by : Goes w v → end_in (step v w).history ≤ x
        by (stays q) = rw q low
        by (turns c d) = rw (decides_goes d) (below_call (effect c) d)

  -- a record of the history that is not removed
  module _ (r : Record) (there : Among r (records_in w.history)) (kept : Removes r.lsn w v → ⊥) where
    kept_call : {c : Call} → Effect c → Decides w c v → Among r (records_in (happens c w.history))
    kept_call (none f) d = rw ((f w.history).0, (f w.history).1) there
    kept_call (one_more p) d = among_more r w.history.head w.history.payloads p there
    kept_call rolled_on d = among_more r w.history.head w.history.payloads w.history.rolled there
    kept_call (head_goes h) d =
        let n : w.history.head + (h - w.history.head) ≡ h = omega (arith, (head_bounds h d).0) in
        let up : r.lsn < h → ⊥ = λ q. kept (released h d q) in
        rw n at (among_drop r (h - w.history.head) w.history.head w.history.payloads (omega arith) there)
    kept_call (tail_goes t) d =
        let down : t ≤ r.lsn → ⊥ = λ q. kept (withdrawn t d q) in
        among_take r (t - w.history.head) w.history.head w.history.payloads (omega (arith, (tail_bounds t d).0)) there

    kept_event : Among r (records_in (step v w).history)
    kept_event = by (goes w v)
      where
        by : Goes w v → Among r (records_in (step v w).history)
        by (stays q) = rw q there
        by (turns c d) = rw (decides_goes d) (kept_call (effect c) d)

-- ---- every life

below_lives :
    {f : Constants} (x : ℕ) (vs : List Event) (w : World)
    → Inv f w
    → end_in w.history ≤ x
    → Never (Takes x) vs w
    → end_in (lives vs w).history ≤ x
unfolding lives
below_lives x [] w i low n = low
below_lives x (v ∷ vs) w i low n = below_lives x vs (step v w) (event_inv w i v) (below_event w i v x low n.0) n.1

kept_lives :
    {f : Constants} (r : Record) (vs : List Event) (w : World)
    → Inv f w
    → Among r (records_in w.history)
    → Never (Removes r.lsn) vs w
    → Among r (records_in (lives vs w).history)
unfolding lives
kept_lives r [] w i there n = there
kept_lives r (v ∷ vs) w i there n = kept_lives r vs (step v w) (event_inv w i v) (kept_event w i v r there n.0) n.1

pub withdrawn_stays_out : WithdrawnStaysOut
unfolding WithdrawnStaysOut
withdrawn_stays_out w n v t x d h vs untaken p m =
    let i = lived_inv n in
    let j = event_inv w i v in
    let low : end_in (step v w).history ≤ x = rw (decides_goes d) (omega (arith, tail_end w i v t d)) in
    let far = below_lives x vs (step v w) j low untaken in
    let r : Record = record { lsn = x; payload = p } in
    let found : Among r (records_in (lives vs (step v w)).history) = rw (shown_is (lives_inv vs (step v w) j)) at m in
    omega (arith, (among_range r _ _ found).1)

pub kept_stays : KeptStays
unfolding KeptStays
kept_stays w n r m vs kept =
    let i = lived_inv n in
    rw (shown_is (lives_inv vs w i)) (kept_lives r vs w i m kept)

added : {w : World} {v : Event} {p : List ℕ} → Adds p w v → Among (record { lsn = end_in w.history; payload = p }) (records_in (step v w).history)
added {w} {v} {p} (appended d) = rw (decides_goes d) (among_last w.history.head w.history.payloads p)
added {w} {v} {p} (listed d q) = rw (decides_goes d, ← q) (among_last w.history.head w.history.payloads w.history.rolled)

pub added_stays : AddedStays
unfolding AddedStays
added_stays w n v p a vs kept =
    let j = event_inv w (lived_inv n) v in
    rw (shown_is (lives_inv vs (step v w) j)) (kept_lives _ vs (step v w) j (added a) kept)
