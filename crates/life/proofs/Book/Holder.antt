-- Which extent an LSN lies in: the last one that starts at or below it. It holds the LSN's record, and the state finds it by counting
-- the starts: what a tail truncation and read look for.
use Prim.Native.Nat.{ℕ, suc, ◌+◌, ◌-◌, ◌≤◌, ◌<◌}
use mathlib.Core.Path.{◌≡◌, refl, ◌∙◌}
use mathlib.Core.List.{List, [], ◌∷◌, ◌++◌, map}
use mathlib.Core.Bool.{Bool, true, false}
use native.Mathlib.Omega.{arith}
use borrow.Author.Tests.{le-leb, lt-leb, leb-true, leb-false}
use lib.Dec.{leb}
use lib.ListN.{length, get_or, get_or-append}
use lib.Seq.{get_or-append-add}
use Rattle.refusals.specs.Order.{when}
use Rattle.slots.specs.Entries.{leading}
use Rattle.scan.specs.Scan.{Extent, end_of, slot_part}
use Rattle.life.proofs.Book.{start_list, Holds, first_start, flat, Joined, Olds}

-- the holder of x
unfoldable pub holder : ℕ → List Extent → Extent → Extent
holder x [] w = w
holder x (o ∷ os) w = when (leb (first_start os w.start) x) (holder x os w) o

-- ---- how many start at or below x

module _ (x : ℕ) where
  pub none_leads : (os : List Extent) (a : ℕ) → x < first_start os a → leading x (start_list os a) ≡ 0
  unfolding leading
  none_leads [] a h = rw (lt-leb a x h)
  none_leads (o ∷ os) a h = rw (lt-leb o.start x h)

  pub one_leads : (o : Extent) (os : List Extent) (a : ℕ) → o.start ≤ x → leading x (start_list (o ∷ os) a) ≡ suc (leading x (start_list os a))
  unfolding leading
  one_leads o os a h = rw (le-leb o.start x h)

  some_lead : (os : List Extent) (a : ℕ) → first_start os a ≤ x → leading x (start_list os a) ≡ suc (leading x (start_list os a) - 1)
  some_lead [] a h = let one : leading x (a ∷ []) ≡ 1 = unfold leading in rw (le-leb a x h) in rw one
  some_lead (o ∷ os) a h = omega (arith, one_leads o os a h)

-- ---- the holder

pub record Lies (x : ℕ) (w : Extent) (os : List Extent) (h : Extent) : Type 0 where
  pub low : h.start ≤ x
  pub high : x < end_of w → x < end_of h
  -- where the state looks, in a list with an entry for each extent
  pub looked : (f : Extent → ℕ) → get_or (map f os ++ (f w ∷ [])) (leading x (start_list os w.start) - 1) 0 ≡ f h
  pub holds : (l : List ℕ) (e v last : ℕ) → Olds l e v last os → Holds (slot_part l e w.slot) v last w → Holds (slot_part l e h.slot) v last h
  -- the payload at x, of all and of the holder's
  pub payload : get_or (flat os w) (x - first_start os w.start) [] ≡ get_or h.payloads (x - h.start) []

module _ (x : ℕ) (w : Extent) where
  later :
      (o : Extent) (os : List Extent)
      → end_of o ≡ first_start os w.start
      → first_start os w.start ≤ x
      → Lies x w os (holder x os w)
      → Lies x w (o ∷ os) (holder x os w)
  unfolding flat
  later o os meets h q =
      let n : x - o.start ≡ length o.payloads + (x - first_start os w.start) = omega arith in
      let i : leading x (start_list (o ∷ os) w.start) - 1 ≡ suc (leading x (start_list os w.start) - 1) =
      omega (arith, one_leads x o os w.start (omega arith), some_lead x os w.start h) in
      record {
        low = q.low;
        high = q.high;
        looked = λ f. rw i (q.looked f);
        holds = λ l e v last c p. q.holds l e v last c.1 p;
        payload = rw n (get_or-append-add o.payloads (flat os w) (x - first_start os w.start) [] ∙ q.payload);
      }

  here : (o : Extent) (os : List Extent) → end_of o ≡ first_start os w.start → x < first_start os w.start → o.start ≤ x → Lies x w (o ∷ os) o
  unfolding flat
  here o os meets h low =
      let i : leading x (start_list (o ∷ os) w.start) - 1 ≡ 0 = omega (arith, one_leads x o os w.start low, none_leads x os w.start h) in
      record {
        low = low;
        high = λ k. omega arith;
        looked = λ f. rw i;
        holds = λ l e v last c p. c.0.holds;
        payload = get_or-append o.payloads (flat os w) [] (x - o.start) (omega arith);
      }

  pub lies : (os : List Extent) → Joined os w.start → first_start os w.start ≤ x → Lies x w os (holder x os w)
  unfolding holder flat
  lies [] j h =
      let one : leading x (w.start ∷ []) ≡ 1 = unfold leading in rw (le-leb w.start x h) in
      record { low = h; high = λ k. k; looked = λ f. rw one; holds = λ l e v last c p. p; payload = refl }
  lies (o ∷ os) j h = by (leb (first_start os w.start) x) refl (λ k. lies os j.2 k)
    where
      by :
          (t : Bool)
          → leb (first_start os w.start) x ≡ t
          → (first_start os w.start ≤ x → Lies x w os (holder x os w))
          → Lies x w (o ∷ os) (when t (holder x os w) o)
      by true e ih = later o os j.1 (leb-true _ _ e) (ih (leb-true _ _ e))
      by false e ih = here o os j.1 (leb-false _ _ e) h
