-- A head truncation at h on the old extents: those that end at or below h leave, and from h on nothing is lost. What stays is sound, and
-- the state drops as many entries of its lists.
use Prim.Native.Nat.{ℕ, suc, ◌+◌, ◌-◌, ◌≤◌}
use mathlib.Core.Path.{◌≡◌, refl, sym, ◌∙◌}
use mathlib.Core.List.{List, [], ◌∷◌, ◌++◌, map}
use mathlib.Core.Bool.{Bool, true, false}
use native.Mathlib.Omega.{arith}
use borrow.Author.Tests.{le-leb, leb-true, leb-false}
use lib.Dec.{leb, ltb}
use lib.ListN.{length, drop}
use lib.Seq.{drop-append-add}
use Rattle.refusals.specs.Order.{when}
use Rattle.numbers.proofs.Tests.{both}
use Rattle.metadata.specs.Metadata.{all_below}
use Rattle.slots.specs.Entries.{leading}
use Rattle.slots.proofs.Members.{distinct_cons}
use Rattle.scan.specs.Scan.{Extent}
use Rattle.life.proofs.Book.{slot_list, start_list, first_start, flat, live_in, Joined, BelowSecond, SlotsOk, Olds}
use Rattle.life.proofs.Book.Holder.{none_leads}

-- the old extents that stay; a is the write extent's start
unfoldable pub staying : ℕ → List Extent → ℕ → List Extent
staying h [] a = []
staying h (o ∷ os) a = when (leb (first_start os a) h) (staying h os a) (o ∷ os)

module _ (h a : ℕ) where
  -- what is true of every end of a list is true of what stays
  stays :
      (P : List Extent → Type 0)
      → ((o : Extent) (os : List Extent) → P (o ∷ os) → P os)
      → (os : List Extent)
      → P os
      → P (staying h os a)
  unfolding staying
  stays P less [] p = p
  stays P less (o ∷ os) p = by (leb (first_start os a) h) (stays P less os (less o os p))
    where
      by : (t : Bool) → P (staying h os a) → P (when t (staying h os a) (o ∷ os))
      by true q = q
      by false q = p

  pub staying_joined : (os : List Extent) → Joined os a → 1 ≤ first_start os a → Joined (staying h os a) a × (1 ≤ first_start (staying h os a) a)
  staying_joined os j low = stays (λ os. Joined os a × (1 ≤ first_start os a)) (λ o os q. (q.0.2, omega (arith, q.0.1, q.1))) os (j, low)

  pub staying_olds : (l : List ℕ) (e v last : ℕ) (os : List Extent) → Olds l e v last os → Olds l e v last (staying h os a)
  staying_olds l e v last os c = stays (λ os. Olds l e v last os) (λ o os q. q.1) os c

  pub staying_slots : (s k : ℕ) (os : List Extent) → SlotsOk s (slot_list os k) → SlotsOk s (slot_list (staying h os a) k)
  staying_slots s k os c = stays (λ os. SlotsOk s (slot_list os k)) (λ o os q. less o os q) os c
    where
      less : (o : Extent) (os : List Extent) → SlotsOk s (slot_list (o ∷ os) k) → SlotsOk s (slot_list os k)
      less o os q = unfold all_below in record {
        below = (both (ltb o.slot s) (all_below s (slot_list os k)) q.below).1;
        apart = (distinct_cons o.slot (slot_list os k) q.apart).1;
      }

-- the state drops as many, of any list with an entry for each extent
first_leads : (h : ℕ) (os : List Extent) (a : ℕ) → first_start os a ≤ h → leading h (start_list os a) ≡ suc (leading h (drop 1 (start_list os a)))
unfolding leading
first_leads h [] a k = rw (le-leb a h k)
first_leads h (o ∷ os) a k = rw (le-leb o.start h k)

pub staying_is :
    (h a : ℕ) (f : Extent → ℕ) (z : ℕ) (os : List Extent)
    → drop (leading h (drop 1 (start_list os a))) (map f os ++ (z ∷ [])) ≡ map f (staying h os a) ++ (z ∷ [])
unfolding leading staying
staying_is h a f z [] = refl
staying_is h a f z (o ∷ os) = by (leb (first_start os a) h) refl (staying_is h a f z os)
  where
    by :
        (t : Bool)
        → leb (first_start os a) h ≡ t
        → drop (leading h (drop 1 (start_list os a))) (map f os ++ (z ∷ [])) ≡ map f (staying h os a) ++ (z ∷ [])
        → drop (leading h (start_list os a)) (f o ∷ (map f os ++ (z ∷ []))) ≡ map f (when t (staying h os a) (o ∷ os)) ++ (z ∷ [])
    by true e ih = rw (first_leads h os a (leb-true _ _ e)) ih
    by false e ih = rw (none_leads h os a (leb-false _ _ e))

-- h lies in the first that stays, and what is live from h on is the same
pub record Released (h : ℕ) (w : Extent) (os ds : List Extent) : Type 0 where
  pub low : first_start ds w.start ≤ h
  pub second : BelowSecond h ds w.start
  pub live : live_in h ds w ≡ live_in h os w

pub released :
    (h : ℕ) (w : Extent) (os : List Extent)
    → Joined os w.start
    → first_start os w.start ≤ h
    → Released h w os (staying h os w.start)
unfolding staying flat
released h w [] j a = record { low = a; second = tt; live = refl }
released h w (o ∷ os) j a = by (leb (first_start os w.start) h) refl (λ q. released h w os j.2 q)
  where
    by :
        (t : Bool)
        → leb (first_start os w.start) h ≡ t
        → (first_start os w.start ≤ h → Released h w os (staying h os w.start))
        → Released h w (o ∷ os) (when t (staying h os w.start) (o ∷ os))
    by true e ih =
        let up : first_start os w.start ≤ h = leb-true _ _ e in
        let q = ih up in
        let n : h - o.start ≡ length o.payloads + (h - first_start os w.start) = omega (arith, j.1) in
        let live : live_in h os w ≡ live_in h (o ∷ os) w = rw n (sym (drop-append-add o.payloads (flat os w) (h - first_start os w.start))) in
        record { low = q.low; second = q.second; live = q.live ∙ live }
    by false e ih = record { low = a; second = leb-false _ _ e; live = refl }
