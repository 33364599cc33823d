-- A tail truncation at t on the extents: those that start above t leave, and the one that t lies in is cut at t. Under the next version
-- the slots hold what is left, and it is the front of what was there.
use Prim.Native.Nat.{ℕ, ◌+◌, ◌-◌, ◌≤◌, ◌<◌}
use mathlib.Core.Path.{◌≡◌, refl, sym, ◌∙◌}
use mathlib.Core.List.{List, [], ◌∷◌, ◌++◌, map}
use mathlib.Core.Bool.{Bool, true, false}
use native.Mathlib.Omega.{arith}
use borrow.Author.Tests.{le-leb, leb-true, leb-false}
use lib.Dec.{leb}
use lib.ListN.{length, take, length-take}
use lib.Seq.{length-take-le, take-append-le, take-append-add, get_or-take}
use Rattle.refusals.specs.Order.{when}
use Rattle.metadata.proofs.Below.{below_at, below_all}
use Rattle.slots.specs.Entries.{leading}
use Rattle.slots.proofs.Members.{distinct_take}
use Rattle.scan.specs.Scan.{Extent, end_of, slot_part}
use Rattle.life.proofs.Book.{start_list, Holds, first_start, flat, Joined, BelowSecond, SlotsOk, Olds}
use Rattle.life.proofs.Book.Holder.{holder, none_leads, one_leads}
use Rattle.life.proofs.Book.Pieces.{up_to, clean_rebase, tail_holds}

-- the old extents that stay old; a is the write extent's start. The new write extent is the holder of t, up to t
unfoldable pub keeping : ℕ → List Extent → ℕ → List Extent
keeping t [] a = []
keeping t (o ∷ os) a = when (leb (first_start os a) t) (o ∷ keeping t os a) []

-- a front of the slots
pub slots_front : (s n : ℕ) (ks : List ℕ) → SlotsOk s ks → SlotsOk s (take n ks)
slots_front s n ks f = record {
  below = below_all s (take n ks) (λ i h.
      let k : i < n = omega (arith, length-take n ks) in
      rw (get_or-take n ks i 0 k) (below_at s ks f.below i (omega (arith, length-take n ks))));
  apart = distinct_take n ks f.apart;
}

module _ (t : ℕ) (w : Extent) where
  -- of a list with an entry for each extent, those of the extents up to t are those of ks and of k
  abbrev pub Taken : (Extent → ℕ) → List Extent → List Extent → Extent → Type 0
  Taken f os ks k = take (leading t (start_list os w.start)) (map f os ++ (f w ∷ [])) ≡ map f ks ++ (f k ∷ [])

  -- the state takes as many
  pub keeping_is :
      (f : Extent → ℕ) (os : List Extent)
      → Joined os w.start
      → first_start os w.start ≤ t
      → Taken f os (keeping t os w.start) (holder t os w)
  unfolding keeping holder
  keeping_is f [] j h = let one : leading t (w.start ∷ []) ≡ 1 = unfold leading in rw (le-leb w.start t h) in rw one
  keeping_is f (o ∷ os) j h = rw (one_leads t o os w.start h) (by (leb (first_start os w.start) t) refl (λ q. keeping_is f os j.2 q))
    where
      by :
          (y : Bool)
          → leb (first_start os w.start) t ≡ y
          → (first_start os w.start ≤ t → Taken f os (keeping t os w.start) (holder t os w))
          → f o ∷ take (leading t (start_list os w.start)) (map f os ++ (f w ∷ []))
          ≡ map f (when y (o ∷ keeping t os w.start) []) ++ (f (when y (holder t os w) o) ∷ [])
      by true e ih = rw (ih (leb-true _ _ e))
      by false e ih = rw (none_leads t os w.start (leb-false _ _ e))

-- what is left: under the next version and last tail LSN t the slots hold it, and it is the front of what was there
pub record Withdrawn (l : List ℕ) (e v last t : ℕ) (w : Extent) (os ks : List Extent) (k : Extent) : Type 0 where
  pub olds : Olds l e (v + 1) t ks
  pub write : Holds (slot_part l e k.slot) (v + 1) t (up_to t k)
  pub joined : Joined ks k.start
  pub first : first_start ks k.start ≡ first_start os w.start
  pub end : end_of (up_to t k) ≡ t
  pub kept : flat ks (up_to t k) ≡ take (t - first_start os w.start) (flat os w)
  pub second : (h : ℕ) → BelowSecond h os w.start → BelowSecond h ks k.start

module _ (l : List ℕ) (e v last t : ℕ) where
  cut_end : (x : Extent) → x.start ≤ t → t < end_of x → end_of (up_to t x) ≡ t
  cut_end x low high = rw (length-take-le (t - x.start) x.payloads (omega arith)) (omega arith)

  -- t lies in a later extent
  later :
      (w o : Extent) (os ks : List Extent) (k : Extent)
      → Joined (o ∷ os) w.start
      → Olds l e v last (o ∷ os)
      → first_start os w.start ≤ t
      → Withdrawn l e v last t w os ks k
      → Withdrawn l e v last t w (o ∷ os) (o ∷ ks) k
  unfolding flat
  later w o os ks k j c low q =
      let n : t - o.start ≡ length o.payloads + (t - first_start os w.start) = omega (arith, j.1) in
      record {
        olds = (clean_rebase (slot_part l e o.slot) v last o (v + 1) t (omega arith) (omega (arith, j.1)) c.0, q.olds);
        write = q.write;
        joined = (j.0, j.1 ∙ sym q.first, q.joined);
        first = refl;
        end = q.end;
        kept = rw (n, q.kept) (sym (take-append-add o.payloads (flat os w) (t - first_start os w.start)));
        second = λ h b. rw q.first b;
      }

  -- t lies in this one
  here :
      (w o : Extent) (os : List Extent)
      → Joined (o ∷ os) w.start
      → Holds (slot_part l e o.slot) v last o
      → o.start ≤ t
      → t < first_start os w.start
      → Withdrawn l e v last t w (o ∷ os) [] o
  unfolding flat
  here w o os j c low high = record {
    olds = tt;
    write = tail_holds (slot_part l e o.slot) v last o t low (omega (arith, j.1)) c;
    joined = tt;
    first = refl;
    end = cut_end o low (omega (arith, j.1));
    kept = sym (take-append-le (t - o.start) o.payloads (flat os w) (omega (arith, j.1)));
    second = λ h b. tt;
  }

  pub withdrawn :
      (w : Extent) (os : List Extent)
      → Joined os w.start
      → first_start os w.start ≤ t
      → t < end_of w
      → Olds l e v last os
      → Holds (slot_part l e w.slot) v last w
      → Withdrawn l e v last t w os (keeping t os w.start) (holder t os w)
  unfolding keeping holder flat
  withdrawn w [] j low high c q = record {
    olds = tt;
    write = tail_holds (slot_part l e w.slot) v last w t low high q;
    joined = tt;
    first = refl;
    end = cut_end w low high;
    kept = refl;
    second = λ h b. tt;
  }
  withdrawn w (o ∷ os) j low high c q = by (leb (first_start os w.start) t) refl (λ m. withdrawn w os j.2 m high c.1 q)
    where
      by :
          (y : Bool)
          → leb (first_start os w.start) t ≡ y
          → (first_start os w.start ≤ t → Withdrawn l e v last t w os (keeping t os w.start) (holder t os w))
          → Withdrawn l e v last t w (o ∷ os) (when y (o ∷ keeping t os w.start) []) (when y (holder t os w) o)
      by true y ih = later w o os (keeping t os w.start) (holder t os w) j c (leb-true _ _ y) (ih (leb-true _ _ y))
      by false y ih = here w o os j c.0.holds low (leb-false _ _ y)
