-- Old extents that join, and the write extent behind them: where the first one starts and the last one ends, and that their records
-- are one sequence, numbered through, whose end from head on is what is live.
use Prim.Native.Nat.{ℕ, suc, ◌+◌, ◌-◌, ◌≤◌}
use mathlib.Core.Path.{◌≡◌, refl, sym, ap, ◌∙◌}
use mathlib.Core.List.{List, [], ◌∷◌, ◌++◌, append-nil}
use mathlib.Core.Bool.{Bool, true, false}
use native.Mathlib.Nat.{add-zero}
use native.Mathlib.Omega.{arith}
use borrow.Author.Tests.{le-leb, leb-true, leb-false}
use lib.Dec.{leb}
use lib.ListN.{length, drop, length-append}
use lib.Seq.{drop-nil, drop-append-le}
use Rattle.refusals.specs.Order.{when}
use Rattle.scan.specs.Scan.{Extent, end_of, joined, tail_of_extents, place_of}
use Rattle.scan.specs.Answers.{starts_of}
use Rattle.scan.proofs.Indexed.{cons_joined}
use Rattle.life.specs.Life.{numbered, records_of, live}
use Rattle.life.proofs.Book.{Book, place_in, start_list, first_start, book_start, flat, book_payloads, live_in, Joined, SoundBook}

-- ---- numbered payloads

pub numbered_append : (x : ℕ) (ps qs : List (List ℕ)) → numbered x (ps ++ qs) ≡ numbered x ps ++ numbered (x + length ps) qs
unfolding numbered
numbered_append x [] qs = rw add-zero
numbered_append x (p ∷ ps) qs =
    let e : x + 1 + length ps ≡ x + suc (length ps) = omega arith in
    rw (numbered_append (x + 1) ps qs, e)

-- all are live where the first is
live_all : (h a : ℕ) (ps : List (List ℕ)) → h ≤ a → live h (numbered a ps) ≡ numbered a ps
unfolding live numbered
live_all h a [] k = refl
live_all h a (p ∷ ps) k = rw (le-leb h a k, live_all h (a + 1) ps (omega arith))

pub live_numbered : (h a : ℕ) (ps : List (List ℕ)) → a ≤ h → live h (numbered a ps) ≡ numbered h (drop (h - a) ps)
unfolding live numbered
live_numbered h a [] k = rw (drop-nil (h - a))
live_numbered h a (p ∷ ps) k = by (leb h a) refl (λ q. live_numbered h (a + 1) ps q)
  where
    by :
        (t : Bool)
        → leb h a ≡ t
        → (a + 1 ≤ h → live h (numbered (a + 1) ps) ≡ numbered h (drop (h - (a + 1)) ps))
        → when t (record { lsn = a; payload = p } ∷ live h (numbered (a + 1) ps)) (live h (numbered (a + 1) ps)) ≡ numbered h (drop (h - a) (p ∷ ps))
    by true e ih =
        let z : h - a ≡ 0 = omega (arith, leb-true h a e) in
        let s : a ≡ h = omega (arith, leb-true h a e) in
        rw (z, live_all h (a + 1) ps (omega arith), s)
    by false e ih =
        let z : h - a ≡ suc (h - (a + 1)) = omega (arith, leb-false h a e) in
        rw z (ih (omega (arith, leb-false h a e)))

-- ---- the extents of a book

module _ (w : Extent) where
  pub tail_of : (os : List Extent) → tail_of_extents (os ++ (w ∷ [])) ≡ end_of w
  unfolding tail_of_extents
  tail_of [] = refl
  tail_of (o ∷ []) = refl
  tail_of (o ∷ p ∷ os) = tail_of (p ∷ os)

  pub place_of_is : (os : List Extent) → place_of (os ++ (w ∷ [])) ≡ place_in w
  unfolding place_of
  place_of_is [] = refl
  place_of_is (o ∷ []) = refl
  place_of_is (o ∷ p ∷ os) = place_of_is (p ∷ os)

  pub starts_of_is : (os : List Extent) → starts_of (os ++ (w ∷ [])) ≡ start_list os w.start
  starts_of_is [] = refl
  starts_of_is (o ∷ os) = rw (starts_of_is os)

  pub extents_join : (os : List Extent) → Joined os w.start → joined (os ++ (w ∷ [])) ≡ true
  extents_join [] j = unfold joined in refl
  extents_join (o ∷ []) j = cons_joined o w [] (record { some = j.0; meets = j.1 }) (extents_join [] tt)
  extents_join (o ∷ p ∷ os) j = cons_joined o p (os ++ (w ∷ [])) (record { some = j.0; meets = j.1 }) (extents_join (p ∷ os) j.2)

  -- from the first start to the tail
  pub flat_length : (os : List Extent) → Joined os w.start → first_start os w.start + length (flat os w) ≡ end_of w
  unfolding flat
  flat_length [] j = refl
  flat_length (o ∷ os) j = rw length-append (omega (arith, flat_length os j.2, j.1))

  pub records_flat : (os : List Extent) → Joined os w.start → records_of (os ++ (w ∷ [])) ≡ numbered (first_start os w.start) (flat os w)
  unfolding flat records_of
  records_flat [] j = append-nil (numbered w.start w.payloads)
  records_flat (o ∷ os) j = rw (records_flat os j.2, ← j.1) (sym (numbered_append o.start o.payloads (flat os w)))

pub first_below : (os : List Extent) (a : ℕ) → Joined os a → first_start os a ≤ a
first_below [] a j = omega arith
first_below (o ∷ os) a j = omega (arith, first_below os a j.2, j.1)

-- one more at the end of all is one more at the end of the live ones
pub live_behind :
    {b : Book}
    → SoundBook b
    → (p : List ℕ) (y : List (List ℕ))
    → live_in b.head b.olds b.write ≡ y
    → drop (b.head - book_start b) (book_payloads b ++ (p ∷ [])) ≡ y ++ (p ∷ [])
live_behind {b} sound p y live =
    let c = sound.chain in
    let d : ℕ = b.head - book_start b in
    let f : List (List ℕ) = book_payloads b in
    let in_it : d ≤ length f = omega (arith, flat_length b.write b.olds c.joined, c.low, c.high) in
    drop-append-le d f (p ∷ []) in_it ∙ ap (λ (ps : List (List ℕ)). ps ++ (p ∷ [])) live
