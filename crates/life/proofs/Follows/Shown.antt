-- Which records a numbered list has, with LSNs in its range, and what becomes of one where the list loses its front or its end or
-- grows; and that open shows the history's.
use Prim.Native.Nat.{ℕ, zero, suc, ◌+◌, ◌≤◌, ◌<◌}
use mathlib.Core.Path.{◌≡◌, refl, ap}
use mathlib.Core.Logic.{inl, inr}
use mathlib.Core.List.{List, [], ◌∷◌, ◌++◌}
use native.Mathlib.Nat.{add-zero}
use native.Mathlib.Omega.{arith}
use lib.ListN.{length, take, drop}
use Rattle.life.specs.Life.{History, Record, numbered, Found}
use Rattle.life.specs.Follows.{shows, Among, records_in}
use Rattle.life.proofs.Book.Sequences.{numbered_append}

pub found_shows : {e s : ℕ} {l : List ℕ} {y : History} → Found e s l y → shows l ≡ records_in y
found_shows f = rw f.opens f.records

-- ---- among appended lists

module _ (r : Record) where
  among_left : (qs ps : List Record) → Among r qs → Among r (qs ++ ps)
  among_left [] ps m = elim m [ ]
  among_left (q ∷ qs) ps (inl e) = inl e
  among_left (q ∷ qs) ps (inr m) = inr (among_left qs ps m)

  among_right : (qs ps : List Record) → Among r ps → Among r (qs ++ ps)
  among_right [] ps m = m
  among_right (q ∷ qs) ps m = inr (among_right qs ps m)

-- ---- among numbered payloads

module _ (r : Record) where
  -- it has its LSN in the range
  pub among_range : (a : ℕ) (ps : List (List ℕ)) → Among r (numbered a ps) → (a ≤ r.lsn) × (r.lsn < a + length ps)
  unfolding numbered
  among_range a [] m = elim m [ ]
  among_range a (p ∷ ps) (inl e) = let q : r.lsn ≡ a = ap (λ (x : Record). x.lsn) e in omega arith
  among_range a (p ∷ ps) (inr m) = let q = among_range (a + 1) ps m in omega (arith, q.0, q.1)

  -- it stays when those below h leave, and when those from t on leave
  pub among_drop : (n a : ℕ) (ps : List (List ℕ)) → a + n ≤ r.lsn → Among r (numbered a ps) → Among r (numbered (a + n) (drop n ps))
  unfolding numbered
  among_drop zero a ps h m = rw add-zero m
  among_drop (suc n) a [] h m = elim m [ ]
  among_drop (suc n) a (p ∷ ps) h (inl e) = absurd (let q : r.lsn ≡ a = ap (λ (x : Record). x.lsn) e in omega arith)
  among_drop (suc n) a (p ∷ ps) h (inr m) =
      let s : a + 1 + n ≡ a + suc n = omega arith in
      rw s at (among_drop n (a + 1) ps (omega arith) m)

  pub among_take : (n a : ℕ) (ps : List (List ℕ)) → r.lsn < a + n → Among r (numbered a ps) → Among r (numbered a (take n ps))
  unfolding numbered
  among_take zero a ps h m = absurd (omega (arith, (among_range a ps m).0))
  among_take (suc n) a [] h m = elim m [ ]
  among_take (suc n) a (p ∷ ps) h (inl e) = inl e
  among_take (suc n) a (p ∷ ps) h (inr m) = inr (among_take n (a + 1) ps (omega arith) m)

  -- and where one comes behind
  pub among_more : (a : ℕ) (ps : List (List ℕ)) (p : List ℕ) → Among r (numbered a ps) → Among r (numbered a (ps ++ (p ∷ [])))
  among_more a ps p m = rw (numbered_append a ps (p ∷ [])) (among_left r (numbered a ps) (numbered (a + length ps) (p ∷ [])) m)

-- the one that came behind
pub among_last : (a : ℕ) (ps : List (List ℕ)) (p : List ℕ) → Among (record { lsn = a + length ps; payload = p }) (numbered a (ps ++ (p ∷ [])))
among_last a ps p = rw (numbered_append a ps (p ∷ [])) (among_right _ (numbered a ps) (numbered (a + length ps) (p ∷ [])) only)
  where
    only : Among (record { lsn = a + length ps; payload = p }) (numbered (a + length ps) (p ∷ []))
    only = unfold numbered in inl refl
