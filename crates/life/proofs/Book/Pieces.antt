-- What stores and new marks do to the bytes q of one extent's slot: a record behind the others, torn or whole, a wipe from the write
-- place, a first record over zeros, and the same bytes under another version and last tail LSN.
use Prim.Native.Nat.{ℕ, ◌+◌, ◌-◌, ◌≤◌, ◌<◌}
use mathlib.Core.Path.{◌≡◌, refl, sym, ap, ◌∙◌}
use mathlib.Core.Bool.{true}
use mathlib.Core.List.{List, [], ◌∷◌, ◌++◌, append-nil, append_assoc}
use native.Mathlib.Nat.{add-zero, zero-add}
use native.Mathlib.Omega.{arith}
use native.Mathlib.Decide.{dec_lt}
use borrow.Author.Tests.{eq-eqb}
use lib.ListN.{length, take, drop, length-append, length-take, length-replicate, take-append-drop, drop_of_length-le}
use lib.Seq.{length-take-le, take-take, take-append-le, drop-drop, drop_at, drop-append-add}
use Rattle.numbers.specs.Numbers.{zeros}
use Rattle.numbers.proofs.Lists.{drop_zeros}
use Rattle.medium.specs.Store.{count, wipe_of, laid}
use Rattle.medium.proofs.Laws.{laid_front, laid_wipe, laid_whole, laid_past}
use Rattle.record.specs.Record.{record_bytes, allowed}
use Rattle.record.proofs.Exactly.{record_length}
use Rattle.record.proofs.Facts.{allowed_old, allowed_now}
use Rattle.record.proofs.Torn.{zeros_stop}
use Rattle.record.proofs.Wiping.{wiped_from}
use Rattle.extent.specs.Extent.{header_bytes, payloads, sizes}
use Rattle.extent.proofs.Behind.{torn_behind, one_behind, wipe_walks}
use Rattle.extent.proofs.Change.{tail_start_keeps, below_keeps, close_keeps}
use Rattle.extent.proofs.Count.{walk_within}
use Rattle.extent.proofs.Walked.{place_here, walk_stop}
use Rattle.stores.specs.Stores.{record_store, extent_bytes, extent_store}
use Rattle.stores.proofs.Bytes.{extent_length}
use Rattle.scan.specs.Scan.{Extent, end_of}
use Rattle.life.proofs.Book.{place_in, Holds, Clean}

-- the extent with these payloads instead
abbrev pub holding : Extent → List (List ℕ) → Extent
holding x ps = record { slot = x.slot; start = x.start; payloads = ps }

-- the records below t
abbrev pub up_to : ℕ → Extent → Extent
up_to t x = holding x (take (t - x.start) x.payloads)

pub sizes_more : (ps : List (List ℕ)) (p : List ℕ) → sizes (ps ++ (p ∷ [])) ≡ sizes ps + (length p + 9)
unfolding sizes
sizes_more [] p = omega arith
sizes_more (o ∷ ps) p = omega (arith, sizes_more ps p)

-- behind two runs of bytes stand the zeros
behind : (a b : List ℕ) (m n : ℕ) → n ≡ length a + length b → drop n (a ++ (b ++ zeros m)) ≡ zeros (length (a ++ (b ++ zeros m)) - n)
behind a b m n e =
    let z : length (zeros m) ≡ m = length-replicate m 0 in
    let left : length (a ++ (b ++ zeros m)) - n ≡ m = omega (arith, length-append a (b ++ zeros m), length-append b (zeros m)) in
    rw (left, e) (drop-append-add a (b ++ zeros m) (length b) ∙ drop_at b (zeros m) (length b) refl)

-- a record of the current version may stand at any LSN
current : (v x last : ℕ) → 1 ≤ v → allowed v x v last ≡ true
current v x last low = by (dec_lt x last)
  where
    by : Dec (x < last) → allowed v x v last ≡ true
    by (yes h) = allowed_old v x v last low (omega arith) h
    by (no h) = allowed_now v x v last low (omega arith) (omega arith) ∙ eq-eqb v v refl

-- ---- what is before the write place, and other bytes behind it

module _ (q : List ℕ) (v last : ℕ) (x : Extent) where
  -- what an extent holds lies within its slot
  holds_within : Holds q v last x → place_in x ≤ length q
  holds_within h =
      let low : 5 ≤ length q = omega (arith, ap length h.header, length-take 5 q) in
      rw h.walk at (walk_within q 5 x.start v last low)

  front_length : place_in x ≤ length q → length (take (place_in x) q) ≡ place_in x
  front_length within = length-take-le (place_in x) q within

  front_header : place_in x ≤ length q → Holds q v last x → (rest : List ℕ) → take 5 (take (place_in x) q ++ rest) ≡ header_bytes x.start
  front_header within h rest =
      take-append-le 5 (take (place_in x) q) rest (omega (arith, front_length within))
      ∙ take-take 5 (place_in x) q (omega arith)
      ∙ h.header

  front_walk : Holds q v last x → payloads (take (place_in x) q ++ drop (place_in x) q) x.start v last ≡ x.payloads
  front_walk h = rw (take-append-drop (place_in x) q) h.walk

  rest_zero : Clean q v last x → (k : ℕ) → drop (place_in x + k) q ≡ zeros (length q - place_in x - k)
  rest_zero c k = sym (drop-drop k (place_in x) q) ∙ ap (drop k) c.zero ∙ drop_zeros k (length q - place_in x)

  -- ---- append

  module _ (p : List ℕ) (short : length p ≤ 1024) (room : place_in x + length p + 9 ≤ length q) (clean : Clean q v last x) where
    pub torn_append : (y w k : ℕ) → k < length p + 9 → Holds (laid k (record_store (place_in x) p y w) q) v last x
    torn_append y w k h =
        let n = record_length p y w in
        let m : ℕ = length q - place_in x - k in
        let there : laid k (record_store (place_in x) p y w) q ≡ take (place_in x) q ++ (take k (record_bytes p y w) ++ zeros m) =
        laid_front (record_store (place_in x) p y w) (λ j. refl) q k (omega arith) (omega arith) ∙ rw (rest_zero clean k) in
        rw there (record {
          header = front_header (omega arith) clean.holds (take k (record_bytes p y w) ++ zeros m);
          walk =
              torn_behind (take (place_in x) q) (drop (place_in x) q) v last 5 x.start x.payloads
              (front_length (omega arith))
              (front_walk clean.holds)
              p short m y w k h;
        })

    pub whole_append :
        1 ≤ v
        → v < 65536
        → end_of x < 4294967295
        → Clean (laid (count (record_store (place_in x) p (end_of x) v)) (record_store (place_in x) p (end_of x) v) q) v last (holding x (x.payloads ++ (p ∷ [])))
    whole_append low high left =
        let r : List ℕ = record_bytes p (end_of x) v in
        let n : length r ≡ length p + 9 = record_length p (end_of x) v in
        let m : ℕ = length q - place_in x - length r in
        let front : List ℕ = take (place_in x) q in
        let there : laid (length r) (record_store (place_in x) p (end_of x) v) q ≡ front ++ (r ++ zeros m) =
        laid_whole (record_store (place_in x) p (end_of x) v) q (omega arith) ∙ rw (rest_zero clean (length r)) in
        let len : length front ≡ place_in x = front_length (omega arith) in
        rw there (record {
          holds = record {
            header = front_header (omega arith) clean.holds (r ++ zeros m);
            walk =
                one_behind front (drop (place_in x) q) v last 5 x.start x.payloads len (front_walk clean.holds) p short m v high left
                (current v (end_of x) last low);
          };
          zero = behind front r m (place_in (holding x (x.payloads ++ (p ∷ [])))) (omega (arith, sizes_more x.payloads p));
        })

  -- ---- wipe, from the write place to the end

  module _ (e : ℕ) (size : length q ≡ e) (holds : Holds q v last x) where
    -- cut after k bytes it leaves all before its front, and zeros
    wiped : (k : ℕ) → k ≤ e - place_in x → laid k (wipe_of (place_in x) (e - place_in x)) q ≡ wiped_from (e - k) q
    wiped k h =
        let in_q : place_in x ≤ length q = holds_within holds in
        let from : place_in x + (e - place_in x - k) ≡ e - k = omega arith in
        let end : place_in x + (e - place_in x) ≡ e = omega arith in
        let left : length q - (e - k) ≡ k = omega arith in
        let past : length q ≤ e = omega arith in
        let none : drop e q ≡ [] = drop_of_length-le q past in
        laid_wipe (place_in x) (e - place_in x) q k h (omega arith) ∙ rw (from, end, none, left, append-nil)

    cut_wipe : (k : ℕ) → k ≤ e - place_in x → Holds (laid k (wipe_of (place_in x) (e - place_in x)) q) v last x
    cut_wipe k h =
        let in_q : place_in x ≤ length q = holds_within holds in
        let walk : 5 + sizes (payloads q x.start v last) ≤ e - k = rw holds.walk (omega arith) in
        rw (wiped k h) (record {
          header =
              take-append-le 5 (take (e - k) q) (zeros (length q - (e - k))) (omega (arith, length-take-le (e - k) q (omega arith)))
              ∙ take-take 5 (e - k) q (omega arith)
              ∙ holds.header;
          walk = wipe_walks q v last 5 x.start (e - k) (omega arith) walk ∙ holds.walk;
        })

    wipe_count : count (wipe_of (place_in x) (e - place_in x)) ≡ e - place_in x
    wipe_count = length-replicate (e - place_in x) 0

    pub torn_wipe : (k : ℕ) → Holds (laid k (wipe_of (place_in x) (e - place_in x)) q) v last x
    torn_wipe k = by (dec_lt (e - place_in x) k)
      where
        by : Dec (e - place_in x < k) → Holds (laid k (wipe_of (place_in x) (e - place_in x)) q) v last x
        by (yes h) =
            rw (laid_past (wipe_of (place_in x) (e - place_in x)) q k (omega (arith, wipe_count)), wipe_count)
            (cut_wipe (e - place_in x) (omega arith))
        by (no h) = cut_wipe k (omega arith)

    pub whole_wipe : Clean (laid (count (wipe_of (place_in x) (e - place_in x))) (wipe_of (place_in x) (e - place_in x)) q) v last x
    whole_wipe =
        let in_q : place_in x ≤ length q = holds_within holds in
        let n : ℕ = e - place_in x in
        let back : e - n ≡ place_in x = omega arith in
        let there : laid n (wipe_of (place_in x) n) q ≡ wiped_from (place_in x) q = wiped n (omega arith) ∙ rw back in
        let len : length (take (place_in x) q) ≡ place_in x = front_length in_q in
        let z : length (zeros (length q - place_in x)) ≡ length q - place_in x = length-replicate (length q - place_in x) 0 in
        let all : length (wiped_from (place_in x) q) - place_in x ≡ length q - place_in x =
        omega (arith, length-append (take (place_in x) q) (zeros (length q - place_in x))) in
        rw wipe_count (record {
          holds = cut_wipe n (omega arith);
          zero = rw (there, all) (drop_at (take (place_in x) q) (zeros (length q - place_in x)) (place_in x) len);
        })

  -- ---- other marks

  -- zeros stop a walk under any version, so the records below the new last tail LSN are all that was there
  pub clean_rebase : (v' t : ℕ) → v ≤ v' → end_of x ≤ t → Clean q v last x → Clean q v' t x
  clean_rebase v' t hv ht c =
      let h : Holds q v last x = c.holds in
      let front : List ℕ = take (place_in x) q in
      let rest : List ℕ = zeros (length q - place_in x) in
      let whole : front ++ rest ≡ q = ap (λ (r : List ℕ). front ++ r) (sym c.zero) ∙ take-append-drop (place_in x) q in
      let len : length front ≡ place_in x = front_length (holds_within h) in
      let stops = rw (whole, len) at (zeros_stop front (length q - place_in x) (end_of x) v' t) in
      record {
        holds = record {
          header = h.header;
          walk = below_keeps q 5 x.start v last v' t hv (rw h.walk ht) (rw h.walk stops) ∙ h.walk;
        };
        zero = c.zero;
      }

  -- close: the last tail LSN becomes the tail
  pub close_holds : last ≤ end_of x → Holds q v last x → Holds q v (end_of x) x
  close_holds h holds = record {
    header = holds.header;
    walk = close_keeps q 5 x.start v last (end_of x) h (rw holds.walk) ∙ holds.walk;
  }

  -- tail start: the version rises, and the records from t on are stale
  pub tail_holds : (t : ℕ) → x.start ≤ t → t < end_of x → Holds q v last x → Holds q (v + 1) t (up_to t x)
  tail_holds t low high holds = record {
    header = holds.header;
    walk = tail_start_keeps q 5 x.start v last t low (rw holds.walk high) ∙ rw holds.walk;
  }

-- ---- roll write: header and record over zeros

pub first_record :
    (e slot start v last : ℕ) (p : List ℕ)
    → length p ≤ 1024
    → length p + 14 ≤ e
    → 1 ≤ v
    → v < 65536
    → start < 4294967295
    → Clean (laid (count (extent_store 0 p start v)) (extent_store 0 p start v) (zeros e)) v last (record { slot = slot; start = start; payloads = p ∷ [] })
unfolding extent_bytes
first_record e slot start v last p short room low high left =
    let head : List ℕ = header_bytes start in
    let r : List ℕ = record_bytes p start v in
    let n : length (head ++ r) ≡ length p + 14 = extent_length p start v in
    let m : ℕ = e - length (head ++ r) in
    let z : length (zeros e) ≡ e = length-replicate e 0 in
    let there : laid (length (head ++ r)) (extent_store 0 p start v) (zeros e) ≡ head ++ (r ++ zeros m) =
    laid_whole (extent_store 0 p start v) (zeros e) (omega arith) ∙ rw (zero-add, drop_zeros) (append_assoc head r (zeros m)) in
    let none : payloads (head ++ zeros m) start v last ≡ [] = walk_stop (head ++ zeros m) 5 start v last (zeros_stop head m start v last) in
    let one = one_behind head (zeros m) v last 5 start [] (sym (place_here 5 start)) none p short m v high (omega arith) (current v (start + 0) last low) in
    rw there (record {
      holds = record { header = refl; walk = rw add-zero at one };
      zero = behind head r m (place_in (record { slot = slot; start = start; payloads = p ∷ [] })) (omega (arith, sizes_more [] p, place_here 5 start));
    })
