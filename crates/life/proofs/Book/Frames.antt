-- What a store leaves alone: a store within one slot the other slots and the metadata, a metadata store every slot. So an image goes on
-- keeping the book, or keeps the next one, where the slot that is stored to does.
use Prim.Native.Nat.{ℕ, ◌+◌, ◌*◌, ◌≤◌, ◌<◌}
use mathlib.Core.Path.{◌≡◌, refl, sym, ap, ◌∙◌}
use mathlib.Core.Bool.{true, false}
use mathlib.Core.Logic.{inl, inr}
use mathlib.Core.List.{List, [], ◌∷◌, ◌++◌, map}
use native.Mathlib.Omega.{arith}
use native.Mathlib.Decide.{dec_lt}
use borrow.Author.Tests.{lt-leb, eqb-false, ne_eqb}
use lib.Dec.{eqb}
use lib.ListN.{length, take, drop}
use lib.Seq.{take_at}
use Rattle.medium.specs.Store.{Store, count, laid, arrives}
use Rattle.medium.proofs.Laws.{Apart, moved, laid_inside, laid_apart, laid_length, laid_none, laid_whole}
use Rattle.metadata.specs.Layout.{image_length}
use Rattle.metadata.specs.Metadata.{metadata_bytes}
use Rattle.metadata.specs.declared.Metadata.{Metadata}
use Rattle.metadata.proofs.Stores.{metadata_length}
use Rattle.stores.specs.Stores.{metadata_store}
use Rattle.slots.specs.Entries.{among, distinct}
use Rattle.slots.proofs.Members.{neither, among_append, distinct_cons}
use Rattle.scan.specs.Scan.{Extent, slot_part}
use Rattle.scan.proofs.Within.{slot_within}
use Rattle.life.proofs.Book.{Book, book_with, book_slots, metadata_in, write_part, Holds, SoundBook, Olds, Keeps}
use Rattle.life.proofs.Book.Pieces.{holding}
use Rattle.life.proofs.Book.Scanned.{metadata_sound}

-- slots lie one behind the other
slots_follow : (i j e : ℕ) → i < j → 84 + i * e + e ≤ 84 + j * e
slots_follow i j e h = omega (arith, slot_within i j e h)

-- a store within slot i
record Inside (e i : ℕ) (st : Store) : Type 0 where
  low : 84 + i * e ≤ st.place
  high : st.place + count st ≤ 84 + i * e + e

-- ---- a store within a slot

module _ (l : List ℕ) (e i : ℕ) (st : Store) (inside : Inside e i st) where
  slot_aside : (k j : ℕ) → (i ≡ j → ⊥) → slot_part (laid k st l) e j ≡ slot_part l e j
  slot_aside k j apart = laid_apart (84 + j * e) e st l k (by (dec_lt i j))
    where
      by : Dec (i < j) → Apart (84 + j * e) e st
      by (yes h) = inr (omega (arith, inside.high, slots_follow i j e h))
      by (no h) = inl (omega (arith, inside.low, slots_follow j i e (omega arith)))

  metadata_aside : (k : ℕ) → take 84 (laid k st l) ≡ take 84 l
  metadata_aside k = laid_apart 0 84 st l k (inl (omega (arith, inside.low)))

  olds_aside :
      (k v last : ℕ) (os : List Extent) → among i (map (λ x. x.slot) os) ≡ false → Olds l e v last os → Olds (laid k st l) e v last os
  olds_aside k v last [] a h = h
  olds_aside k v last (o ∷ os) a h =
      let p : (eqb i o.slot ≡ false) × (among i (map (λ x. x.slot) os) ≡ false) =
      unfold among in neither (eqb i o.slot) (among i (map (λ x. x.slot) os)) a in
      (rw (slot_aside k o.slot (eqb-false i o.slot p.0)) h.0, olds_aside k v last os p.1 h.1)

not_one : (i j : ℕ) → among i (j ∷ []) ≡ false → i ≡ j → ⊥
unfolding among
not_one i j e = eqb-false i j (neither (eqb i j) false e).0

-- what is not among a list is not among its front, and not its last
unlisted_apart : (i : ℕ) (xs : List ℕ) (k : ℕ) → among i (xs ++ (k ∷ [])) ≡ false → (among i xs ≡ false) × (i ≡ k → ⊥)
unlisted_apart i xs k e =
    let p = neither (among i xs) (among i (k ∷ [])) (sym (among_append i xs (k ∷ [])) ∙ e) in
    (p.0, not_one i k p.1)

-- the last is not among those before it
last_apart : (k : ℕ) (xs : List ℕ) → distinct (xs ++ (k ∷ [])) ≡ true → among k xs ≡ false
unfolding among
last_apart k [] d = refl
last_apart k (x ∷ xs) d =
    let p = distinct_cons x (xs ++ (k ∷ [])) d in
    rw (ne_eqb k x (λ e. (unlisted_apart x xs k p.0).1 (sym e)), last_apart k xs p.1)

-- the book with these payloads in its write extent
abbrev pub writing : Book → List (List ℕ) → Book
writing b ps = book_with b b.head b.last b.version b.clean b.olds (holding b.write ps)

module _ (l : List ℕ) (b : Book) (st : Store) (keeps : Keeps l b) (k : ℕ) where
  -- in a slot that is not listed
  keeps_aside :
      (i : ℕ) → Inside b.e i st → among i (book_slots b) ≡ false → Keeps (laid k st l) b
  keeps_aside i inside unlisted =
      let p = unlisted_apart i (map (λ x. x.slot) b.olds) b.write.slot unlisted in
      record {
        size = laid_length k st l ∙ keeps.size;
        metadata = metadata_aside l b.e i st inside k ∙ keeps.metadata;
        olds = olds_aside l b.e i st inside k b.version b.last b.olds p.0 keeps.olds;
        write = rw (slot_aside l b.e i st inside k b.write.slot p.1) keeps.write;
      }

  -- in the write extent's slot
  keeps_write :
      Inside b.e b.write.slot st
      → distinct (book_slots b) ≡ true
      → (ps : List (List ℕ))
      → Holds (slot_part (laid k st l) b.e b.write.slot) b.version b.last (holding b.write ps)
      → Keeps (laid k st l) (writing b ps)
  keeps_write inside apart ps holds =
      let i : ℕ = b.write.slot in
      record {
        size = laid_length k st l ∙ keeps.size;
        metadata = metadata_aside l b.e i st inside k ∙ keeps.metadata;
        olds = olds_aside l b.e i st inside k b.version b.last b.olds (last_apart i (map (λ x. x.slot) b.olds) apart) keeps.olds;
        write = holds;
      }

-- ---- a store in the write extent, counted from the extent's own beginning

abbrev pub base : Book → ℕ
base b = 84 + b.write.slot * b.e

module _ {l : List ℕ} {b : Book} (keeps : Keeps l b) (sound : SoundBook b) (st : Store) (fits : st.place + count st ≤ b.e) where
  pub own : (k : ℕ) → slot_part (laid k (moved (base b) st) l) b.e b.write.slot ≡ laid k st (write_part l b)
  own k = laid_inside (base b) b.e st l k fits

  pub keeps_own :
      (k : ℕ) (ps : List (List ℕ))
      → Holds (laid k st (write_part l b)) b.version b.last (holding b.write ps)
      → Keeps (laid k (moved (base b) st) l) (writing b ps)
  keeps_own k ps h =
      keeps_write l b (moved (base b) st) keeps k (record { low = omega arith; high = omega arith }) sound.slots.apart ps (rw (own k) h)

-- ---- a store in a slot that is not listed, counted from the slot's own beginning

module _ {l : List ℕ} {b : Book} (keeps : Keeps l b)
    (i : ℕ)
    (unlisted : among i (book_slots b) ≡ false)
    (st : Store)
    (fits : st.place + count st ≤ b.e)
    (k : ℕ) where
  inside_it : Inside b.e i (moved (84 + i * b.e) st)
  inside_it = record { low = omega arith; high = omega arith }

  pub keeps_beside : Keeps (laid k (moved (84 + i * b.e) st) l) b
  keeps_beside = keeps_aside l b (moved (84 + i * b.e) st) keeps k i inside_it unlisted

  pub slot_beside : slot_part (laid k (moved (84 + i * b.e) st) l) b.e i ≡ laid k st (slot_part l b.e i)
  slot_beside = laid_inside (84 + i * b.e) b.e st l k fits

  pub write_beside : slot_part (laid k (moved (84 + i * b.e) st) l) b.e b.write.slot ≡ write_part l b
  write_beside =
      let apart = (unlisted_apart i (map (λ x. x.slot) b.olds) b.write.slot unlisted).1 in
      slot_aside l b.e i (moved (84 + i * b.e) st) inside_it k b.write.slot apart

-- ---- a metadata store

-- it arrives whole or not at all
pub metadata_torn : (l : List ℕ) (m : Metadata) (k : ℕ) → k < count (metadata_store m) → laid (arrives k (metadata_store m)) (metadata_store m) l ≡ l
unfolding arrives
metadata_torn l m k h = rw (lt-leb (count (metadata_store m)) k h) (laid_none (metadata_store m) l)

pub metadata_count : (b : Book) → SoundBook b → count (metadata_store (metadata_in b)) ≡ 84
metadata_count b sound = metadata_length (metadata_in b) (metadata_sound b sound).entries

-- no slot sees it
pub slot_metadata :
    (l : List ℕ) (m : Metadata) → count (metadata_store m) ≡ 84 → (k e i : ℕ) → slot_part (laid k (metadata_store m) l) e i ≡ slot_part l e i
slot_metadata l m size k e i = laid_apart (84 + i * e) e (metadata_store m) l k (inr (omega arith))

olds_metadata :
    (l : List ℕ) (m : Metadata)
    → count (metadata_store m) ≡ 84
    → (k e v last : ℕ) (os : List Extent)
    → Olds l e v last os
    → Olds (laid k (metadata_store m) l) e v last os
olds_metadata l m size k e v last [] h = h
olds_metadata l m size k e v last (o ∷ os) h =
    (rw (slot_metadata l m size k e o.slot) h.0, olds_metadata l m size k e v last os h.1)

-- whole, it leaves the image with the book whose metadata it is
pub keeps_metadata :
    (l : List ℕ) (b : Book) (m : Metadata)
    → m ≡ metadata_in b
    → SoundBook b
    → length l ≡ image_length b.e b.s
    → Olds l b.e b.version b.last b.olds
    → Holds (write_part l b) b.version b.last b.write
    → Keeps (laid (count (metadata_store m)) (metadata_store m) l) b
keeps_metadata l b m same sound size olds write =
    let n : count (metadata_store m) ≡ 84 = rw same (metadata_count b sound) in
    let c : ℕ = count (metadata_store m) in
    let there : laid c (metadata_store m) l ≡ metadata_bytes m ++ drop (0 + c) l = laid_whole (metadata_store m) l (omega arith) in
    record {
      size = laid_length c (metadata_store m) l ∙ size;
      metadata = rw there (take_at (metadata_bytes m) (drop (0 + c) l) 84 n) ∙ ap metadata_bytes same;
      olds = olds_metadata l m n c b.e b.version b.last b.olds olds;
      write = rw (slot_metadata l m n c b.e b.write.slot) write;
    }
