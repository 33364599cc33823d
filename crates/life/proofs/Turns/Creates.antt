-- The life begins: the created image keeps a book of one empty extent, which ends where it starts, at LSN 1, and the Closed state that
-- create answers says so.
use Prim.Native.Nat.{ℕ, ◌+◌, ◌-◌, ◌*◌}
use mathlib.Core.Path.{◌≡◌, refl, ap, ◌∙◌}
use mathlib.Core.List.{List, [], ◌∷◌, ◌++◌}
use mathlib.Core.Bool.{true}
use native.Mathlib.Nat.{zero-mul, add-zero}
use native.Mathlib.Omega.{arith}
use borrow.Author.Tests.{lt-ltb}
use lib.ListN.{take, drop}
use lib.Seq.{take_at, drop_at, take-take}
use Rattle.numbers.specs.Numbers.{be32, zeros}
use Rattle.extent.specs.Extent.{header_bytes, sizes}
use Rattle.metadata.specs.declared.Metadata.{Metadata}
use Rattle.metadata.specs.Metadata.{sizes_ok, all_below, metadata_bytes}
use Rattle.metadata.proofs.Facts.{Sizes, sizes_say}
use Rattle.slots.specs.Entries.{among, distinct}
use Rattle.scan.specs.Scan.{Extent, slot_part, extent_in, extents_in, view}
use Rattle.scan.proofs.Opens.{Opens, opens_says}
use Rattle.state.specs.State.{metadata_of}
use Rattle.create.specs.Create.{fresh_state, fresh_image}
use Rattle.create.proofs.Laying.{fresh_length}
use Rattle.contracts.proofs.Begins.{fresh_sized, fresh_scans}
use Rattle.life.specs.Life.{created}
use Rattle.life.proofs.Book.{Book, constants, Holds, flat, SoundBook, Keeps}
use Rattle.life.proofs.Invariant.{Tied, Stands, Inv}
use Rattle.life.proofs.Invariant.Modes.{never}
use Rattle.life.proofs.Invariant.Wells.{place_inside, book_well}

abbrev pub first : Extent
first = record { slot = 0; start = 1; payloads = [] }

abbrev pub fresh_book : ℕ → ℕ → Book
fresh_book e s = record { e = e; s = s; head = 1; last = 1; version = 1; clean = true; olds = []; write = first }

module _ (e s : ℕ) (t : sizes_ok e s ≡ true) where
  fresh_book_is : SoundBook (fresh_book e s)
  unfolding all_below distinct among
  fresh_book_is =
      let z : Sizes e s = sizes_say e s t in
      record {
        size = t;
        slots = record { below = rw (lt-ltb 0 s (omega arith)); apart = refl };
        chain = record { joined = tt; from = omega arith; low = omega arith; high = omega arith; second = tt; limit = omega arith };
        marks = record { last_low = omega arith; last_high = omega arith; version_low = omega arith; version_high = omega arith; shut = λ c. refl };
      }

  abbrev slot_zero : List ℕ
  slot_zero = slot_part (fresh_image e s) e 0

  fresh_header : take 5 slot_zero ≡ header_bytes 1
  unfolding fresh_image
  fresh_header =
      let m : List ℕ = metadata_bytes (metadata_of true (fresh_state e s)) in
      let r : List ℕ = header_bytes 1 ++ zeros (s * e - 5) in
      let place : 84 + 0 * e ≡ 84 = rw (zero-mul, add-zero) in
      take-take 5 e (drop (84 + 0 * e) (m ++ r)) (omega (arith, (sizes_say e s t).e_low))
      ∙ ap (λ (a : ℕ). take 5 (drop a (m ++ r))) place
      ∙ ap (take 5) (drop_at m r 84 (fresh_length e s))

  -- as open reads it
  fresh_extent : extent_in (fresh_image e s) (metadata_of true (fresh_state e s)) 0 ≡ first
  unfolding extents_in fresh_state
  fresh_extent =
      let m : Metadata = metadata_of true (fresh_state e s) in
      let o : Opens (fresh_image e s) m (first ∷ []) = opens_says (fresh_image e s) (view m (first ∷ [])) (fresh_scans e s t) in
      let q : first ∷ [] ≡ extent_in (fresh_image e s) m 0 ∷ [] = o.extents in
      cc

  fresh_holds : Holds slot_zero 1 1 first
  unfolding fresh_state
  fresh_holds =
      let start : be32 slot_zero 1 ≡ 1 = ap (λ (x : Extent). x.start) fresh_extent in
      record { header = fresh_header; walk = rw start at (ap (λ (x : Extent). x.payloads) fresh_extent) }

  fresh_keeps : Keeps (fresh_image e s) (fresh_book e s)
  unfolding fresh_state
  fresh_keeps = record { size = fresh_sized e s t; metadata = front; olds = tt; write = fresh_holds }
    where
      front : take 84 (fresh_image e s) ≡ metadata_bytes (metadata_of true (fresh_state e s))
      front = unfold fresh_image in take_at (metadata_bytes (metadata_of true (fresh_state e s))) (header_bytes 1 ++ zeros (s * e - 5)) 84 (fresh_length e s)

  fresh_tied : Tied (fresh_state e s) (fresh_book e s)
  unfolding fresh_state sizes
  fresh_tied = record { is = refl }

  fresh_stands : Stands (fresh_state e s) (fresh_image e s) (fresh_book e s) []
  unfolding fresh_state
  fresh_stands = record {
    well = book_well fresh_tied fresh_book_is (place_inside fresh_keeps fresh_book_is) refl refl (record { slot = refl; length = refl });
    knows = record {
      tied = fresh_tied;
      wiped = λ q. never q;
      marked = λ q. never q;
      zeroed = λ q. never q;
      written = λ q. never q;
    };
  }

  pub created_inv : Inv (constants (fresh_book e s)) (created e s)
  unfolding flat
  created_inv = record {
    book = fresh_book e s;
    same = refl;
    rests = record { keeps = fresh_keeps; sound = fresh_book_is; head = refl; live = refl };
    hand = fresh_stands;
  }
