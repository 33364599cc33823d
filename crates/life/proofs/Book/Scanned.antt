-- An image that keeps a sound book opens, and open finds the book: its metadata reads back, each listed slot has a header and its
-- records, and every rule of open holds.
use Prim.Native.Nat.{ℕ, ◌≤◌, ◌<◌}
use mathlib.Core.Path.{◌≡◌, sym, ap, ◌∙◌}
use mathlib.Core.Bool.{true}
use mathlib.Core.List.{List, [], ◌∷◌, ◌++◌, map}
use native.Mathlib.Omega.{arith}
use lib.ListN.{length, get_or, take, drop, take-append-drop}
use Rattle.numbers.specs.Numbers.{be32}
use Rattle.numbers.proofs.Back.{back32}
use Rattle.extent.specs.Extent.{header_bytes}
use Rattle.metadata.specs.Metadata.{metadata_bytes, Sound}
use Rattle.metadata.specs.declared.Metadata.{Metadata}
use Rattle.metadata.proofs.Entries.{slots_below, slots_unused}
use Rattle.metadata.proofs.RoundTrip.{written_reads}
use Rattle.slots.specs.Entries.{padded}
use Rattle.slots.proofs.Arrays.{padded_length, padded_front, padded_rest, slots_front, slots_length}
use Rattle.scan.specs.Scan.{Extent, end_of, slot_part, extent_in, listed_slots, extents_in, all_begin, opened, scan}
use Rattle.scan.proofs.Begun.{Begun, begun_kept}
use Rattle.scan.proofs.Cascade.{Read, read_facts}
use Rattle.scan.proofs.Indexed.{HeadIn}
use Rattle.scan.proofs.Opens.{Opens, opens_kept}
use Rattle.life.proofs.Book.{Book, slot_list, book_slots, extents, metadata_in, view_of, Holds, first_start, Joined, BelowSecond, SoundBook, Olds}
use Rattle.life.proofs.Book.{Keeps}
use Rattle.life.proofs.Book.Listed.{slots_count, listed_few, listed_fit}
use Rattle.life.proofs.Book.Sequences.{tail_of, extents_join, flat_length}

-- ---- head lies in the first extent

head_in : (w : Extent) (h : ℕ) (os : List Extent) → first_start os w.start ≤ h → BelowSecond h os w.start → HeadIn h (os ++ (w ∷ []))
head_in w h [] low s = record { some = omega arith; low = low; high = λ i. absurd (omega arith) }
head_in w h (o ∷ []) low s = record { some = omega arith; low = low; high = λ i. s }
head_in w h (o ∷ p ∷ os) low s = record { some = omega arith; low = low; high = λ i. s }

-- ---- the metadata reads back

pub metadata_sound : (b : Book) → SoundBook b → Sound (metadata_in b)
metadata_sound b sound =
    let ks : List ℕ = book_slots b in
    let fit : length ks ≤ 64 = listed_fit sound in
    let long : length (padded ks) ≡ 64 = padded_length ks fit in
    record {
      sizes = sound.size;
      head_low = omega (arith, sound.chain.from, sound.chain.low);
      head_high = omega (arith, sound.chain.high, sound.chain.limit);
      last_low = sound.marks.last_low;
      last_high = omega (arith, sound.marks.last_high, sound.chain.limit);
      version_low = sound.marks.version_low;
      version_high = sound.marks.version_high;
      n_low = omega (arith, slots_count b.olds b.write.slot);
      n_high = listed_few sound;
      entries = slots_length ks fit;
      below = slots_below (length ks) (padded ks) b.s (omega arith) (rw (padded_front ks) sound.slots.below);
      unused = slots_unused (length ks) (padded ks) (padded_rest ks);
    }

-- ---- an extent

module _ (q : List ℕ) (x : ℕ) (header : take 5 q ≡ header_bytes x) where
  apart : q ≡ header_bytes x ++ drop 5 q
  apart = sym (take-append-drop 5 q) ∙ ap (λ (h : List ℕ). h ++ drop 5 q) header

  start_is : x < 4294967296 → be32 q 1 ≡ x
  start_is high = ap (λ (s : List ℕ). be32 s 1) apart ∙ back32 x high

  begun : 1 ≤ x → x < 4294967296 → Begun q
  begun low high = record {
    long = omega (arith, ap length apart);
    format = ap (λ (s : List ℕ). get_or s 0 0) apart;
    start_low = rw (start_is high) low;
  }

module _ (l : List ℕ) (m : Metadata) where
  read_extent : (x : Extent) → x.start < 4294967296 → Holds (slot_part l m.e x.slot) m.version.0 m.last.0 x → extent_in l m x.slot ≡ x
  read_extent x high h =
      rw (start_is (slot_part l m.e x.slot) x.start h.header high, h.walk)

  module _ (w : Extent) (limit : end_of w < 4294967296) (write : Holds (slot_part l m.e w.slot) m.version.0 m.last.0 w) where
    read_all :
        (os : List Extent)
        → Joined os w.start
        → Olds l m.e m.version.0 m.last.0 os
        → map (extent_in l m) (slot_list os w.slot) ≡ os ++ (w ∷ [])
    read_all [] j h = rw (read_extent w (omega arith) write)
    read_all (o ∷ os) j h =
        let high : o.start < 4294967296 = omega (arith, flat_length w os j.2, j.1) in
        rw (read_extent o high h.0.holds, read_all os j.2 h.1)

    begin_all :
        (os : List Extent)
        → 1 ≤ first_start os w.start
        → Joined os w.start
        → Olds l m.e m.version.0 m.last.0 os
        → all_begin l m.e (slot_list os w.slot) ≡ true
    unfolding all_begin
    begin_all [] low j h = rw (begun_kept _ (begun (slot_part l m.e w.slot) w.start write.header low (omega arith)))
    begin_all (o ∷ os) low j h =
        let high : o.start < 4294967296 = omega (arith, flat_length w os j.2, j.1) in
        let first = begun_kept _ (begun (slot_part l m.e o.slot) o.start h.0.holds.header low high) in
        rw (first, begin_all os (omega (arith, j.1)) j.2 h.1)

-- ---- open finds the book

module _ (l : List ℕ) (b : Book) (keeps : Keeps l b) (sound : SoundBook b) where
  listed_are : listed_slots (metadata_in b) ≡ book_slots b
  listed_are = slots_front (book_slots b)

  reads : Read l (metadata_in b)
  reads =
      let m : Metadata = metadata_in b in
      let split : metadata_bytes m ++ drop 84 l ≡ l = ap (λ (h : List ℕ). h ++ drop 84 l) (sym keeps.metadata) ∙ take-append-drop 84 l in
      let back = written_reads m (metadata_sound b sound) (drop 84 l) in
      rw split at (read_facts (metadata_bytes m ++ drop 84 l) m back)

  keeps_opens : Opens l (metadata_in b) (extents b)
  unfolding extents_in
  keeps_opens = record {
    value = reads.value;
    extents = sym (rw listed_are (read_all l (metadata_in b) b.write sound.chain.limit keeps.write b.olds sound.chain.joined keeps.olds));
    reads = reads.reads;
    long = keeps.size;
    begin =
        rw listed_are
        (begin_all l (metadata_in b) b.write sound.chain.limit keeps.write b.olds sound.chain.from sound.chain.joined keeps.olds);
    join = extents_join b.write b.olds sound.chain.joined;
    head = head_in b.write b.head b.olds sound.chain.low sound.chain.second;
    head_high = rw (tail_of b.write b.olds) sound.chain.high;
    slots = rw listed_are sound.slots.apart;
    last = rw (tail_of b.write b.olds) sound.marks.last_high;
    clean = λ e. tail_of b.write b.olds ∙ sound.marks.shut e;
  }

  pub keeps_scan : scan l ≡ opened (view_of b)
  keeps_scan = opens_kept l (metadata_in b) (extents b) keeps_opens
