-- What open finds in an image that rests on a book: the history's records, from its head up to its end, and never more than fit. It is
-- demand 3 for one image.
use Prim.Native.Nat.{ℕ, ◌+◌, ◌-◌}
use mathlib.Core.Path.{◌≡◌, refl, sym, ap, ◌∙◌}
use mathlib.Core.List.{List}
use native.Mathlib.Omega.{arith}
use lib.ListN.{length, length-drop}
use Rattle.scan.specs.Scan.{opened, scan}
use Rattle.scan.proofs.Opens.{opens_says}
use Rattle.scan.proofs.Most.{live_most}
use Rattle.life.specs.Life.{History, Found}
use Rattle.life.proofs.Book.{Book, tail, extents, metadata_in, view_of, book_start, book_payloads}
use Rattle.life.proofs.Book.Sequences.{live_numbered, tail_of, extents_join, flat_length, records_flat}
use Rattle.life.proofs.Book.Scanned.{keeps_scan}
use Rattle.life.proofs.Invariant.{Rests}

module _ {l : List ℕ} {b : Book} {y : History} (r : Rests l b y) where
  pub opens_so : scan l ≡ opened (view_of b)
  opens_so = keeps_scan l b r.keeps r.sound

  -- the tail is the history's end
  pub tail_ends : tail b ≡ y.head + length y.payloads
  tail_ends =
      let c = r.sound.chain in
      let a : ℕ = book_start b in
      let n : length y.payloads ≡ length (book_payloads b) - (b.head - a) =
      ap length (sym r.live) ∙ length-drop (b.head - a) (book_payloads b) in
      omega (arith, flat_length b.write b.olds c.joined, r.head, c.low, c.high)

  pub rests_found : Found b.e b.s l y
  rests_found =
      let c = r.sound.chain in
      let all = records_flat b.write b.olds c.joined in
      let few = live_most l (metadata_in b) (extents b) (opens_says l (view_of b) opens_so) in
      record {
        view = view_of b;
        opens = opens_so;
        extent_size = refl;
        slot_count = refl;
        joins = extents_join b.write b.olds c.joined;
        head = r.head;
        tail = tail_of b.write b.olds ∙ tail_ends;
        records = rw (all, live_numbered b.head (book_start b) (book_payloads b) c.low, r.live, r.head);
        most = omega (arith, few, tail_of b.write b.olds, tail_ends, r.head);
      }
