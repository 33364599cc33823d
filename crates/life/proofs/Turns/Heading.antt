-- The turn of head start: the metadata lists the extents that stay, whose slots hold what they held, and head becomes h. The history
-- drops the records below h.
use Prim.Native.Nat.{ℕ, ◌+◌, ◌-◌, ◌≤◌, ◌<◌}
use mathlib.Core.Path.{◌≡◌, refl, sym, ap, ◌∙◌}
use mathlib.Core.List.{List}
use mathlib.Core.Bool.{true, false}
use native.Mathlib.Omega.{arith}
use lib.ListN.{length, drop, length-drop}
use lib.Seq.{drop-drop}
use Rattle.state.specs.declared.State.{State}
use Rattle.state.specs.Change.{listing, head_at}
use Rattle.state.specs.State.{slots_in, starts_in}
use Rattle.outcome.proofs.Modes.{mode_before}
use Rattle.head.specs.Start.{leaving, headed_state}
use Rattle.contracts.specs.Call.{head_starts}
use Rattle.life.specs.Life.{History, happens}
use Rattle.life.proofs.Book.{Book, book_with, tail, book_slots, book_starts, book_start, book_payloads, live_in, SoundBook}
use Rattle.life.proofs.Book.Releasing.{staying, staying_joined, staying_olds, staying_slots, staying_is, Released, released}
use Rattle.life.proofs.Invariant.{Rests, Tied, wiped_in, zeroed_in, written_in}
use Rattle.life.proofs.Invariant.Modes.{not_after}
use Rattle.life.proofs.Invariant.Ties.{n_is, head_is, tail_is, slots_in_is, starts_in_is}
use Rattle.life.proofs.Turns.Moves.{Turning, turned}
use Rattle.life.proofs.Turns.Committing.{unclean, Next, committed}
use Rattle.life.proofs.Turns.Truncates.{head_does}

abbrev headed_book : Book → ℕ → Book
headed_book b h = book_with b h b.last b.version false (staying h b.olds b.write.start) b.write

-- ---- the state

module _ {g : State} {b : Book} (t : Tied g b) (h : ℕ) where
  listed_slots_is : drop (leaving g h) (slots_in g) ≡ book_slots (headed_book b h)
  listed_slots_is = rw (slots_in_is t, starts_in_is t) (staying_is h b.write.start (λ o. o.slot) b.write.slot b.olds)

  listed_starts : drop (leaving g h) (starts_in g) ≡ book_starts (headed_book b h)
  listed_starts = rw (starts_in_is t) (staying_is h b.write.start (λ o. o.start) b.write.start b.olds)

  headed_tied : Tied (headed_state g h) (headed_book b h)
  headed_tied =
      let n : length (slots_in g) ≡ g.n = ap length (slots_in_is t) ∙ sym (n_is t) in
      let left : g.n - leaving g h ≡ length (book_slots (headed_book b h)) =
      ap (λ (k : ℕ). k - leaving g h) (sym n) ∙ sym (length-drop (leaving g h) (slots_in g)) ∙ ap length listed_slots_is in
      record {
        is =
            ap (head_at h) (ap (listing (g.n - leaving g h) (drop (leaving g h) (slots_in g)) (drop (leaving g h) (starts_in g))) t.is)
            ∙ rw (left, listed_slots_is, listed_starts);
      }

-- ---- the book

module _ {l : List ℕ} {b : Book} {y : History} (r : Rests l b y) (h : ℕ) (above : b.head < h) (within : h ≤ tail b) where
  first_low : book_start b ≤ h
  first_low = omega (arith, r.sound.chain.low)

  rest : Released h b.write b.olds (staying h b.olds b.write.start)
  rest = released h b.write b.olds r.sound.chain.joined first_low

  headed_sound : SoundBook (headed_book b h)
  headed_sound =
      let f = r.sound in
      let c = f.chain in
      let j = staying_joined h b.write.start b.olds c.joined c.from in
      record {
        size = f.size;
        slots = staying_slots h b.write.start b.s b.write.slot b.olds f.slots;
        chain = record { joined = j.0; from = j.1; low = rest.low; high = within; second = rest.second; limit = c.limit };
        marks = unclean f.marks (omega arith);
      }

  headed_live : live_in h b.olds b.write ≡ drop (h - y.head) y.payloads
  headed_live =
      let a : ℕ = book_start b in
      let all : List (List ℕ) = book_payloads b in
      let n : b.head - a + (h - y.head) ≡ h - a = omega (arith, r.head, r.sound.chain.low) in
      sym (ap (drop (h - y.head)) (sym r.live) ∙ drop-drop (h - y.head) (b.head - a) all ∙ ap (λ (k : ℕ). drop k all) n)

  headed_next : Next l b (headed_book b h) (happens (head_starts h) y)
  headed_next = record {
    same = refl;
    sound = headed_sound;
    olds = staying_olds h b.write.start l b.e b.version b.last b.olds r.keeps.olds;
    write = r.keeps.write;
    head = refl;
    live = rest.live ∙ headed_live;
  }

-- ---- the turn

pub head_start_turn : (h : ℕ) → Turning (head_starts h)
head_start_turn h g l b y r s z =
    let d = head_does g l h z in
    let n = d.0.enters in
    let above : b.head < h = omega (arith, d.0.above, head_is s.tied) in
    let within : h ≤ tail b = omega (arith, d.0.within, tail_is s.tied) in
    turned d.1 (committed {b' = headed_book b h} r.keeps (headed_next r h above within) (record {
      tied = headed_tied s.tied h;
      wiped = λ e. s.wiped (mode_before n wiped_in true refl);
      marked = λ e. refl;
      zeroed = not_after n zeroed_in refl;
      written = not_after n written_in refl;
    }))
