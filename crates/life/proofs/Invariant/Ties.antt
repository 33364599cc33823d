-- A state that is tied to a book, part by part: its counters are the book's, its arrays the book's lists, its write extent the book's.
-- Every turn reads its state through these laws.
use Prim.Native.Nat.{◌+◌, ◌-◌}
use mathlib.Core.Path.{◌≡◌, sym, ap, ◌∙◌}
use mathlib.Core.List.{[], map}
use native.Mathlib.Omega.{arith}
use lib.ListN.{length, length-map}
use lib.Seq.{get_or_at}
use Rattle.slots.specs.Entries.{slot_array, lsn_array}
use Rattle.state.specs.declared.State.{State}
use Rattle.state.specs.State.{slots_in, starts_in, write_slot, last_start}
use Rattle.contracts.proofs.Relisted.{slots_listed, starts_listed, remade}
use Rattle.life.proofs.Book.{Book, tail, place_in, book_slots, book_starts, SoundBook}
use Rattle.life.proofs.Book.Listed.{slots_count, starts_count, listed_fit}
use Rattle.life.proofs.Invariant.{Tied}

module _ {g : State} {b : Book} (t : Tied g b) where
  -- part by part, the counters as numbers
  pub e_is : g.e ≡ b.e
  e_is = ap (λ (x : State). x.e) t.is

  pub s_is : g.s ≡ b.s
  s_is = ap (λ (x : State). x.s) t.is

  pub n_is : g.n ≡ length (book_slots b)
  n_is = ap (λ (x : State). x.n) t.is

  pub slots_are : g.slots ≡ slot_array (book_slots b)
  slots_are = ap (λ (x : State). x.slots) t.is

  pub starts_are : g.starts ≡ lsn_array (book_starts b)
  starts_are = ap (λ (x : State). x.starts) t.is

  pub head_is : g.head.0 ≡ b.head
  head_is = ap (λ (x : State). x.head.0) t.is

  pub tail_is : g.tail.0 ≡ tail b
  tail_is = ap (λ (x : State). x.tail.0) t.is

  pub last_is : g.last.0 ≡ b.last
  last_is = ap (λ (x : State). x.last.0) t.is

  pub version_is : g.version.0 ≡ b.version
  version_is = ap (λ (x : State). x.version.0) t.is

  pub place_is : g.place ≡ place_in b.write
  place_is = ap (λ (x : State). x.place) t.is

  -- its lists
  pub count_is : g.n ≡ length b.olds + 1
  count_is = n_is ∙ slots_count b.olds b.write.slot

  -- as many starts as slots
  pub starts_many : length (book_starts b) ≡ g.n
  starts_many = starts_count b.olds b.write.start ∙ sym count_is

  pub slots_in_is : slots_in g ≡ book_slots b
  slots_in_is = slots_listed g (book_slots b) slots_are (sym n_is)

  pub starts_in_is : starts_in g ≡ book_starts b
  starts_in_is = starts_listed g (book_starts b) starts_are starts_many

  pub write_slot_is : write_slot g ≡ b.write.slot
  write_slot_is =
      let n : length (map (λ x. x.slot) b.olds) ≡ g.n - 1 = length-map b.olds (λ x. x.slot) ∙ omega (arith, count_is) in
      rw slots_in_is (get_or_at (map (λ x. x.slot) b.olds) b.write.slot [] 0 (g.n - 1) n)

  pub last_start_written : last_start g ≡ b.write.start
  last_start_written =
      let n : length (map (λ x. x.start) b.olds) ≡ g.n - 1 = length-map b.olds (λ x. x.start) ∙ omega (arith, count_is) in
      rw starts_in_is (get_or_at (map (λ x. x.start) b.olds) b.write.start [] 0 (g.n - 1) n)

  -- the arrays have their 64 entries
  pub arrays_long : SoundBook b → (length g.slots ≡ 64) × (length g.starts ≡ 64)
  arrays_long f =
      remade g (book_slots b) (book_starts b) slots_are starts_are (sym n_is) starts_many
      (omega (arith, n_is, listed_fit f))
