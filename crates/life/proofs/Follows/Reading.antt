-- Read shows the history: in a mode that admits it, for each live LSN it answers 0 and the part of the image that it names is the
-- payload. Once the log runs again it does so after any cut.
use Prim.Native.Nat.{ℕ, ◌+◌, ◌-◌, ◌≤◌, ◌<◌}
use mathlib.Core.Path.{◌≡◌, refl, sym, ap, ◌∙◌}
use mathlib.Core.List.{List, []}
use mathlib.Core.Bool.{true}
use native.Mathlib.Nat.{add_assoc}
use native.Mathlib.Omega.{arith}
use borrow.Author.Tests.{le-leb, lt-ltb, eq-eqb}
use lib.ListN.{length, get_or, take, drop, length-take}
use lib.Seq.{take-take, drop-drop, get_or-drop}
use Rattle.refusals.proofs.First.{first_passes}
use Rattle.numbers.specs.Numbers.{part}
use Rattle.record.specs.Record.{payload_at}
use Rattle.std.specs.Prelude.{Some}
use Rattle.record.proofs.Facts.{says}
use Rattle.metadata.specs.Layout.{slot_place}
use Rattle.table.specs.Next.{next_of}
use Rattle.table.specs.declared.Mode.{Mode}
use Rattle.table.specs.declared.Mode.TheVariants.{Run}
use Rattle.table.specs.declared.Step.TheVariants.{Read}
use Rattle.state.specs.declared.State.{State}
use Rattle.outcome.specs.Enter.{leads, enter_number}
use Rattle.head.proofs.Heads.{drop_take}
use Rattle.walk.specs.Walk.{live_rule, slot_of, extent_at, walked_to}
use Rattle.read.specs.Read.{read_rules, record_at, size_of, number_of_read, read_answer, shown}
use Rattle.contracts.specs.Call.{opens, wipes, marks}
use Rattle.life.specs.Life.{History, World, call}
use Rattle.life.specs.Follows.{end_in, opened_again, wiped_again, runs_again, Reads, ReadsShow, ReadsAgain}
use Rattle.life.proofs.Book.{Book, Constants, book_start, book_payloads}
use Rattle.life.proofs.Invariant.{Rests, Stands, Inv}
use Rattle.life.proofs.Invariant.Ties.{head_is, tail_is}
use Rattle.life.proofs.Invariant.Finds.{tail_ends}
use Rattle.life.proofs.Invariant.Reaches.{payload_in, Live, lies_there, extent_found, record_found, payload_found}
use Rattle.life.proofs.Events.{stands_in, event_inv}
use Rattle.life.proofs.Lives.{lived_inv}
use Rattle.life.proofs.Follows.Fine.{enter_is, walks_there, finds_there}
use Rattle.life.proofs.Follows.Recovers.{recovers}

-- a part of a part
part_part : (l : List ℕ) (a e m n : ℕ) → m + n ≤ e → part m n (part a e l) ≡ part (a + m) n l
part_part l a e m n h = ap (take n) (drop_take m e (drop a l)) ∙ take-take n (e - m) (drop m (drop a l)) (omega arith) ∙ ap (take n) (drop-drop m a l)

module _ {g : State} {l : List ℕ} {b : Book} {y : History}
    (r : Rests l b y)
    (s : Stands g l b y.rolled)
    (x : ℕ)
    (low : y.head ≤ x)
    (high : x < end_in y) where
  live_here : Live b x
  live_here = (omega (arith, r.head), omega (arith, tail_ends r))

  found_there : record_at g l x ≡ Some (length (payload_in b x))
  found_there = record_found r s.knows.tied x live_here

  -- ---- it answers 0

  read_answers : leads (next_of Read g.mode) ≡ true → number_of_read g l x ≡ 0
  unfolding number_of_read read_rules live_rule
  read_answers admitted =
      let enters : enter_number Read g (length l) ≡ 0 = enter_is r s Read ∙ rw admitted in
      let from = le-leb g.head.0 x (omega (arith, head_is s.knows.tied, live_here.0)) in
      let to = lt-ltb x g.tail.0 (omega (arith, tail_is s.knows.tied, live_here.1)) in
      rw (enters, from, to, walks_there r s x live_here, finds_there r s x live_here) (first_passes 0 _ refl ∙ first_passes 0 0 refl)

  -- ---- with the history's payload

  payload_is : payload_in b x ≡ get_or y.payloads (x - y.head) []
  payload_is =
      let a : ℕ = book_start b in
      let n : b.head - a + (x - y.head) ≡ x - a = omega (arith, r.head, r.sound.chain.low) in
      sym (ap (λ (ps : List (List ℕ)). get_or ps (x - y.head) []) (sym r.live)
      ∙ get_or-drop (b.head - a) (book_payloads b) (x - y.head) []
      ∙ ap (λ (i : ℕ). get_or (book_payloads b) i []) n
      ∙ (lies_there r s.knows.tied x live_here).payload)

  -- the record lies within its extent
  record_inside : (walked_to g l x).place + 8 + length (payload_in b x) ≤ g.e
  record_inside =
      let f = says (extent_at g l x) (walked_to g l x).place x g.version.0 g.last.0 (length (payload_in b x)) found_there in
      omega (arith, f.inside, length-take g.e (drop (slot_place g.e (slot_of g x)) l))

  part_is : part (slot_place g.e (slot_of g x) + (walked_to g l x).place + 8) (size_of (record_at g l x)) l ≡ payload_in b x
  part_is =
      let a : ℕ = slot_place g.e (slot_of g x) in
      let p : ℕ = (walked_to g l x).place in
      let n : ℕ = length (payload_in b x) in
      ap (λ (k : ℕ). part (a + p + 8) k l) (ap size_of found_there)
      ∙ ap (λ (k : ℕ). part k n l) (add_assoc a p 8)
      ∙ sym (part_part l a g.e (p + 8) n record_inside)
      ∙ ap (λ (q : List ℕ). payload_at q p n) (extent_found r s.knows.tied x live_here)
      ∙ payload_found r s.knows.tied x live_here

  read_shows :
      leads (next_of Read g.mode) ≡ true
      → ((read_answer g l x).number ≡ 0) × (shown (read_answer g l x) l ≡ get_or y.payloads (x - y.head) [])
  unfolding read_answer
  read_shows admitted = rw (eq-eqb _ 0 (read_answers admitted)) (refl, part_is ∙ payload_is)

-- ---- in every life

inv_reads : {f : Constants} (w : World) → Inv f w → w.held ≡ true → leads (next_of Read w.log.mode) ≡ true → Reads w w.history
inv_reads w i h admitted x low high = read_shows i.rests (stands_in i h) x low high admitted

pub reads_show : ReadsShow
unfolding ReadsShow
reads_show w n h admitted = inv_reads w (lived_inv n) h admitted

run_reads : (m : Mode) → m ≡ Run → leads (next_of Read m) ≡ true
unfolding next_of
run_reads m e = rw e

pub reads_again : ReadsAgain
unfolding ReadsAgain
reads_again w n =
    let i = lived_inv n in
    let q = recovers w i in
    let j = event_inv (wiped_again w) (event_inv (opened_again w) (event_inv w i (call opens)) (call wipes)) (call marks) in
    rw q.same at (inv_reads (runs_again w) j q.in_hand (run_reads _ q.runs))
