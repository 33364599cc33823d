-- With a state in hand no call answers 1, 2 or 15: the sizes are the image's, the state is well formed, and every walk to a live LSN
-- gets there.
use Prim.Native.Nat.{ℕ, zero, suc, ◌+◌}
use mathlib.Core.Path.{◌≡◌, refl, sym, ap, ◌∙◌}
use mathlib.Core.Logic.{inl, inr}
use mathlib.Core.List.{List}
use mathlib.Core.Bool.{Bool, true, false, ◌&&◌, ◌||◌}
use native.Mathlib.Omega.{arith}
use borrow.Author.Tests.{leb-true, ltb-true, eq-eqb, eqb-false}
use lib.Dec.{leb, ltb, eqb}
use lib.ListN.{length}
use Rattle.refusals.specs.Order.{must, first_of}
use Rattle.refusals.proofs.First.{first_stands, first_passes}
use Rattle.numbers.proofs.Tests.{both}
use Rattle.medium.specs.Store.{Store}
use Rattle.metadata.specs.Layout.{image_length}
use Rattle.metadata.specs.Metadata.{sizes_ok}
use Rattle.table.specs.Next.{next_of}
use Rattle.table.specs.declared.Step.{Step}
use Rattle.table.specs.declared.Step.TheVariants.{Wipe, Mark, Append, RollBegin, RollWrite, RollList, HeadStart, HeadFinish, TailStart, TailFinish}
use Rattle.table.specs.declared.Step.TheVariants.{Close, Read}
use Rattle.slots.proofs.Members.{neither}
use Rattle.state.specs.declared.State.{State}
use Rattle.state.specs.State.{longest}
use Rattle.outcome.specs.Outcome.{outcome}
use Rattle.outcome.specs.Enter.{sized, leads, enter_number}
use Rattle.outcome.specs.Rest.{rest_outcome}
use Rattle.counts.specs.Counts.{counts_number}
use Rattle.recovery.specs.Recovery.{mark_outcome}
use Rattle.append.specs.Append.{append_rules, append_number, append_outcome}
use Rattle.roll.specs.Begin.{roll_begin_rules, lowest_free, roll_begin_number, roll_begin_outcome}
use Rattle.roll.specs.Write.{roll_write_rules, roll_write_number, roll_write_outcome}
use Rattle.roll.specs.List.{roll_list_outcome}
use Rattle.head.specs.Finish.{head_finish_outcome}
use Rattle.head.specs.Start.{head_start_rules, head_start_number, head_start_outcome}
use Rattle.walk.specs.Walk.{live_rule, walked_to}
use Rattle.tail.specs.Start.{tail_start_rules, tail_start_number, tail_start_outcome}
use Rattle.close.specs.Close.{close_outcome}
use Rattle.read.specs.Read.{read_rules, number_of_read, is_record, record_at}
use Rattle.contracts.specs.Call.{Call, opens, wipes, marks, appends, roll_begins, roll_writes, roll_lists, head_starts, head_finishes, tail_starts}
use Rattle.contracts.specs.Call.{tail_finishes, closes, reads, counts, does}
use Rattle.contracts.proofs.Cases.{number_is}
use Rattle.life.specs.Life.{History}
use Rattle.life.specs.Follows.{OneTwoOrFifteen, NeverMalformed, AlwaysOpens}
use Rattle.life.proofs.Book.{Book}
use Rattle.life.proofs.Invariant.{Rests, Stands}
use Rattle.life.proofs.Invariant.Modes.{never}
use Rattle.life.proofs.Invariant.Ties.{e_is, s_is, head_is, tail_is}
use Rattle.life.proofs.Invariant.Reaches.{Live, walk_gets_there, record_found}
use Rattle.life.proofs.Turns.Reopens.{open_does}
use Rattle.life.proofs.Events.{stands_in, open_number_is}
use Rattle.life.proofs.Lives.{lived_inv}

-- ---- numbers

abbrev malformed : ℕ → Bool
malformed k = eqb k 1 || eqb k 2 || eqb k 15

record Fine (k : ℕ) : Type 0 where
  is : malformed k ≡ false

not_fine : {k : ℕ} → Fine k → OneTwoOrFifteen k → ⊥
not_fine f (inl e) = never (sym (rw e at f.is))
not_fine f (inr (inl e)) = never (sym (rw e at f.is))
not_fine f (inr (inr e)) = never (sym (rw e at f.is))

done_fine : Fine 0
done_fine = record { is = refl }

-- any other refusal
abbrev Other : ℕ → Type 0
Other k = (eqb k 0 || malformed k) ≡ false

must_fine : (t : Bool) (k : ℕ) → Other k → Fine (must t k)
must_fine true k o = done_fine
must_fine false k o = record { is = (neither (eqb k 0) (malformed k) o).1 }

-- the first of two, the second where the first refuses nothing
then_fine : (a b : ℕ) → Fine a → (a ≡ 0 → Fine b) → Fine (first_of a b)
then_fine zero b f g = rw (first_passes zero b refl) (g refl)
then_fine (suc a) b f g = rw (first_stands (suc a) b (λ e. omega arith)) f

-- a rule of its own, and what comes behind it where it holds
rule_fine : (t : Bool) (k b : ℕ) → Other k → (t ≡ true → Fine b) → Fine (first_of (must t k) b)
rule_fine true k b o f = then_fine 0 b done_fine (λ e. f refl)
rule_fine false k b o f = then_fine k b (must_fine false k o) (λ e. absurd (eqb-false k 0 (neither (eqb k 0) (malformed k) o).0 e))

-- ---- a state in hand

module _ {g : State} {l : List ℕ} {b : Book} {y : History} (r : Rests l b y) (s : Stands g l b y.rolled) where
  sized_so : sized g.e g.s (length l) ≡ true
  unfolding sized
  sized_so = let t = s.knows.tied in rw (e_is t, s_is t, r.sound.size, eq-eqb (length l) (image_length b.e b.s) r.keeps.size)

  -- entered, or not admitted in this mode
  pub enter_is : (step : Step) → enter_number step g (length l) ≡ must (leads (next_of step g.mode)) 3
  unfolding enter_number
  enter_is step = rw (sized_so, s.well) (first_passes 0 _ refl ∙ first_passes 0 _ refl)

  enters : (step : Step) → Fine (enter_number step g (length l))
  enters step = rw (enter_is step) (must_fine (leads (next_of step g.mode)) 3 refl)

  -- ---- 15 is never reached

  live_lsn : (x : ℕ) → (leb g.head.0 x && ltb x g.tail.0) ≡ true → Live b x
  live_lsn x e =
      let q = both (leb g.head.0 x) (ltb x g.tail.0) e in
      let t = s.knows.tied in
      (omega (arith, leb-true g.head.0 x q.0, head_is t), omega (arith, ltb-true x g.tail.0 q.1, tail_is t))

  pub walks_there : (x : ℕ) → Live b x → eqb (walked_to g l x).lsn.0 x ≡ true
  walks_there x q = eq-eqb _ _ (walk_gets_there r s.knows.tied x q)

  pub finds_there : (x : ℕ) → Live b x → is_record (record_at g l x) ≡ true
  finds_there x q = ap is_record (record_found r s.knows.tied x q)

  -- ---- the calls

  append_fine : (p : ℕ) → Fine (append_number g (length l) p)
  unfolding append_number append_rules
  append_fine p =
      then_fine _ _ (enters Append) (λ z.
      rule_fine (leb p (longest g)) 4 _ refl (λ short.
      rule_fine (ltb g.tail.0 4294967295) 8 _ refl (λ left.
      must_fine (leb (g.place + p + 9) g.e) 5 refl)))

  roll_begin_fine : (p : ℕ) → Fine (roll_begin_number g (length l) p)
  unfolding roll_begin_number roll_begin_rules
  roll_begin_fine p =
      then_fine _ _ (enters RollBegin) (λ z.
      rule_fine (leb p (longest g)) 4 _ refl (λ short.
      rule_fine (ltb g.tail.0 4294967295) 8 _ refl (λ left.
      rule_fine (ltb g.e (g.place + p + 9)) 6 _ refl (λ tight.
      must_fine (ltb (lowest_free g) 64) 7 refl))))

  roll_write_fine : (p : ℕ) → Fine (roll_write_number g (length l) p)
  unfolding roll_write_number roll_write_rules
  roll_write_fine p = then_fine _ _ (enters RollWrite) (λ z. must_fine (eqb p g.roll_len) 11 refl)

  head_start_fine : (h : ℕ) → Fine (head_start_number g (length l) h)
  unfolding head_start_number head_start_rules
  head_start_fine h =
      then_fine _ _ (enters HeadStart) (λ z. must_fine (ltb g.head.0 h && leb h g.tail.0) 10 refl)

  tail_start_fine : (t : ℕ) → Fine (tail_start_number g l t)
  unfolding tail_start_number tail_start_rules live_rule
  tail_start_fine t =
      then_fine _ _ (enters TailStart) (λ z.
      rule_fine (leb g.head.0 t && ltb t g.tail.0) 10 _ refl (λ live.
      rule_fine (ltb g.version.0 65535) 9 _ refl (λ left.
      rw (walks_there t (live_lsn t live)) done_fine)))

  read_fine : (x : ℕ) → Fine (number_of_read g l x)
  unfolding number_of_read read_rules live_rule
  read_fine x =
      then_fine _ _ (enters Read) (λ z.
      rule_fine (leb g.head.0 x && ltb x g.tail.0) 10 _ refl (λ live.
      rw (walks_there x (live_lsn x live), finds_there x (live_lsn x live)) done_fine))

  pub counts_answers : counts_number g ≡ 0
  unfolding counts_number
  counts_answers =
      let t = s.knows.tied in
      let z : sizes_ok g.e g.s ≡ true = rw (e_is t, s_is t) r.sound.size in
      rw (z, s.well) (first_passes 0 0 refl)

  open_fine : Fine (does opens g l).number
  open_fine = rw (open_does r g) done_fine

  fine_done : (k : ℕ) (next : State) (store : Store) → Fine k → Fine (outcome k g next store).number
  fine_done k next store f = rw (number_is k g next store) f

  fine : (c : Call) → Fine (does c g l).number
  unfolding does rest_outcome mark_outcome append_outcome roll_begin_outcome roll_write_outcome roll_list_outcome head_start_outcome head_finish_outcome tail_start_outcome close_outcome
  fine opens = open_fine
  fine wipes = fine_done _ _ _ (enters Wipe)
  fine marks = fine_done _ _ _ (enters Mark)
  fine (appends p) = fine_done _ _ _ (append_fine (length p))
  fine (roll_begins p) = fine_done _ _ _ (roll_begin_fine p)
  fine (roll_writes p) = fine_done _ _ _ (roll_write_fine (length p))
  fine roll_lists = fine_done _ _ _ (enters RollList)
  fine (head_starts h) = fine_done _ _ _ (head_start_fine h)
  fine head_finishes = fine_done _ _ _ (enters HeadFinish)
  fine (tail_starts t) = fine_done _ _ _ (tail_start_fine t)
  fine tail_finishes = fine_done _ _ _ (enters TailFinish)
  fine closes = fine_done _ _ _ (enters Close)
  fine (reads x) = read_fine x
  fine counts = rw counts_answers done_fine

-- ---- in every life

pub never_malformed : NeverMalformed
unfolding NeverMalformed
never_malformed w n h c = let i = lived_inv n in not_fine (fine i.rests (stands_in i h) c)

-- in hand or not
pub always_opens : AlwaysOpens
unfolding AlwaysOpens
always_opens w n = open_number_is w (lived_inv n)
