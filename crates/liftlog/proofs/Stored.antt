-- What an exported call says of its store is the name of the store that the definition has: none where it is refused.
use Prim.Native.Nat.{ℕ, ◌+◌, ◌-◌}
use mathlib.Core.Path.{◌≡◌, refl, sym, ap, ◌∙◌}
use mathlib.Core.Bool.{Bool, true, false}
use mathlib.Core.List.{List}
use borrow.Author.Tests.{eqb-true}
use lib.Dec.{eqb}
use lib.ListN.{length}
use Rattle.refusals.specs.Order.{when}
use Rattle.medium.specs.Store.{Store, count, wipe_of}
use Rattle.record.specs.Record.{around_payload}
use Rattle.extent.specs.Extent.{header_length}
use Rattle.metadata.specs.Layout.{area_length, slot_place}
use Rattle.metadata.specs.Metadata.{sizes_ok}
use Rattle.metadata.proofs.Stores.{metadata_length}
use Rattle.stores.specs.Stores.{record_store, extent_store, metadata_store, no_store}
use Rattle.table.specs.declared.Step.{Step}
use Rattle.table.specs.declared.Step.TheVariants.{Mark, RollList, HeadStart, HeadFinish, TailStart, Close}
use Rattle.state.specs.declared.State.{State}
use Rattle.state.specs.State.{Answer, answered}
use Rattle.std.specs.Prelude.{Result}
use Rattle.refusals.specs.Refusals.{number_in}
use Rattle.refusals.specs.declared.Refusal.{Refusal}
use Rattle.state.specs.State.{write_at, metadata_of}
use Rattle.state.specs.Change.{in_mode}
use Rattle.well.specs.Well.{well_formed}
use Rattle.outcome.specs.Outcome.{Outcome, outcome, Did}
use Rattle.outcome.specs.Enter.{enter_number, mode_after, changed}
use Rattle.outcome.specs.Rest.{rest_store, rest_outcome}
use Rattle.outcome.proofs.Calls.{entered}
use Rattle.recovery.specs.Recovery.{mark_outcome}
use Rattle.append.specs.Append.{append_outcome}
use Rattle.append.proofs.Appends.{appends as appends_says}
use Rattle.roll.specs.Begin.{lowest_free, roll_begin_outcome}
use Rattle.roll.specs.Write.{roll_write_outcome}
use Rattle.roll.specs.List.{listed_state, roll_list_outcome}
use Rattle.head.specs.Start.{head_start_number, dropped_state, head_start_outcome}
use Rattle.head.specs.Finish.{unpended_state, head_finish_outcome}
use Rattle.walk.specs.Walk.{up_to, walked_to}
use Rattle.tail.specs.Start.{tail_start_number, back_state, tail_start_outcome}
use Rattle.close.specs.Close.{settled_state, close_outcome}
use Rattle.contracts.specs.Call.{Call, marks, roll_lists, head_starts, head_finishes, tail_starts, closes, is_open_call, does}
use Rattle.contracts.proofs.Cases.{done_is, number_is}
use Rattle.contracts.proofs.OnState.{state_call}
use Rattle.named.specs.declared.Named.{Named}
use Rattle.named.specs.Named.{kind_no, metadata, record', wipe, nothing, named_as, named, when_done}
use Rattle.named.proofs.Names.{outcome_named, record_count, extent_count, wipe_count}
use Rattle.mirror.specs.declared.State.{State as Mirror}
use Rattle.mirror.specs.Mirror.{known, log_of, state_of, answer}
use Rattle.liftlog.specs.Told.{told_answer}
use Rattle.liftlog.proofs.Tells.{answered_number, known_answer}

module _ (number : ℕ) (g next : State) (s : Store) (l l' : List ℕ) (ended : Result State Refusal) (did : Did (outcome number g next s) l (answered g ended) l') where
  -- the answer's number is the call's
  pub told_number : number_in ended ≡ number
  told_number = sym (answered_number g ended) ∙ ap (λ (x : Answer). x.number) did.answer ∙ number_is number g next s

  stored :
      (n : ℕ) (r : Named)
      → (number ≡ 0 → count s ≡ n)
      → r ≡ when_done (number_in ended) (kind_no s.kind) s.place n
      → r ≡ named (outcome number g next s).store
  stored n r f e =
      e ∙ ap (λ (k : ℕ). when_done k (kind_no s.kind) s.place n) told_number ∙ sym (outcome_named number g next s n f)

-- head finish stores nothing, done or refused
finish_stored : (g : State) (l : List ℕ) → nothing ≡ named (head_finish_outcome g l).store
unfolding head_finish_outcome named outcome
finish_stored g l = by (eqb (enter_number HeadFinish g (length l)) 0)
  where
    by :
        (t : Bool)
        → let done : Outcome = record { number = 0; next = unpended_state g; store = no_store } in
        let refused : Outcome = record { number = enter_number HeadFinish g (length l); next = g; store = no_store } in
        let o = when t done refused in
        nothing ≡ named_as (kind_no o.store.kind) o.store.place (count o.store)
    by true = refl
    by false = refl

pub finish_told :
    (state : Mirror) (l : List ℕ)
    → true ≡ known state.mode
    → let o = head_finish_outcome (log_of state) l in
    answer o.number nothing (state_of o.next) ≡ told_answer head_finishes state l
unfolding does
finish_told state l k =
    let o : Outcome = head_finish_outcome (log_of state) l in
    ap (λ (n : Named). answer o.number n (state_of o.next)) (finish_stored (log_of state) l) ∙ known_answer head_finishes state l k

-- ---- wipe and tail finish

module _ (step : Step) (g : State) (l l' : List ℕ) (ended : Result State Refusal) (did : Did (rest_outcome step g l) l (answered g ended) l') where
  pub rest_known : number_in ended ≡ 0 → (sizes_ok g.e g.s ≡ true) × (well_formed g ≡ true)
  unfolding rest_outcome
  rest_known z =
      let n = entered step g (length l) (sym (told_number _ _ _ _ _ _ _ did) ∙ z) in
      (n.stands.sizes, n.well_is)

  pub rest_stored : (r : Named) → r ≡ when_done (number_in ended) wipe (write_at g) (g.e - g.place) → r ≡ named (rest_outcome step g l).store
  unfolding rest_outcome
  rest_stored r e = stored _ _ _ (rest_store g) _ _ _ did (g.e - g.place) r (λ z. wipe_count (write_at g) (g.e - g.place)) e

-- ---- append

module _ (g : State) (l p l' : List ℕ) (ended : Result State Refusal) (did : Did (append_outcome g l p) l (answered g ended) l') where
  pub append_known : number_in ended ≡ 0 → (sizes_ok g.e g.s ≡ true) × (well_formed g ≡ true)
  unfolding append_outcome
  append_known z =
      let n = (appends_says g (length l) (length p) (sym (told_number _ _ _ _ _ _ _ did) ∙ z)).enters in
      (n.stands.sizes, n.well_is)

  pub append_stored : (r : Named) → r ≡ when_done (number_in ended) record' (write_at g) (length p + around_payload) → r ≡ named (append_outcome g l p).store
  unfolding append_outcome
  append_stored r e =
      let s : Store = record_store (write_at g) p g.tail.0 g.version.0 in
      stored _ _ _ s _ _ _ did (length p + around_payload) r (λ z. record_count (write_at g) p g.tail.0 g.version.0) e

-- ---- roll begin and roll write

-- where it is not done the place does not matter
placed : (k kind a b n : ℕ) → (k ≡ 0 → a ≡ b) → when_done k kind a n ≡ when_done k kind b n
placed k kind a b n f = by (eqb k 0) refl
  where
    by : (t : Bool) → eqb k 0 ≡ t → when t (named_as kind a n) nothing ≡ when t (named_as kind b n) nothing
    by true e = ap (λ (x : ℕ). named_as kind x n) (f (eqb-true k 0 e))
    by false e = refl

module _ (g : State) (l : List ℕ) (p : ℕ) (l' : List ℕ) (ended : Result State Refusal) (did : Did (roll_begin_outcome g l p) l (answered g ended) l') where
  -- the slot that it has taken is in its answer
  taken_slot : number_in ended ≡ 0 → slot_place g.e (answered g ended).log.roll_slot.0 ≡ slot_place g.e (lowest_free g)
  unfolding roll_begin_outcome
  taken_slot z =
      let k = sym (told_number _ _ _ _ _ _ _ did) ∙ z in
      ap (λ (x : Answer). slot_place g.e x.log.roll_slot.0) did.answer
      ∙ ap (λ (o : Outcome). slot_place g.e o.next.roll_slot.0) (done_is _ _ _ _ k)

  pub begin_stored :
      (r : Named) → r ≡ when_done (number_in ended) wipe (slot_place g.e (answered g ended).log.roll_slot.0) g.e → r ≡ named (roll_begin_outcome g l p).store
  unfolding roll_begin_outcome
  begin_stored r e =
      let at : ℕ = slot_place g.e (lowest_free g) in
      stored _ _ _ (wipe_of at g.e) _ _ _ did g.e r (λ z. wipe_count at g.e) (e ∙ placed (number_in ended) wipe _ at g.e taken_slot)

pub write_stored :
    (g : State) (l p l' : List ℕ) (ended : Result State Refusal)
    → Did (roll_write_outcome g l p) l (answered g ended) l'
    → (r : Named)
    → r ≡ when_done (number_in ended) record' (slot_place g.e g.roll_slot.0) (length p + (header_length + around_payload))
    → r ≡ named (roll_write_outcome g l p).store
unfolding roll_write_outcome
write_stored g l p l' ended did r e =
    let at : ℕ = slot_place g.e g.roll_slot.0 in
    let s : Store = extent_store at p g.tail.0 g.version.0 in
    stored _ _ _ s _ _ _ did (length p + (header_length + around_payload)) r (λ z. extent_count at p g.tail.0 g.version.0) e

-- ---- the other deciding steps: the next state's arrays have 64 entries again, so that its metadata has 84 bytes

module _ (g : State) (slots : length g.slots ≡ 64) (starts : length g.starts ≡ 64) (l l' : List ℕ) (ended : Result State Refusal) (r : Named) where
  abbrev Says : Call → Type 0
  Says c = Did (does c g l) l (answered g ended) l' → r ≡ when_done (number_in ended) metadata 0 area_length → r ≡ named (does c g l).store

  decided : (c : Call) (step : Step) (number : ℕ) (next : State) (clean : Bool) → is_open_call c ≡ false → does c g l ≡ changed step number g next clean → Says c
  decided c step number next clean on is did e =
      let m : State = in_mode (mode_after step g) next in
      let s : Store = metadata_store (metadata_of clean next) in
      let long : number ≡ 0 → length next.slots ≡ 64 = λ z.
      let done : (does c g l).number ≡ 0 = rw is (number_is number g m s ∙ z) in
      rw (is, done_is number g m s z) at ((state_call c on).settles g l slots starts done).slots in
      rw is (stored number g m s l l' ended (rw is at did) area_length r (λ z. metadata_length (metadata_of clean next) (long z)) e)

  pub mark_stored : Says marks
  unfolding does mark_outcome
  mark_stored = decided marks Mark (enter_number Mark g (length l)) g false refl refl

  pub list_stored : Says roll_lists
  unfolding does roll_list_outcome
  list_stored = decided roll_lists RollList (enter_number RollList g (length l)) (listed_state g) false refl refl

  pub head_stored : (h : ℕ) → Says (head_starts h)
  unfolding does head_start_outcome
  head_stored h = decided (head_starts h) HeadStart (head_start_number g (length l) h) (dropped_state g h) false refl refl

  pub tail_stored : (t : ℕ) → Says (tail_starts t)
  unfolding does tail_start_outcome
  tail_stored t =
      decided (tail_starts t) TailStart (tail_start_number g l t) (back_state g t (up_to g t) (walked_to g l t).place) false refl refl

  pub close_stored : Says closes
  unfolding does close_outcome
  close_stored = decided closes Close (enter_number Close g (length l)) (settled_state g) true refl refl
