-- Every refused call changes nothing: it hands back the state it was given, and the image is as it was, wherever the call is cut.
use Prim.Native.Nat.{ℕ}
use mathlib.Core.Path.{◌≡◌, refl, ap, ◌∙◌}
use mathlib.Core.Bool.{Bool, true, false}
use mathlib.Core.List.{List}
use lib.Dec.{eqb}
use lib.ListN.{length}
use Rattle.refusals.specs.Order.{when}
use Rattle.scan.specs.Scan.{Scan, refused, opened, scan}
use Rattle.state.specs.State.{Answer}
use Rattle.state.specs.State.{answer}
use Rattle.state.specs.Change.{zero_state}
use Rattle.outcome.specs.Enter.{sized}
use Rattle.outcome.proofs.Calls.{laid_nothing}
use Rattle.create.specs.Create.{fresh_state, fresh_image, create_answer, create_image}
use Rattle.recovery.specs.Recovery.{open_answer}
use Rattle.read.specs.Read.{number_of_read, reading, read_answer}
use Rattle.contracts.specs.Call.{Call, is_open_call, does}
use Rattle.contracts.specs.Promises.{Refused, Leaves, Unread, RefusedChangesNothing, RefusedCreateChangesNothing, RefusedReadShowsNothing}
use Rattle.contracts.proofs.OnState.{OpenOr, is_open, others, open_or}

pub open_leaves : (x : Scan) → Refused (open_answer x).number → (open_answer x).log ≡ zero_state
unfolding open_answer
open_leaves (refused k) no' = refl
open_leaves (opened v) no' = absurd (no' refl)

pub refused_changes_nothing : RefusedChangesNothing
unfolding RefusedChangesNothing
refused_changes_nothing c g l = by (open_or c)
  where
    by : {c : Call} → OpenOr c → Leaves (when (is_open_call c) zero_state g) (does c g l)
    by is_open no' = unfold does in (open_leaves (scan l) no', laid_nothing)
    by (others on) no' = rw on.on_state (on.refused g l no')

pub create_leaves : (e s : ℕ) (l : List ℕ) → Refused (create_answer e s (length l)).number → ((create_answer e s (length l)).log ≡ zero_state) × (create_image e s l ≡ l)
unfolding create_answer create_image
create_leaves e s l no' = by (sized e s (length l)) no'
  where
    by :
        (t : Bool)
        → Refused (when t (answer 0 (fresh_state e s)) (answer 1 zero_state)).number
        → ((when t (answer 0 (fresh_state e s)) (answer 1 zero_state)).log ≡ zero_state) × (when t (fresh_image e s) l ≡ l)
    by true n = absurd (n refl)
    by false n = (refl, refl)

pub refused_create_changes_nothing : RefusedCreateChangesNothing
unfolding RefusedCreateChangesNothing
refused_create_changes_nothing e s l r l' p no' =
    let left = create_leaves e s l (λ z. no' (ap (λ (a : Answer). a.number) p.0 ∙ z)) in
    (ap (λ (a : Answer). a.log) p.0 ∙ left.0, p.1 ∙ left.1)

pub refused_read_shows_nothing : RefusedReadShowsNothing
unfolding RefusedReadShowsNothing read_answer
refused_read_shows_nothing g l x = by _ _ (eqb (number_of_read g l x) 0)
  where
    by : (place size : ℕ) (t : Bool) → Unread g l (when t (reading 0 g place size) (reading (number_of_read g l x) g 0 0))
    by place size true = record { log = refl; place = λ no'. absurd (no' refl); length = λ no'. absurd (no' refl); empty = λ no'. absurd (no' refl) }
    by place size false = record { log = refl; place = λ no'. refl; length = λ no'. refl; empty = λ no'. refl }
