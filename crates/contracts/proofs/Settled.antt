-- Every done call leaves a well-formed state, whose arrays have 64 entries again.
use Prim.Native.Nat.{ℕ}
use mathlib.Core.Path.{◌≡◌, refl}
use mathlib.Core.List.{List}
use Rattle.numbers.specs.Numbers.{Bytes}
use Rattle.table.specs.declared.Mode.TheVariants.{Closed}
use Rattle.scan.specs.Scan.{Scan, refused, opened, scan}
use Rattle.well.proofs.Facts.{well_kept}
use Rattle.create.specs.Create.{fresh_state}
use Rattle.recovery.specs.Recovery.{open_answer}
use Rattle.recovery.proofs.Openings.{refusal_not_zero}
use Rattle.contracts.specs.Call.{Call, does}
use Rattle.contracts.specs.Promises.{Settled, Settles, DoneLeavesWellFormed, CreateLeavesWellFormed}
use Rattle.contracts.proofs.Created.{fresh_well, fresh_arrays}
use Rattle.contracts.proofs.Seen.{open_well, open_arrays}
use Rattle.contracts.proofs.OnState.{OpenOr, is_open, others, open_or}

pub create_leaves_well_formed : CreateLeavesWellFormed
unfolding CreateLeavesWellFormed fresh_state
create_leaves_well_formed e s t =
    let r = fresh_arrays e s t in
    record { well = well_kept _ (fresh_well e s t Closed refl); slots = r.0; starts = r.1 }

open_settles : (l : List ℕ) → Bytes l → (open_answer (scan l)).number ≡ 0 → Settled (open_answer (scan l)).log
unfolding open_answer
open_settles l b e = by (scan l) refl e
  where
    by : (x : Scan) → scan l ≡ x → (open_answer x).number ≡ 0 → Settled (open_answer x).log
    by (refused k) q z = absurd (refusal_not_zero l k q z)
    by (opened v) q z = let r = open_arrays l b v q in record { well = open_well l b v q; slots = r.0; starts = r.1 }

pub done_leaves_well_formed : DoneLeavesWellFormed
unfolding DoneLeavesWellFormed
done_leaves_well_formed c g l b = by (open_or c)
  where
    by : {c : Call} → OpenOr c → Settles g (does c g l)
    by is_open slots starts e = unfold does in open_settles l b (unfold does in e)
    by (others on) slots starts e = on.settles g l slots starts e
