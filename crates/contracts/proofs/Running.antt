-- The log of the samples is the one that create, open, wipe and mark make at E = 64, S = 2.
use Prim.Native.Nat.{ℕ}
use mathlib.Core.Path.{◌≡◌, refl}
use mathlib.Core.Bool.{false}
use mathlib.Core.List.{List, []}
use borrow.Author.Tests.{leb-true}
use Rattle.medium.specs.Store.{count, laid}
use Rattle.medium.proofs.Laws.{laid_wipe}
use Rattle.metadata.proofs.Samples.{fresh_bytes}
use Rattle.stores.specs.Stores.{metadata_store}
use Rattle.table.specs.declared.Mode.TheVariants.{Opened, Wiped}
use Rattle.scan.specs.Scan.{scan}
use Rattle.state.specs.Change.{in_mode}
use Rattle.state.specs.State.{answer, metadata_of}
use Rattle.outcome.specs.Outcome.{Outcome}
use Rattle.create.specs.Create.{fresh_image}
use Rattle.create.proofs.Laying.{front_whole}
use Rattle.recovery.specs.Recovery.{open_answer, wipe_outcome, mark_outcome}
use Rattle.contracts.specs.Samples.{at, image}
use Rattle.contracts.proofs.Computing.{computing}

-- the image that a call's whole store leaves
abbrev pub left : Outcome → List ℕ → List ℕ
left o l = laid (count o.store) o.store l

pub record Runs : Type 0 where
  pub opens : open_answer (scan (fresh_image 64 2)) ≡ answer 0 (in_mode Opened (at 1 5))
  pub wipes : (wipe_outcome (in_mode Opened (at 1 5)) (fresh_image 64 2)).next ≡ in_mode Wiped (at 1 5)
  pub wiped : left (wipe_outcome (in_mode Opened (at 1 5)) (fresh_image 64 2)) (fresh_image 64 2) ≡ fresh_image 64 2
  pub marks : (mark_outcome (in_mode Wiped (at 1 5)) (fresh_image 64 2)).next ≡ at 1 5
  pub marked : left (mark_outcome (in_mode Wiped (at 1 5)) (fresh_image 64 2)) (fresh_image 64 2) ≡ image []

pub runs : Runs
unfolding computing fresh_bytes
runs = record {
  opens = refl;
  wipes = refl;
  wiped = laid_wipe 89 59 (fresh_image 64 2) 59 (leb-true 59 59 refl) (leb-true 148 212 refl);
  marks = refl;
  marked = front_whole (metadata_store (metadata_of false (at 1 5))) (fresh_image 64 2) 84 refl (leb-true 84 212 refl) (leb-true 84 84 refl);
}
