-- The samples hold, by computing the definitions.
use Prim.Native.Nat.{ℕ, ◌+◌, ◌≤◌}
use mathlib.Core.Path.{◌≡◌, refl, ap}
use mathlib.Core.Bool.{false}
use mathlib.Core.List.{List, [], ◌∷◌, ◌++◌}
use borrow.Author.Tests.{leb-true}
use lib.ListN.{take, drop}
use Rattle.medium.specs.Store.{laid}
use Rattle.medium.proofs.Laws.{laid_front}
use Rattle.record.specs.Record.{record_bytes}
use Rattle.metadata.proofs.Samples.{fresh_bytes}
use Rattle.stores.specs.Stores.{record_store, metadata_store}
use Rattle.scan.specs.Scan.{scan}
use Rattle.state.specs.State.{metadata_of}
use Rattle.create.proofs.Laying.{front_whole}
use Rattle.recovery.specs.Recovery.{open_answer}
use Rattle.tail.specs.Start.{withdrawn_state}
use Rattle.contracts.specs.Samples.{at, image, one, found, Holds, table}
use Rattle.contracts.proofs.Computing.{computing}

-- computing a store byte by byte is dear: open is run on its closed form
finds : {l l' : List ℕ} → l ≡ l' → found (open_answer (scan l)) ≡ found (open_answer (scan l'))
finds e = ap (λ (l : List ℕ). found (open_answer (scan l))) e

cut_one :
    (k : ℕ)
    → k ≤ 11
    → laid k (record_store 89 (0x41 ∷ 0x42 ∷ []) 1 1) (image []) ≡ take 89 (image []) ++ (take k one ++ drop (89 + k) (image []))
unfolding record_bytes fresh_bytes
cut_one k h = laid_front (record_store 89 (0x41 ∷ 0x42 ∷ []) 1 1) (λ j. refl) (image []) k h (leb-true 100 212 refl)

pub samples : Holds table
unfolding computing fresh_bytes
samples =
    let torn = finds (cut_one 10 (leb-true 10 11 refl)) in
    let whole = finds (cut_one 11 (leb-true 11 11 refl)) in
    let tail_started = metadata_store (metadata_of false (withdrawn_state (at 2 16) (image one) 1)) in
    let withdrawn = finds (front_whole tail_started (image one) 84 refl (leb-true 84 212 refl) (leb-true 84 84 refl)) in
    (refl, (refl, (refl, (refl, (refl, (refl, (refl, (refl, (refl, (torn, (whole, (withdrawn, (refl, (refl, (refl, tt)))))))))))))))
