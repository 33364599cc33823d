-- The walk to a live LSN gets there, in the extent that the LSN lies in, and finds its record with its payload: what tail start and read
-- rest on.
use Prim.Native.Nat.{ℕ, ◌+◌, ◌-◌, ◌≤◌, ◌<◌}
use mathlib.Core.Path.{◌≡◌, ap, ◌∙◌}
use mathlib.Core.List.{List, []}
use native.Mathlib.Omega.{arith}
use lib.ListN.{length, get_or, take}
use lib.Seq.{length-take-le}
use Rattle.record.specs.Record.{complete_at, payload_at}
use Rattle.std.specs.Prelude.{Some}
use Rattle.extent.specs.Extent.{sizes, reached}
use Rattle.extent.specs.declared.Reached.{Reached}
use Rattle.extent.proofs.Change.{walk_at}
use Rattle.scan.specs.Scan.{Extent, slot_part}
use Rattle.state.specs.declared.State.{State}
use Rattle.walk.specs.Walk.{slot_of, start_of, extent_at, walked_to}
use Rattle.read.specs.Read.{record_at}
use Rattle.life.specs.Life.{History}
use Rattle.life.proofs.Book.{Book, tail, Holds}
use Rattle.life.proofs.Book.Holder.{holder, Lies, lies}
use Rattle.life.proofs.Invariant.{Rests, Tied}
use Rattle.life.proofs.Invariant.Ties.{e_is, last_is, version_is, slots_in_is, starts_in_is}

-- the extent that x lies in, and its bytes
abbrev pub holder_in : Book → ℕ → Extent
holder_in b x = holder x b.olds b.write

abbrev pub holder_part : List ℕ → Book → ℕ → List ℕ
holder_part l b x = slot_part l b.e (holder_in b x).slot

-- the payload at x
abbrev pub payload_in : Book → ℕ → List ℕ
payload_in b x = get_or (holder_in b x).payloads (x - (holder_in b x).start) []

-- live: from head on, below the tail
abbrev pub Live : Book → ℕ → Type 0
Live b x = (b.head ≤ x) × (x < tail b)

module _ {g : State} {l : List ℕ} {b : Book} {y : History} (r : Rests l b y) (t : Tied g b) (x : ℕ) (live : Live b x) where
  pub lies_there : Lies x b.write b.olds (holder_in b x)
  lies_there = lies x b.write b.olds r.sound.chain.joined (omega (arith, r.sound.chain.low, live.0))

  holder_holds : Holds (holder_part l b x) b.version b.last (holder_in b x)
  holder_holds = lies_there.holds l b.e b.version b.last r.keeps.olds r.keeps.write

  slot_found : slot_of g x ≡ (holder_in b x).slot
  slot_found = rw (slots_in_is t, starts_in_is t) (lies_there.looked (λ o. o.slot))

  start_found : start_of g x ≡ (holder_in b x).start
  start_found = rw (starts_in_is t) (lies_there.looked (λ o. o.start))

  pub extent_found : extent_at g l x ≡ holder_part l b x
  extent_found = rw (e_is t, slot_found)

  -- where the walk ends
  walk_is : walked_to g l x ≡ reached 5 (holder_in b x).start (take (x - (holder_in b x).start) (holder_in b x).payloads)
  walk_is = rw (start_found, extent_found, version_is t, last_is t, holder_holds.walk)

  pub place_found : (walked_to g l x).place ≡ 5 + sizes (take (x - (holder_in b x).start) (holder_in b x).payloads)
  place_found = ap (λ (r : Reached). r.place) walk_is

  pub walk_gets_there : (walked_to g l x).lsn.0 ≡ x
  walk_gets_there =
      let n : length (take (x - (holder_in b x).start) (holder_in b x).payloads) ≡ x - (holder_in b x).start =
      length-take-le (x - (holder_in b x).start) (holder_in b x).payloads (omega (arith, lies_there.high live.1)) in
      ap (λ (r : Reached). r.lsn.0) walk_is ∙ omega (arith, lies_there.low)

  -- and what stands there
  abbrev place : ℕ
  place = 5 + sizes (take (x - (holder_in b x).start) (holder_in b x).payloads)

  stands :
      (complete_at (holder_part l b x) place x b.version b.last ≡ Some (length (payload_in b x)))
      × (payload_at (holder_part l b x) place (length (payload_in b x)) ≡ payload_in b x)
  stands =
      let h = holder_holds.walk in
      rw h at (walk_at (holder_part l b x) 5 (holder_in b x).start b.version b.last x lies_there.low (rw h (lies_there.high live.1)))

  pub record_found : record_at g l x ≡ Some (length (payload_in b x))
  record_found =
      ap (λ (a : ℕ). complete_at (extent_at g l x) a x g.version.0 g.last.0) place_found
      ∙ rw (extent_found, version_is t, last_is t) stands.0

  pub payload_found : payload_at (holder_part l b x) (walked_to g l x).place (length (payload_in b x)) ≡ payload_in b x
  payload_found = ap (λ (a : ℕ). payload_at (holder_part l b x) a (length (payload_in b x))) place_found ∙ stands.1
