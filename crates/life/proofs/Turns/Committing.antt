-- A deciding step that stores metadata: cut short, nothing has arrived; whole, the image keeps the next book, whose extents are
-- those that the slots hold already.
use Prim.Native.Nat.{ℕ, ◌+◌, ◌*◌, ◌≤◌}
use mathlib.Core.Path.{◌≡◌, sym, ap, ◌∙◌}
use mathlib.Core.Bool.{Bool, false}
use mathlib.Core.List.{List}
use native.Mathlib.Omega.{arith}
use lib.ListN.{length}
use Rattle.medium.specs.Store.{count, laid}
use Rattle.metadata.specs.declared.Metadata.{Metadata}
use Rattle.stores.specs.Stores.{metadata_store}
use Rattle.scan.specs.Scan.{slot_part}
use Rattle.state.specs.declared.State.{State}
use Rattle.state.specs.State.{metadata_of}
use Rattle.life.specs.Life.{History}
use Rattle.life.proofs.Book.{Book, Constants, SameSizes, metadata_in, write_part, Holds, live_in, MarksOk, SoundBook, Olds, Keeps}
use Rattle.life.proofs.Book.Frames.{metadata_torn, metadata_count, slot_metadata, keeps_metadata}
use Rattle.life.proofs.Invariant.{Tied, Knows}
use Rattle.life.proofs.Invariant.Modes.{never}
use Rattle.life.proofs.Turns.Done.{decided}
use Rattle.life.proofs.Turns.Moves.{Moves}

-- the state's metadata is the book's
tied_metadata : {g : State} {b : Book} → Tied g b → metadata_of b.clean g ≡ metadata_in b
tied_metadata {b = b} t = ap (metadata_of b.clean) t.is

-- what a state knows is in the slots
knows_metadata :
    {g : State} {l : List ℕ} {b : Book} {p : List ℕ} (m : Metadata) (k : ℕ)
    → count (metadata_store m) ≡ 84
    → Knows g l b p
    → Knows g (laid k (metadata_store m) l) b p
knows_metadata {g} {l} {b} m k size s =
    let same : (i : ℕ) → slot_part (laid k (metadata_store m) l) b.e i ≡ slot_part l b.e i = λ i. slot_metadata l m size k b.e i in
    let i : ℕ = g.roll_slot.0 in
    record {
      tied = s.tied;
      wiped = λ e. rw (same b.write.slot) (s.wiped e);
      marked = s.marked;
      zeroed = λ e. same i ∙ s.zeroed e;
      written = λ e. record { clean = rw (same i) (s.written e).clean; size = (s.written e).size };
    }

-- under the clean mark 0, and a tail that is no lower
pub unclean : {last version t u : ℕ} {clean : Bool} → MarksOk last version clean t → t ≤ u → MarksOk last version false u
unclean m h = record {
  last_low = m.last_low;
  last_high = omega (arith, m.last_high);
  version_low = m.version_low;
  version_high = m.version_high;
  shut = λ e. never e;
}

-- the next book b', on the slots as they are
pub record Next (l : List ℕ) (b b' : Book) (y : History) : Type 0 where
  pub same : SameSizes b b'
  pub sound : SoundBook b'
  pub olds : Olds l b'.e b'.version b'.last b'.olds
  pub write : Holds (write_part l b') b'.version b'.last b'.write
  pub head : b'.head ≡ y.head
  pub live : live_in b'.head b'.olds b'.write ≡ y.payloads

pub committed :
    {next : State} {l : List ℕ} {b b' : Book} {y : History}
    → Keeps l b
    → Next l b b' y
    → Knows next l b' y.rolled
    → Moves (decided b'.clean next) l b y
committed {next} {l} {b} {b'} {y} keeps n s =
    let m : Metadata = metadata_of b'.clean next in
    let same : m ≡ metadata_in b' = tied_metadata s.tied in
    let size : count (metadata_store m) ≡ 84 = rw same (metadata_count b' n.sound) in
    let long : length l ≡ 84 + b'.s * b'.e = keeps.size ∙ sym (ap (λ (f : Constants). 84 + f.s * f.e) n.same) in
    record {
      torn = λ k h. rw (metadata_torn l m k h) keeps;
      book = b';
      same = n.same;
      rests = record {
        keeps = keeps_metadata l b' m same n.sound long n.olds n.write;
        sound = n.sound;
        head = n.head;
        live = n.live;
      };
      knows = knows_metadata m (count (metadata_store m)) size s;
    }
