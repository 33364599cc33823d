-- Each contract over the mirror leaves one outcome: no second one satisfies it.
use Prim.Native.Nat.{ℕ}
use mathlib.Core.Path.{◌≡◌, sym, ◌∙◌}
use mathlib.Core.List.{List}
use Rattle.contracts.specs.Call.{Call}
use Rattle.mirror.specs.declared.State.{State}
use Rattle.mirror.specs.declared.Answer.{Answer}
use Rattle.liftlog.specs.declared.Reading.{Reading}
use Rattle.liftlog.specs.declared.Report.{Report}
use Rattle.liftlog.specs.Told.{Told, HeadFinishTold, CreateTold, OpenTold}
use Rattle.liftlog.specs.Shown.{ReadTold, CountsTold}

-- where a contract is an equation, what meets it is that one value
one : {A : Type 0} (x r r' : A) → r ≡ x → r' ≡ x → r ≡ r'
one x r r' p q = p ∙ sym q

-- a step that stores: one answer and one image
pub step_determined :
    (call : Call) (state : State) (l : List ℕ) (r r' : Answer) (a a' : List ℕ)
    → Told call state l r a
    → Told call state l r' a'
    → (r ≡ r') × (a ≡ a')
step_determined call state l r r' a a' p q = (one _ r r' p.answer q.answer, one _ a a' p.image q.image)

-- head finish stores nothing
pub head_finish_determined : (state : State) (l : List ℕ) (r r' : Answer) → HeadFinishTold state l r → HeadFinishTold state l r' → r ≡ r'
head_finish_determined state l r r' p q = one _ r r' p q

pub create_determined :
    (e s : ℕ) (l : List ℕ) (r r' : Answer) (a a' : List ℕ)
    → CreateTold e s l r a
    → CreateTold e s l r' a'
    → (r ≡ r') × (a ≡ a')
create_determined e s l r r' a a' p q = (one _ r r' p.0 q.0, one _ a a' p.1 q.1)

pub open_determined : (l : List ℕ) (r r' : Answer) → OpenTold l r → OpenTold l r' → r ≡ r'
open_determined l r r' p q = one _ r r' p q

pub read_determined : (state : State) (l : List ℕ) (x : ℕ) (r r' : Reading) → ReadTold state l x r → ReadTold state l x r' → r ≡ r'
read_determined state l x r r' p q = one _ r r' p q

pub counts_determined : (state : State) (r r' : Report) → CountsTold state r → CountsTold state r' → r ≡ r'
counts_determined state r r' p q = one _ r r' p q
