-- The Closed state of zeros: its sizes are out of range, so every call on it answers 1 before it looks at anything else.
use Prim.Native.Nat.{ℕ}
use mathlib.Core.Path.{◌≡◌, refl}
use native.Mathlib.Omega.{arith}
use Rattle.contracts.specs.Call.{opens, wipes, marks, appends, roll_begins, roll_writes, roll_lists, head_starts, head_finishes, tail_starts}
use Rattle.contracts.specs.Call.{tail_finishes, closes, reads, counts, does}
use Rattle.contracts.specs.Promises.{ZerosAnswerOne}
use Rattle.contracts.proofs.Computing.{computing}

pub zeros_answer_one : ZerosAnswerOne
unfolding ZerosAnswerOne does computing
zeros_answer_one opens e l = let z : ◌≡◌ {A = ℕ} 0 1 = cc in absurd (omega arith)
zeros_answer_one wipes e l = refl
zeros_answer_one marks e l = refl
zeros_answer_one (appends p) e l = refl
zeros_answer_one (roll_begins n) e l = refl
zeros_answer_one (roll_writes p) e l = refl
zeros_answer_one roll_lists e l = refl
zeros_answer_one (head_starts h) e l = refl
zeros_answer_one head_finishes e l = refl
zeros_answer_one (tail_starts t) e l = refl
zeros_answer_one tail_finishes e l = refl
zeros_answer_one closes e l = refl
zeros_answer_one (reads x) e l = refl
zeros_answer_one counts e l = refl
