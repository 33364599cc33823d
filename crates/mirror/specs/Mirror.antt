-- The mirror of a state: the same fields, the mode as a byte; and what a byte that is no mode is answered.
use Rattle.std.specs.Prelude.{ℕ, Bool, ltb, ◌≡◌, length, Result, IfOk, is_ok}
use Rattle.table.specs.declared.modes.UnknownMode.{UnknownMode}
use Rattle.refusals.specs.Order.{must, first_of}
use Rattle.refusals.specs.Refusals.{SIZE, MALFORMED}
use Rattle.table.specs.Next.{mode_no, mode_of}
use Rattle.state.specs.declared.State.{State as Log}
use Rattle.named.specs.declared.Named.{Named}
use Rattle.mirror.specs.declared.State.{State}
use Rattle.mirror.specs.declared.Answer.{Answer}

-- the byte is one of the ten modes'
abbrev pub known : ℕ → Bool
known b = ltb b 10

unfoldable pub log_of : State → Log
log_of state = record {
  pending = state.pending;
  e = state.e;
  head = state.head;
  tail = state.tail;
  last = state.last;
  place = state.place;
  roll_len = state.roll_len;
  starts = state.starts;
  slots = state.slots;
  version = state.version;
  mode = mode_of state.mode;
  s = state.s;
  n = state.n;
  roll_slot = state.roll_slot;
}

-- a state with a known mode has a log, whose arrays have 64 entries
abbrev pub Logs : State → Result Log UnknownMode → Type 0
Logs state r =
    (is_ok r ≡ known state.mode)
    × IfOk r (λ log. (log ≡ log_of state) × (length log.slots ≡ 64) × (length log.starts ≡ 64))

unfoldable pub state_of : Log → State
state_of g = record {
  pending = g.pending;
  e = g.e;
  head = g.head;
  tail = g.tail;
  last = g.last;
  place = g.place;
  roll_len = g.roll_len;
  starts = g.starts;
  slots = g.slots;
  version = g.version;
  mode = mode_no g.mode;
  s = g.s;
  n = g.n;
  roll_slot = g.roll_slot;
}

abbrev pub answer : ℕ → Named → State → Answer
answer k store state = record { number = k; store = store; state = state }

-- a byte that is no mode: 1 where the sizes are wrong, else 2
unfoldable pub unknown_number : Bool → ℕ
unknown_number sizes = first_of (must sizes SIZE) MALFORMED
