-- What the calls that change nothing show over the mirror: read and counts.
use Rattle.std.specs.Prelude.{ℕ, ◌≡◌, List, length}
use Rattle.refusals.specs.Order.{when}
use Rattle.metadata.specs.Metadata.{sizes_ok}
use Rattle.outcome.specs.Enter.{sized}
use Rattle.counts.specs.Counts.{Report as LogReport}
use Rattle.counts.specs.Counts.{counts_of}
use Rattle.read.specs.Read.{Reading as LogReading}
use Rattle.read.specs.Read.{read_answer}
use Rattle.mirror.specs.declared.State.{State}
use Rattle.liftlog.specs.declared.Reading.{Reading}
use Rattle.liftlog.specs.declared.Report.{Report}
use Rattle.mirror.specs.Mirror.{known, log_of, unknown_number}

-- ---- read: the caller has its state still

abbrev pub reading : ℕ → ℕ → ℕ → Reading
reading k place size = record { number = k; place = place; length = size }

abbrev pub reading_of : LogReading → Reading
reading_of r = reading r.number r.place r.length

unfoldable pub told_reading : State → List ℕ → ℕ → Reading
told_reading state l x =
    when (known state.mode) (reading_of (read_answer (log_of state) l x)) (reading (unknown_number (sized state.e state.s (length l))) 0 0)

abbrev pub ReadTold : State → List ℕ → ℕ → Reading → Type 0
ReadTold state l x r = r ≡ told_reading state l x

-- ---- counts: 1 is for E or S out of range alone

abbrev pub report : ℕ → ℕ → ℕ → Report
report k free live = record { number = k; free = free; live = live }

abbrev pub report_of : LogReport → Report
report_of c = report c.number c.free c.live

unfoldable pub told_report : State → Report
told_report state =
    when (known state.mode) (report_of (counts_of (log_of state))) (report (unknown_number (sizes_ok state.e state.s)) 0 0)

abbrev pub CountsTold : State → Report → Type 0
CountsTold state r = r ≡ told_report state
