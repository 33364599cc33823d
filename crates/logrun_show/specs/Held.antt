-- The bytes that an output holds, as a reader of what is written will have them.
use Rattle.std.specs.Prelude.{ℕ, List, take}
use Rattle.std.specs.declared.option.Option.{Option}
use Rattle.std.specs.Io.KnownBytes.{append_known}
use Rattle.logrun_show.specs.declared.output.Output.{Output}

-- what is collected and not yet written
abbrev pub waiting : {W : Type 0} → Output W → List ℕ
waiting o = take o.filled o.buffer

-- what was written, where the writer says what that is, and then what is collected
abbrev pub held : {W : Type 0} → (W → Option (List ℕ)) → Output W → Option (List ℕ)
held contents o = append_known (contents o.to) (waiting o)
