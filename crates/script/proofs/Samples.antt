-- Lines of the script language and what they say, computed.
use Prim.Native.String.{String}
use mathlib.Core.Path.{◌≡◌, refl}
use mathlib.Core.List.{List, [], ◌∷◌, map}
use Rattle.std.specs.Prelude.{Option, Some, None}
use Rattle.table.specs.declared.Mode.TheVariants.{WrittenH}
use Rattle.text.specs.Words.{bytes, same, words}
use Rattle.text.specs.Numeral.{digits, begins, value_from, number_of}
use Rattle.text.specs.Hex.{pairs, is_payload, bytes_of}
use Rattle.script.specs.declared.Call.{Call}
use Rattle.script.specs.declared.Setting.{Setting}
use Rattle.script.specs.declared.Command.{Command}
use Rattle.script.specs.declared.Command.TheVariants.{New, Create, Do, Cut, Poke, Set, SetSlot, SetStart, Dump}
use Rattle.script.specs.Grammar.{lookup, plain_call, argument_call, cut_command, set_command, pair_command, command_of, line_command, line_payload}

-- ---- lines

abbrev says : List (String × Option Command) → List (Option Command)
says samples = map (λ s. line_command (bytes s.0)) samples

abbrev said : List (String × Option Command) → List (Option Command)
said samples = map (λ s. s.1) samples

abbrev calls : List (String × Option Command)
calls =
    ("new 65536", Some (New 65536))
    ∷ ("create 64 2", Some (Create 64 2))
    ∷ ("open", Some (Do Call.Open))
    ∷ ("wipe", Some (Do Call.Wipe))
    ∷ ("mark", Some (Do Call.Mark))
    ∷ ("append 4142", Some (Do Call.Append))
    ∷ ("append -", Some (Do Call.Append))
    ∷ ("begin 0", Some (Do (Call.Begin 0)))
    ∷ ("write ff", Some (Do Call.Write))
    ∷ ("list", Some (Do Call.List))
    ∷ ("head 4294967295", Some (Do (Call.Head 4294967295)))
    ∷ ("headfinish", Some (Do Call.HeadFinish))
    ∷ ("tail 1", Some (Do (Call.Tail 1)))
    ∷ ("tailfinish", Some (Do Call.TailFinish))
    ∷ ("close", Some (Do Call.Close))
    ∷ ("read 7", Some (Do (Call.Read 7)))
    ∷ ("counts", Some (Do Call.Counts))
    ∷ ("cut 10 append 00", Some (Cut 10 Call.Append))
    ∷ ("cut 83 mark", Some (Cut 83 Call.Mark))
    ∷ []

calls_said : says calls ≡ said calls
unfolding same words digits begins value_from number_of pairs is_payload lookup plain_call argument_call cut_command set_command pair_command command_of line_command
calls_said = refl

abbrev settings : List (String × Option Command)
settings =
    ("poke 4294967295 255", Some (Poke 4294967295 255))
    ∷ ("set mode 9", Some (Set (Setting.Mode WrittenH)))
    ∷ ("set E 64", Some (Set (Setting.E 64)))
    ∷ ("set S 255", Some (Set (Setting.S 255)))
    ∷ ("set n 1", Some (Set (Setting.N 1)))
    ∷ ("set head 2", Some (Set (Setting.Head 2)))
    ∷ ("set tail 3", Some (Set (Setting.Tail 3)))
    ∷ ("set last 4", Some (Set (Setting.Last 4)))
    ∷ ("set version 65535", Some (Set (Setting.Version 65535)))
    ∷ ("set place 5", Some (Set (Setting.Place 5)))
    ∷ ("set pending 18446744073709551615", Some (Set (Setting.Pending 18446744073709551615)))
    ∷ ("set rollslot 6", Some (Set (Setting.RollSlot 6)))
    ∷ ("set rolllen 7", Some (Set (Setting.RollLen 7)))
    ∷ ("setslot 63 255", Some (SetSlot 63 255))
    ∷ ("setstart 63 4294967295", Some (SetStart 63 4294967295))
    ∷ ("dump", Some Dump)
    ∷ []

settings_said : says settings ≡ said settings
unfolding same words digits begins value_from number_of pairs is_payload lookup plain_call argument_call cut_command set_command pair_command command_of line_command
settings_said = refl

abbrev refused : List (String × Option Command)
refused =
    ("", None)
    ∷ (" ", None)
    ∷ ("open ", None)
    ∷ (" open", None)
    ∷ ("Open", None)
    ∷ ("opens", None)
    ∷ ("append", None)
    ∷ ("append ", None)
    ∷ ("append 414", None)
    ∷ ("append 4A", None)
    ∷ ("append  4142", None)
    ∷ ("append 41 42", None)
    ∷ ("begin 01", None)
    ∷ ("begin -1", None)
    ∷ ("begin 4294967296", None)
    ∷ ("new 65537", None)
    ∷ ("create 64 256", None)
    ∷ ("poke 0 256", None)
    ∷ ("set mode 10", None)
    ∷ ("set version 65536", None)
    ∷ ("set pending 18446744073709551616", None)
    ∷ ("set e 64", None)
    ∷ ("setslot 64 0", None)
    ∷ ("setstart 64 0", None)
    ∷ ("cut 1", None)
    ∷ ("cut 1 dump", None)
    ∷ ("cut 1 new 212", None)
    ∷ ("cut 1 create 64 2", None)
    ∷ ("cut 1 cut 1 open", None)
    ∷ ("cut x open", None)
    ∷ []

refused_said : says refused ≡ said refused
unfolding same words digits begins value_from number_of pairs is_payload lookup plain_call argument_call cut_command set_command pair_command command_of line_command
refused_said = refl

payload_said : line_payload (bytes "cut 10 append 00a5ff") ≡ 0 ∷ 165 ∷ 255 ∷ []
unfolding words bytes_of line_payload
payload_said = refl
