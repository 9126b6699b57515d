use Rattle.std.proofs.Common.{◌≡◌, ◌++◌, codes, length, string_bytes, take}
use Rattle.std.specs.Fmt.{decimal}
use Rattle.std.specs.List.{flat_map}
use Rattle.cb_commands.specs.Printed.{entry_line}
use Rattle.cb_commands.proofs.printed.push_entries.Given as goal

-- the first line, and the entries so far
abbrev pub invariant-loop-entry : goal.invariant-loop-entry
invariant-loop-entry l =
    string_bytes l.text ≡ string_bytes l.fn.text ++ (l.name ++ codes " " ++ decimal (length l.entries) ++ codes "\n" ++ flat_map entry_line (take l.entry-index l.entries))
