use Rattle.std.proofs.Common.{◌≡◌, ◌++◌, codes, length, string_bytes, take}
use Rattle.std.specs.Fmt.{decimal}
use Rattle.std.specs.List.{flat_map}
use Rattle.cb_commands.specs.Printed.{header_line}
use Rattle.cb_commands.proofs.printed.push_headers.Given as goal

-- the first line, and the headers so far
abbrev pub invariant-loop-header : goal.invariant-loop-header
invariant-loop-header l =
    string_bytes l.text ≡ string_bytes l.fn.text ++ (codes "headers " ++ decimal (length l.headers) ++ codes "\n" ++ flat_map header_line (take l.header-index l.headers))
