use Rattle.std.proofs.Common.{◌≡◌, ◌++◌, string_bytes, take}
use Rattle.std.specs.List.{flat_map}
use Rattle.cb_net.specs.TrafficText.{columns_of}
use Rattle.cb_net.proofs.traffic.push_columns.Given as goal

-- the columns so far
abbrev pub invariant-loop-row : goal.invariant-loop-row
invariant-loop-row l = string_bytes l.text ≡ string_bytes l.fn.text ++ flat_map columns_of (take l.row-index l.rows)
