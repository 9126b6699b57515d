use Rattle.std.proofs.Common.{◌≡◌, ◌++◌, string_bytes, take}
use Rattle.std.specs.List.{flat_map}
use Rattle.cb_control.specs.ReplyText.{txid_line}
use Rattle.cb_control.proofs.operator_text.print_txids.Given as goal

-- the lines so far
abbrev pub invariant-loop-txid : goal.invariant-loop-txid
invariant-loop-txid l = string_bytes l.out ≡ string_bytes l.fn.out ++ flat_map txid_line (take l.txid-index l.txids)
