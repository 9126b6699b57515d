use Rattle.std.proofs.Common.{ap, length, rules, string_bytes}
use Rattle.cb_commands.proofs.Requests.{compacted}
use Rattle.cb_commands.proofs.printed.push_compact_block.Goals as goal

pub returns-clause-text : goal.returns-clause-text
returns-clause-text c =
    compacted (string_bytes c.args.text.now) (string_bytes c.write.new.self) (string_bytes c.writeln.new.self) c.args.block.now (length c.ids.result.now) (length c.prefilled.result.now)
    (string_bytes c.in_ok-name.name) (search rules) (ap length c.ids.ensures.same) (ap length c.prefilled.ensures.same) c.in_ok-write.ensures.bytes c.in_ok-writeln.ensures.bytes
