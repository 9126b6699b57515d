use Rattle.std.proofs.Common.{rules, string_bytes}
use Rattle.cb_commands.proofs.Requests.{counted}
use Rattle.cb_commands.proofs.printed.push_count_and_stop.Goals as goal

pub returns-clause-text : goal.returns-clause-text
returns-clause-text c =
    counted (string_bytes c.args.text.now) (string_bytes c.writeln.new.self) c.args.count c.args.stop.now (string_bytes c.in_ok-stop.stop) (search rules) c.in_ok-writeln.ensures.bytes
