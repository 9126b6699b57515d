use Rattle.std.proofs.Common.{rules, string_bytes}
use Rattle.cb_commands.proofs.Requests.{requested}
use Rattle.cb_commands.proofs.printed.push_txs_request.Goals as goal

pub returns-clause-text : goal.returns-clause-text
returns-clause-text c =
    requested (string_bytes c.args.text.now) (string_bytes c.writeln.new.self) c.differences_len-count.result c.args.request.now (string_bytes c.in_ok-hash.hash) (search rules) c.differences_len-count.ensures
    c.in_ok-writeln.ensures.bytes
