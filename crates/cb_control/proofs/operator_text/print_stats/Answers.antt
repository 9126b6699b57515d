use Rattle.std.proofs.Common.{◌++◌, string_bytes}
use Rattle.std.specs.Prelude.{codes}
use Rattle.std.specs.Fmt.{decimal}
use Rattle.cb_control.specs.Counters.{moved_text}
use Rattle.cb_control.specs.ReplyText.{counts_text}
use Rattle.cb_control.proofs.Texts.{three}
use Rattle.cb_control.proofs.operator_text.print_stats.Goals as goal

pub returns-clause-text : goal.returns-clause-text
returns-clause-text c =
    three (string_bytes c.args.out.now) (counts_text c.args.stats.now) (moved_text c.args.stats.now.moved) (codes " refused " ++ (decimal c.args.stats.now.refused ++ codes "\n"))
    (string_bytes c.write.new.self) (string_bytes c.print.new.out) (string_bytes c.writeln.new.self) c.in_ok-write.ensures.bytes c.in_ok-print.ensures.text c.in_ok-writeln.ensures.bytes
