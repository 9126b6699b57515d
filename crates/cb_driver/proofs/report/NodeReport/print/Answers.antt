use Rattle.std.proofs.Common.{rules, string_bytes}
use Rattle.cb_driver.proofs.Reporting.{printed}
use Rattle.cb_driver.proofs.report.NodeReport.print.Goals as goal

pub returns-clause-text : goal.returns-clause-text
returns-clause-text c =
    printed (string_bytes c.args.out.now) (string_bytes c.writeln.new.self) (string_bytes c.in_ok-tip.tip) c.yes_no-agrees.result.now c.args.self.now (search rules) c.yes_no-agrees.ensures c.in_ok-writeln.ensures.bytes
