use Rattle.std.proofs.Common.{◌≡◌, ◌++◌, string_bytes, take}
use Rattle.cb_driver.specs.Summary.{reports_text}
use Rattle.cb_driver.proofs.report.print_reports.Given as goal

-- the lines so far
abbrev pub invariant-loop-report : goal.invariant-loop-report
invariant-loop-report l = string_bytes l.out ≡ string_bytes l.fn.out ++ reports_text (take l.report-index l.reports)
