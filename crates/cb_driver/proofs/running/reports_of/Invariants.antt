use Rattle.std.proofs.Common.{◌≡◌, map, take}
use Rattle.std.specs.List.{AllZip, range_with_len}
use Rattle.cb_driver.specs.Summary.{TellsReport}
use Rattle.cb_driver.proofs.running.reports_of.Given as goal

-- the nodes so far are reported, each as it stands
abbrev pub invariant-loop-node : goal.invariant-loop-node
invariant-loop-node g l =
    (map (λ report. report.node) l.reports.items ≡ range_with_len 0 l.node) × AllZip (λ end report. TellsReport end.desks.items report) (take l.node l.ends) l.reports.items
