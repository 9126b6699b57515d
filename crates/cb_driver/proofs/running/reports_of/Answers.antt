use Rattle.cb_driver.proofs.Reporting.{numbers_more, zips_more}
use Rattle.cb_driver.proofs.running.reports_of.Goals as goal

pub loop-node-preserved : goal.loop-node-preserved
loop-node-preserved g c = (
  numbers_more c.loop-node.reports.items c.push.new.self.items c.in_ok-report.report c.loop-node.node c.in_ok-push.ensures.items c.in_ok-report.ensures.node c.loop-node.invariant.0,
  zips_more _ c.args.ends.now c.loop-node.node c.index-ends-node.result c.loop-node.reports.items c.push.new.self.items c.in_ok-report.report c.loop-node-test.true c.index-ends-node.is c.in_ok-push.ensures.items
      c.in_ok-report.ensures.told c.loop-node.invariant.1,
)
