use Rattle.std.specs.String.{string_bytes}
use Rattle.cb_commands.specs.SimReport.{peer_text}
use Rattle.cb_commands.proofs.SimReportLemmas.{line_more}
use Rattle.cb_commands.proofs.sim.report.peers.Goals as goal

pub loop-peer-preserved : goal.loop-peer-preserved
loop-peer-preserved c = line_more (peer_text c.args.system.now.crew) c.loop-peer.peer (string_bytes c.args.out.now) (string_bytes c.loop-peer.out) (string_bytes c.peer_line.new.out) c.loop-peer.invariant c.in_ok-peer_line.ensures.text
