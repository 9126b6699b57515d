use Rattle.std.proofs.Common.{rules, take}
use Rattle.cb_control.proofs.Cutting.{moved_to_feed, moved_all}
use Rattle.cb_control.proofs.lines.LineReader.take_ahead.Goals as goal

pub returns-in_ok-extend_from_slice-in-Some-clause-moves : goal.returns-in_ok-extend_from_slice-in-Some-clause-moves
returns-in_ok-extend_from_slice-in-Some-clause-moves c =
    moved_to_feed c.args.self.now.ahead (take c.self.inside.filled c.self.inside.block.items) c.split_at-2.result.1.now c.args.self.now.line
    c.extend_from_slice.new.self.items c.self.inside.used c.in-Some.place (search rules) (search rules) (search rules) (search rules)

pub returns-in_ok-extend_from_slice-in-None-clause-moves : goal.returns-in_ok-extend_from_slice-in-None-clause-moves
returns-in_ok-extend_from_slice-in-None-clause-moves c =
    moved_all c.args.self.now.ahead c.self.inside.block.items c.split_at-2.result.1.now c.args.self.now.line
    c.extend_from_slice-in-None.new.self.items c.self.inside.filled (search rules) (search rules) (search rules)
