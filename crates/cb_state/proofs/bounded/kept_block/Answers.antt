use Rattle.std.proofs.Common.{ap}
use Rattle.std.specs.Prelude.{option_copied}
use Rattle.cb_state.proofs.Carried.{copy_meets_rules}
use Rattle.cb_state.proofs.bounded.kept_block.Goals as goal

pub new-requires : goal.new-requires
new-requires c =
    copy_meets_rules c.args.chain.now c.args.hash.now (option_copied c.block.result) c.in-Some.block.now c.in_ok-copy-in-Some.field-0 c.kept_meet_rules.ensures.rules c.block.ensures (ap option_copied c.in-Some.is)
    c.in_ok-copy-in-Some.ensures.same
