use Rattle.std.proofs.Common.{ap, refl}
use Rattle.std.specs.Prelude.{option_copied}
use Rattle.cb_state.proofs.Carried.{copy_meets_rules}
use Rattle.cb_state.proofs.state.Relay.serve_places.Goals as goal

pub excerpt_at-requires : goal.excerpt_at-requires
excerpt_at-requires c =
    copy_meets_rules c.self.inside.chain c.args.hash.now (option_copied c.block.result) c.in-Some.block.now c.in-Some.block.now c.kept_meet_rules.ensures.rules c.block.ensures (ap option_copied c.in-Some.is) refl
