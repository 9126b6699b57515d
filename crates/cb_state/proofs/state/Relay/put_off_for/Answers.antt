use Rattle.std.proofs.Common.{sym, subst}
use Rattle.std.specs.Prelude.{IfSome, Option}
use Rattle.cb_block.specs.declared.block.Block.{Block}
use Rattle.cb_state.proofs.PutOff.{IsShown, given_out}
use Rattle.cb_state.proofs.state.Relay.put_off_for.Goals as goal

pub push_candidates-requires : goal.push_candidates-requires
push_candidates-requires c = record {
  rules = subst (λ (o : Option Block). IfSome o IsShown) (sym c.block.ensures) (given_out c.self.inside.chain c.hash.result c.kept_meet_rules.ensures.rules);
}
