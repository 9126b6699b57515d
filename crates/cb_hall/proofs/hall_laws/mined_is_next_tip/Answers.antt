use Rattle.std.proofs.Common.{None, subst}
use Rattle.cb_state.specs.declared.accepting.Taken.{Taken}
use Rattle.cb_state.specs.Accepting.{TakesBlock}
use Rattle.cb_state.specs.State.{RelayState}
use Rattle.cb_hall.specs.MinedBlock.{FaresAsMined}
use Rattle.cb_hall.proofs.hall_laws.mined_is_next_tip.Goals as goal

pub returns : goal.returns
returns c =
    subst (λ (relay : RelayState). (taken : Taken) (new : RelayState) → TakesBlock relay c.args.block.now None taken new → FaresAsMined relay c.args.block.now taken new) c.state.ensures
    c.mined_fares.ensures
