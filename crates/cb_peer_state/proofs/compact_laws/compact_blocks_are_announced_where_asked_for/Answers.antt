use Rattle.cb_peer_state.proofs.CompactTold.{none_without_block, source_in_no_form, whole_if_wanted}
use Rattle.cb_peer_state.proofs.compact_laws.compact_blocks_are_announced_where_asked_for.Goals as goal

pub returns-clause-given : goal.returns-clause-given
returns-clause-given c = none_without_block

pub returns-clause-asked : goal.returns-clause-asked
returns-clause-asked c = whole_if_wanted

pub returns-clause-heard : goal.returns-clause-heard
returns-clause-heard c = source_in_no_form
