use Rattle.cb_node.proofs.Seatings.{left_none, left_some, read_more, read_nothing}
use Rattle.cb_node.proofs.slot.side_of.Goals as goal

pub returns-in-Some-clause-read : goal.returns-in-Some-clause-read
returns-in-Some-clause-read g c =
    read_more _ _ _ _ c.join_reader-side.result.side c.requires (left_some _ _ _ c.join_reader-side.result.side c.in-Some.is c.join_reader-side.ensures.account) c.add.ensures

pub returns-in-None-clause-read : goal.returns-in-None-clause-read
returns-in-None-clause-read g c =
    read_nothing _ _ _ _ c.join_reader-side.result.side c.requires (left_none _ _ c.join_reader-side.result.side c.in-None.is c.join_reader-side.ensures.account) c.add-in-None.ensures c.nothing.ensures
