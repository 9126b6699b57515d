use Rattle.std.proofs.Common.{List, ◌++◌, take}
use Rattle.cb_block.specs.declared.tx.Tx.{Tx}
use Rattle.cb_hall.specs.Journal.{JournalState}
use Rattle.cb_net_node.specs.Nodes.{TakesAll}
use Rattle.cb_net_node.proofs.node.take_all.Given as goal

-- what is taken from here on was taken behind those before
abbrev pub invariant-loop-tx : goal.invariant-loop-tx
invariant-loop-tx l =
    (rest : List Tx) (end : JournalState) → TakesAll l.hall rest end → TakesAll l.fn.hall (take l.tx-index l.txs ++ rest) end
