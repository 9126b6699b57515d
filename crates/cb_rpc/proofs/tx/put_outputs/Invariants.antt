use Rattle.std.proofs.Common.{◌≡◌, ◌++◌, take}
use Rattle.cb_rpc.specs.Transactions.{outputs_from}
use Rattle.cb_rpc.proofs.tx.put_outputs.Given as goal

-- the outputs so far
abbrev pub invariant-loop-place : goal.invariant-loop-place
invariant-loop-place l =
    (l.writer.tokens ≡ l.fn.writer.tokens ++ outputs_from 0 (take l.place l.outputs))
    × (l.writer.before ≡ l.fn.writer.before)
