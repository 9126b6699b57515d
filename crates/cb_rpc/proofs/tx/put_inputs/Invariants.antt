use Rattle.std.proofs.Common.{◌≡◌, ◌++◌, take}
use Rattle.std.specs.List.{flat_map}
use Rattle.cb_rpc.specs.Transactions.{input_tokens}
use Rattle.cb_rpc.proofs.tx.put_inputs.Given as goal

-- the inputs so far
abbrev pub invariant-loop-input : goal.invariant-loop-input
invariant-loop-input l =
    (l.writer.tokens ≡ l.fn.writer.tokens ++ flat_map (input_tokens l.coinbase) (take l.input-index l.inputs))
    × (l.writer.before ≡ l.fn.writer.before)
