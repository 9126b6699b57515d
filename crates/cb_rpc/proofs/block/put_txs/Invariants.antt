use Rattle.std.proofs.Common.{◌≡◌, ◌++◌, take}
use Rattle.std.specs.List.{flat_map}
use Rattle.cb_rpc.specs.Blocks.{member_tokens}
use Rattle.cb_rpc.proofs.block.put_txs.Given as goal

-- the transactions so far
abbrev pub invariant-loop-place : goal.invariant-loop-place
invariant-loop-place l =
    (l.writer.tokens ≡ l.fn.writer.tokens ++ flat_map member_tokens (take l.place l.txs))
    × (l.writer.before ≡ l.fn.writer.before)
