use Rattle.std.proofs.Common.{◌≡◌, ◌+◌, ◌<◌, ◌^◌, ◌++◌, drop, length}
use Rattle.std.specs.List.{flat_map}
use Rattle.cb_block.specs.TxText.{tx_text}
use Rattle.cb_relay.specs.Spans.{txs_at}
use Rattle.cb_relay.proofs.parts.spans_from.Given as goal

abbrev pub invariant-loop-tx : goal.invariant-loop-tx
invariant-loop-tx l = record {
  told : l.spans.items ++ txs_at l.at (drop l.tx-index l.txs) ≡ txs_at l.start l.txs;
  fits : l.at + length (flat_map tx_text (drop l.tx-index l.txs)) < 2 ^ 64;
}
