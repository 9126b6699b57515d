use Rattle.std.proofs.Common.{◌≡◌, ◌+◌, ◌<◌, ◌^◌, ◌++◌, drop, length}
use Rattle.std.specs.List.{flat_map}
use Rattle.cb_block.specs.TxText.{output_text}
use Rattle.cb_relay.specs.Spans.{outputs_at}
use Rattle.cb_relay.proofs.parts.outputs_from.Given as goal

abbrev pub invariant-loop-output : goal.invariant-loop-output
invariant-loop-output l = record {
  told : l.list.items ++ outputs_at l.at (drop l.output-index l.outputs) ≡ outputs_at l.start l.outputs;
  fits : l.at + length (flat_map output_text (drop l.output-index l.outputs)) < 2 ^ 64;
}
