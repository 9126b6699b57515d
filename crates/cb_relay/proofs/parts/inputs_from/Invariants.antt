use Rattle.std.proofs.Common.{◌≡◌, ◌+◌, ◌<◌, ◌^◌, ◌++◌, drop, length}
use Rattle.std.specs.List.{flat_map}
use Rattle.cb_block.specs.TxText.{input_text}
use Rattle.cb_relay.specs.Spans.{inputs_at}
use Rattle.cb_relay.proofs.parts.inputs_from.Given as goal

abbrev pub invariant-loop-input : goal.invariant-loop-input
invariant-loop-input l = record {
  told : l.list.items ++ inputs_at l.at (drop l.input-index l.inputs) ≡ inputs_at l.start l.inputs;
  fits : l.at + length (flat_map input_text (drop l.input-index l.inputs)) < 2 ^ 64;
}
