use Rattle.std.proofs.Common.{◌≡◌, ◌+◌, ◌<◌, ◌^◌, ◌++◌, drop, length}
use Rattle.std.specs.List.{flat_map}
use Rattle.cb_wire.specs.ShortForms.{prefilled_text}
use Rattle.cb_relay.specs.MessageSpans.{prefilled_from}
use Rattle.cb_relay.proofs.spans.prefilled_from.Given as goal

abbrev pub invariant-loop-given : goal.invariant-loop-given
invariant-loop-given l = record {
  told : l.list.items ++ prefilled_from l.at (drop l.given-index l.prefilled) ≡ prefilled_from l.start l.prefilled;
  fits : l.at + length (flat_map prefilled_text (drop l.given-index l.prefilled)) < 2 ^ 64;
}
