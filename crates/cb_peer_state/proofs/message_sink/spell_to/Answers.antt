use Rattle.std.proofs.Common.{◌∙◌, ap, length, arith, rules}
use Rattle.cb_peer_state.proofs.Writes.{part_none, part_front}
use Rattle.cb_peer_state.proofs.message_sink.spell_to.Goals as goal

pub returns-in_default-clause-err : goal.returns-in_default-clause-err
returns-in_default-clause-err g c = part_none _ _

pub returns-clause-err : goal.returns-clause-err
returns-clause-err g c =
    let len = ap length c.as_slice.ensures.value in
    part_front _ _ c.as_slice.result.now _ _ (c.as_slice.ensures.value ∙ c.in-Ok.ensures.text) (omega (arith, len, c.in-Ok.text.ok.0, c.in-Ok.text.ok.1, c.in-Ok.text.small)) (search rules) c.in-Err.ensures.short
