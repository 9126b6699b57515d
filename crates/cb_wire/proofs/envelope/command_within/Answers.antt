use Rattle.std.proofs.Common.{sym, ◌∙◌, ap}
use Rattle.std.specs.Option.{option_map}
use Rattle.cb_wire.proofs.Names.{command-utf8, utf8_read, command_in-cut}
use Rattle.cb_wire.proofs.envelope.command_within.Goals as goal

pub returns-then-are_zeros-clause-command : goal.returns-then-are_zeros-clause-command
returns-then-are_zeros-clause-command c =
    let form = sym c.is_command.ensures ∙ c.if-is_command.true in
    let zeros = sym c.are_zeros.ensures ∙ c.if-are_zeros.true in
    ap (option_map (λ name. name.now)) c.ok.ensures.value
    ∙ utf8_read (λ name. name.now) _ _ c.from_utf8.result (command-utf8 _ form) c.from_utf8.ensures.cases
    ∙ sym (command_in-cut c.args.field.now _ _ c.name_length.result c.name_length.ensures.length c.split_at.ensures.front c.split_at.ensures.back form zeros)
