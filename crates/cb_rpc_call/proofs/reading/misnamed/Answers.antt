use Rattle.std.proofs.Common.{refl, sym, ◌∙◌}
use Rattle.cb_rpc_call.proofs.Names.{taken_all}
use Rattle.cb_rpc_call.proofs.reading.misnamed.Goals as goal

pub returns-then-all_taken : goal.returns-then-all_taken
returns-then-all_taken c =
    rw (sym (taken_all c.args.method c.args.members.now) ∙ sym c.all_taken.ensures ∙ c.if-all_taken.true) refl

pub returns-else-all_taken : goal.returns-else-all_taken
returns-else-all_taken c =
    rw (sym (taken_all c.args.method c.args.members.now) ∙ sym c.all_taken.ensures ∙ c.if-all_taken.false) refl
