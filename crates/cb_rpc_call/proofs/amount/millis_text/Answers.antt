use Rattle.std.proofs.Common.{◌%◌, ap, arith, subst, sym, ◌∙◌}
use Rattle.std.specs.Fmt.{styled_decimal}
use Rattle.json.specs.Print.{IsNumber}
use Rattle.cb_rpc_call.proofs.Amounts.{IsNumber-millis, millis_written, filled_is}
use Rattle.cb_rpc_call.proofs.amount.millis_text.Goals as goal

pub returns-clause-text : goal.returns-clause-text
returns-clause-text c =
    millis_written c.args.millis _ _ (ap (λ s. styled_decimal s (c.args.millis % 1000)) c.laid_out.ensures ∙ filled_is 3 (c.args.millis % 1000)) c.in_ok-text.ensures.ok

pub returns-clause-number : goal.returns-clause-number
returns-clause-number c = subst IsNumber (sym (returns-clause-text c)) (IsNumber-millis c.args.millis (omega arith))
