use Rattle.std.proofs.Common.{◌%◌, ap, subst, sym, ◌∙◌}
use Rattle.std.specs.Fmt.{styled_decimal}
use Rattle.std.specs.Int.{w64}
use Rattle.std.proofs.lemmas.Int.{to_z-of_z}
use Rattle.json.specs.Print.{IsNumber}
use Rattle.cb_rpc_call.proofs.Amounts.{IsNumber-amount, amount_written, filled_is}
use Rattle.cb_rpc_call.proofs.amount.amount_text.Goals as goal

pub returns-clause-text : goal.returns-clause-text
returns-clause-text c =
    let size = c.unsigned_abs-size.result in
    amount_written _ c.args.satoshis _ _ _ size (to_z-of_z w64 c.args.satoshis c.ranges.satoshis) c.sign_of-sign.ensures c.unsigned_abs-size.ensures.value
    (ap (λ s. styled_decimal s (size % 100000000)) c.laid_out.ensures ∙ filled_is 8 (size % 100000000)) c.in_ok-text.ensures.ok

pub returns-clause-number : goal.returns-clause-number
returns-clause-number c = subst IsNumber (sym (returns-clause-text c)) (IsNumber-amount c.args.satoshis c.ranges.satoshis.sfits)
