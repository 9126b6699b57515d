use Rattle.std.proofs.Common.{◌≡◌, ◌≢◌, ◌⊎◌, ◌∙◌, [], subst, Err, IfOk}
use Rattle.cb_base.specs.declared.fault.Fault.TheVariants.{Memory}
use Rattle.cb_ledger.specs.Spend.{spend, Tells}
use Rattle.cb_ledger.specs.Touched.{Touches}
use Rattle.cb_ledger.specs.Undo.{changed}
use Rattle.cb_ledger.specs.Unspent.{Unspent}
use Rattle.cb_ledger.proofs.Changes.{changed_none}
use Rattle.cb_ledger.proofs.connecting.changes_of.Goals as goal

pub returns-clause-told : goal.returns-clause-told
returns-clause-told c =
    let alone : c.new.result ≡ c.args.ledger.now.unspent = c.new.ensures ∙ changed_none c.args.ledger.now.unspent c.with_seed-none.result c.with_seed-none.ensures in
    subst (λ (m : Unspent). Tells (spend m c.args.block.now.txs) (λ cs. changed m cs) c.changes_over.result) alone c.changes_over.ensures.told

pub returns-clause-unpaid : goal.returns-clause-unpaid
returns-clause-unpaid c =
    let alone : c.new.result ≡ c.args.ledger.now.unspent = c.new.ensures ∙ changed_none c.args.ledger.now.unspent c.with_seed-none.result c.with_seed-none.ensures in
    subst (λ (m : Unspent). Touches m c.args.block.now.txs ⊎ (IfOk c.changes_over.result (λ cs. cs ≡ []) × (c.changes_over.result ≢ Err Memory))) alone c.changes_over.ensures.unpaid
