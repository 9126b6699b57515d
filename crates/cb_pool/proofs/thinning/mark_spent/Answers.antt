use Rattle.std.proofs.Common.{◌∙◌, ap, inl, inr, refl, subst, sym}
use Rattle.cb_ledger.proofs.Txs.{is_coinbase_is}
use Rattle.cb_pool.proofs.thinning.mark_spent.Goals as goal

pub returns-then-is_coinbase-clause-spent : goal.returns-then-is_coinbase-clause-spent
returns-then-is_coinbase-clause-spent c = inl (is_coinbase_is c.args.tx.now.inputs c.is_coinbase.result c.is_coinbase.ensures ∙ c.if-is_coinbase.true, refl)
