use Rattle.std.proofs.Common.{◌≡◌, ◌∙◌, ap, subst, sym, IfSome, IsOk, Ok, Option}
use Rattle.cb_chain.specs.Best.{best}
use Rattle.cb_ledger.specs.Spend.{spend}
use Rattle.cb_ledger.specs.Unspent.{Unspent}
use Rattle.cb_pool.specs.Listing.{txs_of}
use Rattle.cb_pool.specs.Staying.{Thin, ThinsOut}
use Rattle.cb_state.specs.Accepting.{txs_above}
use Rattle.cb_state.specs.Outlooks.{LeavesPool, ThinsPool}
use Rattle.cb_state.specs.State.{RelayState}
use Rattle.cb_state.proofs.state.Relay.outlook_on_tip.Goals as goal

pub returns-then-is_apart_from-clause-outlook : goal.returns-then-is_apart_from-clause-outlook
returns-then-is_apart_from-clause-outlook c =
    let block = c.args.block.now in
    let old : RelayState = record { tree = c.self.inside.chain; pool = c.self.inside.pool; announcers = c.self.inside.announcers } in
    let leaves : LeavesPool old block = record {
      on = c.requires.on ∙ ap (λ (s : RelayState). best s.tree) (sym c.self.view_is);
      above = ap (λ (s : RelayState). txs_above s.tree block.header.prev) c.self.view_is ∙ c.requires.above;
      unspent = c.ledger-ledger.result.now.unspent;
      behind_tip = c.ledger-ledger.ensures;
      wait = λ after spent. (c.stays_behind_others.ensures block.txs after (c.is_apart_from.ensures.apart c.if-is_apart_from.true) spent).0;
    } in
    subst (λ (state : RelayState). LeavesPool state block) c.self.view_is leaves

pub returns-in-Some-clause-outlook : goal.returns-in-Some-clause-outlook
returns-in-Some-clause-outlook c =
    let block = c.args.block.now in
    let old : RelayState = record { tree = c.self.inside.chain; pool = c.self.inside.pool; announcers = c.self.inside.announcers } in
    let plan : Thin = c.in-Some.plan in
    let u = c.ledger-ledger.result.now.unspent in
    let list = c.self.inside.pool.list in
    let told : (was now : Unspent) → IsOk (spend was (txs_of list)) → spend was block.txs ≡ Ok now → ThinsOut now plan list =
    subst (λ (made : Option Thin). IfSome made (λ plan. (was now : Unspent) → IsOk (spend was (txs_of list)) → spend was block.txs ≡ Ok now → ThinsOut now plan list)) c.in-Some.is c.in_ok-plan.ensures.thins in
    let thins : ThinsPool old block plan = record {
      on = c.requires.on ∙ ap (λ (s : RelayState). best s.tree) (sym c.self.view_is);
      above = ap (λ (s : RelayState). txs_above s.tree block.header.prev) c.self.view_is ∙ c.requires.above;
      unspent = u;
      behind_tip = c.ledger-ledger.ensures;
      thins = λ after spent. told u after (c.self.invariant u c.ledger-ledger.ensures) spent;
    } in
    subst (λ (state : RelayState). ThinsPool state block plan) c.self.view_is thins
