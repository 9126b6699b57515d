use Rattle.std.proofs.Common.{◌≡◌, ◌∙◌, [], List, Err, ap, subst, sym}
use Rattle.std.specs.Prelude.{◌≢◌}
use Rattle.cb_base.specs.declared.hash.Hash256.{Hash256}
use Rattle.cb_block.specs.declared.block.Block.{Block}
use Rattle.cb_chain.specs.Entries.{Tree}
use Rattle.cb_state.specs.Judging.{RefusesHeading}
use Rattle.cb_state.specs.State.{RelayState}
use Rattle.cb_state.proofs.Takings.{block_aside, block_leads, block_refused, block_unheard, foreseen_for, lacks_parent, leads_waits, nothing_on, ready_for, refused_whole, something_on, waits_on}
use Rattle.cb_state.proofs.state.Relay.take_block.Goals as goal

pub returns-in-Some-clause-taken : goal.returns-in-Some-clause-taken
returns-in-Some-clause-taken c =
    let shown : RefusesHeading c.self.inside.chain c.args.block.header c.in-Some.fault = subst (λ (b : Block). RefusesHeading c.self.inside.chain b.header c.in-Some.fault) c.block-2.ensures.same c.in-Some.ensures in
    let heading : RefusesHeading c.args.self.now.tree c.args.block.header c.in-Some.fault = subst (λ (s : RelayState). RefusesHeading s.tree c.args.block.header c.in-Some.fault) c.self.view_is shown in
    block_unheard c.args.self.now c.args.block c.args.from c.in-Some.fault c.refused.result heading c.refused.ensures.told

pub returns-in-Some-clause-unpaid : goal.returns-in-Some-clause-unpaid
returns-in-Some-clause-unpaid c = λ lacks.
    let shown : RefusesHeading c.self.inside.chain c.args.block.header c.in-Some.fault = subst (λ (b : Block). RefusesHeading c.self.inside.chain b.header c.in-Some.fault) c.block-2.ensures.same c.in-Some.ensures in
    let heading : RefusesHeading c.args.self.now.tree c.args.block.header c.in-Some.fault = subst (λ (s : RelayState). RefusesHeading s.tree c.args.block.header c.in-Some.fault) c.self.view_is shown in
    lacks_parent c.args.self.now.tree c.args.block.header c.in-Some.fault heading (c.refused.ensures.unpaid lacks)

pub returns-in-Err-clause-taken : goal.returns-in-Err-clause-taken
returns-in-Err-clause-taken c =
    let old : RelayState = record { tree = c.self.inside.chain; pool = c.self.inside.pool; announcers = c.self.inside.announcers } in
    rw (← c.self.view_is) (block_refused old c.accept_block.new.self c.args.block c.args.from c.in-Err.fault c.in_ok-locator.locator c.refusal.result c.in-Err.ensures.err (c.in-Err.ensures.stays tt) c.in_ok-locator.ensures.exact c.refusal.ensures.ok)

pub invariant_of-self-then-is_empty : goal.invariant_of-self-then-is_empty
invariant_of-self-then-is_empty c =
    let none : c.in-Ok.change.on ≡ [] = sym c.as_slice.ensures ∙ nothing_on c.as_slice.result.now (sym c.is_empty.ensures ∙ c.if-is_empty.true) in
    waits_on c.self.inside.chain c.accept_block.new.self c.self.inside.pool c.self.invariant (c.in-Ok.ensures.stays none)

pub returns-then-is_empty-clause-taken : goal.returns-then-is_empty-clause-taken
returns-then-is_empty-clause-taken c =
    let old : RelayState = record { tree = c.self.inside.chain; pool = c.self.inside.pool; announcers = c.self.inside.announcers } in
    let none : c.in-Ok.change.on ≡ [] = sym c.as_slice.ensures ∙ nothing_on c.as_slice.result.now (sym c.is_empty.ensures ∙ c.if-is_empty.true) in
    let told : c.from_few.result ≡ [] = c.from_few.ensures ∙ c.new.ensures.items in
    rw (← c.self.view_is) (block_aside old c.accept_block.new.self c.args.block c.args.from c.in-Ok.change c.from_few.result c.in-Ok.ensures.ok none told)

pub invariant_of-self-2 : goal.invariant_of-self-2
invariant_of-self-2 c =
    let old : RelayState = record { tree = c.self.inside.chain; pool = c.self.inside.pool; announcers = c.self.inside.announcers } in
    let some : c.in-Ok.change.on ≢ [] = subst (λ (hashes : List Hash256). hashes ≢ []) c.as_slice.ensures (something_on c.as_slice.result.now (sym c.is_empty.ensures ∙ c.if-is_empty.false)) in
    let foreseen = foreseen_for c.args.self.now old c.args.block c.in_ok-outlook.outlook c.self.view_is c.in_ok-outlook.ensures.outlook in
    leads_waits old c.accept_block.new.self c.follow.new.pool c.args.block c.in_ok-outlook.outlook c.ledger.result.now.unspent (c.in-Ok.ensures.leads some).0 foreseen c.ledger.ensures c.follow.ensures

pub returns-clause-taken : goal.returns-clause-taken
returns-clause-taken c =
    let old : RelayState = record { tree = c.self.inside.chain; pool = c.self.inside.pool; announcers = c.self.inside.announcers } in
    let some : c.in-Ok.change.on ≢ [] = subst (λ (hashes : List Hash256). hashes ≢ []) c.as_slice.ensures (something_on c.as_slice.result.now (sym c.is_empty.ensures ∙ c.if-is_empty.false)) in
    let foreseen = foreseen_for c.args.self.now old c.args.block c.in_ok-outlook.outlook c.self.view_is c.in_ok-outlook.ensures.outlook in
    let told : c.from_few.result ≡ [] = c.from_few.ensures ∙ c.new.ensures.items in
    rw (← c.self.view_is)
    (block_leads old c.accept_block.new.self c.follow.new.pool c.thank.new.announcers c.args.block c.args.from c.in-Ok.change c.in_ok-outlook.outlook c.ledger.result.now.unspent c.from_few.result c.in-Ok.ensures.ok some c.in-Ok.ensures.leads foreseen c.ledger.ensures c.follow.ensures c.thank.ensures told)

pub follow-requires : goal.follow-requires
follow-requires c =
    let old : RelayState = record { tree = c.self.inside.chain; pool = c.self.inside.pool; announcers = c.self.inside.announcers } in
    let some : c.in-Ok.change.on ≢ [] = subst (λ (hashes : List Hash256). hashes ≢ []) c.as_slice.ensures (something_on c.as_slice.result.now (sym c.is_empty.ensures ∙ c.if-is_empty.false)) in
    let foreseen = foreseen_for c.args.self.now old c.args.block c.in_ok-outlook.outlook c.self.view_is c.in_ok-outlook.ensures.outlook in
    record { ready = ready_for old c.accept_block.new.self c.args.block c.in-Ok.change c.in_ok-outlook.outlook c.ledger.result.now.unspent c.in-Ok.ensures.ok some foreseen c.ledger.ensures }

pub returns-in-Err-clause-err : goal.returns-in-Err-clause-err
returns-in-Err-clause-err c =
    refused_whole c.refusal.result c.in-Err.fault c.refusal.ensures.err
    (λ lacks. ap (λ (tree : Tree). record { tree = tree; pool = c.self.inside.pool; announcers = c.self.inside.announcers }) (c.in-Err.ensures.unchanged (ap Err lacks)) ∙ c.self.view_is)
