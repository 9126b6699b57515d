use Rattle.std.proofs.Common.{◌∙◌, ap, sym}
use Rattle.std.specs.Prelude.{option_copied, option_map}
use Rattle.cb_pool.specs.Listing.{txs_of}
use Rattle.cb_pool.specs.Rules.{named_in}
use Rattle.cb_pool.specs.declared.members.Pooled.{Pooled}
use Rattle.cb_pool.proofs.Named.{looked_up}
use Rattle.cb_pool.proofs.members.Members.get.Goals as goal

pub returns-in-Some : goal.returns-in-Some
returns-in-Some c =
    ap (λ held. named_in (txs_of held.list) c.args.txid.now) (sym c.self.view_is)
    ∙ sym (looked_up c.self.inside.entries.entries c.args.txid.now c.self.invariant.names)
    ∙ ap (option_map (λ (pooled : Pooled). pooled.tx)) (sym c.get.ensures.value ∙ ap option_copied c.in-Some.is)

pub returns-in-None : goal.returns-in-None
returns-in-None c =
    ap (λ held. named_in (txs_of held.list) c.args.txid.now) (sym c.self.view_is)
    ∙ sym (looked_up c.self.inside.entries.entries c.args.txid.now c.self.invariant.names)
    ∙ ap (option_map (λ (pooled : Pooled). pooled.tx)) (sym c.get.ensures.value ∙ ap option_copied c.in-None.is)
