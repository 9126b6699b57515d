use Rattle.std.proofs.Common.{◌∙◌, ap, sym}
use Rattle.std.specs.Prelude.{option_map, slice_get}
use Rattle.std.specs.Map.Iter.{deref_pair}
use Rattle.cb_base.specs.declared.hash.Hash256.{Hash256}
use Rattle.cb_pool.specs.Listing.{txs_of}
use Rattle.cb_pool.specs.declared.members.Pooled.{Pooled}
use Rattle.cb_pool.proofs.Named.{at_place}
use Rattle.cb_pool.proofs.members.Members.at.Goals as goal

pub returns-in-Some : goal.returns-in-Some
returns-in-Some c =
    ap (λ held. slice_get (txs_of held.list) c.args.place) (sym c.self.view_is)
    ∙ at_place c.self.inside.entries.entries c.args.place
    ∙ ap (option_map (λ (entry : Hash256 × Pooled). entry.1.tx)) (sym c.get_index.ensures.entry ∙ ap (option_map deref_pair) c.in-Some.is)

pub returns-in-None : goal.returns-in-None
returns-in-None c =
    ap (λ held. slice_get (txs_of held.list) c.args.place) (sym c.self.view_is)
    ∙ at_place c.self.inside.entries.entries c.args.place
    ∙ ap (option_map (λ (entry : Hash256 × Pooled). entry.1.tx)) (sym c.get_index.ensures.entry ∙ ap (option_map deref_pair) c.in-None.is)
