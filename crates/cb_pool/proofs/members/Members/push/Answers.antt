use Rattle.std.proofs.Common.{◌≡◌, ◌<◌, ◌∙◌, ◌∷◌, ◌++◌, [], ap, sym, subst, false, length, None}
use Rattle.std.specs.Map.{lookup}
use Rattle.std.proofs.lemmas.List.{map-append}
use Rattle.indexmap.proofs.CallerLemmas.{insert_entry-new}
use Rattle.cb_base.specs.declared.hash.Hash256.{Hash256}
use Rattle.cb_ledger.specs.Undo.{changed, changes_of}
use Rattle.cb_ledger.proofs.Lengths.{few_outputs}
use Rattle.cb_pool.specs.Leaving.{with_outputs}
use Rattle.cb_pool.specs.Listing.{Roomy, txs_of}
use Rattle.cb_pool.specs.Rules.{is_named_in, same}
use Rattle.cb_pool.specs.declared.members.Pooled.{Pooled}
use Rattle.cb_pool.proofs.Named.{is_absent, members_more, pooled_of}
use Rattle.cb_pool.proofs.Spent.{left_is}
use Rattle.cb_pool.proofs.members.Members.push.Goals as goal

pub make_outputs-requires-clause-few : goal.make_outputs-requires-clause-few
make_outputs-requires-clause-few c =
    rw (c.as_slice-2.ensures, c.deref-2.ensures, c.tx-2.ensures.same) (few_outputs c.args.candidate c.tx-2.ensures.alone.rules)

pub returns-clause-list : goal.returns-clause-list
returns-clause-list c =
    let entries = c.self.inside.entries.entries in
    let pooled : Pooled = record { tx = c.args.candidate; number = c.args.number } in
    let fresh : is_named_in (txs_of (pooled_of entries)) c.txid-txid.result ≡ false =
    subst (λ (held : Roomy). is_named_in (txs_of held.list) c.txid-txid.result ≡ false) (sym c.self.view_is) (ap (is_named_in (txs_of c.args.self.now.list)) c.txid-txid.ensures ∙ c.requires.fresh) in
    let none : lookup (same c.txid-txid.result) entries ≡ None = is_absent entries c.txid-txid.result c.self.invariant.names fresh in
    let next_is : c.insert-had.new.self.entries ≡ entries ++ (c.txid-txid.result, pooled) ∷ [] =
    (rw c.unwrap.ensures at c.insert-had.ensures.entries) ∙ insert_entry-new same c.self.inside.entries c.txid-txid.result pooled none in
    ap pooled_of next_is ∙ map-append (λ (entry : Hash256 × Pooled). entry.1) entries ((c.txid-txid.result, pooled) ∷ []) ∙ ap (λ held. held.list ++ pooled ∷ []) c.self.view_is

pub invariant_of-self : goal.invariant_of-self
invariant_of-self c =
    let entries = c.self.inside.entries.entries in
    let coins = c.self.inside.coins.entries in
    let txid = c.txid-txid.result in
    let pooled : Pooled = record { tx = c.args.candidate; number = c.args.number } in
    let inputs = c.as_slice.result.now in
    let outputs = c.as_slice-2.result.now in
    let fresh : is_named_in (txs_of (pooled_of entries)) txid ≡ false =
    subst (λ (held : Roomy). is_named_in (txs_of held.list) txid ≡ false) (sym c.self.view_is) (ap (is_named_in (txs_of c.args.self.now.list)) c.txid-txid.ensures ∙ c.requires.fresh) in
    let none : lookup (same txid) entries ≡ None = is_absent entries txid c.self.invariant.names fresh in
    let next_is : c.insert-had.new.self.entries ≡ entries ++ (txid, pooled) ∷ [] =
    (rw c.unwrap.ensures at c.insert-had.ensures.entries) ∙ insert_entry-new same c.self.inside.entries txid pooled none in
    let fits : length (pooled_of entries) < 10000 = subst (λ (held : Roomy). length held.list < 10000) (sym c.self.view_is) c.requires.fits in
    let ins : inputs ≡ c.args.candidate.inputs = c.as_slice.ensures ∙ ap (λ tx. tx.inputs) (c.deref.ensures ∙ c.tx.ensures.same) in
    let outs : outputs ≡ c.args.candidate.outputs = c.as_slice-2.ensures ∙ ap (λ tx. tx.outputs) (c.deref-2.ensures ∙ c.tx-2.ensures.same) in
    members_more entries c.insert-had.new.self.entries coins c.make_outputs.new.coins.entries txid pooled c.self.invariant next_is c.txid-txid.ensures c.tx.ensures.alone fits
    (λ u. c.make_outputs.ensures.after u
    ∙ ap (λ m. with_outputs m txid 0 outputs) (c.spend_outputs.ensures.after u)
    ∙ left_is (changed u (changes_of coins)) c.args.candidate txid inputs outputs c.txid-txid.ensures ins outs)
