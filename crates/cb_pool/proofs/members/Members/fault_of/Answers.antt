use Rattle.std.proofs.Common.{◌≡◌, ◌∙◌, ap, sym, subst, arith, false, refl, ◌∷◌, ◌++◌, [], Ok, Err}
use Rattle.std.specs.Prelude.{IsOk}
use Rattle.cb_base.specs.declared.fault.Fault.TheVariants.{PoolFull}
use Rattle.cb_ledger.specs.Spend.{spend, spend_tx}
use Rattle.cb_ledger.specs.Undo.{changed, changes_of}
use Rattle.cb_block.specs.declared.tx.Tx.{Tx}
use Rattle.cb_pool.specs.Leaving.{after_tx}
use Rattle.cb_pool.specs.Listing.{Roomy, txs_of}
use Rattle.cb_pool.specs.Rules.{Applies, Refuses, is_named_in}
use Rattle.cb_block.specs.Txid.{txid_of}
use Rattle.cb_pool.proofs.Named.{is_there, pooled_long, pooled_of, txs_long}
use Rattle.cb_pool.proofs.Spent.{behind}
use Rattle.cb_pool.proofs.Taking.{refuses_from}
use Rattle.cb_pool.proofs.members.Members.fault_of.Goals as goal

pub returns-then-contains_key : goal.returns-then-contains_key
returns-then-contains_key c =
    let entries = c.self.inside.entries.entries in (
      c.tx-tx.ensures.alone,
      ap (λ held. is_named_in (txs_of held.list) (txid_of c.args.candidate.now)) (sym c.self.view_is)
          ∙ ap (is_named_in (txs_of (pooled_of entries))) (sym c.txid-txid.ensures)
          ∙ sym (is_there entries c.txid-txid.result c.self.invariant.names)
          ∙ sym c.contains_key.ensures ∙ c.if-contains_key.true,
    )

pub returns-in-Some : goal.returns-in-Some
returns-in-Some c =
    let entries = c.self.inside.entries.entries in
    let list = pooled_of entries in
    let u = c.args.ledger.now.unspent in
    let v = changed u (changes_of c.self.inside.coins.entries) in
    let tx = c.args.candidate.now in
    let fault = c.in-Some.fault in
    let fresh : is_named_in (txs_of list) (txid_of tx) ≡ false =
    ap (is_named_in (txs_of list)) (sym c.txid-txid.ensures) ∙ sym (is_there entries c.txid-txid.result c.self.invariant.names) ∙ sym c.contains_key.ensures ∙ c.if-contains_key.false in
    let ok : IsOk (spend u (txs_of list)) = subst (λ (held : Roomy). IsOk (spend u (txs_of held.list))) (sym c.self.view_is) c.requires in
    let e : spend_tx v tx ≡ Err fault = ap (spend_tx v) (sym (c.deref.ensures ∙ c.tx-tx.ensures.same)) ∙ c.in-Some.ensures.exact in
    subst (λ (held : Roomy). Refuses u (txs_of held.list) tx fault) c.self.view_is
    (refuses_from u (txs_of list) tx fault c.in-Some.ensures.named (c.tx-tx.ensures.alone, fresh, behind u v list tx (Err fault) c.self.invariant.alone ok (c.self.invariant.after u) e))

pub returns-then-len-ge-MOST_TXS : goal.returns-then-len-ge-MOST_TXS
returns-then-len-ge-MOST_TXS c =
    let entries = c.self.inside.entries.entries in
    let list = pooled_of entries in
    let u = c.args.ledger.now.unspent in
    let v = changed u (changes_of c.self.inside.coins.entries) in
    let tx = c.args.candidate.now in
    let fresh : is_named_in (txs_of list) (txid_of tx) ≡ false =
    ap (is_named_in (txs_of list)) (sym c.txid-txid.ensures) ∙ sym (is_there entries c.txid-txid.result c.self.invariant.names) ∙ sym c.contains_key.ensures ∙ c.if-contains_key.false in
    let ok : IsOk (spend u (txs_of list)) = subst (λ (held : Roomy). IsOk (spend u (txs_of held.list))) (sym c.self.view_is) c.requires in
    let e : spend_tx v tx ≡ Ok (after_tx v tx) = subst (λ (t : Tx). spend_tx v t ≡ Ok (after_tx v t)) (c.deref.ensures ∙ c.tx-tx.ensures.same) c.in_default.ensures.exact in
    let whole : IsOk (spend u (txs_of list ++ tx ∷ [])) = rw (behind u v list tx (Ok (after_tx v tx)) c.self.invariant.alone ok (c.self.invariant.after u) e) refl in
    subst (λ (held : Roomy). Refuses u (txs_of held.list) tx PoolFull) c.self.view_is
    (c.tx-tx.ensures.alone, fresh, whole, omega (arith, txs_long list, pooled_long entries, c.len.ensures.len, c.if-len-ge-MOST_TXS.true))

pub returns : goal.returns
returns c =
    let entries = c.self.inside.entries.entries in
    let list = pooled_of entries in
    let u = c.args.ledger.now.unspent in
    let v = changed u (changes_of c.self.inside.coins.entries) in
    let tx = c.args.candidate.now in
    let fresh : is_named_in (txs_of list) (txid_of tx) ≡ false =
    ap (is_named_in (txs_of list)) (sym c.txid-txid.ensures) ∙ sym (is_there entries c.txid-txid.result c.self.invariant.names) ∙ sym c.contains_key.ensures ∙ c.if-contains_key.false in
    let ok : IsOk (spend u (txs_of list)) = subst (λ (held : Roomy). IsOk (spend u (txs_of held.list))) (sym c.self.view_is) c.requires in
    let e : spend_tx v tx ≡ Ok (after_tx v tx) = subst (λ (t : Tx). spend_tx v t ≡ Ok (after_tx v t)) (c.deref.ensures ∙ c.tx-tx.ensures.same) c.in_default.ensures.exact in
    let whole : IsOk (spend u (txs_of list ++ tx ∷ [])) = rw (behind u v list tx (Ok (after_tx v tx)) c.self.invariant.alone ok (c.self.invariant.after u) e) refl in
    subst (λ (held : Roomy). Applies u (txs_of held.list) tx) c.self.view_is (record {
      alone = c.tx-tx.ensures.alone;
      fresh = fresh;
      spends = whole;
      fits = omega (arith, txs_long list, pooled_long entries, c.len.ensures.len, c.if-len-ge-MOST_TXS.false);
    })
