use Rattle.std.proofs.Common.{◌∷◌, [], inl, inr, subst, sym}
use Rattle.std.proofs.lemmas.Bool.{cases_Bool}
use Rattle.cb_pool.specs.Listing.{Roomy, txs_of}
use Rattle.cb_pool.specs.Touching.{AreApart}
use Rattle.cb_pool.proofs.Named.{pooled_of}
use Rattle.cb_pool.proofs.Untouched.{apart_from, apart_seen}
use Rattle.cb_pool.proofs.members.Members.is_apart_from.Goals as goal

pub returns-clause-apart : goal.returns-clause-apart
returns-clause-apart c = λ true.
    let inside = c.self.inside in
    subst (λ (held : Roomy). AreApart (txs_of held.list) (c.args.tx.now ∷ [])) c.self.view_is
    (apart_from (txs_of (pooled_of inside.entries.entries)) inside.coins.entries c.args.tx.now c.self.invariant.after (c.keeps.ensures.kept true))

pub returns-clause-seen : goal.returns-clause-seen
returns-clause-seen c = λ apart few.
    let inside = c.self.inside in
    let tx = c.args.tx.now in
    let txs = txs_of (pooled_of inside.entries.entries) in
    let own : AreApart txs (tx ∷ []) = subst (λ (held : Roomy). AreApart (txs_of held.list) (tx ∷ [])) (sym c.self.view_is) apart in
    elim (cases_Bool c.keeps.result) [
      | inl is ↦ is
      | inr isnt ↦ let seen = c.keeps.ensures.seen few isnt in absurd (apart_seen txs inside.coins.entries tx c.self.invariant.after seen.0 seen.1 seen.2 own)
    ]
