use Rattle.std.proofs.Common.{◌≡◌, ◌<◌, ◌≤◌, ◌^◌, ◌∙◌, ◌∷◌, List, [], ap, arith, get_or, length, subst, sym}
use Rattle.std.proofs.lemmas.Bool.{false≢true}
use Rattle.cb_base.specs.declared.hash.Hash256.{Hash256}
use Rattle.cb_block.specs.declared.block.Block.{Block}
use Rattle.cb_block.specs.declared.tx.Tx.{Tx}
use Rattle.cb_ledger.proofs.Txs.{name_at}
use Rattle.cb_pool.specs.Listing.{Listing, txs_of}
use Rattle.cb_block.specs.Txid.{txid_of}
use Rattle.cb_pool.specs.Touching.{AreApart}
use Rattle.cb_pool.proofs.Untouched.{apart_all, apart_at, apart_more}
use Rattle.cb_pool.proofs.pool.Pool.is_apart_from.Goals as goal

pub loop-place-init : goal.loop-place-init
loop-place-init c = λ point touched none. absurd none

pub is_apart_from-requires : goal.is_apart_from-requires
is_apart_from-requires c =
    let none : Hash256 = record { 0 = [] } in
    let txs = c.args.block.now.txs in
    let place = c.loop-place.place in
    let tx = c.index-as_slice-place.result in
    let long : c.as_slice-place-end.result.now ≡ txs = c.as_slice-place-end.ensures ∙ ap (λ (b : Block). b.txs) c.block.ensures.same in
    let slice : c.as_slice.result.now ≡ txs = c.as_slice.ensures ∙ ap (λ (b : Block). b.txs) c.block-in-loop-place.ensures.same in
    let at : tx ≡ get_or txs place tx = subst (λ (l : List Tx). tx ≡ get_or l place tx) slice c.index-as_slice-place.is in
    let within : place < length txs = subst (λ (l : List Tx). place < length l) long c.loop-place-test.true in
    record { name = subst (λ (t : Tx). get_or c.txids.result.now place none ≡ txid_of t) (sym c.deref.ensures) (name_at txs c.txids.result.now place tx none c.txids.ensures within at) }

pub loop-place-preserved : goal.loop-place-preserved
loop-place-preserved c =
    let txs = c.args.block.now.txs in
    let list = txs_of c.args.self.now.list in
    let place = c.loop-place.place in
    let tx = c.index-as_slice-place.result in
    let long : c.as_slice-place-end.result.now ≡ txs = c.as_slice-place-end.ensures ∙ ap (λ (b : Block). b.txs) c.block.ensures.same in
    let slice : c.as_slice.result.now ≡ txs = c.as_slice.ensures ∙ ap (λ (b : Block). b.txs) c.block-in-loop-place.ensures.same in
    let at : tx ≡ get_or txs place tx = subst (λ (l : List Tx). tx ≡ get_or l place tx) slice c.index-as_slice-place.is in
    let within : place < length txs = subst (λ (l : List Tx). place < length l) long c.loop-place-test.true in
    let shown : AreApart list (c.deref.result.now ∷ []) =
    subst (λ (held : Listing). AreApart (txs_of held.list) (c.deref.result.now ∷ [])) c.self.view_is (c.is_apart_from.ensures.apart c.if-not-is_apart_from.false) in
    let one : AreApart list (tx ∷ []) = subst (λ (t : Tx). AreApart list (t ∷ [])) c.deref.ensures shown in
    apart_more list txs place tx within at c.loop-place.invariant one

pub returns-clause-apart : goal.returns-clause-apart
returns-clause-apart c = λ true.
    let txs = c.args.block.now.txs in
    let long : c.as_slice-place-end.result.now ≡ txs = c.as_slice-place-end.ensures ∙ ap (λ (b : Block). b.txs) c.block.ensures.same in
    apart_all (txs_of c.args.self.now.list) txs c.loop-place.place (omega (arith, ap length long)) c.loop-place.invariant

pub returns-then-not-is_apart_from-clause-seen : goal.returns-then-not-is_apart_from-clause-seen
returns-then-not-is_apart_from-clause-seen c = λ apart few.
    let txs = c.args.block.now.txs in
    let list = txs_of c.args.self.now.list in
    let place = c.loop-place.place in
    let tx = c.index-as_slice-place.result in
    let long : c.as_slice-place-end.result.now ≡ txs = c.as_slice-place-end.ensures ∙ ap (λ (b : Block). b.txs) c.block.ensures.same in
    let slice : c.as_slice.result.now ≡ txs = c.as_slice.ensures ∙ ap (λ (b : Block). b.txs) c.block-in-loop-place.ensures.same in
    let at : tx ≡ get_or txs place tx = subst (λ (l : List Tx). tx ≡ get_or l place tx) slice c.index-as_slice-place.is in
    let within : place < length txs = subst (λ (l : List Tx). place < length l) long c.loop-place-test.true in
    let one : AreApart list (c.deref.result.now ∷ []) = subst (λ (t : Tx). AreApart list (t ∷ [])) (sym c.deref.ensures) (apart_at list txs place tx within at apart) in
    let shown : AreApart (txs_of c.self.inside.members.list) (c.deref.result.now ∷ []) = subst (λ (held : Listing). AreApart (txs_of held.list) (c.deref.result.now ∷ [])) (sym c.self.view_is) one in
    let little : length c.deref.result.now.outputs ≤ 2 ^ 32 = subst (λ (t : Tx). length t.outputs ≤ 2 ^ 32) (sym at ∙ sym c.deref.ensures) (few place tx within) in
    absurd (false≢true (sym c.if-not-is_apart_from.true ∙ c.is_apart_from.ensures.seen shown little))
