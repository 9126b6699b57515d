use Rattle.std.proofs.Common.{◌∙◌}
use Rattle.std.proofs.lemmas.Bool.{false≢true}
use Rattle.cb_chain.proofs.Heights.{rest_within, rest_none, rest_some, follow_more, follow_all}
use Rattle.cb_chain.proofs.following.headers_from.Goals as goal

pub loop-place-init : goal.loop-place-init
loop-place-init c = c.in_ok-headers.ensures.items

pub block_index-requires : goal.block_index-requires
block_index-requires c = λ is. rest_within c.args.tree.now.block_indexes c.args.places.now c.args.height c.loop-place.place-index is c.requires.places c.loop-place-test.true

pub loop-place-preserved : goal.loop-place-preserved
loop-place-preserved c =
    c.in_ok-push.ensures.items
    ∙ follow_more c.args.tree.now.block_indexes c.args.places.now c.args.height c.loop-place.place-index _ c.loop-place.headers.items c.requires.tree c.requires.places c.loop-place-test.true c.block_index.ensures.block_index c.loop-place.invariant

pub returns-clause-exact : goal.returns-clause-exact
returns-clause-exact c =
    c.loop-place.invariant ∙ follow_all c.args.tree.now.block_indexes c.args.places.now c.args.height c.loop-place.place-index c.requires.tree c.requires.places c.loop-place-test.false

pub returns-in_err-headers-clause-none : goal.returns-in_err-headers-clause-none
returns-in_err-headers-clause-none c = λ none.
    absurd (false≢true (c.in_err-headers.ensures.succeeds (rest_none c.args.tree.now.block_indexes c.args.places.now c.args.height c.requires.tree c.requires.places none)))

pub returns-in_err-push-clause-none : goal.returns-in_err-push-clause-none
returns-in_err-push-clause-none c = λ none.
    absurd (rest_some c.args.tree.now.block_indexes c.args.places.now c.args.height c.loop-place.place-index c.requires.tree c.requires.places c.loop-place-test.true none)
