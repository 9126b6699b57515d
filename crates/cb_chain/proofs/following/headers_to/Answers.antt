use Rattle.std.proofs.Common.{◌≡◌, ◌+◌, List, length, Vec, Global, arith, ap, sym, subst, ◌∙◌}
use Rattle.cb_block.specs.declared.header.Header.{Header}
use Rattle.cb_chain.proofs.Heights.{Taken, followers, rest_some, rest_within, taken_starts, taken_full, to_more, to_stop, to_all, up_to_none}
use Rattle.cb_chain.proofs.following.headers_to.Goals as goal
use Rattle.cb_chain.proofs.following.headers_to.Goals.{else-loop-place-test, then-loop-place-test+then-len-eq-MOST_HEADERS, then-loop-place-test+else-len-eq-MOST_HEADERS+in_ok-push+then-eq}

pub loop-place-init : goal.loop-place-init
loop-place-init c = taken_starts c.args.stop.now (followers c.args.tree.now.block_indexes c.args.height) c.new-headers.result.items c.new-headers.ensures.items

pub block_index-block_index-requires : goal.block_index-block_index-requires
block_index-block_index-requires c = λ is. rest_within c.args.tree.now.block_indexes c.args.places.now c.args.height c.loop-place.place-index is c.requires.places c.loop-place-test.true

pub loop-place-preserved : goal.loop-place-preserved
loop-place-preserved c =
    let block_indexes = c.args.tree.now.block_indexes in
    let room : length c.loop-place.headers.items ≡ 2000 → ⊥ = λ full. c.if-len-eq-MOST_HEADERS.false (omega (arith, full, c.len.ensures, c.loop-place.headers.ok.0)) in
    subst (λ (hs : List Header). Taken c.args.stop.now (followers block_indexes c.args.height) (c.loop-place.place-index + 1) hs) (sym c.in_ok-push.ensures.items)
    (to_more block_indexes c.args.places.now c.args.height c.loop-place.place-index _ c.args.stop.now c.loop-place.headers.items c.requires.tree c.requires.places c.loop-place-test.true
    c.block_index-block_index.ensures.block_index c.loop-place.invariant room (sym c.eq.ensures ∙ c.if-eq.false))

pub returns-in_err-push-clause-none : goal.returns-in_err-push-clause-none
returns-in_err-push-clause-none c = λ none.
    let block_indexes = c.args.tree.now.block_indexes in
    absurd (rest_some block_indexes c.args.places.now c.args.height c.loop-place.place-index c.requires.tree c.requires.places c.loop-place-test.true (up_to_none c.args.stop.now (followers block_indexes c.args.height) none))

pub returns-clause-exact : goal.returns-clause-exact
returns-clause-exact c =
    let block_indexes = c.args.tree.now.block_indexes in
    elim c.loop-place-test.branch [
      | else-loop-place-test w ↦
          ap (λ (v : Vec Header Global). v.items) w.headers-is
          ∙ to_all block_indexes c.args.places.now c.args.height c.loop-place.place-index c.args.stop.now c.loop-place.headers.items c.requires.tree c.requires.places w.loop-place-test.false c.loop-place.invariant
      | then-loop-place-test+then-len-eq-MOST_HEADERS w ↦
          ap (λ (v : Vec Header Global). v.items) w.headers-is
          ∙ taken_full c.args.stop.now (followers block_indexes c.args.height) c.loop-place.headers.items c.loop-place.place-index c.loop-place.invariant
          (omega (arith, w.len.ensures, w.if-len-eq-MOST_HEADERS.true, c.loop-place.headers.ok.0))
      | then-loop-place-test+else-len-eq-MOST_HEADERS+in_ok-push+then-eq w ↦
          let room : length c.loop-place.headers.items ≡ 2000 → ⊥ = λ full. w.if-len-eq-MOST_HEADERS.false (omega (arith, full, w.len.ensures, c.loop-place.headers.ok.0)) in
          ap (λ (v : Vec Header Global). v.items) w.headers-is ∙ w.in_ok-push.ensures.items
          ∙ to_stop block_indexes c.args.places.now c.args.height c.loop-place.place-index _ c.args.stop.now c.loop-place.headers.items c.requires.tree c.requires.places w.loop-place-test.true
          w.block_index-block_index.ensures.block_index c.loop-place.invariant room (sym w.eq.ensures ∙ w.if-eq.true)
    ]
