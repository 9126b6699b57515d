use Rattle.std.proofs.Common.{◌<◌, ◌++◌, ℕ, List, rules, arith, ap, ◌∙◌, vec_len, vec_capacity}
use Rattle.cb_chain.proofs.Links.{linked_end, linked_step}
use Rattle.cb_chain.proofs.tree.push_linked.Goals as goal

pub unwrap-requires : goal.unwrap-requires
unwrap-requires c =
    let given = c.requires.links in
    let left = c.loop-place.invariant.rest given.0 given.1 in
    let step = linked_step c.args.elder.now c.loop-place.found.items c.args.found.now.items given.0 left.0 c.loop-place.place left.1 left.2 (omega (arith, c.loop-place-test.true)) in
    let fits : vec_len c.loop-place.found < vec_capacity c.loop-place.found = omega (arith, step.4, given.2, c.loop-place.invariant.room, c.loop-place.found.ok.0, c.args.found.now.ok.0) in
    search rules

pub offset_bounds-elder-place : goal.offset_bounds-elder-place
offset_bounds-elder-place c =
    let given = c.requires.links in
    let left = c.loop-place.invariant.rest given.0 given.1 in
    let step = linked_step c.args.elder.now c.loop-place.found.items c.args.found.now.items given.0 left.0 c.loop-place.place left.1 left.2 (omega (arith, c.loop-place-test.true)) in
    let within = step.3 in
    search rules

pub bounds-elder-place : goal.bounds-elder-place
bounds-elder-place c =
    let given = c.requires.links in
    let left = c.loop-place.invariant.rest given.0 given.1 in
    (linked_step c.args.elder.now c.loop-place.found.items c.args.found.now.items given.0 left.0 c.loop-place.place left.1 left.2 (omega (arith, c.loop-place-test.true))).3

pub loop-place-preserved : goal.loop-place-preserved
loop-place-preserved c =
    let given = c.requires.links in
    let left = c.loop-place.invariant.rest given.0 given.1 in
    let fitting = linked_step c.args.elder.now c.loop-place.found.items c.args.found.now.items given.0 left.0 c.loop-place.place left.1 left.2 (omega (arith, c.loop-place-test.true)) in
    let fits : vec_len c.loop-place.found < vec_capacity c.loop-place.found = omega (arith, fitting.4, given.2, c.loop-place.invariant.room, c.loop-place.found.ok.0, c.args.found.now.ok.0) in
    record {
      rest = λ places linked.
          let others = c.loop-place.invariant.rest places linked in
          let step = linked_step c.args.elder.now c.loop-place.found.items c.args.found.now.items places others.0 c.loop-place.place others.1 others.2 (omega (arith, c.loop-place-test.true)) in
          (step.0, step.1, ap (λ (ps : List ℕ). ps ++ step.0) (rw c.unwrap.ensures at c.push.ensures.items) ∙ step.2);
      room = search rules;
    }

pub returns-clause-found : goal.returns-clause-found
returns-clause-found c = λ places linked.
    let left = c.loop-place.invariant.rest places linked in
    linked_end c.args.elder.now c.loop-place.found.items c.args.found.now.items places left.0 c.loop-place.place left.1 left.2 (omega (arith, c.loop-place-test.false))
