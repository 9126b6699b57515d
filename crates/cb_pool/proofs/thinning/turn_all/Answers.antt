use Rattle.std.proofs.Common.{◌≡◌, ◌∷◌, [], arith, rules, subst, sym}
use Rattle.cb_pool.specs.declared.members.Pooled.{Pooled}
use Rattle.std.proofs.Common.{List}
use Rattle.cb_pool.proofs.Thinned.{Turning, all_turned, stays_of, turning_more, turning_none}
use Rattle.cb_pool.proofs.thinning.turn_all.Goals as goal

pub loop-pooled-init : goal.loop-pooled-init
loop-pooled-init c =
    let all : c.into_iter-pooled-iterator.result ≡ c.args.members.now.list = search rules in
    rw c.requires.none (subst (λ (l : List Pooled). Turning c.args.marks.now c.args.marks.now [] c.args.members.now.list l) (sym all) (turning_none c.args.marks.now c.args.members.now.list))

pub loop-pooled-preserved : goal.loop-pooled-preserved
loop-pooled-preserved c =
    let first = c.args.marks.now in
    let list = c.args.members.now.list in
    let pooled : Pooled = c.in-Some.pooled.now in
    let rest : List Pooled = c.next.new.self in
    let rest_is : c.loop-pooled.pooled-iterator ≡ pooled ∷ rest = c.in-Some.ensures.steps in
    let so_far = subst (λ (l : List Pooled). Turning first c.loop-pooled.marks c.loop-pooled.gone.keys list l) rest_is c.loop-pooled.invariant in
    turning_more first c.loop-pooled.marks c.turn.new.marks c.loop-pooled.gone.keys c.turn.new.gone.keys list rest pooled so_far c.len.ensures.alone c.len.ensures.names (omega (arith, c.len.ensures.len, c.len.ensures.few)) (c.in_ok-turn.ensures.turned c.if-not-branch.false)

pub returns-clause-stay : goal.returns-clause-stay
returns-clause-stay c = λ known was now tells ok.
    let list = c.args.members.now.list in
    let so_far = subst (λ (l : List Pooled). Turning c.args.marks.now c.loop-pooled.marks c.loop-pooled.gone.keys list l) c.in-None.ensures.steps.0 c.loop-pooled.invariant in
    stays_of c.args.marks.now c.loop-pooled.marks c.loop-pooled.gone.keys list was now so_far tells ok

pub returns-clause-agree : goal.returns-clause-agree
returns-clause-agree c = λ known.
    let list = c.args.members.now.list in
    let so_far = subst (λ (l : List Pooled). Turning c.args.marks.now c.loop-pooled.marks c.loop-pooled.gone.keys list l) c.in-None.ensures.steps.0 c.loop-pooled.invariant in
    (all_turned c.args.marks.now c.loop-pooled.marks c.loop-pooled.gone.keys list so_far).1
