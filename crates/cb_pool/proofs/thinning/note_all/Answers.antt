use Rattle.std.proofs.Common.{◌≡◌, ◌∷◌, List, rules, subst, sym}
use Rattle.cb_pool.specs.declared.members.Pooled.{Pooled}
use Rattle.cb_pool.proofs.Thinned.{Covering, all_covered, covering_more, covering_none}
use Rattle.cb_pool.proofs.thinning.note_all.Goals as goal

pub loop-pooled-init : goal.loop-pooled-init
loop-pooled-init c =
    let list = c.args.members.now.list in
    let all : c.into_iter-pooled-iterator.result ≡ list = search rules in
    subst (λ (l : List Pooled). Covering c.args.marks.now c.args.coins.now.entries c.args.gone.now.keys list l) (sym all) (covering_none c.args.marks.now c.args.coins.now.entries c.args.gone.now.keys list c.requires.none)

pub loop-pooled-preserved : goal.loop-pooled-preserved
loop-pooled-preserved c =
    let marks = c.args.marks.now in
    let gone = c.args.gone.now.keys in
    let list = c.args.members.now.list in
    let pooled : Pooled = c.in-Some.pooled.now in
    let rest : List Pooled = c.next.new.self in
    let rest_is : c.loop-pooled.pooled-iterator ≡ pooled ∷ rest = c.in-Some.ensures.steps in
    covering_more marks c.loop-pooled.coins.entries c.note_pooled.new.coins.entries gone list rest pooled c.in_ok-note_pooled.ensures.covers
    (subst (λ (l : List Pooled). Covering marks c.loop-pooled.coins.entries gone list l) rest_is c.loop-pooled.invariant)

pub returns-clause-covers : goal.returns-clause-covers
returns-clause-covers c =
    let marks = c.args.marks.now in
    let gone = c.args.gone.now.keys in
    let list = c.args.members.now.list in
    all_covered marks c.loop-pooled.coins.entries gone list (subst (λ (l : List Pooled). Covering marks c.loop-pooled.coins.entries gone list l) c.in-None.ensures.steps.0 c.loop-pooled.invariant)
