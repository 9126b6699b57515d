use Rattle.std.proofs.Common.{◌≡◌, ◌||◌, nat_eq, ap, subst, sym, ◌∙◌, arith}
use Rattle.std.proofs.lemmas.Result.{IfOk-weaker}
use Rattle.json.specs.Value.{value_view}
use Rattle.cb_rpc.specs.Requests.{size_of}
use Rattle.cb_rpc.specs.Responses.{AreAdded, IsClosed, has_told}
use Rattle.cb_rpc.proofs.Counting.{added_next, told_before, told_here}
use Rattle.cb_rpc.proofs.listing.answer_each.Goals as goal
use Rattle.cb_rpc.proofs.listing.answer_each.Goals.{else-branch, then-branch}

pub returns : goal.returns
returns g c =
    let requests = value_view c.args.requests.now in
    let tokens = c.loop-place.writer.tokens in
    let whole : c.loop-place.place ≡ size_of requests = omega (arith, c.loop-place-test.false, c.loop-place.auto.place-end, c.size-place-end.ensures) in
    let told = c.loop-place.invariant.told ∙ ap (λ n. nat_eq (size_of requests) 0 || has_told n requests) whole in
    IfOk-weaker c.close.result _ _
    (λ response closed. (
      tokens,
      subst (λ n. AreAdded (g.N.CallHandler.answers c.args.node.now) requests n tokens) whole c.loop-place.invariant.added,
      subst (λ some. IsClosed some tokens response) told closed,
    ))
    c.close.ensures

pub loop-place-preserved : goal.loop-place-preserved
loop-place-preserved g c =
    let requests = value_view c.args.requests.now in
    let empty = nat_eq (size_of requests) 0 in
    let place = c.loop-place.place in
    record {
      added = added_next (g.N.CallHandler.answers c.args.node.now) requests place c.loop-place.writer.tokens c.put_at.new.writer.tokens c.loop-place.invariant.added c.in_ok-put_at.ensures.tokens;
      told = elim c.if-branch.branch [
        | then-branch w ↦ w.told-is ∙ told_here empty requests place (sym c.in_ok-put_at.ensures.told ∙ w.if-branch.true)
        | else-branch w ↦ w.told-is ∙ told_before empty c.loop-place.told requests place (sym c.in_ok-put_at.ensures.told ∙ w.if-branch.false) c.loop-place.invariant.told
      ];
      before = c.put_at.ensures.before ∙ c.loop-place.invariant.before;
    }
