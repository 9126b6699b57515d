use Rattle.std.proofs.Common.{◌++◌, ap, ◌∙◌}
use Rattle.cb_net_node.proofs.Loosely.{loose_begun}
use Rattle.cb_net_node.proofs.loose_link.LooseLink.new.Goals as goal

pub invariant_of-result : goal.invariant_of-result
invariant_of-result c =
    loose_begun c.args.start c.in_ok-end.end c.send.new.self c.in_ok-end.ensures.begins
    (c.in_ok-send.ensures.ok ∙ ap (λ l. l ++ c.in_ok-end.messages.items) c.new-sent.ensures ∙ c.in_ok-end.ensures.opens)
