use Rattle.std.proofs.Common.{◌∷◌, [], ◌++◌, List, ap, ◌∙◌, length, arith}
use Rattle.std.proofs.lemmas.List.{length-append}
use Rattle.cb_peer_state.specs.declared.message_queue.Waiting.{Waiting}
use Rattle.cb_peer_state.specs.MessageQueue.{own_of}
use Rattle.cb_peer_state.proofs.Queues.{own_more}
use Rattle.cb_peer_state.proofs.message_queue.MessageQueue.put.Goals as goal

pub invariant_of-self-2 : goal.invariant_of-self-2
invariant_of-self-2 c =
    let items = c.push_back_reserved.ensures.items ∙ ap (λ (xs : List Waiting). xs ++ c.args.one ∷ []) c.reserve.ensures.items in
    let own = ap own_of items ∙ own_more c.self.inside.waiting.items c.args.one in
    let len = ap length items ∙ length-append c.self.inside.waiting.items (c.args.one ∷ []) in
    (omega (arith, own, c.self.invariant.0), omega (arith, c.self.invariant.1, c.if-one-self.false), omega (arith, len, c.len.ensures, c.if-len-ge-MOST_MESSAGES.false))
