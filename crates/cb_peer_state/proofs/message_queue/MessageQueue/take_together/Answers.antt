use Rattle.std.proofs.Common.{◌≡◌, ◌++◌, ◌∷◌, [], List, ap, sym, subst, ◌∙◌, length, arith, true, false}
use Rattle.std.proofs.lemmas.List.Elements.{All-nil, All-push, All-same}
use Rattle.std.proofs.lemmas.List.{length-append}
use Rattle.cb_wire.specs.declared.message.Message.{Message}
use Rattle.cb_peer_state.specs.MessageQueue.{WereTaken}
use Rattle.cb_peer_state.specs.Outgoing.{IsSmall}
use Rattle.cb_peer_state.proofs.Queues.{taken_more, taken_one}
use Rattle.cb_peer_state.proofs.message_queue.MessageQueue.take_together.Goals as goal

pub loop-batch-init : goal.loop-batch-init
loop-batch-init c =
    let m = c.in-Some.first.message in
    let items : c.push_reserved.new.self.items ≡ [] ++ m ∷ [] = c.push_reserved.ensures.items ∙ ap (λ (xs : List Message). xs ++ m ∷ []) c.requires.empty in
    record {
      taken = subst (λ (xs : List Message). WereTaken c.args.self.now.waiting xs c.take.new.self.waiting) (sym items) (taken_one _ c.in-Some.first _ c.in-Some.ensures.first);
      some = omega (arith, ap length items);
      small = λ yes. All-same IsSmall _ _ items (All-push IsSmall [] m (All-nil IsSmall) (c.is_small-is_small.ensures yes));
      alone = λ no. omega (arith, ap length items);
      few = omega (arith, ap length items);
      room = omega (arith, c.requires.room, c.push_reserved.ensures.capacity);
      takes = c.in-Some.ensures.takes;
    }

pub loop-batch-preserved : goal.loop-batch-preserved
loop-batch-preserved c =
    let was = c.loop-batch.batch.items in
    let m = c.in-Some-take_if_small.next.message in
    let is = c.loop-batch.invariant in
    let items : c.push_reserved-in-loop-batch.new.self.items ≡ was ++ m ∷ [] = c.push_reserved-in-loop-batch.ensures.items in
    let len = ap length items ∙ length-append was (m ∷ []) in
    record {
      taken = subst (λ (xs : List Message). WereTaken c.args.self.now.waiting xs c.take_if_small.new.self.waiting) (sym items) (taken_more _ _ c.in-Some-take_if_small.next _ _ is.taken c.in-Some-take_if_small.ensures.first.0);
      some = omega (arith, len);
      small = λ yes. All-same IsSmall _ _ items (All-push IsSmall was m (is.small yes) c.in-Some-take_if_small.ensures.first.1);
      alone = λ no. absurd (let clash : true ≡ false = sym c.loop-batch-test.true ∙ no in cc);
      few = omega (arith, len, c.if-len-lt-MOST_TOGETHER.true, c.len.ensures);
      room = omega (arith, is.room, c.push_reserved-in-loop-batch.ensures.capacity);
      takes = c.in-Some-take_if_small.ensures.takes ∙ is.takes;
    }
