use Rattle.std.proofs.Common.{◌∙◌, ap, sym, length, heap_items}
use Rattle.cb_net_plan.proofs.Ordered.{length_in_order}
use Rattle.cb_net_plan.proofs.queue.Queue.len.Goals as goal

pub returns : goal.returns
returns c =
    c.len.ensures
    ∙ c.self.inside.heap.data.ok.0
    ∙ sym (length_in_order (heap_items c.self.inside.heap))
    ∙ ap (λ queue. length queue.waiting) c.self.view_is
