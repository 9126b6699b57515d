use Rattle.std.proofs.Common.{rules}
use Rattle.std.proofs.lemmas.List.Sorted.{IsNonDecreasingBy-from_sort_by_key}
use Rattle.cb_crew.specs.Turn.{shown_desk}
use Rattle.cb_crew.proofs.Sorting.{sorted_in_order}
use Rattle.cb_crew.proofs.crew.Crew.finish.Goals as goal

pub settle_all-requires-clause-desks : goal.settle_all-requires-clause-desks
settle_all-requires-clause-desks g c = sorted_in_order (shown_desk g.W.Work.label g.W.Work.is_closed) c.args.self.now c.keep_all-desks.result.items c.sort_unstable_by_key.new.self.items c.sort_unstable_by_key.ensures.permutation
    (IsNonDecreasingBy-from_sort_by_key (λ desk. desk.inbox.peer) _ c.sort_unstable_by_key.ensures.sorted (λ a r q k. search rules)) c.keep_all-desks.ensures
