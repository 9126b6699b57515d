use Rattle.std.proofs.Common.{◌∙◌, ap}
use Rattle.cb_peer_state.specs.Fetching.{block_in}
use Rattle.cb_peer_state.proofs.Once.{takes_more}
use Rattle.cb_peer_state.proofs.Still.{none_named}
use Rattle.cb_peer_state.proofs.fetch.Fetch.take_on.Goals as goal

pub loop-entry-preserved : goal.loop-entry-preserved
loop-entry-preserved c =
    takes_more c.args.needed.now c.loop-entry.entry-index c.entry-item.result c.loop-entry.next c.take_entry.new.self c.loop-entry-test.true c.loop-entry.invariant
    (rw (← c.entry-item.is) c.in_ok-take_entry.ensures.taken)

pub returns-in_err-take_entry-clause-blockless : goal.returns-in_err-take_entry-clause-blockless
returns-in_err-take_entry-clause-blockless c = λ none.
    absurd (let ok = c.in_err-take_entry.ensures.unpaid (ap block_in c.entry-item.is ∙ none_named c.args.needed.now c.loop-entry.entry-index c.entry-item.result c.loop-entry-test.true none) in cc)
