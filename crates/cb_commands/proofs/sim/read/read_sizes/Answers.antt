use Rattle.std.proofs.Common.{◌≤◌, ap, ◌∙◌}
use Rattle.cb_commands.specs.SimLine.{sizes_in}
use Rattle.cb_commands.proofs.SimRead.{sizes_answer, no_sizes, if_some}
use Rattle.cb_commands.proofs.sim.read.read_sizes.Goals as goal

pub returns-in-Ok-clause-told : goal.returns-in-Ok-clause-told
returns-in-Ok-clause-told c = sizes_answer c.args.text.now c.sizes_of.result (c.sizes_of.ensures ∙ ap sizes_in c.in-Ok.ensures.cases.0)

pub returns-in-Ok-clause-peers : goal.returns-in-Ok-clause-peers
returns-in-Ok-clause-peers c =
    if_some c.sizes_of.result (λ s. (1 ≤ s.peers) × (s.peers ≤ 64))
    (λ s e. ((sizes_answer c.args.text.now c.sizes_of.result (c.sizes_of.ensures ∙ ap sizes_in c.in-Ok.ensures.cases.0) s).0 e).peers_range)

pub returns-in-Ok-clause-handlers : goal.returns-in-Ok-clause-handlers
returns-in-Ok-clause-handlers c =
    if_some c.sizes_of.result (λ s. (1 ≤ s.handlers) × (s.handlers ≤ 16))
    (λ s e. ((sizes_answer c.args.text.now c.sizes_of.result (c.sizes_of.ensures ∙ ap sizes_in c.in-Ok.ensures.cases.0) s).0 e).handlers_range)

pub returns-in-Ok-clause-capacity : goal.returns-in-Ok-clause-capacity
returns-in-Ok-clause-capacity c =
    if_some c.sizes_of.result (λ s. (1 ≤ s.capacity) × (s.capacity ≤ 1024))
    (λ s e. ((sizes_answer c.args.text.now c.sizes_of.result (c.sizes_of.ensures ∙ ap sizes_in c.in-Ok.ensures.cases.0) s).0 e).capacity_range)

pub returns-in-Err-clause-told : goal.returns-in-Err-clause-told
returns-in-Err-clause-told c = no_sizes c.args.text.now c.in-Err.ensures.cases.0
