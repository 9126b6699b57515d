use Rattle.std.proofs.Common.{ap, ◌%◌}
use Rattle.cb_compact.specs.ShortIds.{short_id_of}
use Rattle.cb_compact.proofs.short_ids.short_id.Goals as goal

pub returns-clause-same : goal.returns-clause-same
unfolding short_id_of
returns-clause-same c = ap (λ hash. hash % 281474976710656) c.sip24.ensures
