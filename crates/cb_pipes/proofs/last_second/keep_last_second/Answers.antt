use Rattle.std.proofs.Common.{◌≡◌, rules}
use Rattle.std.proofs.lemmas.Fn.{filter_same}
use Rattle.cb_pipes.specs.LastSecond.{is_fresh}
use Rattle.cb_pipes.proofs.last_second.keep_last_second.Goals as goal

pub returns-clause-kept : goal.returns-clause-kept
returns-clause-kept g c = filter_same _ (is_fresh g.T.Dated.time c.args.now) _ (λ x b f' k. search rules) _ _ c.retain.ensures.filtered
