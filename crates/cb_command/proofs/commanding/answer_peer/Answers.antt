use Rattle.std.proofs.Common.{◌≡◌, ℕ, Result, ap, subst}
use Rattle.cb_control.specs.declared.ending.Halt.{Halt}
use Rattle.cb_command.proofs.Telling.{Settles, tells_peer}
use Rattle.cb_command.proofs.commanding.answer_peer.Goals as goal

pub returns : goal.returns
returns g c =
    let p = c.serve_peer-ended.ensures in
    let same = c.settle.new.errors ≡ c.serve_peer-ended.new.errors in
    let mid = g.E.Sink.contents c.serve_peer-ended.new.errors in
    let tells = g.E.Sink.contents c.settle.new.errors in
    let failed = g.E.Sink.has_failed c.settle.new.errors in
    let settled = subst (λ (ended : Result ℕ Halt). Settles same mid tells failed c.settle.result ended) c.code_of.ensures c.settle.ensures.settled in (
      p.0,
      p.1,
      tells_peer same (g.R.Source.has_failed c.serve_peer-ended.new.reader) (g.W.Sink.has_failed c.serve_peer-ended.new.writer) (g.E.Sink.contents c.args.errors.now) mid tells
          (g.E.Sink.has_failed c.serve_peer-ended.new.errors) failed p.0 c.serve_peer-ended.result c.settle.result p.2 settled (λ e. ap g.E.Sink.contents e) c.settle.ensures.stays,
    )
