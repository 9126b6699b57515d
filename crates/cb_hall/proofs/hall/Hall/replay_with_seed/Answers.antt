use Rattle.std.proofs.Common.{◌≡◌, ◌⊎◌, rules, refl, subst, sym}
use Rattle.std.proofs.lemmas.Result.{err_from_is_err_and}
use Rattle.cb_base.specs.declared.fault.Fault.{Fault}
use Rattle.cb_base.specs.declared.fault.Fault.TheVariants.{JournalFull, Memory}
use Rattle.cb_hall.proofs.Replaying.{played_all, played_fit, played_more, played_none, played_notes}
use Rattle.cb_hall.proofs.hall.Hall.replay_with_seed.Goals as goal

pub loop-call-init : goal.loop-call-init
loop-call-init c = played_none c.in_ok-journal.journal c.args.calls.now c.args.calls.now c.in_ok-journal.ensures.new refl c.requires

pub play-requires : goal.play-requires
play-requires c =
    played_fit c.loop-call.journal c.args.calls.now c.args.calls.now c.loop-call.call-index _ c.call-item.result c.call-item.result c.loop-call.invariant c.loop-call-test.true c.call-item.is refl

pub returns-in_err-play-clause-kinds : goal.returns-in_err-play-clause-kinds
returns-in_err-play-clause-kinds c =
    let p = err_from_is_err_and c.from_residual-in_err-play.result c.from_residual-in_err-play.ensures.1 in
    rw p.1 (subst (λ (fault : Fault). (fault ≡ JournalFull) ⊎ (fault ≡ Memory)) (sym p.2) c.in_err-play.ensures.kinds)

pub loop-call-preserved : goal.loop-call-preserved
loop-call-preserved c =
    played_more c.loop-call.journal c.play.new.journal c.args.calls.now c.args.calls.now c.loop-call.call-index _ c.call-item.result c.call-item.result c.in_ok-play.ensures.ok.0 c.loop-call.invariant
    c.loop-call-test.true c.call-item.is refl c.in_ok-play.ensures.ok.1

pub returns-clause-notes : goal.returns-clause-notes
returns-clause-notes c = played_notes c.loop-call.journal c.args.calls.now c.args.calls.now c.loop-call.call-index c.loop-call.invariant (search rules)

pub returns-clause-past : goal.returns-clause-past
returns-clause-past c = played_all c.loop-call.journal c.args.calls.now c.args.calls.now c.loop-call.call-index c.loop-call.invariant (search rules)
