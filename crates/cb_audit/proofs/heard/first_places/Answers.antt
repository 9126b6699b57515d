use Rattle.std.proofs.Common.{length, refl}
use Rattle.std.proofs.lemmas.Option.{slice_get_read}
use Rattle.cb_audit.proofs.Accounts.{first_more}
use Rattle.cb_audit.proofs.heard.first_places.Goals as goal

pub loop-one-preserved : goal.loop-one-preserved
loop-one-preserved c =
    first_more c.args.kept.now c.args.audited.now c.loop-one.places.items c.push.new.self.items c.loop-one.one-index c.one-item.result c.first.result c.in_ok-push.ensures.items c.loop-one.invariant.0 c.loop-one.invariant.1
    (slice_get_read c.args.audited.now (length c.args.audited.now) c.loop-one.one-index c.one-item.result refl c.loop-one-test.true c.one-item.is) c.first.ensures
