use Rattle.std.proofs.Common.{refl}
use Rattle.cb_audit.proofs.Journals.{compares_heard, compares_other}
use Rattle.cb_audit.proofs.comparing.compare_one.Goals as goal

pub returns-in_default : goal.returns-in_default
returns-in_default c =
    record {
      ok = λ kept.
          compares_other kept c.args.audited.now c.args.replica.now c.apply.new.self c.args.entry.now c.in_ok-told.told c.args.heard.now c.args.heard.now c.in_ok-told.ensures.ok (λ connection question is. c.in_default.not-Asked connection question is) refl;
      long = c.requires.long;
      memory = tt;
    }

pub returns-clause-ok : goal.returns-clause-ok
returns-clause-ok c = λ kept.
    compares_heard kept c.args.audited.now c.args.replica.now c.apply.new.self c.args.entry.now c.in-Asked.connection c.in-Asked.question c.in_ok-told.told c.in-Some.answer c.args.heard.now c.hear.new.self c.in_ok-told.ensures.ok c.in-Asked.is
    c.in-Some.is (λ seen heard. c.in_ok-hear.ensures.ok kept seen heard)
