use Rattle.std.proofs.Common.{◌∙◌, length, sym}
use Rattle.std.specs.Prelude.{Some}
use Rattle.std.proofs.lemmas.Option.{slice_get_read}
use Rattle.cb_audit.proofs.Accounts.{all_at, heard_known, heard_unknown}
use Rattle.cb_audit.proofs.heard.Heard.hear.Goals as goal

pub returns-in_default-clause-ok : goal.returns-in_default-clause-ok
returns-in_default-clause-ok c = λ kept seen heard.
    heard_unknown kept c.args.audited.now seen c.args.self.now.places.items c.args.self.now.stranger c.earlier-self.result c.args.connection (record { question = Some c.args.question.now; answer = c.args.answer.now }) c.requires.order
    (c.find.ensures.none c.in_default.is) c.earlier-self.ensures.none c.earlier-self.ensures.found heard

pub returns-clause-ok : goal.returns-clause-ok
returns-clause-ok c = λ kept seen heard.
    heard_known kept c.args.audited.now seen c.args.self.now.places.items c.args.self.now.stranger c.args.connection c.in-Some.at c.index.result.now c.in_ok-place.place c.as_slice.result.now
    (record { question = Some c.args.question.now; answer = c.args.answer.now }) c.requires.order c.in-Some.ensures.found
    (slice_get_read c.args.self.now.places.items (length c.args.audited.now) c.in-Some.at c.index.result.now (sym c.requires.long) c.in-Some.ensures.within c.index.ensures)
    (λ one at. c.as_slice.ensures ∙ all_at c.args.audited.now c.args.turns.now c.in-Some.at one c.index-turns-at.result c.requires.turns at c.index-turns-at.is) c.in_ok-place.ensures.ok heard
