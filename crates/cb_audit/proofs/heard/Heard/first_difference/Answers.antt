use Rattle.std.proofs.Common.{List, Option, sym, subst}
use Rattle.cb_state.specs.declared.connection.Connection.{Connection}
use Rattle.cb_audit.specs.declared.heard.Difference.{Difference}
use Rattle.cb_audit.specs.declared.place.Place.{Place}
use Rattle.cb_audit.specs.Heard.{ArePlaced, AreStrangers, IsSplitWithTrace}
use Rattle.cb_audit.proofs.Accounts.{none_found, not_before, one_found, split_before, split_known, split_stranger, told_not}
use Rattle.cb_audit.proofs.heard.Heard.first_difference.Goals as goal

pub returns-in_default : goal.returns-in_default
returns-in_default c = λ seen few heard.
    let placed = subst (λ (l : List Place). ArePlaced c.args.kept.now c.args.audited.now seen l) (sym c.as_slice.ensures.value) heard.placed in
    split_known c.args.kept.now c.args.audited.now seen c.first_with_trace-found.result (c.first_with_trace-found.ensures c.args.kept.now seen few placed)
    (subst (λ (s : Option Connection). AreStrangers c.args.audited.now seen s) c.in_default.is heard.strangers)

pub returns-in-Some-found : goal.returns-in-Some-found
returns-in-Some-found c = λ seen few heard.
    let placed = subst (λ (l : List Place). ArePlaced c.args.kept.now c.args.audited.now seen l) (sym c.as_slice.ensures.value) heard.placed in
    let before = c.is_before.ensures.0 c.if-is_before.true in
    split_before c.args.kept.now c.args.audited.now seen c.in-Some-found.difference c.in-Some.connection
    (subst (λ (f : Option Difference). IsSplitWithTrace c.args.kept.now c.args.audited.now seen f) c.in-Some-found.is (c.first_with_trace-found.ensures c.args.kept.now seen few placed))
    (subst (λ (s : Option Connection). AreStrangers c.args.audited.now seen s) c.in-Some.is heard.strangers)
    (λ behind. not_before c.in-Some-found.difference.connection c.in-Some.connection before behind)

pub returns-in_default-found : goal.returns-in_default-found
returns-in_default-found c = λ seen few heard.
    let placed = subst (λ (l : List Place). ArePlaced c.args.kept.now c.args.audited.now seen l) (sym c.as_slice.ensures.value) heard.placed in
    split_stranger c.args.kept.now c.args.audited.now seen c.first_with_trace-found.result c.in-Some.connection c.granted.result (c.first_with_trace-found.ensures c.args.kept.now seen few placed)
    (subst (λ (s : Option Connection). AreStrangers c.args.audited.now seen s) c.in-Some.is heard.strangers)
    (λ other same before.
    one_found c.first_with_trace-found.result c.in-Some-found.difference other c.in-Some.connection c.in-Some-found.is (told_not c.is_before.result c.is_before.ensures.1 c.if-is_before.false) same before)
    c.granted.ensures

pub returns-in_default-found-2 : goal.returns-in_default-found-2
returns-in_default-found-2 c = λ seen few heard.
    let placed = subst (λ (l : List Place). ArePlaced c.args.kept.now c.args.audited.now seen l) (sym c.as_slice.ensures.value) heard.placed in
    split_stranger c.args.kept.now c.args.audited.now seen c.first_with_trace-found.result c.in-Some.connection c.granted.result (c.first_with_trace-found.ensures c.args.kept.now seen few placed)
    (subst (λ (s : Option Connection). AreStrangers c.args.audited.now seen s) c.in-Some.is heard.strangers)
    (λ other same before. none_found c.first_with_trace-found.result other c.in-Some.connection c.in_default-found.is same before)
    c.granted.ensures
