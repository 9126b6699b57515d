use Rattle.std.proofs.Common.{◌≡◌, ◌∙◌, false, sym, true, arith}
use Rattle.cb_peer_state.proofs.Standing.{changes_nothing, none_leaves, nothing_changes}
use Rattle.cb_peer_state.proofs.fetch.Fetch.want.Goals as goal

pub returns-in-None-clause-wanted : goal.returns-in-None-clause-wanted
returns-in-None-clause-wanted c = rw (← none_leaves c.args.self.now c.args.hashes.now (sym c.in-None.ensures.place)) c.append.ensures.wanted

pub returns-in-None-clause-known : goal.returns-in-None-clause-known
returns-in-None-clause-known c = λ same. c.append.ensures.known (none_leaves c.args.self.now c.args.hashes.now (sym c.in-None.ensures.place) ∙ same)

pub returns-in-Some-clause-wanted : goal.returns-in-Some-clause-wanted
returns-in-Some-clause-wanted c =
    sym (changes_nothing c.args.self.now c.args.hashes.now c.in-Some.first c.stand_last.ensures.few (omega (arith, c.in-Some.ensures.within)) (sym c.stand_last.ensures.stand ∙ c.if-stand_last.true))

pub returns-in-Some-2-clause-known : goal.returns-in-Some-2-clause-known
returns-in-Some-2-clause-known c = λ same.
    let stands = nothing_changes c.args.self.now c.args.hashes.now c.in-Some.first c.stand_last.ensures.few (omega (arith, c.in-Some.ensures.within)) (sym c.in-Some.ensures.place) same in
    absurd (let clash : true ≡ false = sym stands ∙ sym c.stand_last.ensures.stand ∙ c.if-stand_last.false in cc)
