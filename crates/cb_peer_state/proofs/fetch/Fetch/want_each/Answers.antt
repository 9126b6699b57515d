use Rattle.std.proofs.Common.{◌∙◌, take}
use Rattle.cb_peer_state.proofs.Grown.{same_flight_each, same_front_each}
use Rattle.cb_peer_state.proofs.Still.{still_each}
use Rattle.cb_peer_state.proofs.fetch.Fetch.want_each.Goals as goal

pub returns-in_err-want_one-clause-known : goal.returns-in_err-want_one-clause-known
returns-in_err-want_one-clause-known c = λ same.
    absurd (let ok = c.in_err-want_one.ensures.unpaid (still_each c.args.self.now c.loop-hash.self c.args.hashes.now c.loop-hash.hash-index _ c.loop-hash-test.true c.loop-hash.invariant same) in cc)

pub returns-in_err-want_one-clause-flight : goal.returns-in_err-want_one-clause-flight
returns-in_err-want_one-clause-flight c =
    same_flight_each c.args.self.now c.want_one.new.self (take c.loop-hash.hash-index c.args.hashes.now) (c.in_err-want_one.ensures.err ∙ c.loop-hash.invariant)

pub returns-in_err-want_one-clause-front : goal.returns-in_err-want_one-clause-front
returns-in_err-want_one-clause-front c =
    same_front_each c.args.self.now c.want_one.new.self (take c.loop-hash.hash-index c.args.hashes.now) (c.in_err-want_one.ensures.err ∙ c.loop-hash.invariant)

pub returns-clause-flight : goal.returns-clause-flight
returns-clause-flight c =
    same_flight_each c.args.self.now c.loop-hash.self (take c.loop-hash.hash-index c.args.hashes.now) c.loop-hash.invariant

pub returns-clause-front : goal.returns-clause-front
returns-clause-front c =
    same_front_each c.args.self.now c.loop-hash.self (take c.loop-hash.hash-index c.args.hashes.now) c.loop-hash.invariant
