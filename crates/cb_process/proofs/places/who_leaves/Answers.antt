use Rattle.std.proofs.Common.{rules, ◌≤◌, ◌<◌, length}
use Rattle.cb_process.proofs.Choices.{none_of_all, one_more}
use Rattle.cb_process.proofs.places.who_leaves.Goals as goal

pub loop-place-preserved : goal.loop-place-preserved
loop-place-preserved c =
    let within : c.loop-place.place < length c.args.guests.now = search rules in
    one_more c.args.guests.now c.args.now c.loop-place.place _ c.loop-place.choice c.choose-choice.result within c.loop-place.invariant c.choose-choice.ensures

pub returns-in-None-clause-longest : goal.returns-in-None-clause-longest
returns-in-None-clause-longest c =
    let whole : length c.args.guests.now ≤ c.loop-place.place = search rules in
    none_of_all c.args.guests.now c.args.now c.loop-place.place c.loop-place.choice c.in-None.is whole c.loop-place.invariant
