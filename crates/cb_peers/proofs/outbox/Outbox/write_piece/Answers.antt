use Rattle.std.proofs.Common.{◌-◌, ◌++◌, length, take, drop}
use Rattle.std.proofs.KnownBytes.{Appends-kept, Appends-trans}
use Rattle.cb_peers.proofs.Writing.{gone_more, gone_part, on_err}
use Rattle.cb_peers.proofs.outbox.Outbox.write_piece.Goals as goal

pub returns-in_err-taken-clause-part : goal.returns-in_err-taken-clause-part
returns-in_err-taken-clause-part g c =
    let (done, split, appended) = c.loop.invariant in
    on_err _ _ (gone_part _ _ _ done c.loop.rest.now split (Appends-kept _ _ _ done appended c.in_err-taken.ensures.bytes))

pub returns-in_err-note-clause-part : goal.returns-in_err-note-clause-part
returns-in_err-note-clause-part g c =
    let (done, split, appended) = c.loop.invariant in
    let rest = c.loop.rest.now in
    let n = c.in_ok-taken.taken in
    let more = Appends-trans _ _ _ done (take n rest) appended c.in_ok-taken.ensures.bytes in
    on_err _ _ (gone_part _ _ _ (done ++ take n rest) (take (length rest - n) (drop n rest)) (gone_more _ done rest n split) more)

pub loop-preserved : goal.loop-preserved
loop-preserved g c =
    let (done, split, appended) = c.loop.invariant in
    let rest = c.loop.rest.now in
    let n = c.in_ok-taken.taken in
    (done ++ take n rest, gone_more _ done rest n split, Appends-trans _ _ _ _ _ appended c.in_ok-taken.ensures.bytes)
