use Rattle.std.proofs.Common.{◌≡◌, ◌+◌, ◌++◌, length, take, ap, sym, subst, ◌∙◌}
use Rattle.std.proofs.KnownBytes.{Appends-trans}
use Rattle.std.proofs.lemmas.Grind.{flat_map-append}
use Rattle.std.proofs.Math.Seq.{take-append-add, take-length}
use Rattle.std.specs.Io.KnownBytes.{Appends}
use Rattle.cb_wire.specs.Envelope.{text}
use Rattle.cb_wire.specs.Stream.{texts}
use Rattle.cb_peers.proofs.outbox.Outbox.write_to.Goals.{in-End, in-Messages+in-Err}
use Rattle.cb_peers.proofs.outbox.Outbox.write_to.Goals as goal

pub loop-preserved-in-Ok-write_batch : goal.loop-preserved-in-Ok-write_batch
loop-preserved-in-Ok-write_batch g c =
    let (done, wrote) = c.loop.invariant.wrote in
    let batch = c.due.new.batch.items in
    record {
      empty = c.in-Ok-write_batch.ensures.empty;
      room = c.in-Ok-write_batch.ensures.room;
      wrote = (
        done ++ batch,
        subst (Appends (g.W.Write.contents c.args.writer.now) (g.W.Write.contents c.write_batch.new.writer)) (sym (flat_map-append text done batch))
            (Appends-trans _ _ _ (texts done) (texts batch) wrote c.in-Ok-write_batch.ensures.whole),
      );
    }

pub returns-in-loop : goal.returns-in-loop
returns-in-loop g c =
    let (done, wrote) = c.loop.invariant.wrote in
    let batch = c.due.new.batch.items in
    let told = g.W.Write.contents in
    let old = told c.args.writer.now in
    elim c.match-due.branch [
      | in-Messages+in-Err w ↦
          let (n, part) = w.in-Err.ensures.part in
          let new = told w.write_batch.new.writer in
          let all : take (length (texts done) + n) (texts (done ++ batch)) ≡ texts done ++ take n (texts batch) =
          ap (take (length (texts done) + n)) (flat_map-append text done batch) ∙ take-append-add (texts done) (texts batch) n in (
            done ++ batch,
            length (texts done) + n,
            subst (λ writer. Appends old (told writer) (take (length (texts done) + n) (texts (done ++ batch)))) (sym w.writer-is)
                (subst (Appends old new) (sym all) (Appends-trans _ _ _ (texts done) (take n (texts batch)) wrote part)),
          )
      | in-End w ↦ (
        done,
        length (texts done),
        subst (λ writer. Appends old (told writer) (take (length (texts done)) (texts done))) (sym w.writer-is)
            (subst (Appends old (told c.loop.writer)) (sym (take-length (texts done))) wrote),
      )
    ]
