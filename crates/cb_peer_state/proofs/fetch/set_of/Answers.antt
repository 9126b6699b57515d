use Rattle.std.proofs.Common.{◌∙◌, List, ap, sym, take}
use Rattle.std.proofs.lemmas.List.{take_more}
use Rattle.cb_base.specs.declared.hash.Hash256.{Hash256}
use Rattle.cb_peer_state.specs.Fetching.{has}
use Rattle.cb_peer_state.proofs.Last.{set_more}
use Rattle.cb_peer_state.proofs.fetch.set_of.Goals as goal

pub loop-hash-preserved : goal.loop-hash-preserved
loop-hash-preserved c =
    let i = c.loop-hash.hash-index in
    let hashes = c.args.hashes.now in (
      λ other. set_more c.loop-hash.set.keys c.insert.new.self.keys (take i hashes) _ c.in_ok-insert.ensures.updates.0 c.loop-hash.invariant.0 other
          ∙ ap (λ (l : List Hash256). has l other) (sym (take_more hashes i _ c.loop-hash-test.true)),
      c.in_ok-insert.ensures.hasher ∙ c.loop-hash.invariant.1,
    )
