use Rattle.std.proofs.Common.{rules, ◌≡◌, [], slice_index, slice_index_or, ap, sym, ◌∙◌, arith}
use Rattle.std.proofs.lemmas.List.{take_all}
use Rattle.std.proofs.lemmas.Slice.{overwrites}
use Rattle.std.specs.Int.{w32, to_be_bytes}
use Rattle.sha2.specs.Sha256.{digest_bytes}
use Rattle.sha2.proofs.Absorbing256.{digest_more}
use Rattle.cb_base.specs.Lanes.{lane}
use Rattle.cb_base.proofs.LaneLemmas.{lane_at}
use Rattle.cb_base.proofs.hashing.digest.Goals as goal

pub loop-i-init : goal.loop-i-init
unfolding digest_bytes
loop-i-init c = search rules

pub loop-i-preserved : goal.loop-i-preserved
loop-i-preserved c =
    let word : slice_index (lane c.args.k c.args.state.now) c.loop-i.i ≡ slice_index (slice_index_or c.args.state.now c.loop-i.i []) c.args.k = lane_at c.args.k c.loop-i.i c.args.state.now [] (omega arith) in (
      search (rules, overwrites),
      digest_more c.loop-i.out (lane c.args.k c.args.state.now) _ c.loop-i.i _ c.loop-i.invariant.1 (omega arith)
          (c.copy_from_slice.ensures.after ∙ c.to_be_bytes.ensures ∙ ap (to_be_bytes w32) (sym word)),
    )

pub returns : goal.returns
returns c =
    let done : c.loop-i.i ≡ 8 = omega arith in
    sym (take_all 32 c.loop-i.out (omega arith)) ∙ rw done at c.loop-i.invariant.1
