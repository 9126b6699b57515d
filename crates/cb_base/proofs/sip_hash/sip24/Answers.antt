use Rattle.std.proofs.Common.{arith, ap, ◌∙◌, map}
use Rattle.std.proofs.lemmas.List.{take_all}
use Rattle.std.specs.Int.{w64, from_le_bytes}
use Rattle.std.specs.List.{fold}
use Rattle.cb_base.specs.SipHash.{sip_end, sip_start, with_word}
use Rattle.cb_base.proofs.SipWords.{last_word_by, sip_by}
use Rattle.cb_base.proofs.sip_hash.sip24.Goals as goal

pub returns : goal.returns
returns c =
    let all = take_all c.loop-word.word-index c.as_chunks.result.0.now (omega (arith, c.loop-word-test.false)) ∙ c.as_chunks.ensures.front in
    let whole = c.loop-word.invariant ∙ ap (λ words. fold with_word (sip_start c.args.k0 c.args.k1) (map (from_le_bytes w64) words)) all in
    let last = c.from_le_bytes-2.ensures ∙ ap (from_le_bytes w64) c.last_bytes-last.ensures ∙ last_word_by c.args.bytes.now c.as_chunks.result.1.now c.as_chunks.ensures.back c.as_chunks.ensures.back_len in
    sip_by c.args.k0 c.args.k1 c.args.bytes.now c.loop-word.state c.from_le_bytes-2.result c.finish.result whole last (c.finish.ensures ∙ ap sip_end c.absorb-2.ensures)
