use Rattle.std.proofs.Common.{◌≡◌, ◌∙◌, ◌/◌, [], ap, length, get_or}
use Rattle.std.specs.Int.{w64, from_le_bytes}
use Rattle.std.specs.Simd.{first_chunks}
use Rattle.sha2.specs.Sha256.{sha256}
use Rattle.sha2.proofs.Facts256.{length-sha256}
use Rattle.cb_compact.specs.ShortIds.{key_hash, key_of}
use Rattle.cb_compact.proofs.short_ids.key.Goals as goal

pub returns : goal.returns
unfolding key_of
returns c =
    let hash : c.sha-hash.result ≡ key_hash c.args.header.now c.args.nonce = c.sha-hash.ensures ∙ ap sha256 c.key_text.ensures in
    let long : length c.as_slice.result.now ≡ 32 = ap length (c.as_slice.ensures ∙ c.sha-hash.ensures) ∙ length-sha256 c.key_text.result in
    let words : c.as_chunks.result.0.now ≡ first_chunks 8 4 (key_hash c.args.header.now c.args.nonce) = c.as_chunks.ensures.front ∙ ap (λ n. first_chunks 8 (n / 8) c.as_slice.result.now) long ∙ ap (first_chunks 8 4) (c.as_slice.ensures ∙ hash) in
    let first = c.from_le_bytes.ensures ∙ ap (λ ws. from_le_bytes w64 (get_or ws 0 [])) words in
    let second = c.from_le_bytes-2.ensures ∙ ap (λ ws. from_le_bytes w64 (get_or ws 1 [])) words in
    λ i. (first i, second i)
