-- A strict beginning of a header's or a block's text is too short to be read.
use Rattle.std.proofs.Common.{◌≡◌, ℕ, ℤ, ◌<◌, ◌^◌, List, [], ◌++◌, length, Err, ◌≢◌}
use Rattle.std.specs.Int.{w32, to_le_bytes, cast_unsigned}
use Rattle.std.proofs.lemmas.List.Elements.{recursion_from_All}
use Rattle.cb_base.specs.declared.fault.Fault.TheVariants.{Truncated}
use Rattle.cb_base.specs.declared.hash.Hash256.{Hash256}
use Rattle.cb_base.specs.Reading.{number_at, signed_at}
use Rattle.cb_base.proofs.Fields.{wide32}
use Rattle.cb_base.proofs.CutTexts.{IsPart, some_of, short_then, short_last, number_part}
use Rattle.cb_block.specs.declared.tx.Tx.{Tx}
use Rattle.cb_block.specs.TxText.{list_text, tx_text, IsTx}
use Rattle.cb_block.specs.TxReading.{hash_at, list_at, tx_at}
use Rattle.cb_block.proofs.Parts.{signed32}
use Rattle.cb_block.proofs.TxLaws.{tx_kind}
use Rattle.cb_block.proofs.CutTxs.{signed_part, hash_part, list_part, tx_short}
use Rattle.cb_block.specs.declared.header.Header.{Header}
use Rattle.cb_block.specs.declared.block.Block.{Block}
use Rattle.cb_block.specs.BlockText.{header_text, block_text, IsHeader, IsBlock}
use Rattle.cb_block.specs.BlockReading.{header_at, block_at}
use Rattle.cb_block.proofs.Headers.{header_again}

header_short : (h : Header) (b c : List ℕ) → IsHeader h → header_text h ≡ b ++ c → 0 < length c → header_at b ≡ Err Truncated
unfolding header_at header_text
header_short h b c is e some =
    short_then ℤ (Header × List ℕ) (signed_at w32) _ (to_le_bytes w32 (cast_unsigned w32 h.version)) _ h.version b c (signed_part w32 (2 ^ 32) signed32 h.version is.version) (λ d1 q1.
    short_then Hash256 (Header × List ℕ) hash_at _ h.prev.0 _ h.prev d1 c (hash_part h.prev is.prev) (λ d2 q2.
    short_then Hash256 (Header × List ℕ) hash_at _ h.root.0 _ h.root d2 c (hash_part h.root is.root) (λ d3 q3.
    short_then ℕ (Header × List ℕ) (number_at w32) _ (to_le_bytes w32 h.time) _ h.time d3 c (number_part w32 (2 ^ 32) wide32 h.time is.time) (λ d4 q4.
    short_then ℕ (Header × List ℕ) (number_at w32) _ (to_le_bytes w32 h.bits) _ h.bits d4 c (number_part w32 (2 ^ 32) wide32 h.bits is.bits) (λ d5 q5.
    short_last ℕ (Header × List ℕ) (number_at w32) _ (to_le_bytes w32 h.nonce) h.nonce d5 c (number_part w32 (2 ^ 32) wide32 h.nonce is.nonce) some q5) q4) q3) q2) q1) e

header_part : (h : Header) → IsHeader h → IsPart Header header_at (header_text h) h
header_part h is = record { again = λ rest. header_again h rest is; short = λ b c e some. header_short h b c is e some }

block_short : (x : Block) (b c : List ℕ) → IsBlock x → block_text x ≡ b ++ c → 0 < length c → block_at b ≡ Err Truncated
unfolding block_at block_text
block_short x b c is e some =
    short_then Header (Block × List ℕ) header_at _ (header_text x.header) _ x.header b c (header_part x.header is.header) (λ d q.
    short_last (List Tx) (Block × List ℕ) (list_at 10 tx_at) _ (list_text tx_text x.txs) x.txs d c (list_part Tx tx_text tx_at IsTx 10 tx_kind tx_short x.txs is.few (recursion_from_All IsTx x.txs is.txs)) some q) e

pub beginning_of_header : (header : Header) (b c : List ℕ) → IsHeader header → header_text header ≡ b ++ c → c ≢ [] → header_at b ≡ Err Truncated
beginning_of_header header b c is e some = header_short header b c is e (some_of c some)

pub beginning_of_block : (block : Block) (b c : List ℕ) → IsBlock block → block_text block ≡ b ++ c → c ≢ [] → block_at b ≡ Err Truncated
beginning_of_block block b c is e some = block_short block b c is e (some_of c some)
