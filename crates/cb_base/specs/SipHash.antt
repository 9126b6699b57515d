-- SipHash-2-4 over words of 64 bits (Aumasson and Bernstein, "SipHash: a fast short-input PRF",
-- 2012).
use Rattle.std.specs.Prelude.{ℕ, ◌+◌, ◌-◌, ◌*◌, ◌/◌, ◌%◌, ◌^◌, List, [], ◌∷◌, ◌++◌, length, drop, map, replicate, bit_xor}
use Rattle.std.specs.List.{fold}
use Rattle.std.specs.Int.{w64, from_le_bytes, rotate_left}
use Rattle.std.specs.Simd.{first_chunks}
use Rattle.cb_base.specs.declared.sip_hash.SipState.{SipState}

-- the sum of two words modulo 2 ^ 64
abbrev pub sum_of_words : ℕ → ℕ → ℕ
sum_of_words x y = (x + y) % 2 ^ 64

-- the initial state under the key words k0 and k1
unfoldable pub sip_start : ℕ → ℕ → SipState
sip_start k0 k1 = record {
  v0 = bit_xor k0 0x736f_6d65_7073_6575;
  v1 = bit_xor k1 0x646f_7261_6e64_6f6d;
  v2 = bit_xor k0 0x6c79_6765_6e65_7261;
  v3 = bit_xor k1 0x7465_6462_7974_6573;
}

-- one SipRound: two halves, each of two sums, rotations and exclusive ors
unfoldable pub sip_round : SipState → SipState
sip_round s =
    let a0 = sum_of_words s.v0 s.v1 in
    let a1 = bit_xor (rotate_left w64 s.v1 13) a0 in
    let a2 = sum_of_words s.v2 s.v3 in
    let a3 = bit_xor (rotate_left w64 s.v3 16) a2 in
    let b0 = sum_of_words (rotate_left w64 a0 32) a3 in
    let b3 = bit_xor (rotate_left w64 a3 21) b0 in
    let b2 = sum_of_words a2 a1 in
    let b1 = bit_xor (rotate_left w64 a1 17) b2 in
    record { v0 = b0; v1 = b1; v2 = rotate_left w64 b2 32; v3 = b3 }

-- mixes in a word of the message: exclusive or into v3, two rounds, exclusive or into v0
unfoldable pub with_word : SipState → ℕ → SipState
with_word s m =
    let t = sip_round (sip_round (record s { v3 = bit_xor s.v3 m })) in
    record t { v0 = bit_xor t.v0 m }

-- the last word of a message: the bytes after its last whole word, then zeros, and in the top byte
-- the low byte of its length
abbrev pub last_word : List ℕ → ℕ
last_word bytes =
    let whole = length bytes / 8 * 8 in
    from_le_bytes w64
    (drop whole bytes ++ replicate (7 - length bytes % 8) 0 ++ (length bytes % 256) ∷ [])

-- the words of a message, little-endian, eight bytes each
abbrev pub message_words : List ℕ → List ℕ
message_words bytes =
    map (from_le_bytes w64) (first_chunks 8 (length bytes / 8) bytes) ++ last_word bytes ∷ []

-- the hash from the last state: four rounds, then the exclusive or of the four words
unfoldable pub sip_end : SipState → ℕ
sip_end s =
    let t = sip_round (sip_round (sip_round (sip_round (record s { v2 = bit_xor s.v2 255 })))) in
    bit_xor (bit_xor (bit_xor t.v0 t.v1) t.v2) t.v3

-- SipHash-2-4 of the bytes under the key words k0 and k1
unfoldable pub siphash_2_4 : ℕ → ℕ → List ℕ → ℕ
siphash_2_4 k0 k1 bytes = sip_end (fold with_word (sip_start k0 k1) (message_words bytes))
