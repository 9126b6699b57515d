-- A strict beginning of a transaction's text is too short to be read.
use Rattle.std.proofs.Common.{◌≡◌, ℕ, ◌*◌, ◌<◌, ◌^◌, Bool, true, false, cond, ltb, ℤ, List, [], ◌∷◌, ◌++◌, length, SFits, Ok, Err, refl, sym, ap, ◌∙◌, arith, ◌≢◌}
use Rattle.std.specs.List.{flat_map, AllByRecursion}
use Rattle.std.specs.Int.{Width, w32, w64, byte_len, to_le_bytes, cast_unsigned}
use Rattle.std.proofs.lemmas.Bool.{lt-ltb}
use Rattle.std.proofs.lemmas.List.{length-append}
use Rattle.std.proofs.lemmas.List.Concat.{flat_map-cons}
use Rattle.std.proofs.lemmas.List.Elements.{recursion_from_All}
use Rattle.cb_base.specs.declared.fault.Fault.TheVariants.{Truncated}
use Rattle.cb_base.specs.declared.hash.Hash256.{Hash256}
use Rattle.cb_base.specs.CompactSize.{compact_text, compact_at}
use Rattle.cb_base.specs.Reading.{Read, ◌>>=◌, bytes_at, number_at, signed_at}
use Rattle.cb_base.proofs.Fields.{wide32}
use Rattle.cb_base.proofs.CutTexts.{IsPart, some_of, short_then, short_last, bytes_part, bytes_short, number_part, compact_part}
use Rattle.cb_block.specs.declared.tx.TxIn.{TxIn}
use Rattle.cb_block.specs.declared.tx.TxOut.{TxOut}
use Rattle.cb_block.specs.declared.tx.Tx.{Tx}
use Rattle.cb_block.specs.TxText.{script_text, input_text, output_text, list_text, tx_text, IsInput, IsOutput, IsTx}
use Rattle.cb_block.specs.TxReading.{hash_at, script_at, count_at, items_at, list_at, input_at, output_at, tx_at}
use Rattle.cb_block.proofs.Parts.{IsSigned, signed32, signed64, signed_again, hash_again, script_again, IsKind, list_again}
use Rattle.cb_block.proofs.TxLaws.{input_kind, output_kind}

signed_short : (w : Width) (bytes : List ℕ) → length bytes < byte_len w → signed_at w bytes ≡ Err Truncated
signed_short w bytes lt = let e : ltb (length bytes) (byte_len w) ≡ true = lt-ltb _ _ lt in rw e refl

pub signed_part : (w : Width) (limit : ℕ) (s : IsSigned w limit) (z : ℤ) → SFits w z → IsPart ℤ (signed_at w) (to_le_bytes w (cast_unsigned w z)) z
signed_part w limit s z fits = record {
  again = λ rest. signed_again w limit s z rest fits;
  short = λ b c e some. signed_short w b (omega (arith, s.wide.len (cast_unsigned w z), ap length e, length-append b c));
}

pub hash_part : (h : Hash256) → length h.0 ≡ 32 → IsPart Hash256 hash_at h.0 h
unfolding hash_at
hash_part h len = record {
  again = λ rest. hash_again h rest len;
  short = λ b c e some. short_last (List ℕ) (Hash256 × List ℕ) (bytes_at 32) (λ hash. Ok (record { 0 = hash.0 }, hash.1)) h.0 h.0 b c (bytes_part 32 h.0 len) some e;
}

script_part : (s : List ℕ) → length s < 2 ^ 64 → IsPart (List ℕ) script_at (script_text s) s
unfolding script_at script_text
script_part s few = record {
  again = λ rest. script_again s rest few;
  short = λ b c e some.
      short_then ℕ (List ℕ × List ℕ) compact_at (λ n. bytes_at n.0 n.1) (compact_text (length s)) s (length s) b c (compact_part (length s) few)
      (λ d q. bytes_short (length s) d (omega (arith, ap length q, length-append d c))) e;
}

-- ---- lists behind their count

-- a count, where its items don't fit and where they do
abbrev counted : Bool → ℕ × List ℕ → Read ℕ
counted short n = cond short (Err Truncated) (Ok n)

module _ (A : Type 0) (text : A → List ℕ) (item_at : List ℕ → Read A) (Is : A → Type 0) (least : ℕ) (kind : IsKind A text item_at Is least)
    (short : (x : A) (b c : List ℕ) → Is x → text x ≡ b ++ c → 0 < length c → item_at b ≡ Err Truncated) where
  items_short : (xs : List A) (b c : List ℕ) → AllByRecursion Is xs → flat_map text xs ≡ b ++ c → 0 < length c → items_at item_at (length xs) b ≡ Err Truncated
  unfolding items_at
  items_short [] b c are e some = absurd (omega (arith, ap length e, length-append b c))
  items_short (x ∷ xs) b c are e some =
      short_then A (List A × List ℕ) item_at (λ first. items_at item_at (length xs) first.1 >>= λ others. Ok (first.0 ∷ others.0, others.1)) (text x) (flat_map text xs) x b c
      (record { again = λ rest. kind.again x rest are.0; short = λ f g p more. short x f g are.0 p more })
      (λ d q. ap (λ (r : Read (List A)). r >>= λ others. Ok (x ∷ others.0, others.1)) (items_short xs d c are.1 q some))
      (sym (flat_map-cons text x xs) ∙ e)

  guarded : (short_of : Bool) (xs : List A) (d c : List ℕ) → AllByRecursion Is xs → flat_map text xs ≡ d ++ c → 0 < length c
      → (counted short_of (length xs, d) >>= λ n. items_at item_at n.0 n.1) ≡ Err Truncated
  guarded true xs d c are q some = refl
  guarded false xs d c are q some = items_short xs d c are q some

  regroup : (r : Read ℕ) → ((r >>= λ n. counted (ltb (length n.1) (n.0 * least)) n) >>= λ n. items_at item_at n.0 n.1)
      ≡ (r >>= λ n. counted (ltb (length n.1) (n.0 * least)) n >>= λ m. items_at item_at m.0 m.1)
  regroup (Ok n) = refl
  regroup (Err fault) = refl

  pub list_part : (xs : List A) → length xs < 2 ^ 64 → AllByRecursion Is xs → IsPart (List A) (list_at least item_at) (list_text text xs) xs
  unfolding list_at count_at list_text
  list_part xs few are = record {
    again = λ rest. list_again A text item_at Is least kind xs rest few are;
    short = λ b c e some.
        regroup (compact_at b)
        ∙ short_then ℕ (List A × List ℕ) compact_at (λ n. counted (ltb (length n.1) (n.0 * least)) n >>= λ m. items_at item_at m.0 m.1) (compact_text (length xs)) (flat_map text xs) (length xs) b c
        (compact_part (length xs) few) (λ d q. guarded (ltb (length d) (length xs * least)) xs d c are q some) e;
  }

-- ---- inputs, outputs and transactions

input_short : (x : TxIn) (b c : List ℕ) → IsInput x → input_text x ≡ b ++ c → 0 < length c → input_at b ≡ Err Truncated
unfolding input_at input_text
input_short x b c is e some =
    short_then Hash256 (TxIn × List ℕ) hash_at _ x.prev.txid.0 _ x.prev.txid b c (hash_part x.prev.txid is.txid) (λ d1 q1.
    short_then ℕ (TxIn × List ℕ) (number_at w32) _ (to_le_bytes w32 x.prev.index) _ x.prev.index d1 c (number_part w32 (2 ^ 32) wide32 x.prev.index is.index) (λ d2 q2.
    short_then (List ℕ) (TxIn × List ℕ) script_at _ (script_text x.script) _ x.script d2 c (script_part x.script is.script) (λ d3 q3.
    short_last ℕ (TxIn × List ℕ) (number_at w32) _ (to_le_bytes w32 x.sequence) x.sequence d3 c (number_part w32 (2 ^ 32) wide32 x.sequence is.sequence) some q3) q2) q1) e

output_short : (x : TxOut) (b c : List ℕ) → IsOutput x → output_text x ≡ b ++ c → 0 < length c → output_at b ≡ Err Truncated
unfolding output_at output_text
output_short x b c is e some =
    short_then ℤ (TxOut × List ℕ) (signed_at w64) _ (to_le_bytes w64 (cast_unsigned w64 x.value)) _ x.value b c (signed_part w64 (2 ^ 64) signed64 x.value is.value) (λ d q.
    short_last (List ℕ) (TxOut × List ℕ) script_at _ (script_text x.script) x.script d c (script_part x.script is.script) some q) e

pub tx_short : (x : Tx) (b c : List ℕ) → IsTx x → tx_text x ≡ b ++ c → 0 < length c → tx_at b ≡ Err Truncated
unfolding tx_at tx_text
tx_short x b c is e some =
    short_then ℤ (Tx × List ℕ) (signed_at w32) _ (to_le_bytes w32 (cast_unsigned w32 x.version)) _ x.version b c (signed_part w32 (2 ^ 32) signed32 x.version is.version) (λ d1 q1.
    short_then (List TxIn) (Tx × List ℕ) (list_at 41 input_at) _ (list_text input_text x.inputs) _ x.inputs d1 c (list_part TxIn input_text input_at IsInput 41 input_kind input_short x.inputs is.few_inputs (recursion_from_All IsInput x.inputs is.inputs)) (λ d2 q2.
    short_then (List TxOut) (Tx × List ℕ) (list_at 9 output_at) _ (list_text output_text x.outputs) _ x.outputs d2 c (list_part TxOut output_text output_at IsOutput 9 output_kind output_short x.outputs is.few_outputs (recursion_from_All IsOutput x.outputs is.outputs)) (λ d3 q3.
    short_last ℕ (Tx × List ℕ) (number_at w32) _ (to_le_bytes w32 x.lock_time) x.lock_time d3 c (number_part w32 (2 ^ 32) wide32 x.lock_time is.lock_time) some q3) q2) q1) e

pub beginning_is_truncated : (tx : Tx) (b c : List ℕ) → IsTx tx → tx_text tx ≡ b ++ c → c ≢ [] → tx_at b ≡ Err Truncated
beginning_is_truncated tx b c is e some = tx_short tx b c is e (some_of c some)
