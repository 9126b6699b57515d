-- What lies at a span is what was written there.
use Rattle.std.proofs.Common.{◌≡◌, ℕ, ◌+◌, List, [], ◌∷◌, ◌++◌, length, map, take, drop, All, refl, sym, ap, subst, ◌∙◌, append_assoc, arith}
use Rattle.std.specs.List.{flat_map}
use Rattle.std.specs.Int.{w32, w64, to_le_bytes, cast_unsigned}
use Rattle.std.proofs.Math.Seq.{drop-append_seam, take-append_seam}
use Rattle.std.proofs.lemmas.List.{append-nil, length-append}
use Rattle.std.proofs.lemmas.List.Concat.{flat_map-cons}
use Rattle.std.proofs.lemmas.List.Elements.{All-head, All-tail}
use Rattle.cb_base.specs.CompactSize.{compact_text}
use Rattle.cb_block.specs.BlockText.{IsBlock, block_text, header_text}
use Rattle.cb_block.specs.declared.block.Block.{Block}
use Rattle.cb_relay.specs.Spans.{cut, inputs_at, inputs_of, outputs_at, outputs_of, script_span, spans_of, txs_at}
use Rattle.cb_block.specs.TxText.{IsInput, IsTx, input_text, list_text, output_text, script_text, tx_text}
use Rattle.cb_block.specs.declared.tx.Tx.{Tx}
use Rattle.cb_block.specs.declared.tx.TxIn.{TxIn}
use Rattle.cb_block.specs.declared.tx.TxOut.{TxOut}

-- a text behind a front
cut_behind : (front text back : List ℕ) (at n : ℕ) → at ≡ length front → n ≡ length text → take n (drop at (front ++ (text ++ back))) ≡ text
cut_behind front text back at n behind long =
    ap (λ k. take n (drop k (front ++ (text ++ back)))) behind
    ∙ ap (take n) (drop-append_seam front (text ++ back))
    ∙ ap (λ k. take k (text ++ back)) long
    ∙ take-append_seam text back

-- a script behind its length
script_behind : (front script back : List ℕ) (at : ℕ) → at ≡ length front → cut (front ++ (script_text script ++ back)) (script_span at script) ≡ script
unfolding script_text
script_behind front script back at behind =
    let size = compact_text (length script) in
    let same : front ++ (script_text script ++ back) ≡ (front ++ size) ++ (script ++ back) =
    ap (λ (y : List ℕ). front ++ y) (append_assoc size script back) ∙ sym (append_assoc front size (script ++ back)) in
    ap (λ (bytes : List ℕ). cut bytes (script_span at script)) same
    ∙ cut_behind (front ++ size) script back (at + length size) (length script) (omega (arith, behind, length-append front size)) refl

-- the first of several texts, and the others
here : {X : Type 0} (text : X → List ℕ) (front back : List ℕ) (x : X) (xs : List X) → front ++ (flat_map text (x ∷ xs) ++ back) ≡ front ++ (text x ++ (flat_map text xs ++ back))
here text front back x xs =
    ap (λ (y : List ℕ). front ++ (y ++ back)) (flat_map-cons text x xs)
    ∙ ap (λ (y : List ℕ). front ++ y) (append_assoc (text x) (flat_map text xs) back)

there : {X : Type 0} (text : X → List ℕ) (front back : List ℕ) (x : X) (xs : List X) → front ++ (flat_map text (x ∷ xs) ++ back) ≡ (front ++ text x) ++ (flat_map text xs ++ back)
there text front back x xs = here text front back x xs ∙ sym (append_assoc front (text x) (flat_map text xs ++ back))

-- ---- transactions

txs_lie : (front back : List ℕ) (at : ℕ) (txs : List Tx) → at ≡ length front → map (cut (front ++ (flat_map tx_text txs ++ back))) (txs_at at txs) ≡ map tx_text txs
txs_lie front back at [] behind = refl
txs_lie front back at (tx ∷ others) behind =
    let bytes = front ++ (flat_map tx_text (tx ∷ others) ++ back) in
    let first : cut bytes (record { offset = at; len = length (tx_text tx) }) ≡ tx_text tx =
    ap (λ (y : List ℕ). take (length (tx_text tx)) (drop at y)) (here tx_text front back tx others)
    ∙ cut_behind front (tx_text tx) (flat_map tx_text others ++ back) at (length (tx_text tx)) behind refl in
    let next : map (cut bytes) (txs_at (at + length (tx_text tx)) others) ≡ map tx_text others =
    ap (λ (y : List ℕ). map (cut y) (txs_at (at + length (tx_text tx)) others)) (there tx_text front back tx others)
    ∙ txs_lie (front ++ tx_text tx) back (at + length (tx_text tx)) others (omega (arith, behind, length-append front (tx_text tx))) in
    ap (λ (y : List ℕ). y ∷ map (cut bytes) (txs_at (at + length (tx_text tx)) others)) first
    ∙ ap (λ (ys : List (List ℕ)). tx_text tx ∷ ys) next

-- ---- inputs and outputs

input_behind : (front : List ℕ) (input : TxIn) (rest : List ℕ) (at : ℕ) → IsInput input → at ≡ length front → cut (front ++ (input_text input ++ rest)) (script_span (at + 36) input.script) ≡ input.script
unfolding input_text
input_behind front input rest at is behind =
    let name = input.prev.txid.0 in
    let place = to_le_bytes w32 input.prev.index in
    let last = to_le_bytes w32 input.sequence in
    let same : front ++ (input_text input ++ rest) ≡ (front ++ (name ++ place)) ++ (script_text input.script ++ (last ++ rest)) = simp append_assoc in
    ap (λ (y : List ℕ). cut y (script_span (at + 36) input.script)) same
    ∙ script_behind (front ++ (name ++ place)) input.script (last ++ rest) (at + 36) (omega (arith, behind, is.txid, length-append front (name ++ place), length-append name place))

inputs_lie : (front back : List ℕ) (at : ℕ) (inputs : List TxIn) → All IsInput inputs → at ≡ length front → map (λ input. cut (front ++ (flat_map input_text inputs ++ back)) input.script) (inputs_at at inputs) ≡ map (λ input. input.script) inputs
inputs_lie front back at [] are behind = refl
inputs_lie front back at (input ∷ others) are behind =
    let bytes = front ++ (flat_map input_text (input ∷ others) ++ back) in
    let first : cut bytes (script_span (at + 36) input.script) ≡ input.script =
    ap (λ (y : List ℕ). cut y (script_span (at + 36) input.script)) (here input_text front back input others)
    ∙ input_behind front input (flat_map input_text others ++ back) at (All-head IsInput input others are) behind in
    let next : map (λ other. cut bytes other.script) (inputs_at (at + length (input_text input)) others) ≡ map (λ other. other.script) others =
    ap (λ (y : List ℕ). map (λ other. cut y other.script) (inputs_at (at + length (input_text input)) others)) (there input_text front back input others)
    ∙ inputs_lie (front ++ input_text input) back (at + length (input_text input)) others (All-tail IsInput input others are) (omega (arith, behind, length-append front (input_text input))) in
    ap (λ (y : List ℕ). y ∷ map (λ other. cut bytes other.script) (inputs_at (at + length (input_text input)) others)) first
    ∙ ap (λ (ys : List (List ℕ)). input.script ∷ ys) next

output_behind : (front : List ℕ) (output : TxOut) (rest : List ℕ) (at : ℕ) → at ≡ length front → cut (front ++ (output_text output ++ rest)) (script_span (at + 8) output.script) ≡ output.script
unfolding output_text
output_behind front output rest at behind =
    let value = to_le_bytes w64 (cast_unsigned w64 output.value) in
    let same : front ++ (output_text output ++ rest) ≡ (front ++ value) ++ (script_text output.script ++ rest) = simp append_assoc in
    ap (λ (y : List ℕ). cut y (script_span (at + 8) output.script)) same
    ∙ script_behind (front ++ value) output.script rest (at + 8) (omega (arith, behind, length-append front value))

outputs_lie : (front back : List ℕ) (at : ℕ) (outputs : List TxOut) → at ≡ length front → map (λ output. cut (front ++ (flat_map output_text outputs ++ back)) output.script) (outputs_at at outputs) ≡ map (λ output. output.script) outputs
outputs_lie front back at [] behind = refl
outputs_lie front back at (output ∷ others) behind =
    let bytes = front ++ (flat_map output_text (output ∷ others) ++ back) in
    let first : cut bytes (script_span (at + 8) output.script) ≡ output.script =
    ap (λ (y : List ℕ). cut y (script_span (at + 8) output.script)) (here output_text front back output others)
    ∙ output_behind front output (flat_map output_text others ++ back) at behind in
    let next : map (λ other. cut bytes other.script) (outputs_at (at + length (output_text output)) others) ≡ map (λ other. other.script) others =
    ap (λ (y : List ℕ). map (λ other. cut y other.script) (outputs_at (at + length (output_text output)) others)) (there output_text front back output others)
    ∙ outputs_lie (front ++ output_text output) back (at + length (output_text output)) others (omega (arith, behind, length-append front (output_text output))) in
    ap (λ (y : List ℕ). y ∷ map (λ other. cut bytes other.script) (outputs_at (at + length (output_text output)) others)) first
    ∙ ap (λ (ys : List (List ℕ)). output.script ∷ ys) next

-- ---- a transaction and a block

pub inputs_lie_there : (tx : Tx) → IsTx tx → map (λ input. cut (tx_text tx) input.script) (inputs_of tx) ≡ map (λ input. input.script) tx.inputs
unfolding tx_text list_text
inputs_lie_there tx is =
    let version = to_le_bytes w32 (cast_unsigned w32 tx.version) in
    let size = compact_text (length tx.inputs) in
    let back = list_text output_text tx.outputs ++ to_le_bytes w32 tx.lock_time in
    let same : tx_text tx ≡ (version ++ size) ++ (flat_map input_text tx.inputs ++ back) = simp append_assoc in
    ap (λ (y : List ℕ). map (λ input. cut y input.script) (inputs_of tx)) same
    ∙ inputs_lie (version ++ size) back (4 + length size) tx.inputs is.inputs (omega (arith, length-append version size))

pub outputs_lie_there : (tx : Tx) → IsTx tx → map (λ output. cut (tx_text tx) output.script) (outputs_of tx) ≡ map (λ output. output.script) tx.outputs
unfolding tx_text list_text
outputs_lie_there tx is =
    let version = to_le_bytes w32 (cast_unsigned w32 tx.version) in
    let inputs = list_text input_text tx.inputs in
    let size = compact_text (length tx.outputs) in
    let back = to_le_bytes w32 tx.lock_time in
    let same : tx_text tx ≡ (version ++ (inputs ++ size)) ++ (flat_map output_text tx.outputs ++ back) = simp append_assoc in
    ap (λ (y : List ℕ). map (λ output. cut y output.script) (outputs_of tx)) same
    ∙ outputs_lie (version ++ (inputs ++ size)) back (4 + length inputs + length size) tx.outputs (omega (arith, length-append version (inputs ++ size), length-append inputs size))

header_long : (block : Block) → IsBlock block → length (header_text block.header) ≡ 80
unfolding header_text
header_long block is =
    let h = block.header in
    let tail = to_le_bytes w32 h.time ++ (to_le_bytes w32 h.bits ++ to_le_bytes w32 h.nonce) in
    omega (arith, is.header.prev, is.header.root, length-append (to_le_bytes w32 (cast_unsigned w32 h.version)) (h.prev.0 ++ (h.root.0 ++ tail)), length-append h.prev.0 (h.root.0 ++ tail), length-append h.root.0 tail)

pub txs_lie_there : (block : Block) → IsBlock block → map (cut (block_text block)) (spans_of block) ≡ map tx_text block.txs
unfolding block_text list_text
txs_lie_there block is =
    let header = header_text block.header in
    let size = compact_text (length block.txs) in
    let same : block_text block ≡ (header ++ size) ++ (flat_map tx_text block.txs ++ []) = simp (append_assoc, append-nil) in
    ap (λ (y : List ℕ). map (cut y) (spans_of block)) same
    ∙ txs_lie (header ++ size) [] (80 + length size) block.txs (omega (arith, header_long block is, length-append header size))
