-- How many transactions a block has, and how long the text of its compact form is.
use Rattle.std.proofs.Common.{◌≡◌, ◌≢◌, ℕ, ◌+◌, ◌*◌, ◌<◌, ◌≤◌, List, [], ◌∷◌, ◌++◌, length, map, flat_map, All, ◌^◌, refl, ap, ◌∙◌, arith, length-append, length-take}
use Rattle.std.proofs.lemmas.List.{length-map}
use Rattle.std.proofs.lemmas.Simd.{map-map}
use Rattle.std.proofs.lemmas.List.Concat.{flat_map-cons}
use Rattle.std.proofs.lemmas.List.Elements.{All-head, All-tail, All-weaker}
use Rattle.std.specs.Int.{w32, w64, to_le_bytes, cast_unsigned}
use Rattle.cb_base.specs.DoubleHash.{double_hash}
use Rattle.cb_base.specs.declared.hash.Hash256.{Hash256}
use Rattle.cb_base.specs.CompactSize.{compact_text}
use Rattle.cb_base.specs.declared.fault.TxRule.TheVariants.{NoInputs, NoOutputs}
use Rattle.cb_base.proofs.Compact.{compact_long}
use Rattle.cb_block.specs.TxRules.{MeetsRules}
use Rattle.cb_block.specs.TxText.{IsInput, IsTx, input_text, list_text, output_text, script_text, tx_text}
use Rattle.cb_block.specs.declared.tx.Tx.{Tx}
use Rattle.cb_block.specs.declared.tx.TxIn.{TxIn}
use Rattle.cb_block.specs.declared.tx.TxOut.{TxOut}
use Rattle.cb_block.specs.Blocks.{MeetsBlockRules, texts}
use Rattle.cb_block.specs.Soundness.{names}
use Rattle.cb_block.specs.declared.header.Header.{Header}
use Rattle.cb_block.specs.BlockText.{block_text, header_text}
use Rattle.cb_block.specs.declared.block.Block.{Block}
use Rattle.cb_compact.specs.Honest.{id_of}
use Rattle.cb_compact.specs.ShortIds.{key_of, short_id_of}
use Rattle.cb_wire.specs.CompactBlocks.{compact_block_text}
use Rattle.cb_wire.specs.ShortForms.{IsShortForm, ShortForm, prefilled_text, short_form_text, short_id_text}
use Rattle.cb_wire.specs.declared.compact_block.HeaderAndShortIds.{HeaderAndShortIds}
use Rattle.cb_wire.specs.declared.prefilled.PrefilledTransaction.{PrefilledTransaction}
use Rattle.cb_wire.proofs.Counting.{compact_most}
use Rattle.cb_compact.specs.Shortening.{behind_first, shortened_of, whole_first}
use Rattle.cb_compact.specs.Sizes.{BeginsByHash, SpendsByHash}

-- ---- how short a transaction may be

script_least : (script : List ℕ) → 1 ≤ length (script_text script)
unfolding script_text
script_least script = omega (arith, length-append (compact_text (length script)) script, compact_long (length script))

input_least : (input : TxIn) → length input.prev.txid.0 ≡ 32 → 41 ≤ length (input_text input)
unfolding input_text
input_least input whole =
    omega (arith, whole, script_least input.script, length-append input.prev.txid.0 (to_le_bytes w32 input.prev.index ++ (script_text input.script ++ to_le_bytes w32 input.sequence)), length-append (script_text input.script) (to_le_bytes w32 input.sequence))

output_least : (output : TxOut) → 9 ≤ length (output_text output)
unfolding output_text
output_least output = omega (arith, script_least output.script, length-append (to_le_bytes w64 (cast_unsigned w64 output.value)) (script_text output.script))

list_length : {A : Type 0} (text : A → List ℕ) (xs : List A) → length (list_text text xs) ≡ length (compact_text (length xs)) + length (flat_map text xs)
unfolding list_text
list_length text xs = length-append (compact_text (length xs)) (flat_map text xs)

list_first : {A : Type 0} (text : A → List ℕ) (x : A) (xs : List A) (least : ℕ) → least ≤ length (text x) → 1 + least ≤ length (list_text text (x ∷ xs))
list_first text x xs least long =
    omega (arith, long, compact_long (length (x ∷ xs)), list_length text (x ∷ xs), length-append (text x) (flat_map text xs), ap length (flat_map-cons text x xs))

inputs_least : (inputs : List TxIn) → inputs ≢ [] → BeginsByHash inputs → 42 ≤ length (list_text input_text inputs)
inputs_least [] some whole = absurd (some refl)
inputs_least (first ∷ others) some whole = list_first input_text first others 41 (input_least first whole)

outputs_least : (outputs : List TxOut) → outputs ≢ [] → 10 ≤ length (list_text output_text outputs)
outputs_least [] some = absurd (some refl)
outputs_least (first ∷ others) some = list_first output_text first others 9 (output_least first)

pub tx_least : (tx : Tx) → SpendsByHash tx → MeetsRules tx → 60 ≤ length (tx_text tx)
unfolding tx_text
tx_least tx whole meets =
    omega (
      arith,
      inputs_least tx.inputs (meets NoInputs) whole,
      outputs_least tx.outputs (meets NoOutputs),
      length-append (list_text input_text tx.inputs) (list_text output_text tx.outputs ++ to_le_bytes w32 tx.lock_time),
      length-append (list_text output_text tx.outputs) (to_le_bytes w32 tx.lock_time),
    )

-- ---- how many transactions a block may have

txs_least : (txs : List Tx) → All SpendsByHash txs → All MeetsRules txs → length txs * 60 ≤ length (flat_map tx_text txs)
txs_least [] whole meet = omega arith
txs_least (tx ∷ txs) whole meet =
    omega (
      arith,
      tx_least tx (All-head SpendsByHash tx txs whole) (All-head MeetsRules tx txs meet),
      txs_least txs (All-tail SpendsByHash tx txs whole) (All-tail MeetsRules tx txs meet),
      length-append (tx_text tx) (flat_map tx_text txs),
      ap length (flat_map-cons tx_text tx txs),
    )

block_length : (block : Block) → length (block_text block) ≡ length (header_text block.header) + (length (compact_text (length block.txs)) + length (flat_map tx_text block.txs))
unfolding block_text
block_length block = length-append (header_text block.header) (list_text tx_text block.txs) ∙ ap (λ n. length (header_text block.header) + n) (list_length tx_text block.txs)

pub few_txs : (block : Block) → All SpendsByHash block.txs → MeetsBlockRules block → length block.txs ≤ 16666
few_txs block whole meets = omega (arith, txs_least block.txs whole meets.txs, block_length block, meets.size)

inputs_begin : (inputs : List TxIn) → All IsInput inputs → BeginsByHash inputs
inputs_begin [] are = tt
inputs_begin (first ∷ others) are = (All-head IsInput first others are).txid

pub few_of_ours : (block : Block) → All IsTx block.txs → MeetsBlockRules block → length block.txs ≤ 16666
few_of_ours block are meets = few_txs block (All-weaker IsTx SpendsByHash (λ tx is. inputs_begin tx.inputs is.inputs) block.txs are) meets

-- ---- how long the compact form is

ids_most : (ids : List ℕ) → length (flat_map short_id_text ids) ≤ length ids * 6
ids_most [] = omega arith
ids_most (id ∷ ids) =
    omega (arith, ids_most ids, length-take 6 (to_le_bytes w64 id), length-append (short_id_text id) (flat_map short_id_text ids), ap length (flat_map-cons short_id_text id ids))

prefilled_length : (given : PrefilledTransaction) → length (prefilled_text given) ≡ length (compact_text given.difference) + length (tx_text given.tx)
unfolding prefilled_text
prefilled_length given = length-append (compact_text given.difference) (tx_text given.tx)

first_most : (txs : List Tx) → length (flat_map prefilled_text (whole_first txs)) ≤ 9 + length (flat_map tx_text txs)
first_most [] = omega arith
first_most (first ∷ others) =
    let given : PrefilledTransaction = record { difference = 0; tx = first } in
    omega (
      arith,
      compact_most 0,
      prefilled_length given,
      length-append (prefilled_text given) (flat_map prefilled_text []),
      ap length (flat_map-cons prefilled_text given []),
      length-append (tx_text first) (flat_map tx_text others),
      ap length (flat_map-cons tx_text first others),
    )

behind_many : (txs : List Tx) → length (behind_first txs) ≤ length txs
behind_many [] = omega arith
behind_many (first ∷ others) = omega arith

pub shortened_fits : (block : Block) (nonce : ℕ) → length block.txs ≤ 16666 → length (block_text block) ≤ 1000000 → length (compact_block_text (shortened_of block nonce)) ≤ 4000000
unfolding compact_block_text short_form_text shortened_of
shortened_fits block nonce few size =
    let ids : List ℕ = map (id_of block.header nonce) (behind_first block.txs) in
    let given = whole_first block.txs in
    let many : length ids ≡ length (behind_first block.txs) = length-map (behind_first block.txs) (id_of block.header nonce) in
    omega (
      arith,
      size,
      few,
      many,
      behind_many block.txs,
      block_length block,
      ids_most ids,
      first_most block.txs,
      compact_most (length ids),
      compact_most (length given),
      list_length short_id_text ids,
      list_length prefilled_text given,
      length-append (list_text short_id_text ids) (list_text prefilled_text given),
      length-append (to_le_bytes w64 nonce) (list_text short_id_text ids ++ list_text prefilled_text given),
      length-append (header_text block.header) (to_le_bytes w64 nonce ++ (list_text short_id_text ids ++ list_text prefilled_text given)),
    )

-- ---- what the form is made of

named_behind : (key : ℕ × ℕ) (txs : List Tx) → map (short_id_of key) (behind_first (names (texts txs))) ≡ map (λ tx. short_id_of key (double_hash (tx_text tx))) (behind_first txs)
named_behind key [] = refl
named_behind key (first ∷ others) =
    ap (map (short_id_of key)) (map-map double_hash tx_text others) ∙ map-map (short_id_of key) (λ tx. double_hash (tx_text tx)) others

pub ids_behind_are : (block : Block) (nonce : ℕ) (header : Header) (key : ℕ × ℕ) (txids : List Hash256) (ids : List ℕ) → header ≡ block.header → key ≡ key_of header nonce → txids ≡ names (texts block.txs)
    → ids ≡ map (short_id_of key) (behind_first txids) → ids ≡ map (id_of block.header nonce) (behind_first block.txs)
ids_behind_are block nonce header key txids ids same keyed named are =
    are ∙ ap (λ k. map (short_id_of k) (behind_first txids)) (keyed ∙ ap (λ h. key_of h nonce) same)
    ∙ ap (λ list. map (short_id_of (key_of block.header nonce)) (behind_first list)) named
    ∙ named_behind (key_of block.header nonce) block.txs

counted_form : (txs : List Tx) → 0 < length txs → length (behind_first txs) + length (whole_first txs) ≡ length txs
counted_form [] some = absurd (omega (arith, some))
counted_form (first ∷ others) some = omega arith

pub is_short_form : (block : Block) (nonce : ℕ) (ids : List ℕ) (given : List PrefilledTransaction) → 0 < length block.txs → length block.txs ≤ 16666 → ids ≡ map (id_of block.header nonce) (behind_first block.txs) → given ≡ whole_first block.txs
    → All (λ id. id < 2 ^ 48) ids → IsShortForm (record { ids = ids; prefilled = given })
is_short_form block nonce ids given some few are whole low =
    let many : length ids ≡ length (behind_first block.txs) = ap length are ∙ length-map (behind_first block.txs) (id_of block.header nonce) in
    let all = counted_form block.txs some in
    record {
      some = omega (arith, many, ap length whole, all, some);
      few = omega (arith, many, ap length whole, all, few);
      ids = low;
    }

pub shortened_is : (block : Block) (nonce : ℕ) (header : Header) (ids : List ℕ) (given : List PrefilledTransaction) (txs : ShortForm) → header ≡ block.header → ids ≡ map (id_of block.header nonce) (behind_first block.txs)
    → given ≡ whole_first block.txs → txs ≡ record { ids = ids; prefilled = given } → record { header = header; nonce = nonce; txs = txs } ≡ shortened_of block nonce
unfolding shortened_of
shortened_is block nonce header ids given txs same are whole is =
    let made : Header → ShortForm → HeaderAndShortIds = λ h form. record { header = h; nonce = nonce; txs = form } in
    let lists : List ℕ → List PrefilledTransaction → ShortForm = λ i g. record { ids = i; prefilled = g } in
    ap (λ h. made h txs) same ∙ ap (made block.header) (is ∙ ap (λ i. lists i given) are ∙ ap (lists (map (id_of block.header nonce) (behind_first block.txs))) whole)
