-- A strict beginning of the text of a compact block, of a request for transactions or of transactions is too short to be read.
use Rattle.std.proofs.Common.{◌≡◌, ◌≢◌, ℕ, ◌+◌, ◌*◌, ◌^◌, ◌<◌, ◌≤◌, Bool, false, cond, ltb, eqb, List, [], ◌∷◌, ◌++◌, length, Result, Ok, Err, refl, sym, ap, ◌∙◌, append_assoc, arith}
use Rattle.std.specs.List.{flat_map, AllByRecursion}
use Rattle.std.specs.Int.{w64, to_le_bytes}
use Rattle.std.proofs.lemmas.Bool.{le-ltb}
use Rattle.std.proofs.lemmas.List.Elements.{recursion_from_All}
use Rattle.cb_base.specs.declared.fault.Fault.{Fault}
use Rattle.cb_base.specs.declared.fault.Fault.TheVariants.{Truncated, TooMany, Empty}
use Rattle.cb_base.specs.declared.hash.Hash256.{Hash256}
use Rattle.cb_base.specs.CompactSize.{compact_at, compact_text}
use Rattle.cb_base.specs.Reading.{Read, ◌>>=◌, bytes_at, number_at}
use Rattle.cb_base.proofs.Fields.{wide64}
use Rattle.cb_base.proofs.Compact.{compact_again, compact_short}
use Rattle.cb_base.proofs.CutTexts.{IsPart, some_of, short_then, short_last, bytes_part, number_part, compact_part}
use Rattle.cb_block.specs.declared.tx.Tx.{Tx}
use Rattle.cb_block.specs.TxText.{IsTx, list_text, tx_text}
use Rattle.cb_block.specs.TxReading.{count_at, hash_at, items_at, list_at, tx_at}
use Rattle.cb_block.proofs.TxLaws.{tx_kind, tx_again}
use Rattle.cb_block.proofs.CutTxs.{hash_part, list_part, tx_short}
use Rattle.cb_block.specs.declared.header.Header.{Header}
use Rattle.cb_block.specs.BlockReading.{header_at}
use Rattle.cb_block.specs.BlockText.{IsHeader, header_text}
use Rattle.cb_block.proofs.Headers.{header_again}
use Rattle.cb_block.proofs.CutTexts.{beginning_of_header}
use Rattle.cb_wire.specs.declared.prefilled.PrefilledTransaction.{PrefilledTransaction}
use Rattle.cb_wire.specs.declared.compact_block.HeaderAndShortIds.{HeaderAndShortIds}
use Rattle.cb_wire.specs.declared.block_transactions.BlockTransactions.{BlockTransactions}
use Rattle.cb_wire.specs.declared.block_transactions.BlockTransactionsRequest.{BlockTransactionsRequest}
use Rattle.cb_wire.specs.Lists.{limited_at, listed_at}
use Rattle.cb_wire.specs.ShortForms.{IsPrefilled, IsShortForm, IsShortId, ShortForm, prefilled_at, prefilled_count_at, prefilled_text, short_form_at, short_form_text, short_id_at, short_id_text}
use Rattle.cb_wire.specs.CompactBlocks.{IsCompactBlock, compact_block_at, compact_block_text}
use Rattle.cb_wire.specs.BlockTransactions.{IsBlockTxs, IsTxsRequest, block_txs_at, block_txs_text, txs_request_at, txs_request_text}
use Rattle.cb_wire.proofs.Compacting.{judged, not_none, prefilled_kind}
use Rattle.cb_wire.proofs.Fetching.{difference_kind}
use Rattle.cb_wire.proofs.SixBytes.{short_id_kind, short_id_long}

-- one read behind another, and behind that a third
in_turn : {A B C : Type 0} (r : Result A Fault) (f : A → Result B Fault) (g : B → Result C Fault) → ((r >>= f) >>= g) ≡ (r >>= λ x. f x >>= g)
in_turn (Ok x) f g = refl
in_turn (Err fault) f g = refl

not_empty : (c : List ℕ) → 0 < length c → c ≢ []
not_empty [] some e = absurd (omega (arith, some))
not_empty (x ∷ c) some e = absurd cc

-- a count, where its items don't fit and where they do
abbrev counted : ℕ → ℕ × List ℕ → Read ℕ
counted least n = cond (ltb (length n.1) (n.0 * least)) (Err Truncated) (Ok n)

-- a cut list behind its whole count is too short
cut_items : {A : Type 0} (text : A → List ℕ) (item_at : List ℕ → Read A) (least : ℕ) (xs : List A) (d c : List ℕ) → length xs < 2 ^ 64 → IsPart (List A) (list_at least item_at) (list_text text xs) xs
    → flat_map text xs ≡ d ++ c → 0 < length c → (counted least (length xs, d) >>= λ n. items_at item_at n.0 n.1) ≡ Err Truncated
unfolding list_at count_at list_text
cut_items text item_at least xs d c few part q some =
    let front : compact_text (length xs) ++ flat_map text xs ≡ (compact_text (length xs) ++ d) ++ c = ap (λ (y : List ℕ). compact_text (length xs) ++ y) q ∙ sym (append_assoc (compact_text (length xs)) d c) in
    ap (λ (r : Read ℕ). (r >>= counted least) >>= λ n. items_at item_at n.0 n.1) (sym (compact_again (length xs) d few))
    ∙ part.short (compact_text (length xs) ++ d) c front some

-- ---- lists with a limit

-- a count that is judged by a limit
abbrev within : ℕ → ℕ → ℕ × List ℕ → Read ℕ
within most least n = cond (ltb most n.0) (Err TooMany) (counted least n)

listed_short : (A : Type 0) (text : A → List ℕ) (item_at : List ℕ → Read A) (most least : ℕ) (xs : List A) (b c : List ℕ) → length xs < 2 ^ 64 → length xs ≤ most
    → IsPart (List A) (list_at least item_at) (list_text text xs) xs → list_text text xs ≡ b ++ c → 0 < length c → listed_at most least item_at b ≡ Err Truncated
unfolding listed_at limited_at list_text
listed_short A text item_at most least xs b c small few part e some =
    let fits : ltb most (length xs) ≡ false = le-ltb _ _ few in
    in_turn (compact_at b) (within most least) (λ n. items_at item_at n.0 n.1)
    ∙ short_then ℕ (List A × List ℕ) compact_at (λ n. within most least n >>= λ m. items_at item_at m.0 m.1) (compact_text (length xs)) (flat_map text xs) (length xs) b c (compact_part (length xs) small)
    (λ d q. ap (λ (t : Bool). cond t (Err TooMany) (counted least (length xs, d)) >>= λ m. items_at item_at m.0 m.1) fits ∙ cut_items text item_at least xs d c small part q some) e

-- ---- getblocktxn and blocktxn

difference_short : (n : ℕ) (b c : List ℕ) → n < 2 ^ 64 → compact_text n ≡ b ++ c → 0 < length c → compact_at b ≡ Err Truncated
difference_short n b c is e some = compact_short n b c e some

differences_part : (ns : List ℕ) → length ns ≤ 16666 → AllByRecursion (λ n. n < 2 ^ 64) ns → IsPart (List ℕ) (list_at 1 compact_at) (list_text compact_text ns) ns
differences_part ns few are = list_part ℕ compact_text compact_at (λ n. n < 2 ^ 64) 1 difference_kind difference_short ns (omega (arith, few)) are

txs_request_short : (x : BlockTransactionsRequest) (b c : List ℕ) → IsTxsRequest x → txs_request_text x ≡ b ++ c → 0 < length c → txs_request_at b ≡ Err Truncated
unfolding txs_request_at txs_request_text
txs_request_short x b c is e some =
    short_then Hash256 (BlockTransactionsRequest × List ℕ) hash_at _ x.block.0 _ x.block b c (hash_part x.block is.block) (λ d q.
    ap (λ (r : Read (List ℕ)). r >>= λ differences. Ok (record { block = x.block; differences = differences.0 }, differences.1))
    (listed_short ℕ compact_text compact_at 16666 1 x.differences d c (omega (arith, is.few)) is.few (differences_part x.differences is.few (recursion_from_All (λ n. n < 2 ^ 64) x.differences is.differences)) q some)) e

block_txs_short : (x : BlockTransactions) (b c : List ℕ) → IsBlockTxs x → block_txs_text x ≡ b ++ c → 0 < length c → block_txs_at b ≡ Err Truncated
unfolding block_txs_at block_txs_text
block_txs_short x b c is e some =
    short_then Hash256 (BlockTransactions × List ℕ) hash_at _ x.block.0 _ x.block b c (hash_part x.block is.block) (λ d q.
    short_last (List Tx) (BlockTransactions × List ℕ) (list_at 10 tx_at) _ (list_text tx_text x.txs) x.txs d c (list_part Tx tx_text tx_at IsTx 10 tx_kind tx_short x.txs is.few (recursion_from_All IsTx x.txs is.txs)) some q) e

-- ---- cmpctblock

short_id_short : (x : ℕ) (b c : List ℕ) → IsShortId x → short_id_text x ≡ b ++ c → 0 < length c → short_id_at b ≡ Err Truncated
unfolding short_id_at
short_id_short x b c is e some = short_last (List ℕ) (ℕ × List ℕ) (bytes_at 6) _ (short_id_text x) (short_id_text x) b c (bytes_part 6 (short_id_text x) (short_id_long x)) some e

tx_part : (x : Tx) → IsTx x → IsPart Tx tx_at (tx_text x) x
tx_part x is = record { again = λ rest. tx_again x rest is; short = λ b c e some. tx_short x b c is e some }

prefilled_short : (x : PrefilledTransaction) (b c : List ℕ) → IsPrefilled x → prefilled_text x ≡ b ++ c → 0 < length c → prefilled_at b ≡ Err Truncated
unfolding prefilled_at prefilled_text
prefilled_short x b c is e some =
    short_then ℕ (PrefilledTransaction × List ℕ) compact_at _ (compact_text x.difference) _ x.difference b c (compact_part x.difference is.difference) (λ d q.
    short_last Tx (PrefilledTransaction × List ℕ) tx_at _ (tx_text x.tx) x.tx d c (tx_part x.tx is.tx) some q) e

-- a cut list of prefilled transactions behind so many ids
behind_short : (ids : ℕ) (xs : List PrefilledTransaction) (b c : List ℕ) → 1 ≤ ids + length xs → ids + length xs ≤ 16666 → AllByRecursion IsPrefilled xs → list_text prefilled_text xs ≡ b ++ c → 0 < length c
    → (prefilled_count_at ids b >>= λ n. items_at prefilled_at n.0 n.1) ≡ Err Truncated
unfolding prefilled_count_at list_text
behind_short ids xs b c some few are e more =
    let small : length xs < 2 ^ 64 = omega (arith, few) in
    let part = list_part PrefilledTransaction prefilled_text prefilled_at IsPrefilled 11 prefilled_kind prefilled_short xs small are in
    let there : eqb (ids + length xs) 0 ≡ false = not_none _ some in
    let fits : ltb 16666 (ids + length xs) ≡ false = le-ltb _ _ few in
    in_turn (compact_at b) (judged ids) (λ n. items_at prefilled_at n.0 n.1)
    ∙ short_then ℕ (List PrefilledTransaction × List ℕ) compact_at (λ n. judged ids n >>= λ m. items_at prefilled_at m.0 m.1) (compact_text (length xs)) (flat_map prefilled_text xs) (length xs) b c (compact_part (length xs) small)
    (λ d q. ap (λ (t : Bool). cond t (Err Empty) (cond (ltb 16666 (ids + length xs)) (Err TooMany) (counted 11 (length xs, d))) >>= λ m. items_at prefilled_at m.0 m.1) there
    ∙ ap (λ (t : Bool). cond t (Err TooMany) (counted 11 (length xs, d)) >>= λ m. items_at prefilled_at m.0 m.1) fits
    ∙ cut_items prefilled_text prefilled_at 11 xs d c small part q more) e

short_form_short : (x : ShortForm) (b c : List ℕ) → IsShortForm x → AllByRecursion IsPrefilled x.prefilled → short_form_text x ≡ b ++ c → 0 < length c → short_form_at b ≡ Err Truncated
unfolding short_form_at short_form_text
short_form_short x b c is are e some =
    let part = list_part ℕ short_id_text short_id_at IsShortId 6 short_id_kind short_id_short x.ids (omega (arith, is.few)) (recursion_from_All IsShortId x.ids is.ids) in
    short_then (List ℕ) (ShortForm × List ℕ) (list_at 6 short_id_at) _ (list_text short_id_text x.ids) (list_text prefilled_text x.prefilled) x.ids b c part (λ d q.
    sym (in_turn (prefilled_count_at (length x.ids) d) (λ n. items_at prefilled_at n.0 n.1) (λ prefilled. Ok (record { ids = x.ids; prefilled = prefilled.0 }, prefilled.1)))
    ∙ ap (λ (r : Read (List PrefilledTransaction)). r >>= λ prefilled. Ok (record { ids = x.ids; prefilled = prefilled.0 }, prefilled.1)) (behind_short (length x.ids) x.prefilled d c is.some is.few are q some)) e

header_part : (h : Header) → IsHeader h → IsPart Header header_at (header_text h) h
header_part h is = record { again = λ rest. header_again h rest is; short = λ b c e some. beginning_of_header h b c is e (not_empty c some) }

compact_block_short : (x : HeaderAndShortIds) (b c : List ℕ) → IsCompactBlock x → compact_block_text x ≡ b ++ c → 0 < length c → compact_block_at b ≡ Err Truncated
unfolding compact_block_at compact_block_text
compact_block_short x b c is e some =
    short_then Header (HeaderAndShortIds × List ℕ) header_at _ (header_text x.header) _ x.header b c (header_part x.header is.header) (λ d q.
    short_then ℕ (HeaderAndShortIds × List ℕ) (number_at w64) _ (to_le_bytes w64 x.nonce) _ x.nonce d c (number_part w64 (2 ^ 64) wide64 x.nonce is.nonce) (λ f p.
    ap (λ (r : Read ShortForm). r >>= λ txs. Ok (record { header = x.header; nonce = x.nonce; txs = txs.0 }, txs.1))
    (short_form_short x.txs f c is.form (recursion_from_All IsPrefilled x.txs.prefilled is.prefilled) p some)) q) e

-- ---- the same, of bytes that are left out

pub beginning_of_compact_block : (x : HeaderAndShortIds) (b c : List ℕ) → IsCompactBlock x → compact_block_text x ≡ b ++ c → c ≢ [] → compact_block_at b ≡ Err Truncated
beginning_of_compact_block x b c is e some = compact_block_short x b c is e (some_of c some)

pub beginning_of_txs_request : (x : BlockTransactionsRequest) (b c : List ℕ) → IsTxsRequest x → txs_request_text x ≡ b ++ c → c ≢ [] → txs_request_at b ≡ Err Truncated
beginning_of_txs_request x b c is e some = txs_request_short x b c is e (some_of c some)

pub beginning_of_block_txs : (x : BlockTransactions) (b c : List ℕ) → IsBlockTxs x → block_txs_text x ≡ b ++ c → c ≢ [] → block_txs_at b ≡ Err Truncated
beginning_of_block_txs x b c is e some = block_txs_short x b c is e (some_of c some)
