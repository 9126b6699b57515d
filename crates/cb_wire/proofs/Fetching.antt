-- getblocktxn and blocktxn: what is read is spelled so, what was written is read again, and how many bytes it has.
use Rattle.std.proofs.Common.{◌≡◌, ℕ, ◌*◌, ◌-◌, ◌^◌, ◌<◌, ◌≤◌, List, [], ◌∷◌, ◌++◌, length, min, Ok, refl, sym, ap, subst, ◌∙◌, append_assoc, arith}
use Rattle.std.specs.List.{flat_map}
use Rattle.std.proofs.lemmas.List.{length-append}
use Rattle.std.proofs.lemmas.List.Concat.{flat_map-cons}
use Rattle.std.proofs.lemmas.List.Elements.{All-from_recursion, recursion_from_All}
use Rattle.cb_base.specs.CompactSize.{compact_at, compact_text}
use Rattle.cb_base.specs.Reading.{◌>>=◌}
use Rattle.cb_base.proofs.Fields.{AreBytes, bind_ok, ok_is, Takes, Takes-then}
use Rattle.cb_base.proofs.Compact.{compact_takes, compact_again, compact_long}
use Rattle.cb_block.specs.declared.tx.Tx.{Tx}
use Rattle.cb_block.specs.TxText.{IsTx, list_text, tx_text}
use Rattle.cb_block.specs.TxReading.{hash_at, list_at, tx_at}
use Rattle.cb_block.proofs.Parts.{IsKind, hash_takes, hash_again, list_takes, list_again}
use Rattle.cb_block.proofs.TxLaws.{tx_kind}
use Rattle.cb_wire.specs.declared.block_transactions.BlockTransactions.{BlockTransactions}
use Rattle.cb_wire.specs.declared.block_transactions.BlockTransactionsRequest.{BlockTransactionsRequest}
use Rattle.cb_wire.specs.Lists.{listed_at}
use Rattle.cb_wire.specs.BlockTransactions.{IsBlockTxs, IsTxsRequest, block_txs_at, block_txs_text, txs_request_at, txs_request_text}
use Rattle.cb_wire.proofs.Counting.{compact_most, exact_size, listed_takes, listed_again}

-- ---- differences

pub difference_kind : IsKind ℕ compact_text compact_at (λ n. n < 2 ^ 64) 1
difference_kind = record { takes = compact_takes; again = compact_again; long = λ n is. compact_long n }

each_most : (ns : List ℕ) → length (flat_map compact_text ns) ≤ length ns * 9
each_most [] = omega arith
each_most (n ∷ ns) = omega (arith, ap length (flat_map-cons compact_text n ns), length-append (compact_text n) (flat_map compact_text ns), compact_most n, each_most ns)

differences_most : (ns : List ℕ) → length ns ≤ 16666 → length (list_text compact_text ns) ≤ 150003
unfolding list_text
differences_most ns few = omega (arith, few, compact_most (length ns), each_most ns, length-append (compact_text (length ns)) (flat_map compact_text ns))

pub differences_sized : (slice ns : List ℕ) (r : ℕ) → slice ≡ ns → length ns ≤ 16666 → r ≡ min (length (list_text compact_text slice)) (2 ^ 64 - 1)
    → (r ≡ length (list_text compact_text ns)) × (r ≤ 150003)
differences_sized slice ns r same few is =
    let le : length (list_text compact_text slice) ≤ 150003 = differences_most slice (subst (λ (ys : List ℕ). length ys ≤ 16666) (sym same) few) in
    let exact : r ≡ length (list_text compact_text slice) = exact_size (length (list_text compact_text slice)) r is (omega (arith, le)) in
    (exact ∙ ap (λ (ys : List ℕ). length (list_text compact_text ys)) same, omega (arith, exact, le))

-- ---- getblocktxn

pub txs_request_takes : (bytes : List ℕ) (x : BlockTransactionsRequest) (rest : List ℕ) → AreBytes bytes → txs_request_at bytes ≡ Ok (x, rest) → Takes bytes (txs_request_text x) rest × IsTxsRequest x
unfolding txs_request_at txs_request_text
txs_request_takes bytes x rest are e =
    let a = bind_ok (hash_at bytes) (λ block. listed_at 16666 1 compact_at block.1 >>= λ differences. Ok (record { block = block.0; differences = differences.0 }, differences.1)) (x, rest) e in
    let b = bind_ok (listed_at 16666 1 compact_at a.0.1) (λ differences. Ok (record { block = a.0.0; differences = differences.0 }, differences.1)) (x, rest) a.2 in
    let t = hash_takes bytes a.0.0 a.0.1 are a.1 in
    let u = listed_takes ℕ compact_text compact_at (λ n. n < 2 ^ 64) 16666 1 difference_kind a.0.1 b.0.0 b.0.1 t.0.rest_bytes b.1 in
    let both = Takes-then bytes a.0.0.0 a.0.1 (list_text compact_text b.0.0) b.0.1 t.0 u.0 in
    let made : BlockTransactionsRequest × List ℕ = (record { block = a.0.0; differences = b.0.0 }, b.0.1) in
    let is : IsTxsRequest made.0 = record { block = t.1; few = u.1.0; differences = u.1.1 } in
    subst (λ (y : BlockTransactionsRequest × List ℕ). Takes bytes (txs_request_text y.0) y.1 × IsTxsRequest y.0) (ok_is made (x, rest) b.2) (both, is)

pub txs_request_again : (x : BlockTransactionsRequest) (rest : List ℕ) → IsTxsRequest x → txs_request_at (txs_request_text x ++ rest) ≡ Ok (x, rest)
unfolding txs_request_at txs_request_text
txs_request_again x rest is =
    ap txs_request_at (append_assoc x.block.0 (list_text compact_text x.differences) rest)
    ∙ rw (hash_again x.block (list_text compact_text x.differences ++ rest) is.block, listed_again ℕ compact_text compact_at (λ n. n < 2 ^ 64) 16666 1 difference_kind (omega arith) x.differences rest (is.few, is.differences)) refl

pub txs_request_most : (x : BlockTransactionsRequest) → IsTxsRequest x → length (txs_request_text x) ≤ 150035
unfolding txs_request_text
txs_request_most x is = omega (arith, is.block, differences_most x.differences is.few, length-append x.block.0 (list_text compact_text x.differences))

-- ---- blocktxn

pub block_txs_takes : (bytes : List ℕ) (x : BlockTransactions) (rest : List ℕ) → AreBytes bytes → block_txs_at bytes ≡ Ok (x, rest) → Takes bytes (block_txs_text x) rest × IsBlockTxs x
unfolding block_txs_at block_txs_text
block_txs_takes bytes x rest are e =
    let a = bind_ok (hash_at bytes) (λ block. list_at 10 tx_at block.1 >>= λ txs. Ok (record { block = block.0; txs = txs.0 }, txs.1)) (x, rest) e in
    let b = bind_ok (list_at 10 tx_at a.0.1) (λ txs. Ok (record { block = a.0.0; txs = txs.0 }, txs.1)) (x, rest) a.2 in
    let t = hash_takes bytes a.0.0 a.0.1 are a.1 in
    let u = list_takes Tx tx_text tx_at IsTx 10 tx_kind a.0.1 b.0.0 b.0.1 t.0.rest_bytes b.1 in
    let both = Takes-then bytes a.0.0.0 a.0.1 (list_text tx_text b.0.0) b.0.1 t.0 u.0 in
    let made : BlockTransactions × List ℕ = (record { block = a.0.0; txs = b.0.0 }, b.0.1) in
    let is : IsBlockTxs made.0 = record { block = t.1; few = u.1; txs = All-from_recursion IsTx b.0.0 u.2 } in
    subst (λ (y : BlockTransactions × List ℕ). Takes bytes (block_txs_text y.0) y.1 × IsBlockTxs y.0) (ok_is made (x, rest) b.2) (both, is)

pub block_txs_again : (x : BlockTransactions) (rest : List ℕ) → IsBlockTxs x → block_txs_at (block_txs_text x ++ rest) ≡ Ok (x, rest)
unfolding block_txs_at block_txs_text
block_txs_again x rest is =
    ap block_txs_at (append_assoc x.block.0 (list_text tx_text x.txs) rest)
    ∙ rw (hash_again x.block (list_text tx_text x.txs ++ rest) is.block, list_again Tx tx_text tx_at IsTx 10 tx_kind x.txs rest is.few (recursion_from_All IsTx x.txs is.txs)) refl
