-- Places that are all in a block, or not.
use Rattle.std.proofs.Common.{◌≡◌, ℕ, ◌<◌, ◌≤◌, true, false, List, [], ◌∷◌, length, Ok, Err, refl, sym, ap, ◌∙◌, arith, get_or}
use Rattle.std.specs.Prelude.{All, Any, nat_lt}
use Rattle.std.specs.List.{AllByRecursion}
use Rattle.std.proofs.lemmas.Bool.Decides.{nat_tests}
use Rattle.std.proofs.lemmas.List.Elements.{recursion_from_All}
use Rattle.std.proofs.lemmas.List.Folds.{list_all_at}
use Rattle.cb_base.specs.declared.fault.Fault.TheVariants.{BadIndex}
use Rattle.cb_compact.specs.Differences.{sums}
use Rattle.cb_wire.specs.BlockTransactions.{block_txs_text}
use Rattle.cb_wire.specs.declared.block_transactions.BlockTransactionsRequest.{BlockTransactionsRequest}
use Rattle.cb_relay.specs.Serving.{are_below, served_of, txs_at}
use Rattle.cb_block.specs.declared.tx.Tx.{Tx}

all_below : (total : ℕ) (places : List ℕ) → AllByRecursion (λ place. place < total) places → are_below total places ≡ true
all_below total [] all = refl
all_below total (place ∷ places) (is, all) = let here : nat_lt place total ≡ true = grind (arith, nat_tests) in rw here (all_below total places all)

-- they are served
pub served_there : (total : ℕ) (txs : List Tx) (asked : BlockTransactionsRequest) → total ≡ length txs → All (λ place. place < total) (sums 0 asked.differences)
    → served_of txs asked ≡ Ok (block_txs_text (record { block = asked.block; txs = txs_at txs (sums 0 asked.differences) }))
served_there total txs asked same all =
    let is : are_below (length txs) (sums 0 asked.differences) ≡ true = ap (λ n. are_below n (sums 0 asked.differences)) (sym same) ∙ all_below total (sums 0 asked.differences) (recursion_from_All (λ (place : ℕ). place < total) (sums 0 asked.differences) all) in
    rw is refl

-- or one isn't there
pub served_bad : (total : ℕ) (txs : List Tx) (asked : BlockTransactionsRequest) → total ≡ length txs → Any (λ place. total ≤ place) (sums 0 asked.differences) → served_of txs asked ≡ Err BadIndex
served_bad total txs asked same (k, place, within, at, above) =
    let places = sums 0 asked.differences in
    let high : total ≤ get_or places k place = omega (arith, at, above) in
    let here : nat_lt (get_or places k place) total ≡ false = grind (arith, nat_tests) in
    let isnt : are_below (length txs) places ≡ false = ap (λ n. are_below n places) (sym same) ∙ list_all_at (λ it. nat_lt it total) places k place within here in
    rw isnt refl
