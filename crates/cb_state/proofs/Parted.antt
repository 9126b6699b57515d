-- Transactions of a block at rising places, which a message can carry.
use Rattle.std.proofs.Common.{◌≡◌, ◌∙◌, ℕ, zero, suc, ◌+◌, ◌<◌, ◌≤◌, Bool, true, false, List, [], ◌∷◌, ◌++◌, length, drop, Option, None, Some, refl, sym, ap, arith}
use Rattle.std.specs.Prelude.{All, nat_lt, slice_get}
use Rattle.std.specs.List.{AllByRecursion, flat_map}
use Rattle.std.proofs.lemmas.Bool.{false≢true}
use Rattle.std.proofs.lemmas.Bool.Decides.{nat_tests}
use Rattle.std.proofs.lemmas.List.{drop-drop, length-append}
use Rattle.std.proofs.lemmas.List.Elements.{recursion_from_All}
use Rattle.cb_base.specs.declared.hash.Hash256.{Hash256}
use Rattle.cb_base.specs.CompactSize.{compact_text}
use Rattle.cb_wire.proofs.Counting.{compact_most}
use Rattle.cb_block.specs.declared.tx.Tx.{Tx}
use Rattle.cb_block.specs.TxText.{list_text, tx_text}
use Rattle.cb_block.specs.declared.block.Block.{Block}
use Rattle.cb_block.specs.BlockText.{block_text, header_text}
use Rattle.cb_compact.specs.Differences.{sums}
use Rattle.cb_state.specs.declared.serving_places.Excerpt.TheVariants.{Part, Whole}
use Rattle.cb_state.specs.Parts.{IsCarried, txs_at}
use Rattle.cb_state.specs.Serving.{are_below, excerpt_at}

-- how many bytes the transactions have
abbrev total : List Tx → ℕ
total txs = length (flat_map tx_text txs)

total_more : (tx : Tx) (txs : List Tx) → total (tx ∷ txs) ≡ length (tx_text tx) + total txs
total_more tx txs = length-append (tx_text tx) (flat_map tx_text txs)

total_drop : (n : ℕ) (txs : List Tx) → total (drop n txs) ≤ total txs
total_drop zero txs = omega arith
total_drop (suc n) [] = omega arith
total_drop (suc n) (tx ∷ txs) = omega (arith, total_drop n txs, total_more tx txs)

total_later : (m n : ℕ) (txs : List Tx) → total (drop (n + m) txs) ≤ total (drop n txs)
total_later m n txs = let same = ap total (drop-drop m n txs) in omega (arith, same, total_drop m (drop n txs))

total_here : (txs : List Tx) (place : ℕ) (tx : Tx) → slice_get txs place ≡ Some tx → total (drop place txs) ≡ length (tx_text tx) + total (drop (suc place) txs)
total_here [] place tx is = absurd (let e : None ≡ Some tx = is in cc)
total_here (first ∷ txs) zero tx is = let same : first ≡ tx = cc in ap (λ t. total (t ∷ txs)) same ∙ total_more tx txs
total_here (first ∷ txs) (suc place) tx is = total_here txs place tx is

-- those at rising places are no longer than all from the first of these places on
picked : (txs : List Tx) (least : ℕ) (differences : List ℕ) → total (txs_at txs (sums least differences)) ≤ total (drop least txs)
picked txs least [] = omega arith
picked txs least (difference ∷ differences) = go (slice_get txs (least + difference)) refl (picked txs (least + difference + 1) differences) where
  go : (found : Option Tx) → slice_get txs (least + difference) ≡ found → total (txs_at txs (sums (least + difference + 1) differences)) ≤ total (drop (least + difference + 1) txs)
      → total (txs_at txs (sums least (difference ∷ differences))) ≤ total (drop least txs)
  go None is rest = rw is (omega (arith, rest, total_later 1 (least + difference) txs, total_later difference least txs))
  go (Some tx) is rest =
      let others = txs_at txs (sums (least + difference + 1) differences) in
      let next : suc (least + difference) ≡ least + difference + 1 = omega arith in
      let here = total_here txs (least + difference) tx is ∙ ap (λ n. length (tx_text tx) + total (drop n txs)) next in
      rw is (omega (arith, rest, total_more tx others, here, total_later difference least txs))

pub carried : (block : Block) (places differences : List ℕ) → length (header_text block.header) ≡ 80 → length (block_text block) ≤ 4000000 → places ≡ sums 0 differences → IsCarried (txs_at block.txs places)
unfolding block_text list_text
carried block places differences eighty few are =
    let some = txs_at block.txs places in
    let picked-few : total some ≤ total block.txs = rw are (picked block.txs 0 differences) in
    let whole = length-append (header_text block.header) (compact_text (length block.txs) ++ flat_map tx_text block.txs) in
    let counted = length-append (compact_text (length block.txs)) (flat_map tx_text block.txs) in
    let these = length-append (compact_text (length some)) (flat_map tx_text some) in
    omega (arith, picked-few, whole, counted, these, eighty, few, compact_most (length some))

-- ---- what is served of places that are all below the number of transactions

all_below : (total : ℕ) (places : List ℕ) → AllByRecursion (λ place. place < total) places → are_below total places ≡ true
all_below total [] all = refl
all_below total (place ∷ places) (is, all) = let here : nat_lt place total ≡ true = grind (arith, nat_tests) in rw here (all_below total places all)

below : (total : ℕ) (places : List ℕ) (txs : List Tx) → total ≡ length txs → All (λ place. place < total) places → are_below (length txs) places ≡ true
below total places txs is all = ap (λ n. are_below n places) (sym is) ∙ all_below total places (recursion_from_All (λ (place : ℕ). place < total) places all)

-- what has such places isn't refused
pub never_below : {P : Type 0} (total : ℕ) (places : List ℕ) (txs : List Tx) → total ≡ length txs → All (λ place. place < total) places → are_below (length txs) places ≡ false → P
never_below total places txs is all outside = absurd (false≢true (sym outside ∙ below total places txs is all))

pub whole_there : (near : Bool) (hash : Hash256) (places : List ℕ) (block : Block) (total : ℕ) → total ≡ length block.txs → All (λ place. place < total) places → near ≡ false
    → Whole block ≡ excerpt_at near hash places block
whole_there true hash places block total is all far = absurd (false≢true (sym far))
whole_there false hash places block total is all far = rw (below total places block.txs is all) refl

pub part_there : (near : Bool) (hash : Hash256) (places : List ℕ) (block : Block) (total : ℕ) → total ≡ length block.txs → All (λ place. place < total) places → near ≡ true
    → Part (record { hash = hash; txs = txs_at block.txs places }) ≡ excerpt_at near hash places block
part_there true hash places block total is all here = rw (below total places block.txs is all) refl
part_there false hash places block total is all here = absurd (false≢true here)
