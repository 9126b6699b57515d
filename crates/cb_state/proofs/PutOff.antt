-- The transactions of blocks that are put off.
use Rattle.std.proofs.Common.{◌≡◌, ◌⊎◌, ℕ, ◌+◌, ◌≤◌, ◌<◌, zero, suc, ◌∙◌, List, [], ◌∷◌, ◌++◌, drop, take, length, None, Some, Option, refl, sym, ap, arith, append_assoc, inl, inr}
use Rattle.std.specs.Prelude.{All, IfSome, slice_get}
use Rattle.std.proofs.lemmas.Bool.{cases_Bool}
use Rattle.cb_base.specs.declared.hash.Hash256.{Hash256}
use Rattle.cb_block.specs.declared.block.Block.{Block}
use Rattle.cb_block.specs.Blocks.{MeetsBlockRules}
use Rattle.cb_block.specs.declared.tx.Tx.{Tx}
use Rattle.cb_chain.specs.Entries.{Entry, Tree, block_hash, block_of, genesis_hash, same, sound_block}

-- one more of a list behind its first
one_more : (txs : List Tx) (k : ℕ) (tx : Tx) → slice_get txs k ≡ Some tx → take (suc k) txs ≡ take k txs ++ tx ∷ []
one_more [] k tx at = absurd cc
one_more (other ∷ txs) zero tx at = let here : other ≡ tx = cc in ap (λ (t : Tx). t ∷ []) here
one_more (other ∷ txs) (suc k) tx at = ap (λ (l : List Tx). other ∷ l) (one_more txs k tx at)

drop_one : (front : List Tx) (tx : Tx) → 1 ≤ length front → drop 1 (front ++ tx ∷ []) ≡ drop 1 front ++ tx ∷ []
drop_one [] tx some = absurd (omega arith)
drop_one (first ∷ others) tx some = refl

taken_some : (txs : List Tx) (k : ℕ) (tx : Tx) → slice_get txs k ≡ Some tx → 0 < k → 1 ≤ length (take k txs)
taken_some [] k tx at some = absurd cc
taken_some (first ∷ txs) zero tx at some = absurd (omega arith)
taken_some (first ∷ txs) (suc k) tx at some = omega arith

pub push_one : (old now : List Tx) (txs : List Tx) (k : ℕ) (tx : Tx) → now ≡ old ++ drop 1 (take k txs) → slice_get txs k ≡ Some tx → 0 < k → now ++ tx ∷ [] ≡ old ++ drop 1 (take (k + 1) txs)
push_one old now txs k tx is at some =
    let next : k + 1 ≡ suc k = omega arith in
    ap (λ (l : List Tx). l ++ tx ∷ []) is ∙ append_assoc old (drop 1 (take k txs)) (tx ∷ [])
    ∙ ap (λ (l : List Tx). old ++ l) (sym (drop_one (take k txs) tx (taken_some txs k tx at some)) ∙ ap (drop 1) (sym (one_more txs k tx at)) ∙ ap (λ (n : ℕ). drop 1 (take n txs)) (sym next))

-- ---- the blocks that are given out

-- it meets the rules of blocks, or has no more than its coinbase
abbrev pub IsShown : Block → Type 0
IsShown block = MeetsBlockRules block ⊎ (length block.txs ≤ 1)

kept : (block : Option Block) → IfSome block MeetsBlockRules → IfSome block IsShown
kept None meets = tt
kept (Some block) meets = inl meets

shown : (entry : Entry) → IfSome entry.block MeetsBlockRules → IfSome (sound_block entry) IsShown
shown entry meets =
    elim (cases_Bool entry.marked) [
      | inl marked ↦ rw marked tt
      | inr sound ↦ rw sound (kept entry.block meets)
    ]

pub given_out : (tree : Tree) (hash : Hash256) → All (λ (entry : Entry). IfSome entry.block MeetsBlockRules) tree → IfSome (block_of tree hash) IsShown
given_out [] hash all =
    elim (cases_Bool (same hash genesis_hash)) [
      | inl is ↦ rw is (inr (omega arith))
      | inr isnt ↦ rw isnt tt
    ]
given_out (entry ∷ older) hash all =
    elim (cases_Bool (same hash (block_hash entry.header))) [
      | inl is ↦ rw is (shown entry (all 0 entry (omega arith)))
      | inr isnt ↦ rw isnt (given_out older hash (λ k d lt. all (suc k) d (omega (arith, lt))))
    ]
