-- What the tests of a block's transactions and of their tree tell of the block.
use Rattle.std.proofs.Common.{◌≡◌, ℕ, ◌<◌, Bool, true, false, List, eqb, length, map, All, refl, sym, ap, subst, ◌∙◌}
use Rattle.std.specs.Prelude.{◌≢◌, ◌↔◌, IsTrue, not}
use Rattle.std.proofs.lemmas.Bool.{false≢true}
use Rattle.std.proofs.lemmas.List.{length-map}
use Rattle.std.proofs.lemmas.List.Elements.{All-map}
use lib.Pointwise.{pointwise, bytes_decides}
use Rattle.cb_base.specs.declared.hash.Hash256.{Hash256}
use Rattle.cb_block.specs.declared.tx.Tx.{Tx}
use Rattle.cb_block.specs.TxText.{tx_text}
use Rattle.cb_block.specs.declared.block.Block.{Block}
use Rattle.cb_block.specs.Blocks.{texts, IsSoundBlock}
use Rattle.cb_block.specs.MerkleTree.{IsRoot, IsMutated}
use Rattle.cb_block.specs.Soundness.{names}
use Rattle.cb_block.proofs.Levels.{one_root}

hash_is : (a b : Hash256) → false ≡ not (pointwise eqb a.0 b.0) → a ≡ b
hash_is a b e = go (pointwise eqb a.0 b.0) refl e where
  go : (r : Bool) → pointwise eqb a.0 b.0 ≡ r → false ≡ not r → a ≡ b
  go true p f = ap (λ (x : List ℕ). record { 0 = x }) ((bytes_decides a.0 b.0).0 p)
  go false p f = absurd (false≢true f)

hash_is_not : (a b : Hash256) → true ≡ not (pointwise eqb a.0 b.0) → a ≡ b → ⊥
hash_is_not a b e same = go (pointwise eqb a.0 b.0) refl e where
  go : (r : Bool) → pointwise eqb a.0 b.0 ≡ r → true ≡ not r → ⊥
  go true p f = false≢true (sym f)
  go false p f = false≢true (sym p ∙ (bytes_decides a.0 b.0).1 (ap (λ (x : Hash256). x.0) same))

module _ (b : Block) (txs : List Tx) (are : txs ≡ b.txs) (leaves : List Hash256) (from : leaves ≡ names (map tx_text txs)) where
  pub leaves_are : leaves ≡ names (texts b.txs)
  leaves_are = from ∙ ap (λ (x : List Tx). names (texts x)) are

  pub is_mutated : (r : Bool) → r ≡ true → (IsTrue r ↔ IsMutated leaves) → IsMutated (names (texts b.txs))
  is_mutated r t tells = subst IsMutated leaves_are (tells.0 t)

  pub not_mutated : (r : Bool) → r ≡ false → (IsTrue r ↔ IsMutated leaves) → ¬ IsMutated (names (texts b.txs))
  not_mutated r f tells m = false≢true (sym f ∙ tells.1 (subst IsMutated (sym leaves_are) m))

  pub not_root : (root : Hash256) → IsRoot leaves root → true ≡ not (pointwise eqb root.0 b.header.root.0) → ¬ IsRoot (names (texts b.txs)) b.header.root
  not_root root is differs other = hash_is_not root b.header.root differs (one_root (names (texts b.txs)) root b.header.root (subst (λ (x : List Hash256). IsRoot x root) leaves_are is) other)

  pub is_sound : (root : Hash256) (r : Bool) → 0 < length b.txs → All (λ tx. length (tx_text tx) ≢ 64) b.txs → r ≡ false → (IsTrue r ↔ IsMutated leaves)
      → IsRoot leaves root → false ≡ not (pointwise eqb root.0 b.header.root.0) → IsSoundBlock b
  is_sound root r some sizes f tells is same = record {
    some = subst (λ (n : ℕ). 0 < n) (sym (length-map b.txs tx_text)) some;
    no_size_64 = All-map (λ text. length text ≢ 64) tx_text b.txs sizes;
    not_mutated = not_mutated r f tells;
    root_is = subst (λ (x : Hash256). IsRoot (names (texts b.txs)) x) (hash_is root b.header.root same) (subst (λ (x : List Hash256). IsRoot x root) leaves_are is);
  }
