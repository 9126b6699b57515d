-- The first block of the chain is sound.
use Rattle.std.proofs.Common.{◌≡◌, ℕ, List, [], ◌∷◌, length, get_or, map, refl, sym, ap, subst, ◌∙◌, arith}
use Rattle.std.specs.Prelude.{◌≢◌}
use Rattle.std.proofs.lemmas.List.Elements.{All-from_recursion}
use Rattle.cb_base.specs.declared.hash.Hash256.{Hash256}
use Rattle.cb_base.specs.DoubleHash.{double_hash}
use Rattle.cb_base.specs.CompactSize.{compact_text}
use Rattle.cb_block.specs.declared.tx.Tx.{Tx}
use Rattle.cb_block.specs.TxText.{tx_text, list_text, input_text, output_text, script_text}
use Rattle.cb_block.specs.Blocks.{texts}
use Rattle.cb_block.specs.Genesis.{headline, to_a_key, genesis_tx}
use Rattle.cb_block.specs.MerkleTree.{itself, HasEqualPair}
use Rattle.cb_block.specs.Soundness.{names, IsSound}
use Rattle.cb_block.proofs.Levels.{level_top}

genesis_long : length (tx_text genesis_tx) ≡ 204
unfolding tx_text list_text input_text output_text script_text compact_text headline to_a_key
genesis_long = refl

-- a list of one string, not of 64 bytes, is sound under its hash
one_sound : (text : List ℕ) → length text ≢ 64 → IsSound (double_hash text) (text ∷ [])
one_sound text other = record {
  some = omega arith;
  no_size_64 = All-from_recursion (λ t. length t ≢ 64) (text ∷ []) (other, tt);
  not_mutated = λ m. subst HasEqualPair (level_top (double_hash text ∷ []) m.0 (omega arith) m.1) m.2;
  root_is = itself refl;
}

pub genesis_sound : (txs : List Tx) (tx : Tx) (txids : List Hash256) (root : Hash256) → txs ≡ tx ∷ [] → tx ≡ genesis_tx → txids ≡ names (map tx_text txs) → root ≡ get_or txids 0 root → IsSound root (texts txs)
genesis_sound txs tx txids root one is named first =
    let alone : txs ≡ genesis_tx ∷ [] = one ∙ ap (λ (x : Tx). x ∷ []) is in
    let long : length (tx_text genesis_tx) ≢ 64 = λ e. absurd (omega (arith, e, genesis_long)) in
    let root-is : root ≡ double_hash (tx_text genesis_tx) = first ∙ ap (λ (x : List Hash256). get_or x 0 root) (named ∙ ap (λ (x : List Tx). names (map tx_text x)) alone) in
    subst (λ (x : List Tx). IsSound root (texts x)) (sym alone) (subst (λ (x : Hash256). IsSound x (texts (genesis_tx ∷ []))) (sym root-is) (one_sound (tx_text genesis_tx) long))
