-- What is read of the active chain at a height, and of the headers in the order of acceptance.
use Rattle.std.proofs.Common.{◌≡◌, ℕ, suc, ◌+◌, ◌<◌, ◌≤◌, List, [], ◌∷◌, map, drop, length, Option, None, Some, refl, sym, ap, subst, ◌∙◌, arith}
use Rattle.std.specs.Prelude.{option_map, reverse, slice_get}
use Rattle.std.proofs.lemmas.List.{reverse-reverse}
use Rattle.std.proofs.lemmas.Option.{same_Some, slice_get-map, slice_get_past}
use Rattle.cb_base.specs.declared.hash.Hash256.{Hash256}
use Rattle.cb_block.specs.declared.header.Header.{Header}
use Rattle.cb_chain.specs.Best.{active}
use Rattle.cb_chain.specs.Entries.{Entry, Tree, block_hash}
use Rattle.cb_chain.specs.Keeping.{IsTree, active_places, entry_from, tree_of}
use Rattle.cb_chain.specs.Laws.{accepted_headers, active_hashes}
use Rattle.cb_chain.specs.Marking.{BlockIndex}
use Rattle.cb_chain.proofs.BlockIndexes.{map_reverse}
use Rattle.cb_chain.proofs.PathsDown.{active_slot, length_active, length_places}

-- ---- a height of the active chain

pub hash_slot : (block_indexes : List BlockIndex) (tree : Tree) (places : List ℕ) (height place : ℕ) (block_index : BlockIndex) → IsTree block_indexes → tree_of block_indexes ≡ tree → places ≡ active_places (tree_of block_indexes)
    → slice_get places height ≡ Some place → slice_get block_indexes place ≡ Some block_index → Some block_index.hash ≡ slice_get (active_hashes tree) height
hash_slot block_indexes tree places height place block_index is seen are at there =
    let slot : slice_get (active_places (tree_of block_indexes)) height ≡ Some place = subst (λ (ps : List ℕ). slice_get ps height ≡ Some place) are at in
    let found = active_slot block_indexes height place is slot in
    let one : found.0.block_index ≡ block_index = same_Some found.0.block_index block_index (sym found.0.at ∙ ap (slice_get block_indexes) found.1 ∙ there) in
    let hash : Some (block_hash found.0.block_index.header) ≡ Some block_index.hash = ap Some (sym found.0.hash) ∙ ap (λ (n : BlockIndex). Some n.hash) one in
    subst (λ (t : Tree). Some block_index.hash ≡ slice_get (active_hashes t) height) seen
    (sym (slice_get-map block_hash (active (tree_of block_indexes)) height ∙ ap (option_map block_hash) found.0.header ∙ hash))

pub hash_past : (block_indexes : List BlockIndex) (tree : Tree) (places : List ℕ) (height : ℕ) → IsTree block_indexes → tree_of block_indexes ≡ tree → places ≡ active_places (tree_of block_indexes)
    → length places ≤ height → None ≡ slice_get (active_hashes tree) height
hash_past block_indexes tree places height is seen are le =
    let long : length places ≡ length (active (tree_of block_indexes)) = ap length are ∙ length_places (tree_of block_indexes) ∙ sym (length_active block_indexes is) in
    subst (λ (t : Tree). None ≡ slice_get (active_hashes t) height) seen
    (sym (slice_get-map block_hash (active (tree_of block_indexes)) height ∙ ap (option_map block_hash) (slice_get_past (active (tree_of block_indexes)) height (omega (arith, le, long)))))

-- ---- the order of acceptance

in_order : (block_indexes : List BlockIndex) → reverse (map entry_from (reverse block_indexes)) ≡ map entry_from block_indexes
in_order block_indexes = ap reverse (map_reverse entry_from block_indexes) ∙ reverse-reverse (map entry_from block_indexes)

header_from : (seen : Option BlockIndex) → option_map (λ (entry : Entry). entry.header) (option_map entry_from seen) ≡ option_map (λ (n : BlockIndex). n.header) seen
header_from None = refl
header_from (Some block_index) = refl

behind_first : (block_indexes : List BlockIndex) (place : ℕ) → slice_get (drop 1 block_indexes) place ≡ slice_get block_indexes (suc place)
behind_first [] place = refl
behind_first (first ∷ others) place = refl

pub accepted_slot : (block_indexes : List BlockIndex) (tree : Tree) (place : ℕ) → tree_of block_indexes ≡ tree
    → option_map (λ (n : BlockIndex). n.header) (slice_get block_indexes (place + 1)) ≡ slice_get (accepted_headers tree) place
accepted_slot block_indexes tree place seen =
    let above = drop 1 block_indexes in
    let next : place + 1 ≡ suc place = omega arith in
    let whole : slice_get (accepted_headers (tree_of block_indexes)) place ≡ option_map (λ (n : BlockIndex). n.header) (slice_get block_indexes (place + 1)) =
    ap (λ (es : List Entry). slice_get (map (λ (entry : Entry). entry.header) es) place) (in_order above)
    ∙ slice_get-map (λ (entry : Entry). entry.header) (map entry_from above) place
    ∙ ap (option_map (λ (entry : Entry). entry.header)) (slice_get-map entry_from above place)
    ∙ header_from (slice_get above place)
    ∙ ap (option_map (λ (n : BlockIndex). n.header)) (behind_first block_indexes place ∙ ap (slice_get block_indexes) (sym next))
    in
    subst (λ (t : Tree). option_map (λ (n : BlockIndex). n.header) (slice_get block_indexes (place + 1)) ≡ slice_get (accepted_headers t) place) seen (sym whole)

pub accepted_past : (block_indexes : List BlockIndex) (tree : Tree) (place : ℕ) → tree_of block_indexes ≡ tree → length block_indexes ≤ place + 1 → None ≡ slice_get (accepted_headers tree) place
accepted_past block_indexes tree place seen le =
    sym (ap (option_map (λ (n : BlockIndex). n.header)) (slice_get_past block_indexes (place + 1) le)) ∙ accepted_slot block_indexes tree place seen
