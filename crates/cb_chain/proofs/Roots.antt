-- What is known: each header's parent was known before it.
use Rattle.std.proofs.Common.{◌≡◌, ℕ, suc, true, false, List, [], ◌∷◌, length, map, Some, None, refl, inl, inr}
use Rattle.std.specs.Prelude.{⊤}
use Rattle.std.proofs.lemmas.Bool.{cases_Bool, false≢true}
use Rattle.cb_base.specs.declared.hash.Hash256.{Hash256}
use Rattle.cb_chain.specs.Marking.{BlockIndex}
use Rattle.cb_chain.specs.Entries.{Entry, Tree, block_hash, genesis_hash, same, is_known}
use Rattle.cb_chain.specs.Keeping.{AreIndexes, entry_from, place_of}
use Rattle.cb_chain.proofs.BlockIndexes.{chosen}

-- the parents of all are known among those behind them
abbrev pub AreRooted : Tree → Type 0
AreRooted [] = ⊤
AreRooted (entry ∷ older) = (is_known older entry.header.prev ≡ true) × AreRooted older

-- the first block's hash alone is known where nothing was kept
pub known_first : (hash : Hash256) → is_known [] hash ≡ true → same hash genesis_hash ≡ true
known_first hash known =
    elim (cases_Bool (same hash genesis_hash)) [
      | inl is ↦ is
      | inr isnt ↦ let none : false ≡ true = rw isnt at known in absurd (false≢true none)
    ]

pub known_behind : (entry : Entry) (older : Tree) (hash : Hash256) → same hash (block_hash entry.header) ≡ false → is_known (entry ∷ older) hash ≡ true → is_known older hash ≡ true
known_behind entry older hash isnt known = rw isnt at known

-- what has a place is known
pub known_placed : (tree : Tree) (hash : Hash256) (p : ℕ) → place_of tree hash ≡ Some p → is_known tree hash ≡ true
known_placed [] hash p e =
    elim (chosen (same hash genesis_hash) 0 None p e) [
      | inl w ↦ rw w.0 refl
      | inr w ↦ absurd (let none : None ≡ Some p = w.1 in cc)
    ]
known_placed (entry ∷ older) hash p e =
    elim (chosen (same hash (block_hash entry.header)) (suc (length older)) (place_of older hash) p e) [
      | inl w ↦ rw w.0 refl
      | inr w ↦ rw w.0 (known_placed older hash p w.1)
    ]

rooted_above : (above : List BlockIndex) → AreIndexes above → AreRooted (map entry_from above)
rooted_above [] are = tt
rooted_above (block_index ∷ older) are = (known_placed (map entry_from older) block_index.header.prev block_index.parent are.0.parent, rooted_above older are.1)
