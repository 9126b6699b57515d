-- The keys of tables of an inventory's entries: their hashes.
use Rattle.std.specs.Prelude.{ℕ, List, flat_map}
use Rattle.cb_wire.specs.declared.inventory.Inventory.{Inventory}
use Rattle.cb_wire.specs.Lists.{hash_in}

-- the hashes one after the other
abbrev pub hashes_text : List Inventory → List ℕ
hashes_text entries = flat_map (λ entry. (hash_in entry).0) entries
