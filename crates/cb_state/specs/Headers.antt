-- What a chain tells of a header.
use Rattle.std.specs.Prelude.{◌≡◌, ◌⊎◌, ◌↔◌, ◌+◌, ◌/◌, ℕ, Bool, true, if◌then◌else◌, nat_lt, List, length, Contains, Option, Some, None, option_map, slice_get, unwrap_or}
use Rattle.std.specs.List.Sorted.{IsPermutation, IsSortedBy}
use Rattle.cb_base.specs.declared.hash.Hash256.{Hash256}
use Rattle.cb_block.specs.declared.block.Block as blocks
use Rattle.cb_chain.specs.Best.{best}
use Rattle.cb_chain.specs.Entries.{Tree, block_of, entry_of, height_of}
use Rattle.cb_chain.specs.Laws.{active_hashes}
use Rattle.cb_state.specs.declared.headers.HeaderLook.{HeaderLook}

-- the hash above a height of the best chain, for a header that is on that
abbrev pub next_at : List Hash256 → Bool → ℕ → Option Hash256
next_at hashes is_best height = if is_best then slice_get hashes (height + 1) else None

-- A header, its height, that of the tip, how many transactions its block has, whether it is on the
-- best chain, and what stands on top of it there; nothing if it isn't known.
abbrev pub IsHeaderLook : Tree → Hash256 → Option HeaderLook → Type 0
IsHeaderLook tree hash None =
    (option_map (λ entry. entry.header) (entry_of tree hash) ≡ None) ⊎ (height_of tree hash ≡ None)
IsHeaderLook tree hash (Some look) =
    (option_map (λ entry. entry.header) (entry_of tree hash) ≡ Some look.header)
    × (height_of tree hash ≡ Some look.height)
    × (height_of tree (best tree) ≡ Some look.tip_height)
    × (look.txs ≡ option_map (λ (block : blocks.Block). length block.txs) (block_of tree hash))
    × ((look.best ≡ true) ↔ Contains (active_hashes tree) hash)
    × (look.next ≡ next_at (active_hashes tree) look.best look.height)

-- The middle of a list in order, or the later of the two in the middle; 0 of an empty list
-- (BIP 113).
abbrev pub IsMedian : List ℕ → ℕ → Type 0
IsMedian xs median =
    (sorted : List ℕ) × IsPermutation xs sorted × IsSortedBy nat_lt sorted
    × (median ≡ unwrap_or (slice_get sorted (length sorted / 2)) 0)
