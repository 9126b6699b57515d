-- A block locator of the active chain (Bitcoin's protocol): hashes from the tip down, with which a
-- peer finds the fork with its own chain.
use Rattle.std.specs.Prelude.{ℕ, zero, suc, ◌+◌, ◌-◌, ◌^◌, nat_lt, if◌then◌else◌, List, [], ◌∷◌, length, filter_map, slice_get, option_map}
use Rattle.cb_base.specs.declared.hash.Hash256.{Hash256}
use Rattle.cb_chain.specs.Entries.{Tree, block_hash}
use Rattle.cb_chain.specs.Best.{active}

-- How far below the tip the k-th hash is, from 0: 0, 1, 2, .. 11, and then 13, 17, 25, .., by steps
-- of 2, 4, 8, ..
abbrev pub depth_of : ℕ → ℕ
depth_of k = if nat_lt k 12 then k else 9 + 2 ^ (k - 10)

-- The heights from the k-th on, at most `more` and the last one, which is 0 and comes once.
abbrev pub heights_from : ℕ → ℕ → ℕ → List ℕ
heights_from tip k zero = 0 ∷ []
heights_from tip k (suc more) =
    if nat_lt (depth_of k) tip then (tip - depth_of k) ∷ heights_from tip (suc k) more else 0 ∷ []

abbrev pub locator_heights : ℕ → List ℕ
locator_heights tip = heights_from tip 0 tip

abbrev pub locator_of : Tree → List Hash256
locator_of tree =
    let headers = active tree in
    filter_map (λ height. option_map block_hash (slice_get headers height))
    (locator_heights (length headers - 1))
