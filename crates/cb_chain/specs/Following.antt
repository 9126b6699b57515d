-- Which headers of the active chain come after a locator (Bitcoin's protocol, `getheaders`), and
-- which are above the fork with a branch.
use Rattle.std.specs.Prelude.{ℕ, suc, Bool, if◌then◌else◌, List, [], ◌∷◌, length, take, drop, Option, None, Some, false, slice_get, unwrap_or}
use Rattle.std.specs.Option.{option_map_or}
use Rattle.cb_base.specs.declared.hash.Hash256.{Hash256}
use Rattle.cb_block.specs.declared.header.Header.{Header}
use Rattle.cb_chain.specs.Entries.{Tree, block_hash, same}
use Rattle.cb_chain.specs.Best.{active, branch}

-- the height of a hash in a list of headers by height
abbrev pub place_in : List Header → ℕ → Hash256 → Option ℕ
place_in [] height hash = None
place_in (header ∷ headers) height hash =
    if same hash (block_hash header) then Some height else place_in headers (suc height) hash

-- the height of the first of these hashes that is among the headers, or 0 if none is
abbrev pub start_of : List Header → List Hash256 → ℕ
start_of headers [] = 0
start_of headers (hash ∷ hashes) = unwrap_or (place_in headers 0 hash) (start_of headers hashes)

-- the headers up to and including a hash, or all if it isn't among them
abbrev pub up_to : Hash256 → List Header → List Header
up_to stop [] = []
up_to stop (header ∷ headers) =
    header ∷ (if same stop (block_hash header) then [] else up_to stop headers)

-- at most 2,000 headers after the first hash of the locator that is on the active chain, up to and
-- including `stop`
abbrev pub headers_after : Tree → List Hash256 → Hash256 → List Header
headers_after tree locator stop =
    take 2000 (up_to stop (drop (suc (start_of (active tree) locator)) (active tree)))

-- the header at this height has this header's hash
abbrev pub stands_at : List Header → ℕ → Header → Bool
stands_at headers height header =
    option_map_or (λ other. same (block_hash other) (block_hash header)) (slice_get headers height)
    false

-- The headers above the fork with a branch, which is given from the top down. The fork is the
-- branch's highest header that is among the headers at its height. There are none if the branch is
-- empty.
abbrev pub above_branch : List Header → List Header → List Header
above_branch [] headers = []
above_branch (header ∷ below) headers =
    if stands_at headers (length below) header
    then drop (suc (length below)) headers
    else above_branch below headers

-- the headers of the active chain above the fork with the branch of a hash
abbrev pub headers_above : Tree → Hash256 → List Header
headers_above tree from = above_branch (branch tree from) (active tree)
