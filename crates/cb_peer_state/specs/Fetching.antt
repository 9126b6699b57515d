-- The blocks that a session downloads from its peer (Bitcoin's peer-to-peer protocol, `getdata`):
-- wanted blocks are queued for download, and a few blocks are in flight. The limits 16 and 2,000
-- are this program's own.
use Rattle.std.specs.Prelude.{◌≡◌, ◌≤◌, ⊤, Bool, false, ◌&&◌, ◌||◌, not, nat_lt, ◌==◌, if◌then◌else◌, List, [], ◌∷◌, ◌++◌, length, map, filter, fold}
use Rattle.std.specs.List.{list_any}
use Rattle.cb_base.specs.declared.hash.Hash256.{Hash256}
use Rattle.cb_chain.specs.Entries.{same}
use Rattle.cb_wire.specs.declared.inventory.Inventory.{Inventory}
use Rattle.cb_wire.specs.declared.inventory.Inventory.TheVariants.{Block, CompactBlock}

-- What a session downloads, by the hashes of the blocks, each list in order.
pub record FetchState : Type 0 where
  -- requested, and not received yet: at most 16
  pub flight : List Hash256
  -- queued for download: at most 2,000
  pub wanted : List Hash256

-- the state at the start of a session
abbrev pub idle : FetchState
idle = record { flight = []; wanted = [] }

abbrev pub has : List Hash256 → Hash256 → Bool
has hashes hash = list_any (same hash) hashes

-- the block is in flight or wanted
abbrev pub is_fetched : FetchState → Hash256 → Bool
is_fetched fetch hash = has fetch.flight hash || has fetch.wanted hash

-- some of the blocks are neither in flight nor wanted
abbrev pub leaves_out : FetchState → List Hash256 → Bool
leaves_out fetch hashes = list_any (λ hash. not (is_fetched fetch hash)) hashes

abbrev pub wants_none : FetchState → Bool
wants_none fetch = length fetch.wanted == 0

-- it is time to request more: nothing is in flight, and something is wanted
abbrev pub is_due : FetchState → Bool
is_due fetch = (length fetch.flight == 0) && nat_lt 0 (length fetch.wanted)

-- ---- what changes

-- a block was received: it is no longer in flight. It may be wanted still, and then the question
-- about wanted blocks tells that it isn't needed.
abbrev pub landed : Hash256 → FetchState → FetchState
landed hash fetch = record {
  flight = filter (λ other. not (same hash other)) fetch.flight;
  wanted = fetch.wanted;
}

-- with one more block in flight, as the last
abbrev pub with_flight : FetchState → Hash256 → FetchState
with_flight fetch hash = record { flight = fetch.flight ++ hash ∷ []; wanted = fetch.wanted }

-- with one more wanted block, as the last, if fewer than 2,000 are wanted
abbrev pub with_wanted : FetchState → Hash256 → FetchState
with_wanted fetch hash =
    if nat_lt (length fetch.wanted) 2000
    then record { flight = fetch.flight; wanted = fetch.wanted ++ hash ∷ [] }
    else fetch

-- a block is missing: it becomes wanted, as the last, unless it is in flight or wanted
abbrev pub wanting : FetchState → Hash256 → FetchState
wanting fetch hash = if is_fetched fetch hash then fetch else with_wanted fetch hash

-- the block isn't among these, or it is in flight
abbrev pub keeps_place : FetchState → List Hash256 → Hash256 → Bool
keeps_place fetch hashes hash = has fetch.flight hash || not (has hashes hash)

-- these blocks are no longer wanted, those in flight excepted
abbrev pub without : FetchState → List Hash256 → FetchState
without fetch hashes = record {
  flight = fetch.flight;
  wanted = filter (keeps_place fetch hashes) fetch.wanted;
}

-- some of these blocks are wanted and not in flight
abbrev pub moves_some : FetchState → List Hash256 → Bool
moves_some fetch hashes =
    list_any (λ hash. not (has fetch.flight hash) && has fetch.wanted hash) hashes

-- A `headers` message lists several missing blocks, parents first. They become the last wanted
-- ones, in this order, also those that were wanted before. What is in flight stays as it is.
abbrev pub wanting_all : FetchState → List Hash256 → FetchState
wanting_all fetch hashes = fold wanting (without fetch hashes) hashes

-- a block is still needed: it goes in flight if fewer than 16 are, and otherwise becomes wanted, if
-- fewer than 2,000 are
abbrev pub taking_on : FetchState → Hash256 → FetchState
taking_on fetch hash =
    if is_fetched fetch hash
    then fetch
    else (if nat_lt (length fetch.flight) 16
    then with_flight fetch hash
    else with_wanted fetch hash)

-- The state once it is known which of the wanted blocks are still needed: the first 16 different
-- ones are in flight, and the next 2,000 are wanted.
abbrev pub taken_on : List Hash256 → FetchState
taken_on hashes = fold taking_on idle hashes

-- ---- compact blocks that couldn't be rebuilt (BIP 152)

-- the whole block is to be requested now: it is in flight, or fewer than 16 are
abbrev pub asks_now : FetchState → Hash256 → Bool
asks_now fetch hash = has fetch.flight hash || nat_lt (length fetch.flight) 16

-- A compact block couldn't be rebuilt, so the whole block is needed. If it is in flight, nothing
-- changes. Else it goes in flight if fewer than 16 are, also if it is wanted. Else it becomes
-- wanted, unless it is, or 2,000 are.
abbrev pub fallen_back : Hash256 → FetchState → FetchState
fallen_back hash fetch =
    if has fetch.flight hash then fetch
    else if nat_lt (length fetch.flight) 16 then with_flight fetch hash
    else if has fetch.wanted hash then fetch else with_wanted fetch hash

-- ---- entries of inventory

abbrev pub as_blocks : List Hash256 → List Inventory
as_blocks hashes = map Block hashes

abbrev pub block_in : Inventory → List Hash256
block_in (Block hash) = hash ∷ []
block_in other = []

-- the hashes of the blocks among inventory entries
abbrev pub blocks_in : List Inventory → List Hash256
blocks_in [] = []
blocks_in (entry ∷ entries) = block_in entry ++ blocks_in entries

-- the `getdata` entry that requests a block, as a compact one (BIP 152) or whole
abbrev pub request_of : Bool → Hash256 → Inventory
request_of compact hash = if compact then CompactBlock hash else Block hash

-- the same for several blocks
abbrev pub requests_of : Bool → List Hash256 → List Inventory
requests_of compact hashes = map (request_of compact) hashes

-- ---- what always holds

-- no two of the hashes are equal
abbrev pub AreDifferent : List Hash256 → Type 0
AreDifferent [] = ⊤
AreDifferent (hash ∷ hashes) = (has hashes hash ≡ false) × AreDifferent hashes

-- at most 16 blocks are in flight and at most 2,000 are wanted, and no block is in flight twice or
-- wanted twice
pub record IsFetch (fetch : FetchState) : Type 0 where
  pub flight : length fetch.flight ≤ 16
  pub wanted : length fetch.wanted ≤ 2000
  pub flight_once : AreDifferent fetch.flight
  pub wanted_once : AreDifferent fetch.wanted

-- the states that calls lead to, from the start of a session on
pub data IsReached : FetchState → Type 0 where
  opening : IsReached idle
  wants : (fetch : FetchState) (hashes : List Hash256) → IsReached fetch
      → IsReached (wanting_all fetch hashes)
  joins : (fetch : FetchState) (hash : Hash256) → IsReached fetch → IsReached (wanting fetch hash)
  lands : (fetch : FetchState) (hash : Hash256) → IsReached fetch → IsReached (landed hash fetch)
  falls_back : (fetch : FetchState) (hash : Hash256) → IsReached fetch
      → IsReached (fallen_back hash fetch)
  takes_on : (fetch : FetchState) (hashes : List Hash256) → IsReached fetch
      → IsReached (taken_on hashes)

-- ---- each once

-- appends a hash, unless it is in the list
abbrev pub with_hash : List Hash256 → Hash256 → List Hash256
with_hash hashes hash = if has hashes hash then hashes else hashes ++ hash ∷ []

-- each different hash once, at its first place
abbrev pub once : List Hash256 → List Hash256
once hashes = fold with_hash [] hashes
