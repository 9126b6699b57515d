-- Where listed blocks stand already: how it is found out, without memory, that `wanting_all`
-- changes nothing. Each listed block that isn't in flight is looked up, in order.
use Rattle.std.specs.Prelude.{ℕ, ◌+◌, Bool, false, ◌&&◌, not, nat_lt, ◌==◌, if◌then◌else◌, List, [], ◌∷◌, Option, None, Some, is_some, length, position}
use Rattle.cb_base.specs.declared.hash.Hash256.{Hash256}
use Rattle.cb_chain.specs.Entries.{same}
use Rattle.cb_peer_state.specs.Fetching.{FetchState, has}

-- the place of a block among the wanted ones
abbrev pub place_of : FetchState → Hash256 → Option ℕ
place_of fetch hash = position (same hash) fetch.wanted

-- the place of the first listed block that is wanted and not in flight
abbrev pub first_place : FetchState → List Hash256 → Option ℕ
first_place fetch [] = None
first_place fetch (hash ∷ hashes) =
    if not (has fetch.flight hash) && is_some (place_of fetch hash)
    then place_of fetch hash
    else first_place fetch hashes

-- the block at this place is the next one
abbrev pub is_next : ℕ → Option ℕ → Bool
is_next next None = false
is_next next (Some place) = place == next

-- the block at this place was there before, or it isn't wanted and there is no room for it
abbrev pub is_passed : ℕ → ℕ → Option ℕ → Bool
is_passed first next None = not (nat_lt next 2000)
is_passed first next (Some place) = not (nat_lt place first) && nat_lt place next

-- The listed blocks that aren't in flight are the wanted ones from the place `first` on: those up
-- to `next` were there, and these others follow up to the end.
abbrev pub stand_last : FetchState → ℕ → ℕ → List Hash256 → Bool
stand_last fetch first next [] = next == length fetch.wanted
stand_last fetch first next (hash ∷ hashes) =
    if has fetch.flight hash
    then stand_last fetch first next hashes
    else (if is_next next (place_of fetch hash)
    then stand_last fetch first (next + 1) hashes
    else is_passed first next (place_of fetch hash) && stand_last fetch first next hashes)
