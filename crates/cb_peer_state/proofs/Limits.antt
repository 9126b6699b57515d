-- What calls lead to keeps the limits.
use Rattle.std.proofs.Common.{◌≡◌, Bool, true, false, List, [], ◌∷◌, length, refl, ◌∙◌, arith, inl, inr}
use Rattle.std.specs.Prelude.{fold, nat_lt}
use Rattle.std.proofs.lemmas.Bool.{cases_Bool, ltb-true}
use Rattle.cb_base.specs.declared.hash.Hash256.{Hash256}
use Rattle.cb_peer_state.specs.Fetching.{FetchState, IsFetch, IsReached, fallen_back, has, idle, is_fetched, taking_on, wanting, wanting_all, with_wanted, without}
use Rattle.cb_peer_state.specs.Fetching.IsReached.{opening, wants, joins, lands as came, falls_back, takes_on}
use Rattle.cb_peer_state.proofs.Once.{flies, is_wanted, lands, leaves, neither}

stays_wanted : (fetch : FetchState) (hash : Hash256) → IsFetch fetch → has fetch.wanted hash ≡ false → IsFetch (with_wanted fetch hash)
stays_wanted fetch hash is fresh =
    elim (cases_Bool (nat_lt (length fetch.wanted) 2000)) [
      | inl room ↦ rw room (is_wanted fetch hash is fresh (ltb-true (length fetch.wanted) 2000 room))
      | inr full ↦ rw full is
    ]

wants_one : (fetch : FetchState) (hash : Hash256) → IsFetch fetch → IsFetch (wanting fetch hash)
wants_one fetch hash is =
    elim (cases_Bool (is_fetched fetch hash)) [
      | inl there ↦ rw there is
      | inr fresh ↦ rw fresh (stays_wanted fetch hash is (neither (has fetch.flight hash) (has fetch.wanted hash) fresh).1)
    ]

takes_one : (fetch : FetchState) (hash : Hash256) → IsFetch fetch → IsFetch (taking_on fetch hash)
takes_one fetch hash is =
    elim (cases_Bool (is_fetched fetch hash)) [
      | inl there ↦ rw there is
      | inr fresh ↦
          let parts = neither (has fetch.flight hash) (has fetch.wanted hash) fresh in
          elim (cases_Bool (nat_lt (length fetch.flight) 16)) [
            | inl room ↦ rw (fresh, room) (flies fetch hash is parts.0 (ltb-true (length fetch.flight) 16 room))
            | inr full ↦ rw (fresh, full) (stays_wanted fetch hash is parts.1)
          ]
    ]

falls_one : (fetch : FetchState) (hash : Hash256) → IsFetch fetch → IsFetch (fallen_back hash fetch)
falls_one fetch hash is =
    elim (cases_Bool (has fetch.flight hash)) [
      | inl there ↦ rw there is
      | inr fresh ↦
          elim (cases_Bool (nat_lt (length fetch.flight) 16)) [
            | inl room ↦ rw (fresh, room) (flies fetch hash is fresh (ltb-true (length fetch.flight) 16 room))
            | inr full ↦
                elim (cases_Bool (has fetch.wanted hash)) [
                  | inl wanted ↦ rw (fresh, full, wanted) is
                  | inr new ↦ rw (fresh, full, new) (stays_wanted fetch hash is new)
                ]
          ]
    ]

-- what one step keeps, all of them keep
folds : (step : FetchState → Hash256 → FetchState) → ((fetch : FetchState) (hash : Hash256) → IsFetch fetch → IsFetch (step fetch hash)) → (fetch : FetchState) (hashes : List Hash256) → IsFetch fetch → IsFetch (fold step fetch hashes)
folds step keeps fetch [] is = is
folds step keeps fetch (hash ∷ hashes) is = folds step keeps (step fetch hash) hashes (keeps fetch hash is)

idle_is : IsFetch idle
idle_is = record { flight = omega arith; wanted = omega arith; flight_once = tt; wanted_once = tt }

pub within : (fetch : FetchState) → IsReached fetch → IsFetch fetch
within fetch opening = idle_is
within fetch (wants old hashes r) = folds wanting wants_one (without old hashes) hashes (leaves old hashes (within old r))
within fetch (joins old hash r) = wants_one old hash (within old r)
within fetch (came old hash r) = lands old hash (within old r)
within fetch (falls_back old hash r) = falls_one old hash (within old r)
within fetch (takes_on old hashes r) = folds taking_on takes_one idle hashes idle_is

-- ---- what is wanted leaves what is in flight

flight_of : (fetch : FetchState) (hash : Hash256) (there room : Bool) → is_fetched fetch hash ≡ there → nat_lt (length fetch.wanted) 2000 ≡ room → (wanting fetch hash).flight ≡ fetch.flight
flight_of fetch hash true room e f = rw e refl
flight_of fetch hash false true e f = rw (e, f) refl
flight_of fetch hash false false e f = rw (e, f) refl

flight_stays_each : (fetch : FetchState) (hashes : List Hash256) → (fold wanting fetch hashes).flight ≡ fetch.flight
flight_stays_each fetch [] = refl
flight_stays_each fetch (hash ∷ hashes) = flight_stays_each (wanting fetch hash) hashes ∙ flight_of fetch hash (is_fetched fetch hash) (nat_lt (length fetch.wanted) 2000) refl refl

pub flight_stays : (fetch : FetchState) (hashes : List Hash256) → (wanting_all fetch hashes).flight ≡ fetch.flight
flight_stays fetch hashes = flight_stays_each (without fetch hashes) hashes
