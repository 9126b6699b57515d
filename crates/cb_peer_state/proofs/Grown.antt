-- What was wanted stays in front of what becomes wanted, and what is in flight stays.
use Rattle.std.proofs.Common.{◌≡◌, Bool, true, false, cond, List, [], ◌∷◌, ◌++◌, length, take, refl, sym, ap, ◌∙◌}
use Rattle.std.specs.Prelude.{fold, nat_lt}
use Rattle.std.proofs.lemmas.List.{append-nil, append_assoc, take_at}
use Rattle.cb_base.specs.declared.hash.Hash256.{Hash256}
use Rattle.cb_peer_state.specs.Fetching.{FetchState, is_fetched, wanting}

record Grown (was now : FetchState) : Type 0 where
  more : List Hash256
  wanted : now.wanted ≡ was.wanted ++ more
  flight : now.flight ≡ was.flight

same_or_grown : (found room : Bool) (fetch more : FetchState) → Grown fetch more → Grown fetch (cond found fetch (cond room more fetch))
same_or_grown true room fetch more grown = record { more = []; wanted = sym (append-nil fetch.wanted); flight = refl }
same_or_grown false true fetch more grown = grown
same_or_grown false false fetch more grown = record { more = []; wanted = sym (append-nil fetch.wanted); flight = refl }

one : (fetch : FetchState) (hash : Hash256) → Grown fetch (wanting fetch hash)
one fetch hash =
    let last : FetchState = record { flight = fetch.flight; wanted = fetch.wanted ++ hash ∷ [] } in
    same_or_grown (is_fetched fetch hash) (nat_lt (length fetch.wanted) 2000) fetch last (record { more = hash ∷ []; wanted = refl; flight = refl })

twice : (was between now : FetchState) → Grown was between → Grown between now → Grown was now
twice was between now first then = record {
  more = first.more ++ then.more;
  wanted = then.wanted ∙ ap (λ (front : List Hash256). front ++ then.more) first.wanted ∙ append_assoc was.wanted first.more then.more;
  flight = then.flight ∙ first.flight;
}

all : (fetch : FetchState) (hashes : List Hash256) → Grown fetch (fold wanting fetch hashes)
all fetch [] = record { more = []; wanted = sym (append-nil fetch.wanted); flight = refl }
all fetch (hash ∷ hashes) = twice fetch (wanting fetch hash) (fold wanting (wanting fetch hash) hashes) (one fetch hash) (all (wanting fetch hash) hashes)

pub same_flight_each : (fetch now : FetchState) (hashes : List Hash256) → now ≡ fold wanting fetch hashes → now.flight ≡ fetch.flight
same_flight_each fetch now hashes is = ap (λ (f : FetchState). f.flight) is ∙ (all fetch hashes).flight

pub same_front_each : (fetch now : FetchState) (hashes : List Hash256) → now ≡ fold wanting fetch hashes → take (length fetch.wanted) now.wanted ≡ fetch.wanted
same_front_each fetch now hashes is =
    let grown = all fetch hashes in
    ap (λ (f : FetchState). take (length fetch.wanted) f.wanted) is
    ∙ ap (take (length fetch.wanted)) grown.wanted
    ∙ take_at fetch.wanted grown.more (length fetch.wanted) refl
