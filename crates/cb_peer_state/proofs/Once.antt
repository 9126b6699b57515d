-- Hashes of which none stands twice.
use Rattle.std.proofs.Common.{◌≡◌, ℕ, ◌+◌, ◌≤◌, Bool, true, false, cond, ◌||◌, not, List, [], ◌∷◌, ◌++◌, length, ◌<◌, take, get_or, refl, sym, ap, ◌∙◌, arith, inl, inr}
use Rattle.std.specs.Prelude.{filter, fold}
use Rattle.std.proofs.lemmas.Bool.{cases_Bool, false≢true, lt-ltb}
use Rattle.std.proofs.lemmas.List.{append-nil, append_assoc, length-append, take_more}
use Rattle.std.proofs.lemmas.List.Sums.{fold-append}
use Rattle.cb_base.specs.declared.hash.Hash256.{Hash256}
use Rattle.cb_chain.specs.Entries.{same}
use Rattle.cb_chain.proofs.BlockIndexes.{same-symm}
use Rattle.cb_wire.specs.declared.inventory.Inventory.{Inventory}
use Rattle.cb_peer_state.specs.Fetching.{AreDifferent, FetchState, IsFetch, block_in, blocks_in, has, idle, keeps_place, landed, taken_on, taking_on, with_flight, with_wanted, without}

pub neither : (a b : Bool) → (a || b) ≡ false → (a ≡ false) × (b ≡ false)
neither true b e = absurd (false≢true (sym e))
neither false b e = (refl, e)

pub none_of : (a b : Bool) → a ≡ false → b ≡ false → (a || b) ≡ false
none_of true b e f = absurd (false≢true (sym e))
none_of false b e f = f

-- ---- one more, as the last

lacks_last : (xs : List Hash256) (hash other : Hash256) → has xs other ≡ false → same other hash ≡ false → has (xs ++ hash ∷ []) other ≡ false
lacks_last [] hash other lacks differs = none_of (same other hash) false differs refl
lacks_last (x ∷ xs) hash other lacks differs =
    let parts = neither (same other x) (has xs other) lacks in
    none_of (same other x) (has (xs ++ hash ∷ []) other) parts.0 (lacks_last xs hash other parts.1 differs)

pub different_last : (xs : List Hash256) (hash : Hash256) → AreDifferent xs → has xs hash ≡ false → AreDifferent (xs ++ hash ∷ [])
different_last [] hash are lacks = (refl, tt)
different_last (x ∷ xs) hash are lacks =
    let parts = neither (same hash x) (has xs hash) lacks in
    (lacks_last xs hash x are.0 (same-symm x hash ∙ parts.0), different_last xs hash are.1 parts.1)

-- ---- some that are left out

pub lacks_filtered : (keeps : Hash256 → Bool) (xs : List Hash256) (other : Hash256) → has xs other ≡ false → has (filter keeps xs) other ≡ false
lacks_filtered keeps [] other lacks = lacks
lacks_filtered keeps (x ∷ xs) other lacks =
    let parts = neither (same other x) (has xs other) lacks in
    elim (cases_Bool (keeps x)) [
      | inl is ↦ rw is (none_of (same other x) (has (filter keeps xs) other) parts.0 (lacks_filtered keeps xs other parts.1))
      | inr isnt ↦ rw isnt (lacks_filtered keeps xs other parts.1)
    ]

pub different_filtered : (keeps : Hash256 → Bool) (xs : List Hash256) → AreDifferent xs → AreDifferent (filter keeps xs)
different_filtered keeps [] are = are
different_filtered keeps (x ∷ xs) are =
    elim (cases_Bool (keeps x)) [
      | inl is ↦ rw is (lacks_filtered keeps xs x are.0, different_filtered keeps xs are.1)
      | inr isnt ↦ rw isnt (different_filtered keeps xs are.1)
    ]

pub filtered_few : (keeps : Hash256 → Bool) (xs : List Hash256) → length (filter keeps xs) ≤ length xs
filtered_few keeps [] = omega arith
filtered_few keeps (x ∷ xs) =
    let few = filtered_few keeps xs in
    elim (cases_Bool (keeps x)) [
      | inl is ↦ rw is (omega (arith, few))
      | inr isnt ↦ rw isnt (omega (arith, few))
    ]

-- ---- what is fetched

pub lands : (fetch : FetchState) (hash : Hash256) → IsFetch fetch → IsFetch (landed hash fetch)
lands fetch hash is =
    let keeps = λ (other : Hash256). not (same hash other) in
    record {
      flight = omega (arith, filtered_few keeps fetch.flight, is.flight);
      wanted = is.wanted;
      flight_once = different_filtered keeps fetch.flight is.flight_once;
      wanted_once = is.wanted_once;
    }

pub leaves : (fetch : FetchState) (hashes : List Hash256) → IsFetch fetch → IsFetch (without fetch hashes)
leaves fetch hashes is = record {
  flight = is.flight;
  wanted = omega (arith, filtered_few (keeps_place fetch hashes) fetch.wanted, is.wanted);
  flight_once = is.flight_once;
  wanted_once = different_filtered (keeps_place fetch hashes) fetch.wanted is.wanted_once;
}

pub flies : (fetch : FetchState) (hash : Hash256) → IsFetch fetch → has fetch.flight hash ≡ false → length fetch.flight < 16 → IsFetch (with_flight fetch hash)
flies fetch hash is fresh room = record {
  flight = omega (arith, room, length-append fetch.flight (hash ∷ []));
  wanted = is.wanted;
  flight_once = different_last fetch.flight hash is.flight_once fresh;
  wanted_once = is.wanted_once;
}

pub is_wanted : (fetch : FetchState) (hash : Hash256) → IsFetch fetch → has fetch.wanted hash ≡ false → length fetch.wanted < 2000 → IsFetch (record { flight = fetch.flight; wanted = fetch.wanted ++ hash ∷ [] })
is_wanted fetch hash is fresh room = record {
  flight = is.flight;
  wanted = omega (arith, room, length-append fetch.wanted (hash ∷ []));
  flight_once = is.flight_once;
  wanted_once = different_last fetch.wanted hash is.wanted_once fresh;
}

-- ---- what a change of a list makes of it

pub flight_lacks : (fetch inside : FetchState) (hash : Hash256) → inside ≡ fetch → has fetch.flight hash ≡ false → has inside.flight hash ≡ false
flight_lacks fetch inside hash is fresh = ap (λ (f : FetchState). has f.flight hash) is ∙ fresh

pub wanted_lacks : (fetch inside : FetchState) (hash : Hash256) → inside ≡ fetch → has fetch.wanted hash ≡ false → has inside.wanted hash ≡ false
wanted_lacks fetch inside hash is fresh = ap (λ (f : FetchState). has f.wanted hash) is ∙ fresh

pub inserted : (keys next : List Hash256) (hash : Hash256) → next ≡ cond (has keys hash) keys (keys ++ hash ∷ []) → has keys hash ≡ false → next ≡ keys ++ hash ∷ []
inserted keys next hash is lacks = is ∙ ap (λ b. cond b keys (keys ++ hash ∷ [])) lacks

pub wanted_last : (fetch : FetchState) (next : List Hash256) (hash : Hash256) → next ≡ fetch.wanted ++ hash ∷ [] → length fetch.wanted < 2000 → record { flight = fetch.flight; wanted = next } ≡ with_wanted fetch hash
wanted_last fetch next hash is room = rw (is, lt-ltb (length fetch.wanted) 2000 room) refl

-- ---- entries one after another

pub blocks_more : (xs : List Inventory) (entry : Inventory) → blocks_in (xs ++ entry ∷ []) ≡ blocks_in xs ++ block_in entry
blocks_more [] entry = append-nil (block_in entry)
blocks_more (x ∷ xs) entry = ap (λ (l : List Hash256). block_in x ++ l) (blocks_more xs entry) ∙ sym (append_assoc (block_in x) (blocks_in xs) (block_in entry))

pub takes_more : (entries : List Inventory) (i : ℕ) (d : Inventory) (old new : FetchState) → i < length entries → old ≡ taken_on (blocks_in (take i entries)) → new ≡ fold taking_on old (block_in (get_or entries i d))
    → new ≡ taken_on (blocks_in (take (i + 1) entries))
takes_more entries i d old new lt was step =
    let all : blocks_in (take (i + 1) entries) ≡ blocks_in (take i entries) ++ block_in (get_or entries i d) = ap blocks_in (take_more entries i d lt) ∙ blocks_more (take i entries) (get_or entries i d) in
    step ∙ ap (λ (f : FetchState). fold taking_on f (block_in (get_or entries i d))) was
    ∙ sym (fold-append taking_on idle (blocks_in (take i entries)) (block_in (get_or entries i d)))
    ∙ ap taken_on (sym all)
