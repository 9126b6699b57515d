-- What becomes of missing blocks where there is room among the wanted ones, and where there is none.
use Rattle.std.proofs.Common.{◌≡◌, ◌<◌, ◌≤◌, Bool, true, false, cond, List, [], ◌∷◌, ◌++◌, length, refl, sym, ap, ◌∙◌, arith, inl, inr}
use Rattle.std.specs.Prelude.{◌||◌, fold, nat_lt, not}
use Rattle.std.proofs.lemmas.Bool.{cases_Bool, ltb-false, ltb-true}
use Rattle.std.proofs.lemmas.List.{length-append}
use Rattle.cb_base.specs.declared.hash.Hash256.{Hash256}
use Rattle.cb_chain.specs.Entries.{same}
use Rattle.cb_chain.proofs.BlockIndexes.{same-true}
use Rattle.cb_peer_state.specs.Fetching.{FetchState, has, is_fetched, leaves_out, wanting, wanting_all, with_wanted, without}
use Rattle.cb_peer_state.proofs.Falling.{last_there, still_there}
use Rattle.cb_peer_state.proofs.Leaving.{keeps_unlisted, without_few}
use Rattle.cb_peer_state.proofs.Limits.{flight_stays}
use Rattle.cb_peer_state.proofs.Still.{no_fewer_each}

by_test : (P : FetchState → Type 0) (test : Bool) (x y : FetchState) → (test ≡ true → P x) → (test ≡ false → P y) → P (cond test x y)
by_test P true x y one other = one refl
by_test P false x y one other = other refl

or_more : (a b c : Bool) → (b ≡ true → c ≡ true) → (a || b) ≡ true → (a || c) ≡ true
or_more true b c more e = refl
or_more false b c more e = more e

or_last : (a b : Bool) → b ≡ true → (a || b) ≡ true
or_last true b e = refl
or_last false b e = e

-- ---- what is in flight or wanted stays so

one_stays : (fetch : FetchState) (hash other : Hash256) → is_fetched fetch other ≡ true → is_fetched (wanting fetch hash) other ≡ true
one_stays fetch hash other there =
    by_test (λ (f : FetchState). is_fetched f other ≡ true) (is_fetched fetch hash) fetch (with_wanted fetch hash) (λ _. there)
    (λ _. by_test (λ (f : FetchState). is_fetched f other ≡ true) (nat_lt (length fetch.wanted) 2000) (record { flight = fetch.flight; wanted = fetch.wanted ++ hash ∷ [] }) fetch
    (λ _. or_more (has fetch.flight other) (has fetch.wanted other) (has (fetch.wanted ++ hash ∷ []) other) (still_there fetch.wanted hash other) there) (λ _. there))

pub stays_each : (fetch : FetchState) (hashes : List Hash256) (other : Hash256) → is_fetched fetch other ≡ true → is_fetched (fold wanting fetch hashes) other ≡ true
stays_each fetch [] other there = there
stays_each fetch (hash ∷ hashes) other there = stays_each (wanting fetch hash) hashes other (one_stays fetch hash other there)

-- what isn't listed is in flight or wanted as before
pub unlisted_stays : (fetch : FetchState) (hashes : List Hash256) (other : Hash256) → has hashes other ≡ false → is_fetched fetch other ≡ true → is_fetched (wanting_all fetch hashes) other ≡ true
unlisted_stays fetch hashes other unlisted there =
    stays_each (without fetch hashes) hashes other (ap (λ b. has fetch.flight other || b) (keeps_unlisted fetch hashes other unlisted) ∙ there)

pub flies_on : (fetch : FetchState) (hashes : List Hash256) (other : Hash256) → has fetch.flight other ≡ true → has (wanting_all fetch hashes).flight other ≡ true
flies_on fetch hashes other there = ap (λ (flight : List Hash256). has flight other) (flight_stays fetch hashes) ∙ there

-- ---- where there is room none is left out

joins : (fetch : FetchState) (hash : Hash256) → nat_lt (length fetch.wanted) 2000 ≡ true → is_fetched (wanting fetch hash) hash ≡ true
joins fetch hash room =
    by_test (λ (f : FetchState). is_fetched f hash ≡ true) (is_fetched fetch hash) fetch (with_wanted fetch hash) (λ there. there)
    (λ _. by_test (λ (f : FetchState). is_fetched f hash ≡ true) (nat_lt (length fetch.wanted) 2000) (record { flight = fetch.flight; wanted = fetch.wanted ++ hash ∷ [] }) fetch
    (λ _. or_last (has fetch.flight hash) (has (fetch.wanted ++ hash ∷ []) hash) (last_there fetch.wanted hash)) (λ full. absurd (let clash : true ≡ false = sym room ∙ full in cc)))

both_none : (fetched others : Bool) → fetched ≡ true → others ≡ false → (not fetched || others) ≡ false
both_none true others e f = f
both_none false others e f = absurd cc

is_less : (fetch : FetchState) (hashes : List Hash256) (test : Bool) → nat_lt (length fetch.wanted) 2000 ≡ test → length (fold wanting fetch hashes).wanted < 2000 → test ≡ true
is_less fetch hashes true e few = refl
is_less fetch hashes false e few = absurd (omega (arith, few, ltb-false (length fetch.wanted) 2000 e, no_fewer_each fetch hashes))

none_left_each : (fetch : FetchState) (hashes : List Hash256) → length (fold wanting fetch hashes).wanted < 2000 → leaves_out (fold wanting fetch hashes) hashes ≡ false
none_left_each fetch [] few = refl
none_left_each fetch (hash ∷ hashes) few =
    let now : FetchState = fold wanting (wanting fetch hash) hashes in
    let room = is_less fetch (hash ∷ hashes) (nat_lt (length fetch.wanted) 2000) refl few in
    both_none (is_fetched now hash) (leaves_out now hashes) (stays_each (wanting fetch hash) hashes hash (joins fetch hash room)) (none_left_each (wanting fetch hash) hashes few)

one_few : (fetch : FetchState) (hash : Hash256) → length fetch.wanted ≤ 2000 → length (wanting fetch hash).wanted ≤ 2000
one_few fetch hash few =
    by_test (λ (f : FetchState). length f.wanted ≤ 2000) (is_fetched fetch hash) fetch (with_wanted fetch hash) (λ _. few)
    (λ _. by_test (λ (f : FetchState). length f.wanted ≤ 2000) (nat_lt (length fetch.wanted) 2000) (record { flight = fetch.flight; wanted = fetch.wanted ++ hash ∷ [] }) fetch
    (λ room. omega (arith, ltb-true (length fetch.wanted) 2000 room, length-append fetch.wanted (hash ∷ []))) (λ _. few))

few_wanted : (fetch : FetchState) (hashes : List Hash256) → length fetch.wanted ≤ 2000 → length (fold wanting fetch hashes).wanted ≤ 2000
few_wanted fetch [] few = few
few_wanted fetch (hash ∷ hashes) few = few_wanted (wanting fetch hash) hashes (one_few fetch hash few)

left_where_full_each : (fetch : FetchState) (hashes : List Hash256) → length fetch.wanted ≤ 2000 → leaves_out (fold wanting fetch hashes) hashes ≡ true → length (fold wanting fetch hashes).wanted ≡ 2000
left_where_full_each fetch hashes few left =
    elim (cases_Bool (nat_lt (length (fold wanting fetch hashes).wanted) 2000)) [
      | inl less ↦ absurd (let clash : true ≡ false = sym left ∙ none_left_each fetch hashes (ltb-true (length (fold wanting fetch hashes).wanted) 2000 less) in cc)
      | inr full ↦ omega (arith, few_wanted fetch hashes few, ltb-false (length (fold wanting fetch hashes).wanted) 2000 full)
    ]

pub none_left : (fetch : FetchState) (hashes : List Hash256) → length (wanting_all fetch hashes).wanted < 2000 → leaves_out (wanting_all fetch hashes) hashes ≡ false
none_left fetch hashes few = none_left_each (without fetch hashes) hashes few

pub left_where_full : (fetch : FetchState) (hashes : List Hash256) → length fetch.wanted ≤ 2000 → leaves_out (wanting_all fetch hashes) hashes ≡ true → length (wanting_all fetch hashes).wanted ≡ 2000
left_where_full fetch hashes few left = left_where_full_each (without fetch hashes) hashes (without_few fetch hashes few) left

-- ---- where none is left out each is in flight or wanted

among : (fetch : FetchState) (first hash : Hash256) (there fetched : Bool) (others : List Hash256) → same hash first ≡ there → is_fetched fetch first ≡ fetched → (not fetched || leaves_out fetch others) ≡ false → (there || has others hash) ≡ true
    → (leaves_out fetch others ≡ false → has others hash ≡ true → is_fetched fetch hash ≡ true) → is_fetched fetch hash ≡ true
among fetch first hash there false others is e none named later = absurd cc
among fetch first hash true true others is e none named later = ap (is_fetched fetch) (same-true hash first is) ∙ e
among fetch first hash false true others is e none named later = later none named

pub each_fetched : (fetch : FetchState) (hashes : List Hash256) (hash : Hash256) → leaves_out fetch hashes ≡ false → has hashes hash ≡ true → is_fetched fetch hash ≡ true
each_fetched fetch [] hash none named = absurd cc
each_fetched fetch (first ∷ others) hash none named =
    among fetch first hash (same hash first) (is_fetched fetch first) others refl refl none named (each_fetched fetch others hash)
