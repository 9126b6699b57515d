-- What is fetched and rebuilt, and what keeps it so: each block in flight is needed, each that is wanted lacks, and the one that is
-- being rebuilt was missing.
use Rattle.std.proofs.Common.{◌≡◌, Bool, true, false, cond, not, List, [], ◌∷◌, ◌++◌, length, Option, Some, None, sym, subst, ◌∙◌, inl, inr}
use Rattle.std.specs.Prelude.{filter, fold, nat_lt}
use Rattle.std.proofs.lemmas.Bool.{cases_Bool, or_cases, or_left, or_right}
use Rattle.std.proofs.lemmas.List.Folds.{list_any-append}
use Rattle.cb_base.specs.declared.hash.Hash256.{Hash256}
use Rattle.cb_chain.specs.Entries.{block_hash, same}
use Rattle.cb_chain.proofs.BlockIndexes.{same-true}
use Rattle.cb_compact.specs.Slots.{Unfilled}
use Rattle.cb_peer_state.specs.Fetching.{FetchState, fallen_back, has, idle, is_fetched, landed, taking_on, wanting, wanting_all, with_flight, with_wanted, keeps_place, without}
use Rattle.cb_wire.specs.declared.inventory.Inventory.{Inventory}
use Rattle.cb_wire.specs.declared.inventory.Inventory.TheVariants as entry
use Rattle.cb_peer_state.specs.Receiving.{given_up, gives_up}
use Rattle.cb_peer_state.proofs.Cases.{by_test}

-- each of these blocks meets the test
abbrev pub Each : (Hash256 → Bool) → List Hash256 → Type 0
Each test hashes = (hash : Hash256) → has hashes hash ≡ true → test hash ≡ true

-- Which blocks are needed, which lack, and which are missing; what is missing is needed and lacks.
pub record Tests : Type 0 where
  pub needed : Hash256 → Bool
  pub lacks : Hash256 → Bool
  pub missing : Hash256 → Bool
  pub is_needed : (hash : Hash256) → missing hash ≡ true → needed hash ≡ true
  pub is_lacking : (hash : Hash256) → missing hash ≡ true → lacks hash ≡ true

-- the block that is being rebuilt
abbrev pub rebuilding : Option Unfilled → List Hash256
rebuilding None = []
rebuilding (Some partial) = block_hash partial.header ∷ []

-- What is in flight is needed, what is wanted lacks, and what is being rebuilt was missing.
pub record Fetches (t : Tests) (fetch : FetchState) (partial : Option Unfilled) : Type 0 where
  pub flight : Each t.needed fetch.flight
  pub wanted : Each t.lacks fetch.wanted
  pub rebuilt : Each t.missing (rebuilding partial)

-- ---- lists of blocks

pub none_each : (test : Hash256 → Bool) → Each test []
none_each test hash e = absurd (let clash : false ≡ true = e in cc)

both_each : (test : Hash256 → Bool) (xs ys : List Hash256) → Each test xs → Each test ys → Each test (xs ++ ys)
both_each test xs ys x y hash e = elim (or_cases (has xs hash) (has ys hash) (sym (list_any-append (same hash) xs ys) ∙ e)) [ inl first ↦ x hash first | inr later ↦ y hash later ]

first_each : (test : Hash256 → Bool) (first : Hash256) (others : List Hash256) → Each test (first ∷ others) → Each test (first ∷ [])
first_each test first others each hash e = elim (or_cases (same hash first) false e) [ inl is ↦ each hash (or_left (same hash first) (has others hash) is) | inr isnt ↦ absurd (let clash : false ≡ true = isnt in cc) ]

rest_each : (test : Hash256 → Bool) (first : Hash256) (others : List Hash256) → Each test (first ∷ others) → Each test others
rest_each test first others each hash e = each hash (or_right (same hash first) (has others hash) e)

filtered_each : (test keeps : Hash256 → Bool) (xs : List Hash256) → Each test xs → Each test (filter keeps xs)
filtered_each test keeps [] each = each
filtered_each test keeps (x ∷ xs) each =
    let rest = filtered_each test keeps xs (rest_each test x xs each) in
    elim (cases_Bool (keeps x)) [
      | inl is ↦ rw is (both_each test (x ∷ []) (filter keeps xs) (first_each test x xs each) rest)
      | inr isnt ↦ rw isnt rest
    ]

-- a block that is the same
pub same_each : (test : Hash256 → Bool) (a b : Hash256) → same a b ≡ true → Each test (a ∷ []) → Each test (b ∷ [])
same_each test a b e each = subst (λ (hash : Hash256). Each test (hash ∷ [])) (same-true a b e) each

-- ---- what changes what is fetched

pub idle_fetches : (t : Tests) → Fetches t idle None
idle_fetches t = record { flight = none_each t.needed; wanted = none_each t.lacks; rebuilt = none_each t.missing }

pub with_rebuilding : (t : Tests) (fetch : FetchState) (old new : Option Unfilled) → Each t.missing (rebuilding new) → Fetches t fetch old → Fetches t fetch new
with_rebuilding t fetch old new each f = record { flight = f.flight; wanted = f.wanted; rebuilt = each }

pub lands_fetches : (t : Tests) (fetch : FetchState) (partial : Option Unfilled) (hash : Hash256) → Fetches t fetch partial → Fetches t (landed hash fetch) partial
lands_fetches t fetch partial hash f = record { flight = filtered_each t.needed (λ other. not (same hash other)) fetch.flight f.flight; wanted = f.wanted; rebuilt = f.rebuilt }

flight_fetches : (t : Tests) (fetch : FetchState) (partial : Option Unfilled) (hash : Hash256) → Each t.needed (hash ∷ []) → Fetches t fetch partial → Fetches t (with_flight fetch hash) partial
flight_fetches t fetch partial hash each f = record { flight = both_each t.needed fetch.flight (hash ∷ []) f.flight each; wanted = f.wanted; rebuilt = f.rebuilt }

wanted_fetches : (t : Tests) (fetch : FetchState) (partial : Option Unfilled) (hash : Hash256) → Each t.lacks (hash ∷ []) → Fetches t fetch partial → Fetches t (with_wanted fetch hash) partial
wanted_fetches t fetch partial hash each f =
    by_test (λ (x : FetchState). Fetches t x partial) (nat_lt (length fetch.wanted) 2000) (record { flight = fetch.flight; wanted = fetch.wanted ++ hash ∷ [] }) fetch
    (λ _. record { flight = f.flight; wanted = both_each t.lacks fetch.wanted (hash ∷ []) f.wanted each; rebuilt = f.rebuilt }) (λ _. f)

pub wanting_fetches : (t : Tests) (fetch : FetchState) (partial : Option Unfilled) (hash : Hash256) → Each t.lacks (hash ∷ []) → Fetches t fetch partial → Fetches t (wanting fetch hash) partial
wanting_fetches t fetch partial hash each f =
    by_test (λ (x : FetchState). Fetches t x partial) (is_fetched fetch hash) fetch (with_wanted fetch hash) (λ _. f) (λ _. wanted_fetches t fetch partial hash each f)

taking_fetches : (t : Tests) (fetch : FetchState) (partial : Option Unfilled) (hash : Hash256) → Each t.needed (hash ∷ []) → Each t.lacks (hash ∷ []) → Fetches t fetch partial → Fetches t (taking_on fetch hash) partial
taking_fetches t fetch partial hash need lack f =
    by_test (λ (x : FetchState). Fetches t x partial) (is_fetched fetch hash) fetch (cond (nat_lt (length fetch.flight) 16) (with_flight fetch hash) (with_wanted fetch hash)) (λ _. f)
    (λ _.
    by_test (λ (x : FetchState). Fetches t x partial) (nat_lt (length fetch.flight) 16) (with_flight fetch hash) (with_wanted fetch hash) (λ _. flight_fetches t fetch partial hash need f)
    (λ _. wanted_fetches t fetch partial hash lack f))

each_wanted : (t : Tests) (fetch : FetchState) (partial : Option Unfilled) (hashes : List Hash256) → Each t.lacks hashes → Fetches t fetch partial → Fetches t (fold wanting fetch hashes) partial
each_wanted t fetch partial [] each f = f
each_wanted t fetch partial (hash ∷ hashes) each f =
    each_wanted t (wanting fetch hash) partial hashes (rest_each t.lacks hash hashes each) (wanting_fetches t fetch partial hash (first_each t.lacks hash hashes each) f)

pub all_wanted : (t : Tests) (fetch : FetchState) (partial : Option Unfilled) (hashes : List Hash256) → Each t.lacks hashes → Fetches t fetch partial → Fetches t (wanting_all fetch hashes) partial
all_wanted t fetch partial hashes each f =
    each_wanted t (without fetch hashes) partial hashes each (record { flight = f.flight; wanted = filtered_each t.lacks (keeps_place fetch hashes) fetch.wanted f.wanted; rebuilt = f.rebuilt })

pub all_taken : (t : Tests) (fetch : FetchState) (partial : Option Unfilled) (hashes : List Hash256) → Each t.needed hashes → Each t.lacks hashes → Fetches t fetch partial → Fetches t (fold taking_on fetch hashes) partial
all_taken t fetch partial [] need lack f = f
all_taken t fetch partial (hash ∷ hashes) need lack f =
    all_taken t (taking_on fetch hash) partial hashes (rest_each t.needed hash hashes need) (rest_each t.lacks hash hashes lack)
    (taking_fetches t fetch partial hash (first_each t.needed hash hashes need) (first_each t.lacks hash hashes lack) f)

-- a missing block that can't be rebuilt
pub back_fetches : (t : Tests) (fetch : FetchState) (partial : Option Unfilled) (hash : Hash256) → Each t.missing (hash ∷ []) → Fetches t fetch partial → Fetches t (fallen_back hash fetch) partial
back_fetches t fetch partial hash each f =
    let queued : FetchState = cond (has fetch.wanted hash) fetch (with_wanted fetch hash) in
    by_test (λ (x : FetchState). Fetches t x partial) (has fetch.flight hash) fetch (cond (nat_lt (length fetch.flight) 16) (with_flight fetch hash) queued) (λ _. f)
    (λ _.
    by_test (λ (x : FetchState). Fetches t x partial) (nat_lt (length fetch.flight) 16) (with_flight fetch hash) queued
    (λ _. flight_fetches t fetch partial hash (λ other e. t.is_needed other (each other e)) f)
    (λ _.
    by_test (λ (x : FetchState). Fetches t x partial) (has fetch.wanted hash) fetch (with_wanted fetch hash) (λ _. f)
    (λ _. wanted_fetches t fetch partial hash (λ other e. t.is_lacking other (each other e)) f)))

gives_up_fetches : (t : Tests) (fetch : FetchState) (partial : Option Unfilled) (e : Inventory) → Fetches t fetch partial → Fetches t (gives_up fetch e) partial
gives_up_fetches t fetch partial (entry.Block hash) f = lands_fetches t fetch partial hash f
gives_up_fetches t fetch partial (entry.CompactBlock hash) f = lands_fetches t fetch partial hash f
gives_up_fetches t fetch partial (entry.Tx txid) f = f
gives_up_fetches t fetch partial (entry.Other kind hash) f = f

pub given_up_fetches : (t : Tests) (entries : List Inventory) (fetch : FetchState) (partial : Option Unfilled) → Fetches t fetch partial → Fetches t (given_up entries fetch) partial
given_up_fetches t [] fetch partial f = f
given_up_fetches t (e ∷ entries) fetch partial f = given_up_fetches t entries (gives_up fetch e) partial (gives_up_fetches t fetch partial e f)
