-- What becomes of the wanted blocks where listed ones leave their places.
use Rattle.std.proofs.Common.{◌≡◌, ◌≤◌, Bool, true, false, ◌||◌, ◌&&◌, not, if◌then◌else◌, List, [], ◌∷◌, length, refl, sym, ap, ◌∙◌, arith, inl, inr}
use Rattle.std.specs.Prelude.{filter, fold}
use Rattle.std.specs.List.{list_any}
use Rattle.std.proofs.lemmas.Bool.{cases_Bool, false≢true, or_from, or_left, or_right}
use Rattle.cb_base.specs.declared.hash.Hash256.{Hash256}
use Rattle.cb_chain.specs.Entries.{same}
use Rattle.cb_chain.proofs.BlockIndexes.{same-refl, same-true}
use Rattle.cb_peer_state.specs.Fetching.{FetchState, has, keeps_place, moves_some, wanting, wanting_all, without}
use Rattle.cb_peer_state.proofs.Once.{filtered_few}

-- ---- what a test leaves of a list

-- the same hash passes the same test
kept_has : (keeps : Hash256 → Bool) (x hash : Hash256) (xs rest : List Hash256) (there kept : Bool) → same hash x ≡ there → keeps x ≡ kept → keeps hash ≡ true → has rest hash ≡ has xs hash
    → has (if kept then x ∷ rest else rest) hash ≡ (there || has xs hash)
kept_has keeps x hash xs rest there true is of passes e = ap (λ b. b || has rest hash) is ∙ ap (λ b. there || b) e
kept_has keeps x hash xs rest false false is of passes e = e
kept_has keeps x hash xs rest true false is of passes e = absurd (false≢true (sym of ∙ ap keeps (sym (same-true hash x is)) ∙ passes))

pub has_kept : (keeps : Hash256 → Bool) (xs : List Hash256) (hash : Hash256) → keeps hash ≡ true → has (filter keeps xs) hash ≡ has xs hash
has_kept keeps [] hash passes = refl
has_kept keeps (x ∷ xs) hash passes =
    kept_has keeps x hash xs (filter keeps xs) (same hash x) (keeps x) refl refl passes (has_kept keeps xs hash passes)

left_lacks : (keeps : Hash256 → Bool) (x hash : Hash256) (rest : List Hash256) (there kept : Bool) → same hash x ≡ there → keeps x ≡ kept → keeps hash ≡ false → has rest hash ≡ false
    → has (if kept then x ∷ rest else rest) hash ≡ false
left_lacks keeps x hash rest true true is of fails e = absurd (false≢true (sym fails ∙ ap keeps (same-true hash x is) ∙ of))
left_lacks keeps x hash rest false true is of fails e = ap (λ b. b || has rest hash) is ∙ e
left_lacks keeps x hash rest there false is of fails e = e

pub lacks_left : (keeps : Hash256 → Bool) (xs : List Hash256) (hash : Hash256) → keeps hash ≡ false → has (filter keeps xs) hash ≡ false
lacks_left keeps [] hash fails = refl
lacks_left keeps (x ∷ xs) hash fails =
    left_lacks keeps x hash (filter keeps xs) (same hash x) (keeps x) refl refl fails (lacks_left keeps xs hash fails)

-- ---- what loses its place

pub keeps_unlisted : (fetch : FetchState) (hashes : List Hash256) (hash : Hash256) → has hashes hash ≡ false → has (without fetch hashes).wanted hash ≡ has fetch.wanted hash
keeps_unlisted fetch hashes hash unlisted =
    has_kept (keeps_place fetch hashes) fetch.wanted hash (or_right (has fetch.flight hash) (not (has hashes hash)) (ap not unlisted))

pub keeps_flying : (fetch : FetchState) (hashes : List Hash256) (hash : Hash256) → has fetch.flight hash ≡ true → has (without fetch hashes).wanted hash ≡ has fetch.wanted hash
keeps_flying fetch hashes hash flies =
    has_kept (keeps_place fetch hashes) fetch.wanted hash (or_left (has fetch.flight hash) (not (has hashes hash)) flies)

pub loses_listed : (fetch : FetchState) (hashes : List Hash256) (hash : Hash256) → has hashes hash ≡ true → has fetch.flight hash ≡ false → has (without fetch hashes).wanted hash ≡ false
loses_listed fetch hashes hash listed rests =
    lacks_left (keeps_place fetch hashes) fetch.wanted hash (or_from (has fetch.flight hash) (not (has hashes hash)) rests (ap not listed))

pub without_few : (fetch : FetchState) (hashes : List Hash256) → length fetch.wanted ≤ 2000 → length (without fetch hashes).wanted ≤ 2000
without_few fetch hashes few = omega (arith, few, filtered_few (keeps_place fetch hashes) fetch.wanted)

-- only which blocks are listed counts
alike : (tests others : Hash256 → Bool) → ((hash : Hash256) → tests hash ≡ others hash) → (xs : List Hash256) → filter tests xs ≡ filter others xs
alike tests others are [] = refl
alike tests others are (x ∷ xs) = λ i. if are x i then x ∷ alike tests others are xs i else alike tests others are xs i

pub without_same : (fetch : FetchState) (xs ys : List Hash256) → ((hash : Hash256) → has xs hash ≡ has ys hash) → without fetch xs ≡ without fetch ys
without_same fetch xs ys are =
    ap (λ (wanted : List Hash256). record { flight = fetch.flight; wanted = wanted })
    (alike (keeps_place fetch xs) (keeps_place fetch ys) (λ hash. ap (λ b. has fetch.flight hash || not b) (are hash)) fetch.wanted)

-- ---- where none is to move

passing : (test : Hash256 → Bool) (xs : List Hash256) (hash : Hash256) → has xs hash ≡ true → test hash ≡ true → list_any test xs ≡ true
passing test [] hash there passes = absurd (false≢true there)
passing test (x ∷ xs) hash there passes =
    elim (cases_Bool (same hash x)) [
      | inl is ↦ or_left (test x) (list_any test xs) (ap test (sym (same-true hash x is)) ∙ passes)
      | inr isnt ↦ or_right (test x) (list_any test xs) (passing test xs hash (ap (λ b. b || has xs hash) (sym isnt) ∙ there) passes)
    ]

pub all_left : (keeps : Hash256 → Bool) (xs all : List Hash256) → ((hash : Hash256) → has all hash ≡ true → keeps hash ≡ true) → ((hash : Hash256) → has xs hash ≡ true → has all hash ≡ true) → filter keeps xs ≡ xs
all_left keeps [] all pass within = refl
all_left keeps (x ∷ xs) all pass within =
    let kept : keeps x ≡ true = pass x (within x (or_left (same x x) (has xs x) (same-refl x))) in
    rw kept (ap (λ (rest : List Hash256). x ∷ rest) (all_left keeps xs all pass (λ hash there. within hash (or_right (same hash x) (has xs hash) there))))

keeps_all : (fetch : FetchState) (hashes : List Hash256) → moves_some fetch hashes ≡ false → (hash : Hash256) → has fetch.wanted hash ≡ true → keeps_place fetch hashes hash ≡ true
keeps_all fetch hashes none hash there =
    elim (cases_Bool (has fetch.flight hash)) [
      | inl flies ↦ or_left (has fetch.flight hash) (not (has hashes hash)) flies
      | inr rests ↦
          elim (cases_Bool (has hashes hash)) [
            | inl listed ↦
                let moves : (not (has fetch.flight hash) && has fetch.wanted hash) ≡ true = rw (rests, there) refl in
                absurd (false≢true (sym none ∙ passing (λ other. not (has fetch.flight other) && has fetch.wanted other) hashes hash listed moves))
            | inr unlisted ↦ or_right (has fetch.flight hash) (not (has hashes hash)) (ap not unlisted)
          ]
    ]

pub none_moves : (fetch : FetchState) (hashes : List Hash256) → moves_some fetch hashes ≡ false → without fetch hashes ≡ fetch
none_moves fetch hashes none =
    ap (λ (wanted : List Hash256). record { flight = fetch.flight; wanted = wanted })
    (all_left (keeps_place fetch hashes) fetch.wanted fetch.wanted (keeps_all fetch hashes none) (λ hash there. there))

pub appended : (fetch : FetchState) (hashes : List Hash256) → moves_some fetch hashes ≡ false → fold wanting fetch hashes ≡ wanting_all fetch hashes
appended fetch hashes none = ap (λ (f : FetchState). fold wanting f hashes) (sym (none_moves fetch hashes none))

-- where one moves, another list is left
record Moves (fetch : FetchState) (hashes : List Hash256) : Type 0 where
  hash : Hash256
  listed : has hashes hash ≡ true
  rests : has fetch.flight hash ≡ false
  there : has fetch.wanted hash ≡ true

both_hold : (flies there : Bool) → (not flies && there) ≡ true → (flies ≡ false) × (there ≡ true)
both_hold true there e = absurd (false≢true e)
both_hold false there e = (refl, e)

moving : (fetch : FetchState) (hashes : List Hash256) → moves_some fetch hashes ≡ true → Moves fetch hashes
moving fetch [] some = absurd (false≢true some)
moving fetch (hash ∷ hashes) some =
    elim (cases_Bool (not (has fetch.flight hash) && has fetch.wanted hash)) [
      | inl moves ↦
          let both = both_hold (has fetch.flight hash) (has fetch.wanted hash) moves in
          record { hash = hash; listed = or_left (same hash hash) (has hashes hash) (same-refl hash); rests = both.0; there = both.1 }
      | inr stands ↦
          let later = moving fetch hashes (ap (λ b. b || moves_some fetch hashes) (sym stands) ∙ some) in
          record { hash = later.hash; listed = or_right (same later.hash hash) (has hashes later.hash) later.listed; rests = later.rests; there = later.there }
    ]

pub none_to_move : (fetch : FetchState) (hashes : List Hash256) → without fetch hashes ≡ fetch → moves_some fetch hashes ≡ false
none_to_move fetch hashes stays =
    elim (cases_Bool (moves_some fetch hashes)) [
      | inl some ↦
          let one = moving fetch hashes some in
          absurd (false≢true (sym (loses_listed fetch hashes one.hash one.listed one.rests) ∙ ap (λ (f : FetchState). has f.wanted one.hash) stays ∙ one.there))
      | inr none ↦ none
    ]
