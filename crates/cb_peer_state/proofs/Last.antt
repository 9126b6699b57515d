-- Listed blocks stand behind all others, in the order of the list.
use Rattle.std.proofs.Common.{◌≡◌, ◌≤◌, Bool, true, false, cond, ◌||◌, not, if◌then◌else◌, List, [], ◌∷◌, ◌++◌, length, take, refl, sym, ap, ◌∙◌, arith, inl, inr}
use Rattle.std.specs.Prelude.{filter, fold, nat_lt}
use Rattle.std.proofs.lemmas.Bool.{cases_Bool, cases_lt, false≢true, le-ltb, or_from, or_left, or_right}
use Rattle.std.proofs.lemmas.List.{append-nil, append_assoc, length-take-le, take_all}
use Rattle.std.proofs.lemmas.List.Folds.{list_any-append}
use Rattle.cb_base.specs.declared.hash.Hash256.{Hash256}
use Rattle.cb_chain.specs.Entries.{same}
use Rattle.cb_chain.proofs.BlockIndexes.{same-refl, same-symm, same-true}
use Rattle.cb_peer_state.specs.Fetching.{FetchState, has, once, wanting, wanting_all, with_hash, without}
use Rattle.cb_peer_state.proofs.Leaving.{has_kept, loses_listed, without_few}
use Rattle.cb_peer_state.proofs.Needed.{lacks_both, take_with}
use Rattle.cb_peer_state.proofs.Once.{lacks_filtered}

-- ---- each hash of a list once

or_assoc : (a b c : Bool) → ((a || b) || c) ≡ (a || (b || c))
or_assoc true b c = refl
or_assoc false b c = refl

or_false : (a : Bool) → (a || false) ≡ a
or_false true = refl
or_false false = refl

or_within : (a b : Bool) → (b ≡ true → a ≡ true) → a ≡ (a || b)
or_within true b within = refl
or_within false true within = within refl
or_within false false within = refl

has_last : (xs : List Hash256) (y hash : Hash256) → has (xs ++ y ∷ []) hash ≡ (has xs hash || same hash y)
has_last xs y hash = list_any-append (same hash) xs (y ∷ []) ∙ ap (λ b. has xs hash || b) (or_false (same hash y))

has_with : (xs : List Hash256) (y hash : Hash256) → has (with_hash xs y) hash ≡ (has xs hash || same hash y)
has_with xs y hash =
    elim (cases_Bool (has xs y)) [
      | inl there ↦ rw there (or_within (has xs hash) (same hash y) (λ is. ap (has xs) (same-true hash y is) ∙ there))
      | inr lacks ↦ rw lacks (has_last xs y hash)
    ]

has_fold : (xs ys : List Hash256) (hash : Hash256) → has (fold with_hash xs ys) hash ≡ (has xs hash || has ys hash)
has_fold xs [] hash = sym (or_false (has xs hash))
has_fold xs (y ∷ ys) hash = has_fold (with_hash xs y) ys hash ∙ ap (λ b. b || has ys hash) (has_with xs y hash) ∙ or_assoc (has xs hash) (same hash y) (has ys hash)

pub has_once : (hashes : List Hash256) (hash : Hash256) → has (once hashes) hash ≡ has hashes hash
has_once hashes hash = has_fold [] hashes hash

-- one more in a set
cond_or : (a b : Bool) → cond a true b ≡ (b || a)
cond_or true true = refl
cond_or true false = refl
cond_or false true = refl
cond_or false false = refl

pub set_more : (old new hashes : List Hash256) (hash : Hash256) → ((other : Hash256) → has new other ≡ cond (same hash other) true (has old other)) → ((other : Hash256) → has old other ≡ has hashes other)
    → (other : Hash256) → has new other ≡ has (hashes ++ hash ∷ []) other
set_more old new hashes hash updates there other =
    updates other ∙ cond_or (same hash other) (has old other) ∙ ap (λ b. b || same hash other) (there other) ∙ ap (λ b. has hashes other || b) (same-symm hash other) ∙ sym (has_last hashes hash other)

-- ---- one more of the list

-- those that aren't in flight
abbrev resting : List Hash256 → List Hash256 → List Hash256
resting flight hashes = filter (λ hash. not (has flight hash)) hashes

abbrev behind : List Hash256 → List Hash256 → List Hash256 → FetchState
behind flight wanted hashes = record { flight = flight; wanted = take 2000 (wanted ++ resting flight hashes) }

rests_more : (flight hashes : List Hash256) (hash : Hash256) → resting flight (hashes ++ hash ∷ []) ≡ resting flight hashes ++ (if has flight hash then [] else hash ∷ [])
rests_more flight [] hash = elim (cases_Bool (has flight hash)) [ inl flies ↦ rw flies refl | inr rests ↦ rw rests refl ]
rests_more flight (x ∷ xs) hash =
    elim (cases_Bool (has flight x)) [
      | inl flies ↦ rw flies (rests_more flight xs hash)
      | inr rests ↦ rw rests (ap (λ (l : List Hash256). x ∷ l) (rests_more flight xs hash))
    ]

-- it is in flight: nothing changes
flies_behind : (flight wanted hashes : List Hash256) (hash : Hash256) → has flight hash ≡ true → behind flight wanted (with_hash hashes hash) ≡ behind flight wanted hashes
flies_behind flight wanted hashes hash flies =
    elim (cases_Bool (has hashes hash)) [
      | inl there ↦ rw there refl
      | inr lacks ↦
          let none : resting flight (hashes ++ hash ∷ []) ≡ resting flight hashes = rests_more flight hashes hash ∙ rw flies (append-nil (resting flight hashes)) in
          rw (lacks, none) refl
    ]

-- it stood in the list before: it is wanted, or there is no room
repeats : (flight all : List Hash256) (hash : Hash256) → has flight hash ≡ false → has all hash ≡ true → wanting (record { flight = flight; wanted = take 2000 all }) hash ≡ record { flight = flight; wanted = take 2000 all }
repeats flight all hash rests there =
    elim (cases_Bool (has (take 2000 all) hash)) [
      | inl wanted ↦ rw (rests, wanted) refl
      | inr lacks ↦
          elim (cases_lt (length all) 2001) [
            | inl few ↦ absurd (false≢true (sym lacks ∙ ap (λ (l : List Hash256). has l hash) (take_all 2000 all (omega (arith, few))) ∙ there))
            | inr many ↦
                let full : 2000 ≤ length (take 2000 all) = omega (arith, length-take-le 2000 all (omega (arith, many))) in
                rw (rests, lacks, le-ltb (length (take 2000 all)) 2000 full) refl
          ]
    ]

-- it is new: it stands last, if there is room
joins_behind : (flight all : List Hash256) (hash : Hash256) → has flight hash ≡ false → has all hash ≡ false → wanting (record { flight = flight; wanted = take 2000 all }) hash ≡ record { flight = flight; wanted = take 2000 (all ++ hash ∷ []) }
joins_behind flight all hash rests lacks =
    rw (rests, (lacks_both 2000 all hash lacks).0, take_with 2000 all hash) (chosen (nat_lt (length (take 2000 all)) 2000))
  where
    chosen : (room : Bool) → cond {A = FetchState} room (record { flight = flight; wanted = take 2000 all ++ hash ∷ [] }) (record { flight = flight; wanted = take 2000 all })
        ≡ record { flight = flight; wanted = cond room (take 2000 all ++ hash ∷ []) (take 2000 all) }
    chosen true = refl
    chosen false = refl

one_behind : (flight wanted hashes : List Hash256) (hash : Hash256) → (has flight hash ≡ false → has wanted hash ≡ false) → wanting (behind flight wanted hashes) hash ≡ behind flight wanted (with_hash hashes hash)
one_behind flight wanted hashes hash left =
    elim (cases_Bool (has flight hash)) [
      | inl flies ↦
          let same_state : wanting (behind flight wanted hashes) hash ≡ behind flight wanted hashes = rw flies refl in
          same_state ∙ sym (flies_behind flight wanted hashes hash flies)
      | inr rests ↦
          let all = wanted ++ resting flight hashes in
          elim (cases_Bool (has hashes hash)) [
            | inl there ↦
                let kept : has (resting flight hashes) hash ≡ true = has_kept (λ other. not (has flight other)) hashes hash (ap not rests) ∙ there in
                let stood : has all hash ≡ true = list_any-append (same hash) wanted (resting flight hashes) ∙ or_right (has wanted hash) (has (resting flight hashes) hash) kept in
                repeats flight all hash rests stood ∙ sym (ap (λ b. behind flight wanted (cond b hashes (hashes ++ hash ∷ []))) there)
            | inr lacks ↦
                let none : has (resting flight hashes) hash ≡ false = lacks_filtered (λ other. not (has flight other)) hashes hash lacks in
                let new : has all hash ≡ false = list_any-append (same hash) wanted (resting flight hashes) ∙ or_from (has wanted hash) (has (resting flight hashes) hash) (left rests) none in
                let more : resting flight (hashes ++ hash ∷ []) ≡ resting flight hashes ++ hash ∷ [] = rests_more flight hashes hash ∙ rw rests refl in
                joins_behind flight all hash rests new
                ∙ ap (λ (l : List Hash256). record { flight = flight; wanted = take 2000 l }) (append_assoc wanted (resting flight hashes) (hash ∷ []))
                ∙ sym (ap (λ b. behind flight wanted (cond b hashes (hashes ++ hash ∷ []))) lacks ∙ ap (λ (l : List Hash256). record { flight = flight; wanted = take 2000 (wanted ++ l) }) more)
          ]
    ]

-- ---- all of the list

abbrev Left : List Hash256 → List Hash256 → List Hash256 → Type 0
Left flight wanted hashes = (hash : Hash256) → has hashes hash ≡ true → has flight hash ≡ false → has wanted hash ≡ false

all_behind : (flight wanted before hashes : List Hash256) → Left flight wanted hashes → fold wanting (behind flight wanted before) hashes ≡ behind flight wanted (fold with_hash before hashes)
all_behind flight wanted before [] left = refl
all_behind flight wanted before (hash ∷ hashes) left =
    ap (λ (f : FetchState). fold wanting f hashes) (one_behind flight wanted before hash (left hash (or_left (same hash hash) (has hashes hash) (same-refl hash))))
    ∙ all_behind flight wanted (with_hash before hash) hashes (λ other there. left other (or_right (same other hash) (has hashes other) there))

pub last_is : (fetch : FetchState) (hashes : List Hash256) → length fetch.wanted ≤ 2000
    → (wanting_all fetch hashes).wanted ≡ take 2000 ((without fetch hashes).wanted ++ filter (λ hash. not (has fetch.flight hash)) (once hashes))
last_is fetch hashes few =
    let left = without fetch hashes in
    let begins : behind fetch.flight left.wanted [] ≡ left =
    ap (λ (l : List Hash256). record { flight = fetch.flight; wanted = l }) (ap (take 2000) (append-nil left.wanted) ∙ take_all 2000 left.wanted (without_few fetch hashes few)) in
    ap (λ (f : FetchState). (fold wanting f hashes).wanted) (sym begins)
    ∙ ap (λ (f : FetchState). f.wanted) (all_behind fetch.flight left.wanted [] hashes (loses_listed fetch hashes))
