-- What is taken on of all that is needed.
use Rattle.std.proofs.Common.{◌≡◌, ℕ, ◌<◌, ◌≤◌, Bool, true, false, cond, ◌||◌, List, [], ◌∷◌, ◌++◌, length, take, drop, refl, sym, ap, ◌∙◌, arith, inl, inr}
use Rattle.std.specs.Prelude.{fold, nat_lt}
use Rattle.std.proofs.lemmas.Bool.{cases_Bool, cases_lt, false≢true, lt-ltb, le-ltb}
use Rattle.std.proofs.lemmas.List.{length-append, length-take-le, length-drop, take_all, take-append-le, drop-append-le, take-append-drop}
use Rattle.std.proofs.lemmas.List.Folds.{list_any-append}
use Rattle.cb_base.specs.declared.hash.Hash256.{Hash256}
use Rattle.cb_chain.specs.Entries.{same}
use Rattle.cb_peer_state.specs.Fetching.{AreDifferent, FetchState, has, is_fetched, once, taken_on, taking_on, with_flight, with_hash, with_wanted}
use Rattle.cb_peer_state.proofs.Once.{different_last, neither, none_of}

-- ---- of a list that grows, a beginning

-- it is there, or was before one more came
pub take_with : (n : ℕ) (xs : List Hash256) (hash : Hash256) → take n (xs ++ hash ∷ []) ≡ cond (nat_lt (length (take n xs)) n) (take n xs ++ hash ∷ []) (take n xs)
take_with n xs hash =
    elim (cases_lt (length xs) n) [
      | inl room ↦
          let all : take n xs ≡ xs = take_all n xs (omega (arith, room)) in
          let long : length (xs ++ hash ∷ []) ≤ n = omega (arith, room, length-append xs (hash ∷ [])) in
          rw (all, lt-ltb (length xs) n room) (take_all n (xs ++ hash ∷ []) long)
      | inr full ↦
          let of : length (take n xs) ≡ n = length-take-le n xs full in
          let none : n ≤ length (take n xs) = omega (arith, of) in
          rw (le-ltb (length (take n xs)) n none) (take-append-le n xs (hash ∷ []) full)
    ]

pub drop_none : (n : ℕ) (xs : List Hash256) → length xs ≤ n → drop n xs ≡ []
drop_none n xs few = nothing (drop n xs) (omega (arith, length-drop n xs, few))
  where
    nothing : (ys : List Hash256) → length ys ≡ 0 → ys ≡ []
    nothing [] e = refl
    nothing (y ∷ ys) e = absurd (omega (arith, e))

-- ---- what isn't in a list isn't in a part of it

pub lacks_both : (n : ℕ) (xs : List Hash256) (hash : Hash256) → has xs hash ≡ false → (has (take n xs) hash ≡ false) × (has (drop n xs) hash ≡ false)
lacks_both n xs hash e =
    neither (has (take n xs) hash) (has (drop n xs) hash) (sym (list_any-append (same hash) (take n xs) (drop n xs)) ∙ ap (λ (l : List Hash256). has l hash) (take-append-drop n xs) ∙ e)

-- ---- each once

lacks_more : (xs : List Hash256) (y hash : Hash256) (b : Bool) → has xs hash ≡ false → same hash y ≡ false → has (cond b xs (xs ++ y ∷ [])) hash ≡ false
lacks_more xs y hash true lacks other = lacks
lacks_more xs y hash false lacks other = list_any-append (same hash) xs (y ∷ []) ∙ none_of (has xs hash) (same hash y || false) lacks (none_of (same hash y) false other refl)

lacks_once : (xs ys : List Hash256) (hash : Hash256) → has xs hash ≡ false → has ys hash ≡ false → has (fold with_hash xs ys) hash ≡ false
lacks_once xs [] hash lacks none = lacks
lacks_once xs (y ∷ ys) hash lacks none =
    let parts = neither (same hash y) (has ys hash) none in
    lacks_once (with_hash xs y) ys hash (lacks_more xs y hash (has xs y) lacks parts.0) parts.1

different_more : (xs : List Hash256) (y : Hash256) → AreDifferent xs → AreDifferent (with_hash xs y)
different_more xs y are =
    elim (cases_Bool (has xs y)) [
      | inl there ↦ rw there are
      | inr fresh ↦ rw fresh (different_last xs y are fresh)
    ]

different_all : (xs ys : List Hash256) → AreDifferent xs → AreDifferent (fold with_hash xs ys)
different_all xs [] are = are
different_all xs (y ∷ ys) are = different_all (with_hash xs y) ys (different_more xs y are)

pub are_different : (hashes : List Hash256) → AreDifferent (once hashes)
are_different hashes = different_all [] hashes tt

-- ---- the first 16, and the next 2,000

abbrev cut : List Hash256 → FetchState
cut xs = record { flight = take 16 xs; wanted = take 2000 (drop 16 xs) }

-- where one of the list was cut off, there is no room
full_by : (xs : List Hash256) (hash : Hash256) → has xs hash ≡ true → is_fetched (cut xs) hash ≡ false → 2016 < length xs
full_by xs hash there fresh =
    elim (cases_lt (length xs) 2017) [
      | inl few ↦
          let all : take 2000 (drop 16 xs) ≡ drop 16 xs = take_all 2000 (drop 16 xs) (omega (arith, few, length-drop 16 xs)) in
          let found : is_fetched (cut xs) hash ≡ true =
          ap (λ (l : List Hash256). has (take 16 xs) hash || has l hash) all ∙ sym (list_any-append (same hash) (take 16 xs) (drop 16 xs)) ∙ ap (λ (l : List Hash256). has l hash) (take-append-drop 16 xs) ∙ there in
          absurd (false≢true (sym fresh ∙ found))
      | inr long ↦ omega (arith, long)
    ]

cut_off : (xs : List Hash256) (hash : Hash256) → is_fetched (cut xs) hash ≡ false → 2016 < length xs → taking_on (cut xs) hash ≡ cut xs
cut_off xs hash fresh long =
    let flight : 16 ≤ length (take 16 xs) = omega (arith, length-take-le 16 xs (omega (arith, long))) in
    let rest : 2000 ≤ length (drop 16 xs) = omega (arith, length-drop 16 xs, long) in
    let wanted : 2000 ≤ length (take 2000 (drop 16 xs)) = omega (arith, length-take-le 2000 (drop 16 xs) rest) in
    rw (fresh, le-ltb (length (take 16 xs)) 16 flight, le-ltb (length (take 2000 (drop 16 xs))) 2000 wanted) refl

grows : (xs : List Hash256) (hash : Hash256) → is_fetched (cut xs) hash ≡ false → taking_on (cut xs) hash ≡ cut (xs ++ hash ∷ [])
grows xs hash fresh =
    elim (cases_lt (length xs) 16) [
      | inl room ↦
          let all : take 16 xs ≡ xs = take_all 16 xs (omega (arith, room)) in
          let longer : take 16 (xs ++ hash ∷ []) ≡ xs ++ hash ∷ [] = take_all 16 (xs ++ hash ∷ []) (omega (arith, room, length-append xs (hash ∷ []))) in
          let none : drop 16 xs ≡ [] = drop_none 16 xs (omega (arith, room)) in
          let still : drop 16 (xs ++ hash ∷ []) ≡ [] = drop_none 16 (xs ++ hash ∷ []) (omega (arith, room, length-append xs (hash ∷ []))) in
          let few : nat_lt (length (take 16 xs)) 16 ≡ true = ap (λ (l : List Hash256). nat_lt (length l) 16) all ∙ lt-ltb (length xs) 16 room in
          rw (fresh, few, all, longer, none, still) refl
      | inr full ↦
          let flight : 16 ≤ length (take 16 xs) = omega (arith, length-take-le 16 xs full) in
          let first : take 16 (xs ++ hash ∷ []) ≡ take 16 xs = take-append-le 16 xs (hash ∷ []) full in
          let rest : drop 16 (xs ++ hash ∷ []) ≡ drop 16 xs ++ hash ∷ [] = drop-append-le 16 xs (hash ∷ []) full in
          rw (fresh, le-ltb (length (take 16 xs)) 16 flight, first, rest, take_with 2000 (drop 16 xs) hash) (chosen (take 16 xs) (take 2000 (drop 16 xs)) hash (nat_lt (length (take 2000 (drop 16 xs))) 2000))
    ]
  where
    chosen : (flight wanted : List Hash256) (hash : Hash256) (b : Bool) → cond {A = FetchState} b (record { flight = flight; wanted = wanted ++ hash ∷ [] }) (record { flight = flight; wanted = wanted }) ≡ record { flight = flight; wanted = cond b (wanted ++ hash ∷ []) wanted }
    chosen flight wanted hash true = refl
    chosen flight wanted hash false = refl

lacks_cut : (xs : List Hash256) (hash : Hash256) → has xs hash ≡ false → is_fetched (cut xs) hash ≡ false
lacks_cut xs hash lacks =
    let parts = lacks_both 16 xs hash lacks in
    none_of (has (take 16 xs) hash) (has (take 2000 (drop 16 xs)) hash) parts.0 ((lacks_both 2000 (drop 16 xs) hash parts.1).0)

cut_more : (xs : List Hash256) (hash : Hash256) → taking_on (cut xs) hash ≡ cut (with_hash xs hash)
cut_more xs hash =
    elim (cases_Bool (has xs hash)) [
      | inl there ↦
          let same_list : cut (with_hash xs hash) ≡ cut xs = ap (λ b. cut (cond b xs (xs ++ hash ∷ []))) there in
          elim (cases_Bool (is_fetched (cut xs) hash)) [
            | inl found ↦ ap (λ b. cond b (cut xs) (cond (nat_lt (length (take 16 xs)) 16) (with_flight (cut xs) hash) (with_wanted (cut xs) hash))) found ∙ sym same_list
            | inr fresh ↦ cut_off xs hash fresh (full_by xs hash there fresh) ∙ sym same_list
          ]
      | inr lacks ↦ grows xs hash (lacks_cut xs hash lacks) ∙ sym (ap (λ b. cut (cond b xs (xs ++ hash ∷ []))) lacks)
    ]

cut_all : (xs hashes : List Hash256) → fold taking_on (cut xs) hashes ≡ cut (fold with_hash xs hashes)
cut_all xs [] = refl
cut_all xs (hash ∷ hashes) = ap (λ (f : FetchState). fold taking_on f hashes) (cut_more xs hash) ∙ cut_all (with_hash xs hash) hashes

pub taken_is : (hashes : List Hash256) → taken_on hashes ≡ cut (once hashes)
taken_is hashes = cut_all [] hashes

pub flight_is : (hashes : List Hash256) → (taken_on hashes).flight ≡ take 16 (once hashes)
flight_is hashes = ap (λ (f : FetchState). f.flight) (taken_is hashes)

pub wanted_is : (hashes : List Hash256) → (taken_on hashes).wanted ≡ take 2000 (drop 16 (once hashes))
wanted_is hashes = ap (λ (f : FetchState). f.wanted) (taken_is hashes)

pub was_needed : (hashes : List Hash256) (hash : Hash256) → has (taken_on hashes).flight hash ≡ true → has hashes hash ≡ true
was_needed hashes hash flies =
    elim (cases_Bool (has hashes hash)) [
      | inl there ↦ there
      | inr lacks ↦
          let none = lacks_both 16 (once hashes) hash (lacks_once [] hashes hash refl lacks) in
          absurd (false≢true (sym none.0 ∙ ap (λ (l : List Hash256). has l hash) (sym (flight_is hashes)) ∙ flies))
    ]
