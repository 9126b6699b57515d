-- When listed blocks stand behind all others already, and how the look-ups tell.
use Rattle.std.proofs.Common.{◌≡◌, ◌⊎◌, ℕ, zero, suc, ◌+◌, ◌<◌, ◌≤◌, Bool, true, false, cond, ◌||◌, ◌&&◌, not, List, [], ◌∷◌, ◌++◌, length, take, drop, get_or, Option, Some, None, refl, sym, ap, ◌∙◌, arith, inl, inr}
use Rattle.std.specs.Prelude.{◌==◌, filter, fold, is_some, nat_lt, position, unwrap_or}
use Rattle.std.specs.List.{position_or_len}
use Rattle.std.proofs.lemmas.Bool.{and_parts, cases_Bool, cases_lt, eq-eqb, eqb-true, false≢true, le-ltb, lt-ltb, ltb-false, ne_eqb, or_cases, or_from, or_left, or_parts, or_right}
use Rattle.std.proofs.lemmas.List.{append-nil, drop_more, length-append, length-take-le, take-append-drop, take_all, take_more}
use Rattle.std.proofs.lemmas.List.Elements.{filter-append}
use Rattle.std.proofs.lemmas.List.Quantifiers.{position-Some}
use Rattle.cb_base.specs.declared.hash.Hash256.{Hash256}
use Rattle.cb_chain.specs.Entries.{same}
use Rattle.cb_chain.proofs.BlockIndexes.{same-refl, same-true}
use Rattle.cb_peer_state.specs.Fetching.{FetchState, has, is_fetched, keeps_place, moves_some, wanting, wanting_all, with_wanted, without}
use Rattle.cb_peer_state.specs.Standing.{first_place, place_of, stand_last}
use Rattle.cb_peer_state.proofs.Grown.{same_front_each}
use Rattle.cb_peer_state.proofs.Leaving.{all_left, appended, loses_listed, without_few}
use Rattle.cb_peer_state.proofs.Needed.{drop_none}

-- ---- the place of a block

abbrev first_at : List Hash256 → Hash256 → ℕ
first_at hashes hash = position_or_len (same hash) hashes

one_on : (p n : ℕ) → nat_lt p n ≡ nat_lt (1 + p) (suc n)
one_on p n =
    elim (cases_lt p n) [
      | inl low ↦ lt-ltb p n low ∙ sym (lt-ltb (1 + p) (suc n) (omega (arith, low)))
      | inr high ↦ le-ltb p n high ∙ sym (le-ltb (1 + p) (suc n) (omega (arith, high)))
    ]

-- a block is among the first ones just if its place is
has_first : (xs : List Hash256) (hash : Hash256) (n : ℕ) → n ≤ length xs → has (take n xs) hash ≡ nat_lt (first_at xs hash) n
has_first xs hash zero low = sym (le-ltb (first_at xs hash) 0 (omega arith))
has_first [] hash (suc n) low = absurd (omega (arith, low))
has_first (x ∷ xs) hash (suc n) low = step (same hash x) (has_first xs hash n (omega (arith, low)))
  where
    step : (b : Bool) → has (take n xs) hash ≡ nat_lt (first_at xs hash) n → (b || has (take n xs) hash) ≡ nat_lt (cond (not b) (1 + first_at xs hash) 0) (suc n)
    step true later = sym (lt-ltb 0 (suc n) (omega arith))
    step false later = later ∙ one_on (first_at xs hash) n

-- it has a place, or is not there
placed : (xs : List Hash256) (hash : Hash256) → ((position (same hash) xs ≡ Some (first_at xs hash)) × (first_at xs hash < length xs)) ⊎ ((position (same hash) xs ≡ None) × (length xs ≤ first_at xs hash))
placed xs hash =
    elim (cases_lt (first_at xs hash) (length xs)) [
      | inl low ↦ inl (ap (λ b. cond b (Some (first_at xs hash)) None) (lt-ltb (first_at xs hash) (length xs) low), low)
      | inr high ↦ inr (ap (λ b. cond b (Some (first_at xs hash)) None) (le-ltb (first_at xs hash) (length xs) high), high)
    ]

found_there : (xs : List Hash256) (hash : Hash256) → is_some (position (same hash) xs) ≡ has xs hash
found_there xs hash =
    let all : has xs hash ≡ nat_lt (first_at xs hash) (length xs) = ap (λ (l : List Hash256). has l hash) (sym (take_all (length xs) xs (omega arith))) ∙ has_first xs hash (length xs) (omega arith) in
    some (nat_lt (first_at xs hash) (length xs)) (first_at xs hash) ∙ sym all
  where
    some : (b : Bool) (p : ℕ) → is_some (cond b (Some p) None) ≡ b
    some true p = refl
    some false p = refl

it_is : (xs : List Hash256) (hash : Hash256) (n : ℕ) → position (same hash) xs ≡ Some n → get_or xs n hash ≡ hash
it_is xs hash n at = sym (same-true hash (get_or xs n hash) ((position-Some (same hash) xs n hash at).1))

first_before : (xs ys : List Hash256) (hash : Hash256) → has xs hash ≡ false → first_at ((xs ++ hash ∷ []) ++ ys) hash ≡ length xs
first_before [] ys hash lacks = ap (λ b. cond (not b) (1 + first_at ys hash) 0) (same-refl hash)
first_before (x ∷ xs) ys hash lacks =
    let parts = or_parts (same hash x) (has xs hash) lacks in
    ap (λ b. cond (not b) (1 + first_at ((xs ++ hash ∷ []) ++ ys) hash) 0) parts.0 ∙ omega (arith, first_before xs ys hash parts.1)

-- where it is the last of the first ones, its place is there
placed_last : (xs front : List Hash256) (hash : Hash256) (m : ℕ) → take m xs ≡ front ++ hash ∷ [] → has front hash ≡ false → position (same hash) xs ≡ Some (length front)
placed_last xs front hash m begins lacks =
    let rest = drop m xs in
    let whole : xs ≡ (front ++ hash ∷ []) ++ rest = sym (take-append-drop m xs) ∙ ap (λ (l : List Hash256). l ++ rest) begins in
    let low : length front < length ((front ++ hash ∷ []) ++ rest) = omega (arith, length-append (front ++ hash ∷ []) rest, length-append front (hash ∷ [])) in
    ap (position (same hash)) whole
    ∙ ap (λ p. cond (nat_lt p (length ((front ++ hash ∷ []) ++ rest))) (Some p) None) (first_before front rest hash lacks)
    ∙ ap (λ b. cond b (Some (length front)) None) (lt-ltb (length front) (length ((front ++ hash ∷ []) ++ rest)) low)

-- ---- what one block changes

still_flying : (fetch : FetchState) (hash : Hash256) → has fetch.flight hash ≡ true → wanting fetch hash ≡ fetch
still_flying fetch hash flies = rw flies refl

still_wanted : (fetch : FetchState) (hash : Hash256) → has fetch.wanted hash ≡ true → wanting fetch hash ≡ fetch
still_wanted fetch hash there = ap (λ b. cond b fetch (with_wanted fetch hash)) (or_right (has fetch.flight hash) (has fetch.wanted hash) there)

still_full : (fetch : FetchState) (hash : Hash256) → 2000 ≤ length fetch.wanted → wanting fetch hash ≡ fetch
still_full fetch hash full =
    elim (cases_Bool (is_fetched fetch hash)) [
      | inl there ↦ rw there refl
      | inr fresh ↦ rw (fresh, le-ltb (length fetch.wanted) 2000 full) refl
    ]

joins_last : (fetch : FetchState) (hash : Hash256) → has fetch.flight hash ≡ false → has fetch.wanted hash ≡ false → length fetch.wanted < 2000
    → wanting fetch hash ≡ record { flight = fetch.flight; wanted = fetch.wanted ++ hash ∷ [] }
joins_last fetch hash rests lacks room = rw (rests, lacks, lt-ltb (length fetch.wanted) 2000 room) refl

all_full : (fetch : FetchState) (hashes : List Hash256) → 2000 ≤ length fetch.wanted → fold wanting fetch hashes ≡ fetch
all_full fetch [] full = refl
all_full fetch (hash ∷ hashes) full = ap (λ (f : FetchState). fold wanting f hashes) (still_full fetch hash full) ∙ all_full fetch hashes full

-- ---- of a list of wanted blocks the first ones

abbrev Lacks : List Hash256 → List Hash256 → List Hash256 → Type 0
Lacks flight wanted hashes = (hash : Hash256) → has hashes hash ≡ true → has flight hash ≡ false → has wanted hash ≡ false

lacks_flying : (flight wanted : List Hash256) (first : Hash256) (hashes : List Hash256) → has flight first ≡ true → Lacks flight wanted hashes → Lacks flight wanted (first ∷ hashes)
lacks_flying flight wanted first hashes flies later hash there rests =
    elim (or_cases (same hash first) (has hashes hash) there) [
      | inl is ↦ absurd (false≢true (sym rests ∙ ap (has flight) (same-true hash first is) ∙ flies))
      | inr more ↦ later hash more rests
    ]

lacks_first : (flight wanted : List Hash256) (first : Hash256) (hashes : List Hash256) → has wanted first ≡ false → Lacks flight wanted hashes → Lacks flight wanted (first ∷ hashes)
lacks_first flight wanted first hashes lacks later hash there rests =
    elim (or_cases (same hash first) (has hashes hash) there) [
      | inl is ↦ ap (has wanted) (same-true hash first is) ∙ lacks
      | inr more ↦ later hash more rests
    ]

lacks_later : (flight wanted : List Hash256) (first : Hash256) (hashes : List Hash256) → Lacks flight wanted (first ∷ hashes) → Lacks flight wanted hashes
lacks_later flight wanted first hashes lacks hash there rests = lacks hash (or_right (same hash first) (has hashes hash) there) rests

module _ (flight wanted : List Hash256) (few : length wanted ≤ 2000) where
  abbrev state : FetchState
  state = record { flight = flight; wanted = wanted }

  abbrev begin : ℕ → FetchState
  begin n = record { flight = flight; wanted = take n wanted }

  long : (n : ℕ) → n ≤ length wanted → length (take n wanted) ≡ n
  long n low = length-take-le n wanted low

  next_more : (hash : Hash256) (n : ℕ) → n < length wanted → position (same hash) wanted ≡ Some n → take (n + 1) wanted ≡ take n wanted ++ hash ∷ []
  next_more hash n low at = take_more wanted n hash low ∙ ap (λ (h : Hash256). take n wanted ++ h ∷ []) (it_is wanted hash n at)

  next_drop : (hash : Hash256) (n : ℕ) → n < length wanted → position (same hash) wanted ≡ Some n → drop n wanted ≡ hash ∷ drop (n + 1) wanted
  next_drop hash n low at = drop_more wanted n hash low ∙ ap (λ (h : Hash256). h ∷ drop (n + 1) wanted) (it_is wanted hash n at)

  -- the next one joins
  joins_next : (hash : Hash256) (n : ℕ) → has flight hash ≡ false → first_at wanted hash ≡ n → n < length wanted → position (same hash) wanted ≡ Some n → wanting (begin n) hash ≡ begin (n + 1)
  joins_next hash n rests is low at =
      let lacks : has (take n wanted) hash ≡ false = has_first wanted hash n (omega (arith, low)) ∙ le-ltb (first_at wanted hash) n (omega (arith, is)) in
      let room : length (take n wanted) < 2000 = omega (arith, long n (omega (arith, low)), low, few) in
      joins_last (begin n) hash rests lacks room ∙ ap (λ (l : List Hash256). record { flight = flight; wanted = l }) (sym (next_more hash n low at))

  -- one that joins and leads to these has its place there
  joins_there : (hash : Hash256) (hashes : List Hash256) (n : ℕ) → n ≤ length wanted → n < 2000 → has flight hash ≡ false → has (take n wanted) hash ≡ false
      → fold wanting (begin n) (hash ∷ hashes) ≡ state → position (same hash) wanted ≡ Some n
  joins_there hash hashes n low room rests lacks leads =
      let more : FetchState = record { flight = flight; wanted = take n wanted ++ hash ∷ [] } in
      let joined : wanting (begin n) hash ≡ more = joins_last (begin n) hash rests lacks (omega (arith, long n low, room)) in
      let then : fold wanting more hashes ≡ state = ap (λ (f : FetchState). fold wanting f hashes) (sym joined) ∙ leads in
      placed_last wanted (take n wanted) hash (length more.wanted) (same_front_each more state hashes (sym then)) lacks ∙ ap Some (long n low)

  -- ---- what the look-ups tell holds

  record Stands (first n : ℕ) (hashes : List Hash256) : Type 0 where
    all : fold wanting (begin n) hashes ≡ state
    lacks : Lacks flight (take first wanted) hashes
    covers : (hash : Hash256) → has (drop n wanted) hash ≡ true → (has hashes hash ≡ true) × (has flight hash ≡ false)

  -- one more that changes nothing
  skips : (first n : ℕ) (hash : Hash256) (hashes : List Hash256) → wanting (begin n) hash ≡ begin n → (Lacks flight (take first wanted) hashes → Lacks flight (take first wanted) (hash ∷ hashes)) → Stands first n hashes
      → Stands first n (hash ∷ hashes)
  skips first n hash hashes same_state more later = record {
    all = ap (λ (f : FetchState). fold wanting f hashes) same_state ∙ later.all;
    lacks = more later.lacks;
    covers = λ other there. ((or_right (same other hash) (has hashes other) ((later.covers other there).0), (later.covers other there).1));
  }

  joins : (first n : ℕ) (hash : Hash256) (hashes : List Hash256) → first ≤ n → has flight hash ≡ false → first_at wanted hash ≡ n → n < length wanted → position (same hash) wanted ≡ Some n → Stands first (n + 1) hashes
      → Stands first n (hash ∷ hashes)
  joins first n hash hashes low rests is within at later = record {
    all = ap (λ (f : FetchState). fold wanting f hashes) (joins_next hash n rests is within at) ∙ later.all;
    lacks = lacks_first flight (take first wanted) hash hashes (has_first wanted hash first (omega (arith, low, within)) ∙ le-ltb (first_at wanted hash) first (omega (arith, is, low))) later.lacks;
    covers = λ other there.
        elim (or_cases (same other hash) (has (drop (n + 1) wanted) other) (ap (λ (l : List Hash256). has l other) (sym (next_drop hash n within at)) ∙ there)) [
          | inl it ↦ ((or_left (same other hash) (has hashes other) it, ap (has flight) (same-true other hash it) ∙ rests))
          | inr more ↦ ((or_right (same other hash) (has hashes other) ((later.covers other more).0), (later.covers other more).1))
        ];
  }

  told : (first n : ℕ) (hashes : List Hash256) → first ≤ n → n ≤ length wanted → stand_last state first n hashes ≡ true → Stands first n hashes
  told first n [] low within e =
      let end : n ≡ length wanted = eqb-true n (length wanted) e in
      record {
        all = ap (λ (l : List Hash256). record { flight = flight; wanted = l }) (take_all n wanted (omega (arith, end)));
        lacks = λ hash there rests. absurd (false≢true there);
        covers = λ hash there. absurd (false≢true (ap (λ (l : List Hash256). has l hash) (sym (drop_none n wanted (omega (arith, end)))) ∙ there));
      }
  told first n (hash ∷ hashes) low within e =
      elim (cases_Bool (has flight hash)) [
        | inl flies ↦ skips first n hash hashes (still_flying (begin n) hash flies) (lacks_flying flight (take first wanted) hash hashes flies) (told first n hashes low within (rw flies at e))
        | inr rests ↦
            elim (placed wanted hash) [
              | inl at ↦
                  let p = first_at wanted hash in
                  let e' : cond (p == n) (stand_last state first (n + 1) hashes) ((not (nat_lt p first) && nat_lt p n) && stand_last state first n hashes) ≡ true = rw (rests, at.0) at e in
                  elim (cases_Bool (p == n)) [
                    | inl is ↦
                        let here : p ≡ n = eqb-true p n is in
                        joins first n hash hashes low rests here (omega (arith, here, at.1)) (at.0 ∙ ap Some here)
                        (told first (n + 1) hashes (omega (arith, low)) (omega (arith, here, at.1)) (ap (λ b. cond b (stand_last state first (n + 1) hashes) ((not (nat_lt p first) && nat_lt p n) && stand_last state first n hashes)) (sym is) ∙ e'))
                    | inr isnt ↦
                        let parts = and_parts (not (nat_lt p first) && nat_lt p n) (stand_last state first n hashes)
                        (ap (λ b. cond b (stand_last state first (n + 1) hashes) ((not (nat_lt p first) && nat_lt p n) && stand_last state first n hashes)) (sym isnt) ∙ e') in
                        let passed = and_parts (not (nat_lt p first)) (nat_lt p n) parts.0 in
                        let stood : has (take n wanted) hash ≡ true = has_first wanted hash n within ∙ passed.1 in
                        let out : has (take first wanted) hash ≡ false = has_first wanted hash first (omega (arith, low, within)) ∙ isnt_so (nat_lt p first) passed.0 in
                        skips first n hash hashes (still_wanted (begin n) hash stood) (lacks_first flight (take first wanted) hash hashes out) (told first n hashes low within parts.1)
                  ]
              | inr none ↦
                  let e' : (not (nat_lt n 2000) && stand_last state first n hashes) ≡ true = rw (rests, none.0) at e in
                  let parts = and_parts (not (nat_lt n 2000)) (stand_last state first n hashes) e' in
                  let full : 2000 ≤ length (take n wanted) = omega (arith, long n within, ltb-false n 2000 (isnt_so (nat_lt n 2000) parts.0)) in
                  let out : has (take first wanted) hash ≡ false = has_first wanted hash first (omega (arith, low, within)) ∙ le-ltb (first_at wanted hash) first (omega (arith, low, within, none.1)) in
                  skips first n hash hashes (still_full (begin n) hash full) (lacks_first flight (take first wanted) hash hashes out) (told first n hashes low within parts.1)
            ]
      ]
    where
      isnt_so : (b : Bool) → not b ≡ true → b ≡ false
      isnt_so true e = absurd (false≢true e)
      isnt_so false e = refl

  -- ---- what holds is told

  tells : (first n : ℕ) (hashes : List Hash256) → first ≤ n → n ≤ length wanted → Lacks flight (take first wanted) hashes → fold wanting (begin n) hashes ≡ state → stand_last state first n hashes ≡ true
  tells first n [] low within lacks leads =
      let end : length (take n wanted) ≡ length wanted = ap (λ (f : FetchState). length f.wanted) leads in
      eq-eqb n (length wanted) (omega (arith, end, long n within))
  tells first n (hash ∷ hashes) low within lacks leads =
      let rest : Lacks flight (take first wanted) hashes = lacks_later flight (take first wanted) hash hashes lacks in
      elim (cases_Bool (has flight hash)) [
        | inl flies ↦
            let on = ap (λ (f : FetchState). fold wanting f hashes) (sym (still_flying (begin n) hash flies)) ∙ leads in
            rw flies (tells first n hashes low within rest on)
        | inr rests ↦
            let out : has (take first wanted) hash ≡ false = lacks hash (or_left (same hash hash) (has hashes hash) (same-refl hash)) rests in
            elim (placed wanted hash) [
              | inl at ↦
                  let p = first_at wanted hash in
                  elim (cases_lt p n) [
                    | inl before ↦
                        let stood : has (take n wanted) hash ≡ true = has_first wanted hash n within ∙ lt-ltb p n before in
                        let on = ap (λ (f : FetchState). fold wanting f hashes) (sym (still_wanted (begin n) hash stood)) ∙ leads in
                        let isnt : (p == n) ≡ false = ne_eqb p n (λ is. omega (arith, is, before)) in
                        let from : nat_lt p first ≡ false = sym (has_first wanted hash first (omega (arith, low, within))) ∙ out in
                        rw (rests, at.0, isnt, from, lt-ltb p n before) (tells first n hashes low within rest on)
                    | inr behind ↦
                        let new : has (take n wanted) hash ≡ false = has_first wanted hash n within ∙ le-ltb p n behind in
                        let there : position (same hash) wanted ≡ Some n = joins_there hash hashes n within (omega (arith, behind, at.1, few)) rests new leads in
                        let here : p ≡ n = ap (λ (o : Option ℕ). unwrap_or o 0) (sym at.0 ∙ there) in
                        let on = ap (λ (f : FetchState). fold wanting f hashes) (sym (joins_next hash n rests here (omega (arith, here, at.1)) there)) ∙ leads in
                        rw (rests, at.0, eq-eqb p n here) (tells first (n + 1) hashes (omega (arith, low)) (omega (arith, here, at.1)) rest on)
                  ]
              | inr none ↦
                  let new : has (take n wanted) hash ≡ false = has_first wanted hash n within ∙ le-ltb (first_at wanted hash) n (omega (arith, within, none.1)) in
                  elim (cases_lt n 2000) [
                    | inl room ↦
                        absurd (false≢true (ap (λ (o : Option ℕ). is_some o) (sym none.0 ∙ joins_there hash hashes n within room rests new leads)))
                    | inr full ↦
                        let on = ap (λ (f : FetchState). fold wanting f hashes) (sym (still_full (begin n) hash (omega (arith, long n within, full)))) ∙ leads in
                        rw (rests, none.0, le-ltb n 2000 full) (tells first n hashes low within rest on)
                  ]
            ]
      ]

-- ---- the first place

-- the first that joins those that are left is the first one that was wanted
place_is : (flight left wanted hashes : List Hash256) (k : ℕ) → length left ≤ 2000 → Lacks flight left hashes → fold wanting (record { flight = flight; wanted = left }) hashes ≡ record { flight = flight; wanted = wanted }
    → first_place (record { flight = flight; wanted = wanted }) hashes ≡ Some k → k ≡ length left
place_is flight left wanted [] k few lacks leads at = absurd (false≢true (ap (λ (o : Option ℕ). is_some o) at))
place_is flight left wanted (hash ∷ hashes) k few lacks leads at =
    let old : FetchState = record { flight = flight; wanted = left } in
    let rest : Lacks flight left hashes = lacks_later flight left hash hashes lacks in
    elim (cases_Bool (has flight hash)) [
      | inl flies ↦ place_is flight left wanted hashes k few rest (ap (λ (f : FetchState). fold wanting f hashes) (sym (still_flying old hash flies)) ∙ leads) (rw flies at at)
      | inr rests ↦
          let out : has left hash ≡ false = lacks hash (or_left (same hash hash) (has hashes hash) (same-refl hash)) rests in
          elim (cases_lt (length left) 2000) [
            | inl room ↦
                let more : FetchState = record { flight = flight; wanted = left ++ hash ∷ [] } in
                let then : fold wanting more hashes ≡ record { flight = flight; wanted = wanted } = ap (λ (f : FetchState). fold wanting f hashes) (sym (joins_last old hash rests out room)) ∙ leads in
                let place : position (same hash) wanted ≡ Some (length left) =
                placed_last wanted left hash (length more.wanted) (same_front_each more (record { flight = flight; wanted = wanted }) hashes (sym then)) out in
                let is : Some (length left) ≡ Some k = rw (rests, place) at at in
                ap (λ (o : Option ℕ). unwrap_or o 0) (sym is)
            | inr full ↦
                let stays : left ≡ wanted = ap (λ (f : FetchState). f.wanted) (sym (all_full old (hash ∷ hashes) full) ∙ leads) in
                let none : is_some (position (same hash) wanted) ≡ false = found_there wanted hash ∙ ap (λ (l : List Hash256). has l hash) (sym stays) ∙ out in
                place_is flight left wanted hashes k few rest (ap (λ (f : FetchState). fold wanting f hashes) (sym (still_full old hash full)) ∙ leads) (rw (rests, none) at at)
          ]
    ]

some_place : (fetch : FetchState) (hashes : List Hash256) → is_some (first_place fetch hashes) ≡ moves_some fetch hashes
some_place fetch [] = refl
some_place fetch (hash ∷ hashes) =
    let there = found_there fetch.wanted hash in
    elim (cases_Bool (not (has fetch.flight hash) && is_some (place_of fetch hash))) [
      | inl moves ↦
          let found = (and_parts (not (has fetch.flight hash)) (is_some (place_of fetch hash)) moves).1 in
          rw moves (found ∙ sym (or_left (not (has fetch.flight hash) && has fetch.wanted hash) (moves_some fetch hashes) (ap (λ b. not (has fetch.flight hash) && b) (sym there) ∙ moves)))
      | inr stands ↦ rw (stands, ap (λ b. not (has fetch.flight hash) && b) (sym there) ∙ stands) (some_place fetch hashes)
    ]

-- ---- all of it

nothing_left : (keeps : Hash256 → Bool) (xs : List Hash256) → ((hash : Hash256) → has xs hash ≡ true → keeps hash ≡ false) → filter keeps xs ≡ []
nothing_left keeps [] fails = refl
nothing_left keeps (x ∷ xs) fails =
    let goes : keeps x ≡ false = fails x (or_left (same x x) (has xs x) (same-refl x)) in
    rw goes (nothing_left keeps xs (λ hash there. fails hash (or_right (same hash x) (has xs hash) there)))

pub changes_nothing : (fetch : FetchState) (hashes : List Hash256) (first : ℕ) → length fetch.wanted ≤ 2000 → first ≤ length fetch.wanted → stand_last fetch first first hashes ≡ true → wanting_all fetch hashes ≡ fetch
changes_nothing fetch hashes first few within e =
    let s = told fetch.flight fetch.wanted few first first hashes (omega arith) within e in
    let keeps = keeps_place fetch hashes in
    let kept : filter keeps (take first fetch.wanted) ≡ take first fetch.wanted = all_left keeps (take first fetch.wanted) (take first fetch.wanted) (λ hash there. keeps_one hash (s.lacks hash) there) (λ hash there. there) in
    let gone : filter keeps (drop first fetch.wanted) ≡ [] =
    nothing_left keeps (drop first fetch.wanted) (λ hash there. let c = s.covers hash there in or_from (has fetch.flight hash) (not (has hashes hash)) c.1 (ap not c.0)) in
    let left : filter keeps fetch.wanted ≡ take first fetch.wanted =
    ap (filter keeps) (sym (take-append-drop first fetch.wanted)) ∙ filter-append keeps (take first fetch.wanted) (drop first fetch.wanted) ∙ (λ i. kept i ++ gone i) ∙ append-nil (take first fetch.wanted) in
    ap (λ (l : List Hash256). fold wanting (record { flight = fetch.flight; wanted = l }) hashes) left ∙ s.all
  where
    keeps_one : (hash : Hash256) → (has hashes hash ≡ true → has fetch.flight hash ≡ false → has (take first fetch.wanted) hash ≡ false) → has (take first fetch.wanted) hash ≡ true → keeps_place fetch hashes hash ≡ true
    keeps_one hash lacks there =
        elim (cases_Bool (has fetch.flight hash)) [
          | inl flies ↦ or_left (has fetch.flight hash) (not (has hashes hash)) flies
          | inr rests ↦
              elim (cases_Bool (has hashes hash)) [
                | inl listed ↦ absurd (false≢true (sym (lacks listed rests) ∙ there))
                | inr unlisted ↦ or_right (has fetch.flight hash) (not (has hashes hash)) (ap not unlisted)
              ]
        ]

pub nothing_changes : (fetch : FetchState) (hashes : List Hash256) (first : ℕ) → length fetch.wanted ≤ 2000 → first ≤ length fetch.wanted → first_place fetch hashes ≡ Some first → wanting_all fetch hashes ≡ fetch
    → stand_last fetch first first hashes ≡ true
nothing_changes fetch hashes first few within at same_state =
    let left = (without fetch hashes).wanted in
    let place : first ≡ length left = place_is fetch.flight left fetch.wanted hashes first (without_few fetch hashes few) (loses_listed fetch hashes) same_state at in
    let begins : take first fetch.wanted ≡ left = ap (λ n. take n fetch.wanted) place ∙ same_front_each (without fetch hashes) fetch hashes (sym same_state) in
    tells fetch.flight fetch.wanted few first first hashes (omega arith) within (λ hash there rests. ap (λ (l : List Hash256). has l hash) begins ∙ loses_listed fetch hashes hash there rests)
    (ap (λ (l : List Hash256). fold wanting (record { flight = fetch.flight; wanted = l }) hashes) begins ∙ same_state)

-- where none of the listed blocks is wanted and out of flight, none leaves its place
pub none_leaves : (fetch : FetchState) (hashes : List Hash256) → first_place fetch hashes ≡ None → fold wanting fetch hashes ≡ wanting_all fetch hashes
none_leaves fetch hashes none = appended fetch hashes (sym (some_place fetch hashes) ∙ ap (λ (o : Option ℕ). is_some o) none)
