-- What becomes of a compact block that couldn't be rebuilt.
use Rattle.std.proofs.Common.{◌≡◌, ◌∙◌, Bool, true, false, ◌||◌, List, [], ◌∷◌, ◌++◌, length, refl, sym, ap, arith, inl, inr}
use Rattle.std.specs.Prelude.{nat_lt}
use Rattle.std.proofs.lemmas.Bool.{cases_Bool}
use Rattle.std.proofs.lemmas.List.{length-append}
use Rattle.std.proofs.lemmas.List.Folds.{list_any-append}
use Rattle.cb_base.specs.declared.hash.Hash256.{Hash256}
use Rattle.cb_chain.specs.Entries.{same}
use Rattle.cb_chain.proofs.BlockIndexes.{same-refl}
use Rattle.cb_peer_state.specs.Fetching.{FetchState, asks_now, fallen_back, has, with_flight, with_wanted}

-- ---- one more, as the last, is another list

longer : (xs : List Hash256) (hash : Hash256) → xs ++ hash ∷ [] ≡ xs → ⊥
longer xs hash e = omega (arith, ap length e, length-append xs (hash ∷ []))

pub flight_differs : (fetch : FetchState) (hash : Hash256) → with_flight fetch hash ≡ fetch → ⊥
flight_differs fetch hash e = longer fetch.flight hash (ap (λ (f : FetchState). f.flight) e)

pub wanted_differs : (fetch : FetchState) (hash : Hash256) → nat_lt (length fetch.wanted) 2000 ≡ true → with_wanted fetch hash ≡ fetch → ⊥
wanted_differs fetch hash room e = longer fetch.wanted hash (ap (λ (f : FetchState). f.wanted) (rw room at e))

-- ---- what stands in a list stands in the longer one

pub last_there : (xs : List Hash256) (hash : Hash256) → has (xs ++ hash ∷ []) hash ≡ true
last_there xs hash = list_any-append (same hash) xs (hash ∷ []) ∙ either (has xs hash) (same hash hash) (same-refl hash)
  where
    either : (a b : Bool) → b ≡ true → (a || (b || false)) ≡ true
    either true b e = refl
    either false b e = ap (λ c. c || false) e

pub still_there : (xs : List Hash256) (hash other : Hash256) → has xs other ≡ true → has (xs ++ hash ∷ []) other ≡ true
still_there xs hash other there = list_any-append (same other) xs (hash ∷ []) ∙ ap (λ c. c || has (hash ∷ []) other) there

-- ---- by the cases of what it does

pub asked : (fetch : FetchState) (hash : Hash256) → asks_now fetch hash ≡ has (fallen_back hash fetch).flight hash
asked fetch hash =
    elim (cases_Bool (has fetch.flight hash)) [
      | inl there ↦ rw there (sym there)
      | inr fresh ↦
          elim (cases_Bool (nat_lt (length fetch.flight) 16)) [
            | inl room ↦ rw (fresh, room) (sym (last_there fetch.flight hash))
            | inr full ↦
                elim (cases_Bool (has fetch.wanted hash)) [
                  | inl wanted ↦ rw (fresh, full, wanted) (sym fresh)
                  | inr new ↦
                      elim (cases_Bool (nat_lt (length fetch.wanted) 2000)) [
                        | inl few ↦ rw (fresh, full, new, few) (sym fresh)
                        | inr many ↦ rw (fresh, full, new, many) (sym fresh)
                      ]
                ]
          ]
    ]

pub flies_still : (fetch : FetchState) (hash other : Hash256) → has fetch.flight other ≡ true → has (fallen_back hash fetch).flight other ≡ true
flies_still fetch hash other there =
    elim (cases_Bool (has fetch.flight hash)) [
      | inl flies ↦ rw flies there
      | inr fresh ↦
          elim (cases_Bool (nat_lt (length fetch.flight) 16)) [
            | inl room ↦ rw (fresh, room) (still_there fetch.flight hash other there)
            | inr full ↦
                elim (cases_Bool (has fetch.wanted hash)) [
                  | inl wanted ↦ rw (fresh, full, wanted) there
                  | inr new ↦
                      elim (cases_Bool (nat_lt (length fetch.wanted) 2000)) [
                        | inl few ↦ rw (fresh, full, new, few) there
                        | inr many ↦ rw (fresh, full, new, many) there
                      ]
                ]
          ]
    ]

pub wanted_still : (fetch : FetchState) (hash other : Hash256) → has fetch.wanted other ≡ true → has (fallen_back hash fetch).wanted other ≡ true
wanted_still fetch hash other there =
    elim (cases_Bool (has fetch.flight hash)) [
      | inl flies ↦ rw flies there
      | inr fresh ↦
          elim (cases_Bool (nat_lt (length fetch.flight) 16)) [
            | inl room ↦ rw (fresh, room) there
            | inr full ↦
                elim (cases_Bool (has fetch.wanted hash)) [
                  | inl wanted ↦ rw (fresh, full, wanted) there
                  | inr new ↦
                      elim (cases_Bool (nat_lt (length fetch.wanted) 2000)) [
                        | inl few ↦ rw (fresh, full, new, few) (still_there fetch.wanted hash other there)
                        | inr many ↦ rw (fresh, full, new, many) there
                      ]
                ]
          ]
    ]
