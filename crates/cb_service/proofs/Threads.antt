-- What the threads of a crew hand back.
use Rattle.std.proofs.Common.{◌≡◌, ℕ, zero, suc, ◌<◌, ◌≤◌, List, [], ◌∷◌, ◌++◌, length, map, slice_index_or, All, refl, sym, ap, subst, ◌∙◌, arith}
use Rattle.std.specs.List.{AllZip}
use Rattle.std.proofs.lemmas.List.{append-nil, map-append, append_assoc, length-map}
use Rattle.std.proofs.lemmas.List.Elements.{All-append, All-cons, All-nil, All-head, All-tail}
use Rattle.cb_crew.specs.Turn.{HandlerState}
use Rattle.cb_crew.specs.Crew.{CrewState, AreHandlersOf, FirstHasRoom, IsHandlerOf}
use Rattle.cb_crew.proofs.Works.{zip_push}

-- ---- started one after another

-- what holds of all that are left holds of the next
pub next_has : {H : Type 0} (P : H → Type 0) (rest left : List H) (h : H) → All P rest → rest ≡ h ∷ left → P h
next_has P rest left h all steps = All-head P h left (subst (All P) steps all)

-- one thread more, for the next of all handlers
pub started_more : {T H : Type 0} (f : T → H) (C : T → Type 0) (P : H → Type 0) (done new : List T) (t : T) (h : H) (rest left all : List H)
    → (map f done ++ rest ≡ all) × All C done × All P rest → rest ≡ h ∷ left → new ≡ done ++ t ∷ [] → f t ≡ h → C t
    → (map f new ++ left ≡ all) × All C new × All P left
started_more f C P done new t h rest left all was steps pushed is of =
    let mapped : map f (done ++ t ∷ []) ++ left ≡ all =
    ap (λ xs. xs ++ left) (map-append f done (t ∷ [])) ∙ append_assoc (map f done) (f t ∷ []) left ∙ ap (λ x. map f done ++ x ∷ left) is ∙ ap (λ xs. map f done ++ xs) (sym steps) ∙ was.0 in (
      ap (λ ts. map f ts ++ left) pushed ∙ mapped,
      subst (All C) (sym pushed) (All-append C done (t ∷ []) was.1 (All-cons C t [] of (All-nil C))),
      All-tail P h left (subst (All P) steps was.2),
    )

-- where no handler is left, each has its thread
pub started_all : {T H : Type 0} (f : T → H) (done : List T) (rest all : List H) → map f done ++ rest ≡ all → rest ≡ [] → map f done ≡ all
started_all f done rest all was none = sym (append-nil (map f done)) ∙ ap (λ xs. map f done ++ xs) (sym none) ∙ was

-- ---- handed back

-- each thread's result has what its promise says
abbrev pub Returned : {T S : Type 0} → (T → S → Type 0) → List T → List S → Type 0
Returned {T} {S} K threads back = (i : ℕ) (d : S) → i < length back → (t : T) × (t ≡ slice_index_or threads i t) × K t (slice_index_or back i d)

-- one result more, in front
returned_cons : {T S : Type 0} (K : T → S → Type 0) (t : T) (threads : List T) (s : S) (back : List S) → K t s → Returned K threads back → Returned K (t ∷ threads) (s ∷ back)
returned_cons K t threads s back kept rest zero d lt = (t, refl, kept)
returned_cons K t threads s back kept rest (suc i) d lt = rest i d (omega arith)

-- so the results are those of the threads, in their order
returned_map : {T S N : Type 0} (K : T → S → Type 0) (f : T → N) (g : S → N) → ((t : T) (s : S) → K t s → g s ≡ f t) → (threads : List T) (back : List S) → length back ≡ length threads → Returned K threads back → map g back ≡ map f threads
returned_map K f g same [] [] len each = refl
returned_map K f g same [] (s ∷ back) len each = absurd (omega arith)
returned_map K f g same (t ∷ threads) [] len each = absurd (omega arith)
returned_map K f g same (t ∷ threads) (s ∷ back) len each =
    let first = each 0 s (omega arith) in
    let here : g s ≡ f t = same first.0 s first.2 ∙ ap f first.1 in
    let rest : map g back ≡ map f threads = returned_map K f g same threads back (omega arith) (λ i d lt. each (suc i) d (omega arith)) in
    ap (λ x. x ∷ map g back) here ∙ ap (λ xs. f t ∷ xs) rest

map_map : {A B N : Type 0} (f : A → B) (g : B → N) (xs : List A) → map g (map f xs) ≡ map (λ x. g (f x)) xs
map_map f g [] = refl
map_map f g (x ∷ xs) = ap (λ ys. g (f x) ∷ ys) (map_map f g xs)

first_room : {X : Type 0} (crew : CrewState) (xs ys : List (HandlerState X)) → map (λ (h : HandlerState X). h.room) xs ≡ map (λ (h : HandlerState X). h.room) ys → FirstHasRoom crew ys → FirstHasRoom crew xs
first_room crew [] [] same room = room
first_room {X} crew [] (y ∷ ys) same room = absurd (let n : 0 ≡ suc (length (map (λ (h : HandlerState X). h.room) ys)) = ap length same in omega arith)
first_room {X} crew (x ∷ xs) [] same room = absurd (let n : suc (length (map (λ (h : HandlerState X). h.room) xs)) ≡ 0 = ap length same in omega arith)
first_room crew (x ∷ xs) (y ∷ ys) same room = subst (λ n. length crew.inboxes ≤ n) (sym (ap (λ ns. slice_index_or ns 0 0) same)) room

-- all handlers are those of the crew, the first of them first
pub handlers_back : {X T : Type 0} (K : T → HandlerState X → Type 0) (f : T → HandlerState X) (c : T → CrewState) → ((t : T) (s : HandlerState X) → K t s → IsHandlerOf (c t) s × (s.room ≡ (f t).room))
    → (crew : CrewState) (handlers : List (HandlerState X)) (threads : List T) (back : List (HandlerState X)) → map f threads ≡ handlers → All (λ t. c t ≡ crew) threads → AreHandlersOf crew handlers
    → length back ≡ length threads → Returned K threads back → AreHandlersOf crew back
handlers_back {X} K f c keeps crew handlers threads back of crews all len each =
    let rooms : map (λ (h : HandlerState X). h.room) back ≡ map (λ (h : HandlerState X). h.room) handlers =
    returned_map K (λ t. (f t).room) (λ (h : HandlerState X). h.room) (λ t s k. (keeps t s k).1) threads back len each ∙ sym (map_map f (λ (h : HandlerState X). h.room) threads) ∙ ap (map (λ (h : HandlerState X). h.room)) of in
    record {
      each = λ i d lt.
          let r = each i d lt in
          let lt' : i < length threads = omega arith in
          subst (λ (k : CrewState). IsHandlerOf k (slice_index_or back i d)) (ap c r.1 ∙ crews i r.0 lt') (keeps _ _ r.2).0;
      all = len ∙ sym (length-map threads f) ∙ ap length of ∙ all.all;
      first = first_room crew back handlers rooms all.first;
    }

-- ---- joined one after another

-- the threads that were joined, and what they returned
pub record IsJoining {T S : Type 0} (K : T → S → Type 0) (all rest : List T) (done : List S) : Type 0 where
  pub first : List T
  pub all_is : all ≡ first ++ rest
  pub each : AllZip K first done

pub joining_none : {T S : Type 0} (K : T → S → Type 0) (all rest : List T) (done : List S) → rest ≡ all → done ≡ [] → IsJoining K all rest done
joining_none K all rest done same none = record { first = []; all_is = sym same; each = subst (AllZip K []) (sym none) tt }

pub joining_more : {T S : Type 0} (K : T → S → Type 0) (all rest rest' : List T) (done new : List S) (t : T) (s : S) → IsJoining K all rest done → rest ≡ t ∷ rest' → new ≡ done ++ s ∷ [] → K t s → IsJoining K all rest' new
joining_more K all rest rest' done new t s was steps pushed kept = record {
  first = was.first ++ t ∷ [];
  all_is = was.all_is ∙ ap (λ ts. was.first ++ ts) steps ∙ sym (append_assoc was.first (t ∷ []) rest');
  each = subst (AllZip K (was.first ++ t ∷ [])) (sym pushed) (zip_push K was.first done t s was.each kept);
}

-- a result stands at the place of its thread
zip_returned : {T S : Type 0} (K : T → S → Type 0) (threads : List T) (back : List S) → AllZip K threads back → (length back ≡ length threads) × Returned K threads back
zip_returned K [] [] each = (refl, λ i d lt. absurd (omega arith))
zip_returned K [] (s ∷ back) each = absurd each
zip_returned K (t ∷ threads) [] each = absurd each
zip_returned {T} {S} K (t ∷ threads) (s ∷ back) each =
    let rest = zip_returned K threads back each.1 in
    (ap suc rest.0, returned_cons K t threads s back each.0 rest.1)

-- where none is left, all handlers are back
pub joining_all : {X T : Type 0} (K : T → HandlerState X → Type 0) (f : T → HandlerState X) (c : T → CrewState) → ((t : T) (s : HandlerState X) → K t s → IsHandlerOf (c t) s × (s.room ≡ (f t).room))
    → (crew : CrewState) (handlers : List (HandlerState X)) (all rest : List T) (back : List (HandlerState X)) → map f all ≡ handlers → All (λ t. c t ≡ crew) all → AreHandlersOf crew handlers
    → IsJoining K all rest back → rest ≡ [] → AreHandlersOf crew back
joining_all K f c keeps crew handlers all rest back of crews are was none =
    let whole : was.first ≡ all = sym (was.all_is ∙ ap (λ ts. was.first ++ ts) none ∙ append-nil was.first) in
    let got = zip_returned K all back (subst (λ ts. AllZip K ts back) whole was.each) in
    handlers_back K f c keeps crew handlers all back of crews are got.0 got.1
