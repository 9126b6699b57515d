-- Lists that are walked through from the front.
use Rattle.std.proofs.Common.{◌≡◌, List, [], ◌∷◌, ◌++◌, sym, ap, subst, ◌∙◌, append_assoc}
use Rattle.std.proofs.lemmas.List.{append-nil}
use Rattle.std.specs.List.{AllZip}
use Rattle.cb_crew.proofs.Works.{zip_push}

-- the items so far, and what came of each
pub record Walked {T S : Type 0} (K : T → S → Type 0) (all rest : List T) (done : List S) : Type 0 where
  pub front : List T
  pub all_is : all ≡ front ++ rest
  pub each : AllZip K front done

pub walked_none : {T S : Type 0} (K : T → S → Type 0) (all rest : List T) (done : List S) → rest ≡ all → done ≡ [] → Walked K all rest done
walked_none K all rest done same none = record { front = []; all_is = sym same; each = subst (AllZip K []) (sym none) tt }

pub walked_more : {T S : Type 0} (K : T → S → Type 0) (all rest rest' : List T) (done new : List S) (t : T) (s : S) → Walked K all rest done → rest ≡ t ∷ rest' → new ≡ done ++ s ∷ [] → K t s → Walked K all rest' new
walked_more K all rest rest' done new t s was steps pushed kept = record {
  front = was.front ++ t ∷ [];
  all_is = was.all_is ∙ ap (λ ts. was.front ++ ts) steps ∙ sym (append_assoc was.front (t ∷ []) rest');
  each = subst (AllZip K (was.front ++ t ∷ [])) (sym pushed) (zip_push K was.front done t s was.each kept);
}

-- none is left
pub walked_all : {T S : Type 0} (K : T → S → Type 0) (all rest : List T) (done : List S) → Walked K all rest done → rest ≡ [] → AllZip K all done
walked_all K all rest done was none = subst (λ ts. AllZip K ts done) (sym (was.all_is ∙ ap (λ ts. was.front ++ ts) none ∙ append-nil was.front)) was.each

-- what holds of each pair of two lists, and of each pair of the second and a third
pub zip_through : {A B C : Type 0} (K : A → B → Type 0) (T : B → C → Type 0) (R : B → C → Type 0) → ((a : A) (b : B) (c : C) → K a b → T b c → R b c) → (xs : List A) (ys : List B) (zs : List C) → AllZip K xs ys → AllZip T ys zs → AllZip R ys zs
zip_through K T R so [] [] [] k t = tt
zip_through K T R so [] [] (c ∷ zs) k t = absurd t
zip_through K T R so [] (b ∷ ys) zs k t = absurd k
zip_through K T R so (a ∷ xs) [] zs k t = absurd k
zip_through K T R so (a ∷ xs) (b ∷ ys) [] k t = absurd t
zip_through K T R so (a ∷ xs) (b ∷ ys) (c ∷ zs) k t = (so a b c k.0 t.0, zip_through K T R so xs ys zs k.1 t.1)
