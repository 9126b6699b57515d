-- Texts that are printed part by part.
use Rattle.std.proofs.Common.{◌≡◌, ◌+◌, ℕ, Bool, List, [], ◌∷◌, ◌++◌, append_assoc, sym, ap, ◌∙◌, arith, true, false, refl}
use Rattle.std.specs.List.{flat_map, range_with_len}
use Rattle.std.specs.Prelude.{◌↔◌, ◌&&◌, ◌==◌, IsTrue, not}
use Rattle.std.proofs.lemmas.Bool.{and_parts, eq-eqb, eqb-true, false≢true}
use Rattle.std.proofs.lemmas.List.{flat_map_more, map-id}
use Rattle.std.proofs.lemmas.List.FromFn.{map-range_with_len_more}
use Rattle.cb_net_node.specs.Arrivals.{IsWell}
use Rattle.cb_net_node.specs.declared.results.Ending.{Ending}
use Rattle.cb_net.specs.NetEnding.{is_well}

-- one part more behind those so far
pub more : (old front part mid new : List ℕ) → mid ≡ old ++ front → new ≡ mid ++ part → new ≡ old ++ (front ++ part)
more old front part mid new before is = is ∙ ap (λ (l : List ℕ). l ++ part) before ∙ append_assoc old front part

-- one place more
range_more : (n : ℕ) → range_with_len 0 (n + 1) ≡ range_with_len 0 n ++ n ∷ []
range_more n =
    sym (map-id (range_with_len 0 (n + 1))) ∙ (map-range_with_len_more (λ (x : ℕ). x) 0 n n (omega arith) ∙ ap (λ (xs : List ℕ). xs ++ n ∷ []) (map-id (range_with_len 0 n)))

pub line_more : (line : ℕ → List ℕ) (place : ℕ) (start before after : List ℕ) → before ≡ start ++ flat_map line (range_with_len 0 place) → after ≡ before ++ line place → after ≡ start ++ flat_map line (range_with_len 0 (place + 1))
line_more line place start before after so_far printed =
    printed ∙ ap (λ (l : List ℕ). l ++ line place) so_far ∙ flat_map_more line start (range_with_len 0 place) place ∙ ap (λ (l : List ℕ). start ++ flat_map line l) (sym (range_more place))

-- ---- whether all is well

same_bool : (a b : Bool) → (a ≡ true → b ≡ true) → (b ≡ true → a ≡ true) → a ≡ b
same_bool true true f g = refl
same_bool true false f g = absurd (false≢true (f refl))
same_bool false true f g = absurd (false≢true (g refl))
same_bool false false f g = refl

not_true : (b : Bool) → not b ≡ true → b ≡ false
not_true true h = absurd (false≢true h)
not_true false h = refl

well_from : (ending : Ending) → is_well ending ≡ true → IsWell ending
well_from ending h =
    let first = and_parts (ending.agreeing == ending.honest) (ending.no == 0 && not ending.is_cut) h in
    let rest = and_parts (ending.no == 0) (not ending.is_cut) first.1 in
    record {
      one_tip = eqb-true ending.agreeing ending.honest first.0;
      audits = eqb-true ending.no 0 rest.0;
      whole = not_true ending.is_cut rest.1;
    }

well_to : (ending : Ending) → IsWell ending → is_well ending ≡ true
well_to ending well = rw (eq-eqb ending.agreeing ending.honest well.one_tip, eq-eqb ending.no 0 well.audits, well.whole) refl

pub well_is : (told : Bool) (ending : Ending) → (IsTrue told ↔ IsWell ending) → told ≡ is_well ending
well_is told ending is = same_bool told (is_well ending) (λ h. well_to ending (is.0 h)) (λ h. is.1 (well_from ending h))
