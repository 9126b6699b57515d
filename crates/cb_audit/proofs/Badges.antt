-- What the badges of works count: the answers of their traces.
use Rattle.std.proofs.Common.{◌≡◌, ◌∙◌, ℕ, ◌+◌, ◌<◌, ◌≤◌, List, [], ◌∷◌, ◌++◌, length, take, get_or, refl, sym, ap, subst}
use Rattle.std.specs.Prelude.{map}
use Rattle.std.specs.List.{flat_map, sum_by}
use Rattle.std.proofs.lemmas.List.{append-nil, map-append, take_all}
use Rattle.std.proofs.lemmas.List.Concat.{flat_map-append}
use Rattle.std.proofs.lemmas.List.Sums.{sum_by-append, sum_by_push}
use Rattle.cb_crew.specs.Desk.{DeskState}
use Rattle.cb_crew.specs.Headline.{works_of}
use Rattle.cb_work.specs.PeerWork.{WorkState}
use Rattle.cb_audit.specs.Desks.{badge_count, trace_of_work, traces_of, traces_of_desk}
use Rattle.cb_audit.specs.Order.{AuditedTrace}
use Rattle.cb_audit.proofs.Listing.{one_more}

-- how many answers traces count, and how many the badges of works
abbrev pub told_in_all : List AuditedTrace → ℕ
told_in_all traces = sum_by (λ one. one.trace.total.told) traces

abbrev pub badged : {S H F : Type 0} → List (WorkState S H F) → ℕ
badged works = sum_by (λ work. work.badge.count) works

-- ---- one work after another

pub works_none : {S H F : Type 0} (works : List (WorkState S H F)) → told_in_all (map trace_of_work (take 0 works)) ≡ badged (take 0 works)
works_none works = refl

works_pushed : {S H F : Type 0} (works : List (WorkState S H F)) (here : WorkState S H F) → told_in_all (map trace_of_work works) ≡ badged works → here.trace.total.told ≡ here.badge.count
    → told_in_all (map trace_of_work (works ++ here ∷ [])) ≡ badged (works ++ here ∷ [])
works_pushed works here so_far own =
    ap told_in_all (map-append trace_of_work works (here ∷ [])) ∙ sum_by_push (λ (one : AuditedTrace). one.trace.total.told) (map trace_of_work works) (trace_of_work here)
    ∙ ap (λ (n : ℕ). n + here.trace.total.told) so_far ∙ ap (λ (n : ℕ). badged works + n) own ∙ sym (sum_by_push (λ (work : WorkState _ _ _). work.badge.count) works here)

pub works_more : {S H F : Type 0} (works : List (WorkState S H F)) (n : ℕ) (here : WorkState S H F) → told_in_all (map trace_of_work (take n works)) ≡ badged (take n works) → n < length works → here ≡ get_or works n here
    → here.trace.total.told ≡ here.badge.count → told_in_all (map trace_of_work (take (n + 1) works)) ≡ badged (take (n + 1) works)
works_more works n here so_far low is own =
    subst (λ (l : List (WorkState _ _ _)). told_in_all (map trace_of_work l) ≡ badged l) (sym (one_more works n here low is)) (works_pushed (take n works) here so_far own)

pub works_last : {S H F : Type 0} (works : List (WorkState S H F)) (n : ℕ) (last : WorkState S H F) → told_in_all (map trace_of_work (take n works)) ≡ badged (take n works) → length works ≤ n → last.trace.total.told ≡ last.badge.count
    → told_in_all (map trace_of_work (works ++ last ∷ [])) ≡ badged (works ++ last ∷ [])
works_last works n last so_far past own = works_pushed works last (subst (λ (l : List (WorkState _ _ _)). told_in_all (map trace_of_work l) ≡ badged l) (take_all n works past) so_far) own

-- ---- one desk after another

pub desks_none : {S H F M : Type 0} (desks : List (DeskState (WorkState S H F) M)) → told_in_all (traces_of (take 0 desks)) ≡ badge_count (take 0 desks)
desks_none desks = refl

desks_pushed : {S H F M : Type 0} (desks : List (DeskState (WorkState S H F) M)) (here : DeskState (WorkState S H F) M) → told_in_all (traces_of desks) ≡ badge_count desks → told_in_all (traces_of_desk here) ≡ badged (works_of here)
    → told_in_all (traces_of (desks ++ here ∷ [])) ≡ badge_count (desks ++ here ∷ [])
desks_pushed desks here so_far own =
    ap told_in_all (flat_map-append traces_of_desk desks (here ∷ []) ∙ ap (λ (l : List AuditedTrace). traces_of desks ++ l) (append-nil (traces_of_desk here)))
    ∙ sum_by-append (λ (one : AuditedTrace). one.trace.total.told) (traces_of desks) (traces_of_desk here) ∙ ap (λ (n : ℕ). n + told_in_all (traces_of_desk here)) so_far ∙ ap (λ (n : ℕ). badge_count desks + n) own
    ∙ sym
    (ap badged (flat_map-append works_of desks (here ∷ []) ∙ ap (λ (l : List (WorkState _ _ _)). flat_map works_of desks ++ l) (append-nil (works_of here)))
    ∙ sum_by-append (λ (work : WorkState _ _ _). work.badge.count) (flat_map works_of desks) (works_of here))

pub desks_more : {S H F M : Type 0} (desks : List (DeskState (WorkState S H F) M)) (n : ℕ) (here : DeskState (WorkState S H F) M) → told_in_all (traces_of (take n desks)) ≡ badge_count (take n desks) → n < length desks → here ≡ get_or desks n here
    → told_in_all (traces_of_desk here) ≡ badged (works_of here) → told_in_all (traces_of (take (n + 1) desks)) ≡ badge_count (take (n + 1) desks)
desks_more desks n here so_far low is own =
    subst (λ (l : List (DeskState (WorkState _ _ _) _)). told_in_all (traces_of l) ≡ badge_count l) (sym (one_more desks n here low is)) (desks_pushed (take n desks) here so_far own)

pub desks_all : {S H F M : Type 0} (desks : List (DeskState (WorkState S H F) M)) (n : ℕ) → told_in_all (traces_of (take n desks)) ≡ badge_count (take n desks) → length desks ≤ n → told_in_all (traces_of desks) ≡ badge_count desks
desks_all desks n so_far past = subst (λ (l : List (DeskState (WorkState _ _ _) _)). told_in_all (traces_of l) ≡ badge_count l) (take_all n desks past) so_far
