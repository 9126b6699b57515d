-- The reports of nodes, and their lines.
use Rattle.std.proofs.Common.{◌≡◌, ◌<◌, ◌+◌, ℕ, List, [], ◌∷◌, ◌++◌, length, map, reverse, take, get_or, codes, sym, ap, subst, ◌∙◌}
use Rattle.std.proofs.lemmas.List.{map-append, take_more}
use Rattle.std.specs.Fmt.{decimal}
use Rattle.std.specs.List.{AllZip, range_with_len}
use Rattle.hex.specs.Hex.{encode_lower}
use Rattle.cb_crew.proofs.RingSums.{range_push}
use Rattle.cb_crew.proofs.Works.{zip_push}
use Rattle.cb_driver.specs.declared.report.NodeReport.{NodeReport}
use Rattle.cb_control.specs.ReplyText.{yes_no}
use Rattle.cb_driver.specs.Summary.{report_text}

-- one more node is reported
pub numbers_more : (old new : List NodeReport) (report : NodeReport) (n : ℕ) → new ≡ old ++ report ∷ [] → report.node ≡ n → map (λ (r : NodeReport). r.node) old ≡ range_with_len 0 n
    → map (λ (r : NodeReport). r.node) new ≡ range_with_len 0 (n + 1)
numbers_more old new report n pushed is so_far =
    ap (map (λ (r : NodeReport). r.node)) pushed ∙ map-append (λ (r : NodeReport). r.node) old (report ∷ []) ∙ ap (λ (l : List ℕ). l ++ report.node ∷ []) so_far ∙ ap (λ (k : ℕ). range_with_len 0 n ++ k ∷ []) is
    ∙ sym (range_push n)

pub zips_more : {A B : Type 0} (K : A → B → Type 0) (xs : List A) (n : ℕ) (x : A) (old new : List B) (y : B) → n < length xs → x ≡ get_or xs n x → new ≡ old ++ y ∷ [] → K x y → AllZip K (take n xs) old
    → AllZip K (take (n + 1) xs) new
zips_more {A} {B} K xs n x old new y there is pushed holds so_far =
    let more : take (n + 1) xs ≡ take n xs ++ x ∷ [] = take_more xs n x there ∙ ap (λ (e : A). take n xs ++ e ∷ []) (sym is) in
    subst (AllZip K (take (n + 1) xs)) (sym pushed) (subst (λ (front : List A). AllZip K front (old ++ y ∷ [])) (sym more) (zip_push K (take n xs) old x y so_far holds))

-- the line of a node
pub printed : (old new tip told : List ℕ) (report : NodeReport) → tip ≡ encode_lower (reverse report.look.tip.0) → told ≡ yes_no report.agrees
    → new
    ≡ old ++ (codes "node " ++ (decimal report.node ++ (codes " height " ++ (decimal report.look.height ++ (codes " tip " ++ (tip ++ (codes " pool " ++ (decimal report.look.pool ++ (codes " audit " ++ (told ++ codes "\n"))))))))))
    → new ≡ old ++ report_text report
printed old new tip told report shown is text =
    let front : List ℕ → List ℕ = λ l. old ++ (codes "node " ++ (decimal report.node ++ (codes " height " ++ (decimal report.look.height ++ (codes " tip " ++ l))))) in
    let back : List ℕ → List ℕ → List ℕ = λ t v. t ++ (codes " pool " ++ (decimal report.look.pool ++ (codes " audit " ++ (v ++ codes "\n")))) in
    text ∙ ap (λ t. front (back t told)) shown ∙ ap (λ v. front (back (encode_lower (reverse report.look.tip.0)) v)) is
