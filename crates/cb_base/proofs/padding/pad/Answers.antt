use Rattle.std.proofs.Common.{[], ◌∷◌, ℕ, ◌-◌, ◌%◌, ◌++◌, List, take, replicate, ap, ◌∙◌, arith}
use Rattle.std.proofs.lemmas.List.{take-replicate}
use Rattle.cb_base.proofs.Padded.{padded_by}
use Rattle.cb_base.proofs.padding.pad.Goals as goal

pub returns-clause-ok : goal.returns-clause-ok
returns-clause-ok c =
    let z : ℕ = (119 - c.len-len.result % 64) % 64 in
    c.in_ok-extend_from_slice-2.ensures.items
    ∙ ap (λ (x : List ℕ). x ++ c.to_be_bytes.result) (c.in_ok-extend_from_slice.ensures.items ∙ ap (λ (x : List ℕ). x ++ take z (replicate 64 0)) (c.push_reserved.ensures.items ∙ ap (λ (x : List ℕ). x ++ 128 ∷ []) c.in_ok-reserve.ensures.items))
    ∙ padded_by c.args.text.now.items (take z (replicate 64 0)) c.to_be_bytes.result c.len-len.result (omega (arith, c.len-len.ensures)) (take-replicate z 64 0 (omega arith)) c.to_be_bytes.ensures
