use Rattle.std.proofs.Common.{rules, ◌≡◌, ℕ, List, [], ◌∷◌, slice_index, refl, inl, inr, ap, ◌∙◌, arith}
use Rattle.std.proofs.lemmas.List.{get_or-set_same, get_or-set_other, length-map}
use Rattle.std.proofs.lemmas.Bool.{cases_lt}
use Rattle.sha2.proofs.Schedule256.{IsWindow_first}
use Rattle.cb_base.specs.Lanes.{lane}
use Rattle.cb_base.proofs.LaneLemmas.{lane_at}
use Rattle.cb_base.proofs.blocks.block_words.Goals as goal

pub loop-i-preserved : goal.loop-i-preserved
loop-i-preserved c =
    let now : List ℕ = c.word_at.result ∷ c.word_at-in-loop-i.result ∷ c.word_at-in-loop-i-2.result ∷ c.word_at-in-loop-i-3.result ∷ [] in (
      search rules,
      λ i lt. elim (cases_lt i c.loop-i.i) [
        | inl a ↦ get_or-set_other c.loop-i.words c.loop-i.i i now [] (omega arith) ∙ c.loop-i.invariant.1 i a
        | inr b ↦
            let e : c.loop-i.i ≡ i = omega arith in
            rw (← e) (get_or-set_same c.loop-i.words c.loop-i.i now [] (omega arith) ∙ rw (c.word_at.ensures, c.word_at-in-loop-i.ensures, c.word_at-in-loop-i-2.ensures, c.word_at-in-loop-i-3.ensures) refl)
      ],
    )

pub returns-clause-first : goal.returns-clause-first
returns-clause-first c =
    IsWindow_first c.args.first.now (lane 0 c.loop-i.words) (length-map c.loop-i.words (λ v. slice_index v 0) ∙ c.loop-i.invariant.0)
    (λ i lt. lane_at 0 i c.loop-i.words [] (omega (arith, c.loop-i.invariant.0, lt)) ∙ ap (λ (v : List ℕ). slice_index v 0) (c.loop-i.invariant.1 i (omega arith)))

pub returns-clause-second : goal.returns-clause-second
returns-clause-second c =
    IsWindow_first c.args.second.now (lane 1 c.loop-i.words) (length-map c.loop-i.words (λ v. slice_index v 1) ∙ c.loop-i.invariant.0)
    (λ i lt. lane_at 1 i c.loop-i.words [] (omega (arith, c.loop-i.invariant.0, lt)) ∙ ap (λ (v : List ℕ). slice_index v 1) (c.loop-i.invariant.1 i (omega arith)))

pub returns-clause-third : goal.returns-clause-third
returns-clause-third c =
    IsWindow_first c.args.third.now (lane 2 c.loop-i.words) (length-map c.loop-i.words (λ v. slice_index v 2) ∙ c.loop-i.invariant.0)
    (λ i lt. lane_at 2 i c.loop-i.words [] (omega (arith, c.loop-i.invariant.0, lt)) ∙ ap (λ (v : List ℕ). slice_index v 2) (c.loop-i.invariant.1 i (omega arith)))

pub returns-clause-fourth : goal.returns-clause-fourth
returns-clause-fourth c =
    IsWindow_first c.args.fourth.now (lane 3 c.loop-i.words) (length-map c.loop-i.words (λ v. slice_index v 3) ∙ c.loop-i.invariant.0)
    (λ i lt. lane_at 3 i c.loop-i.words [] (omega (arith, c.loop-i.invariant.0, lt)) ∙ ap (λ (v : List ℕ). slice_index v 3) (c.loop-i.invariant.1 i (omega arith)))
