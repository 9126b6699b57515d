use Rattle.std.proofs.Common.{◌≡◌, ◌≤◌, ◌∙◌, List, All, length, ap, subst, sym, arith, rules}
use Rattle.std.proofs.lemmas.Grind.{common_steps}
use Rattle.std.proofs.lemmas.List.{take_all}
use Rattle.cb_chain.specs.declared.block_index.BareIndex.{BareIndex}
use Rattle.cb_chain.specs.Listing.{Listed, listed}
use Rattle.cb_chain.proofs.Chunks.{IsWhole}
use Rattle.cb_chain.proofs.index_list.IndexList.copy.Goals as goal

pub loop-chunk-preserved : goal.loop-chunk-preserved
loop-chunk-preserved c = grind (arith, common_steps)

pub invariant_of-result : goal.invariant_of-result
invariant_of-result c =
    let old = c.self.inside.full.items in
    let long : length old ≤ c.loop-chunk.chunk-index = subst (λ (chunks : List (List BareIndex)). length chunks ≤ c.loop-chunk.chunk-index) c.deref-chunk-items.ensures.value c.loop-chunk-test.false in
    let full : c.loop-chunk.full.items ≡ old = c.loop-chunk.invariant ∙ take_all c.loop-chunk.chunk-index old long in
    let all : All IsWhole c.loop-chunk.full.items = subst (All IsWhole) (sym full) c.self.invariant.0 in
    (all, search rules, search rules, search rules, search rules)

pub returns-clause-same : goal.returns-clause-same
returns-clause-same c =
    let old = c.self.inside.full.items in
    let long : length old ≤ c.loop-chunk.chunk-index = subst (λ (chunks : List (List BareIndex)). length chunks ≤ c.loop-chunk.chunk-index) c.deref-chunk-items.ensures.value c.loop-chunk-test.false in
    let full : c.loop-chunk.full.items ≡ old = c.loop-chunk.invariant ∙ take_all c.loop-chunk.chunk-index old long in
    let last : c.in_ok-last.last.items ≡ c.self.inside.last.items = c.in_ok-last.ensures.same ∙ c.as_slice.ensures.value in
    ap (λ (chunks : List (List BareIndex)). listed chunks c.in_ok-last.last.items) full ∙ ap (listed old) last ∙ ap (λ (list : Listed). list.block_indexes) c.self.view_is
