use Rattle.std.proofs.Common.{◌≡◌, ◌∙◌, ◌++◌, ◌∷◌, ◌≤◌, [], All, length, ap, subst, sym, arith, rules, vec_capacity}
use Rattle.std.specs.Prelude.{IfSome}
use Rattle.std.proofs.lemmas.List.Elements.{All-pop, All-push}
use Rattle.cb_chain.specs.Listing.{Listed, listed}
use Rattle.cb_chain.proofs.Chunks.{IsWhole, listed_closed, listed_more}
use Rattle.cb_chain.proofs.index_list.IndexList.push.Goals as goal

pub returns-then-len-lt-CHUNK_SIZE-clause-block_indexes : goal.returns-then-len-lt-CHUNK_SIZE-clause-block_indexes
returns-then-len-lt-CHUNK_SIZE-clause-block_indexes c =
    let pushed = rw c.unwrap.ensures at c.push.ensures.items in
    ap (listed c.self.inside.full.items) pushed ∙ listed_more c.self.inside.full.items c.self.inside.last.items c.args.block_index ∙ ap (λ (list : Listed). list.block_indexes ++ c.args.block_index ∷ []) c.self.view_is

pub invariant_of-self-2 : goal.invariant_of-self-2
invariant_of-self-2 c =
    let was = c.self.inside in
    let popped = All-pop (λ block_indexes. (block_indexes.items ≡ []) × (256 ≤ vec_capacity block_indexes)) was.spare.items c.pop.new.self.items c.pop.result c.pop.ensures.items c.self.invariant.1 in
    let next = subst (λ o. IfSome o (λ block_indexes. (block_indexes.items ≡ []) × (256 ≤ vec_capacity block_indexes))) c.unwrap-next.ensures popped.1 in
    let whole : length was.last.items ≡ 256 = omega (arith, c.self.invariant.2, c.if-len-lt-CHUNK_SIZE.false, c.len.ensures, was.last.ok.0) in
    let closed : length c.new.result ≡ 256 = ap length (c.new.ensures ∙ ap (λ block_indexes. block_indexes.items) c.replace-block_indexes.ensures.value) ∙ whole in
    let full = rw c.unwrap-3.ensures at c.push-3.ensures.items in (
      subst (All IsWhole) (sym full) (All-push IsWhole was.full.items c.new.result c.self.invariant.0 closed),
      popped.0,
      search rules,
      search rules,
      search rules,
    )

pub returns-clause-block_indexes : goal.returns-clause-block_indexes
returns-clause-block_indexes c =
    let was = c.self.inside in
    let popped = All-pop (λ block_indexes. (block_indexes.items ≡ []) × (256 ≤ vec_capacity block_indexes)) was.spare.items c.pop.new.self.items c.pop.result c.pop.ensures.items c.self.invariant.1 in
    let next = subst (λ o. IfSome o (λ block_indexes. (block_indexes.items ≡ []) × (256 ≤ vec_capacity block_indexes))) c.unwrap-next.ensures popped.1 in
    let full = rw c.unwrap-3.ensures at c.push-3.ensures.items in
    let pushed = rw c.unwrap-2.ensures at c.push-2.ensures.items in
    let closed = c.new.ensures ∙ ap (λ block_indexes. block_indexes.items) c.replace-block_indexes.ensures.value in
    let last : c.replace-block_indexes.new.dest.items ≡ c.args.block_index ∷ [] = ap (λ block_indexes. block_indexes.items) c.replace-block_indexes.ensures.after ∙ pushed ∙ ap (λ ns. ns ++ c.args.block_index ∷ []) next.0 in
    ap (λ chunks. listed chunks c.replace-block_indexes.new.dest.items) full
    ∙ ap (λ chunk. listed (was.full.items ++ chunk ∷ []) c.replace-block_indexes.new.dest.items) closed
    ∙ ap (listed (was.full.items ++ was.last.items ∷ [])) last
    ∙ listed_closed was.full.items was.last.items (c.args.block_index ∷ [])
    ∙ listed_more was.full.items was.last.items c.args.block_index
    ∙ ap (λ (list : Listed). list.block_indexes ++ c.args.block_index ∷ []) c.self.view_is
