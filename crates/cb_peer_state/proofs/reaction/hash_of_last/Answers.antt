use Rattle.std.proofs.Common.{◌≡◌, ◌∷◌, List, Some, ap, sym, subst, ◌∙◌, length, ◌-◌, arith}
use Rattle.std.specs.List.{slice_get}
use Rattle.cb_base.specs.declared.hash.Hash256.{Hash256}
use Rattle.cb_block.specs.declared.header.Header.{Header}
use Rattle.cb_peer_state.proofs.Lights.{last_is}
use Rattle.cb_peer_state.proofs.reaction.hash_of_last.Goals as goal

pub returns-in-Some-clause-some : goal.returns-in-Some-clause-some
returns-in-Some-clause-some c = λ first others same.
    let there : Some c.in-Some.header.now ≡ slice_get (first ∷ others) (length (first ∷ others) - 1) = subst (λ (l : List Header). Some c.in-Some.header.now ≡ slice_get l (length l - 1)) same c.in-Some.ensures.value in
    let place : length (first ∷ others) - 1 ≡ length others = omega arith in
    ap (λ (h : Hash256). Some h) (c.hash.ensures ∙ last_is first others c.in-Some.header.now (sym (there ∙ ap (slice_get (first ∷ others)) place)))
