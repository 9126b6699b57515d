use Rattle.std.proofs.Common.{◌≡◌, ◌≤◌, ℕ, List, Some, length, ap, sym, subst, refl, ◌∙◌, arith}
use Rattle.std.specs.Prelude.{is_some, slice_get}
use Rattle.std.proofs.lemmas.Bool.{ltb-true, ltb-false}
use Rattle.std.proofs.lemmas.Option.{slice_get_read}
use Rattle.cb_chain.specs.Keeping.{active_places, tree_of}
use Rattle.cb_chain.proofs.PathsDown.{slot_within}
use Rattle.cb_chain.proofs.Reading.{hash_past, hash_slot}
use Rattle.cb_chain.proofs.chain.Chain.at.Goals as goal

pub returns-in-Some : goal.returns-in-Some
returns-in-Some c =
    let places = c.deref.result.now in
    let within = ltb-true c.args.height (length places) (sym c.in-Some.ensures.lookup.0) in
    let slot : slice_get places c.args.height ≡ Some c.in-Some.place.now = slice_get_read places (length places) c.args.height c.in-Some.place.now refl within c.in-Some.ensures.lookup.1 in
    hash_slot c.self.inside.tree.block_indexes c.args.self.now places c.args.height c.in-Some.place.now _ c.len-len.ensures.tree c.self.view_is (c.deref.ensures.value ∙ c.self.invariant.0.places) slot c.block_index.ensures.block_index

pub returns-in_default : goal.returns-in_default
returns-in_default c =
    let places = c.deref.result.now in
    let are : places ≡ active_places (tree_of c.self.inside.tree.block_indexes) = c.deref.ensures.value ∙ c.self.invariant.0.places in
    let within = ltb-true c.args.height (length places) (sym c.in-Some.ensures.lookup.0) in
    let slot : slice_get places c.args.height ≡ Some c.in-Some.place.now = slice_get_read places (length places) c.args.height c.in-Some.place.now refl within c.in-Some.ensures.lookup.1 in
    let low = slot_within c.self.inside.tree.block_indexes c.args.height c.in-Some.place.now c.len-len.ensures.tree (subst (λ (ps : List ℕ). slice_get ps c.args.height ≡ Some c.in-Some.place.now) are slot) in
    absurd (omega (arith, low, c.len-len.ensures.len, c.if-place-len.false))

pub returns-in_default-2 : goal.returns-in_default-2
returns-in_default-2 c =
    let places = c.deref.result.now in
    let past : length places ≤ c.args.height = ltb-false c.args.height (length places) (sym c.get.ensures.lookup.0 ∙ ap is_some c.in_default.is) in
    hash_past c.self.inside.tree.block_indexes c.args.self.now places c.args.height c.len-len.ensures.tree c.self.view_is (c.deref.ensures.value ∙ c.self.invariant.0.places) past
