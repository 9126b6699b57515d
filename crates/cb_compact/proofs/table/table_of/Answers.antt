use Rattle.std.proofs.Common.{◌≡◌, ◌+◌, ◌<◌, ℕ, List, [], ◌∷◌, ◌++◌, get_or, take, drop, length, nat_eq, sym, ap, ◌∙◌, subst, arith, length-take, is_some}
use Rattle.std.proofs.Math.Seq.{take-length}
use Rattle.std.proofs.lemmas.Grind.{take_at_read}
use Rattle.std.proofs.lemmas.List.{take-append-drop}
use Rattle.std.specs.Map.{lookup}
use Rattle.cb_compact.specs.Slots.{AreDifferent}
use Rattle.cb_compact.specs.Tables.{ArePlaces, all_found}
use Rattle.cb_compact.proofs.Indexes.{from_here}
use Rattle.cb_compact.proofs.Tabling.{different_more, found_more, is_there, isnt_there, places_more, repeated}
use Rattle.cb_compact.proofs.table.table_of.Goals as goal

in_parts : (ids : List ℕ) (i : ℕ) → i < length ids → ids ≡ take i ids ++ get_or ids i 0 ∷ drop (i + 1) ids
in_parts ids i there = sym (take-append-drop i ids) ∙ ap (λ list. take i ids ++ list) (from_here ids i 0 there)

all_taken : (ids : List ℕ) (i : ℕ) → i ≡ length ids → take i ids ≡ ids
all_taken ids i last = ap (λ n. take n ids) last ∙ take-length ids

pub returns-then-is_some-clause-exact : goal.returns-then-is_some-clause-exact
returns-then-is_some-clause-exact c =
    let i = c.loop-place.place in
    let ids = c.args.ids.now in
    let id = get_or ids i 0 in
    let among = is_there (take i ids) id (lookup (nat_eq id) c.loop-place.places.entries) (c.loop-place.invariant.0 id) (ap is_some (sym c.in_ok-insert.ensures.old) ∙ sym c.is_some.ensures ∙ c.if-is_some.true) in
    λ different. repeated (take i ids) id (drop (i + 1) ids) among (subst AreDifferent (in_parts ids i c.loop-place-test.true) different)

pub loop-place-preserved : goal.loop-place-preserved
loop-place-preserved c =
    let l = c.loop-place in
    let i = l.place in
    let ids = c.args.ids.now in
    let id = get_or ids i 0 in
    let more = (take_at_read ids i 0 c.loop-place-test.true).1 in
    let last : i ≡ length (take i ids) = omega (arith, length-take i ids, c.loop-place-test.true) in
    let apart = isnt_there (take i ids) id (lookup (nat_eq id) l.places.entries) (l.invariant.0 id) (ap is_some (sym c.in_ok-insert.ensures.old) ∙ sym c.is_some.ensures ∙ c.if-is_some.false) in (
      subst (λ list. ArePlaces list c.insert.new.self.entries) (sym more) (places_more (take i ids) id i l.places.entries c.insert.new.self.entries last c.in_ok-insert.ensures.updates.0 l.invariant.0),
      c.in_ok-push.ensures.items ∙ found_more (take i ids) id l.found.items l.invariant.1 ∙ ap (λ list. all_found list []) (sym more),
      subst AreDifferent (sym more) (different_more (take i ids) id l.invariant.2 apart),
      c.in_ok-insert.ensures.hasher ∙ l.invariant.3,
    )

pub returns-clause-exact : goal.returns-clause-exact
returns-clause-exact c =
    let l = c.loop-place in
    let ids = c.args.ids.now in
    let all = all_taken ids l.place (omega (arith, c.loop-place-test.false, l.auto.place-end)) in
    (subst AreDifferent all l.invariant.2, record { places = subst (λ list. ArePlaces list l.places.entries) all l.invariant.0; found = l.invariant.1 ∙ ap (λ list. all_found list []) all })
