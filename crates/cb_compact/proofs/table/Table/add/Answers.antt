use Rattle.std.proofs.Common.{◌≡◌, Some, set, nat_eq, sym, ap, ◌∙◌, rules}
use Rattle.std.proofs.lemmas.Option.{slice_get-get_or}
use Rattle.std.specs.Map.{lookup}
use Rattle.cb_compact.specs.Tables.{with_pair}
use Rattle.cb_compact.proofs.Tabling.{more_past, more_set}
use Rattle.cb_compact.proofs.table.Table.add.Goals as goal

pub returns-then-place-len-clause-found : goal.returns-then-place-len-clause-found
returns-then-place-len-clause-found c =
    let pair = c.args.pair in
    let list = c.args.self.now.found.items in
    let place = c.in-Some.place in
    let there : lookup (nat_eq pair.id) c.args.self.now.places.entries ≡ Some place = sym c.get.ensures.value ∙ sym c.copied.ensures ∙ c.in-Some.is in
    ap (set list place) (c.add.ensures)
    ∙ sym (more_set list place pair.tx c.index_mut.result.now (slice_get-get_or list place c.index_mut.result.now (search rules) ∙ ap (λ it. Some it) (sym c.index_mut.ensures.value)))
    ∙ ap (λ at. with_pair at pair.tx list) (sym there)

pub returns-else-place-len-clause-found : goal.returns-else-place-len-clause-found
returns-else-place-len-clause-found c =
    let pair = c.args.pair in
    let list = c.args.self.now.found.items in
    let place = c.in-Some.place in
    let there : lookup (nat_eq pair.id) c.args.self.now.places.entries ≡ Some place = sym c.get.ensures.value ∙ sym c.copied.ensures ∙ c.in-Some.is in
    sym (more_past list place pair.tx (search rules)) ∙ ap (λ at. with_pair at pair.tx list) (sym there)
