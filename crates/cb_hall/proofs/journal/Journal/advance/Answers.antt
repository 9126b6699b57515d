use Rattle.std.proofs.Common.{◌≡◌, ◌∙◌, ◌<◌, ◌∷◌, List, length, drop, refl, sym, subst, arith}
use Rattle.cb_hall.specs.declared.entry.Entry.{Entry}
use Rattle.cb_hall.specs.Replica.{Steps}
use Rattle.cb_hall.proofs.Leading.{first_front, front_few, journal_on, some_from}
use Rattle.cb_hall.proofs.journal.Journal.advance.Goals as goal

pub apply-requires-clause-few : goal.apply-requires-clause-few
apply-requires-clause-few c =
    let i = c.self.inside in
    let some : 0 < length i.entries.items = omega (arith, some_from i.entries.len c.is_empty.result c.is_empty.ensures c.if-is_empty.false, i.entries.ok) in
    front_few i.base i.latest i.entries.items (drop 1 i.entries.items) c.index.result.now i.weight c.self.invariant (first_front i.entries.items (drop 1 i.entries.items) c.index.result.now some c.index.ensures refl)

pub invariant_of-self-2 : goal.invariant_of-self-2
invariant_of-self-2 c =
    let i = c.self.inside in
    let entry = c.remove-entry.result in
    let rest = c.remove-entry.new.self.items in
    let some : 0 < length i.entries.items = omega (arith, some_from i.entries.len c.is_empty.result c.is_empty.ensures c.if-is_empty.false, i.entries.ok) in
    let front : i.entries.items ≡ entry ∷ rest = first_front i.entries.items rest entry some c.remove-entry.ensures.value c.remove-entry.ensures.items in
    let seen : i.entries.items ≡ c.index.result.now ∷ drop 1 i.entries.items = first_front i.entries.items (drop 1 i.entries.items) c.index.result.now some c.index.ensures refl in
    let same : c.index.result.now ≡ entry = (let both : c.index.result.now ∷ drop 1 i.entries.items ≡ entry ∷ rest = sym seen ∙ front in cc) in
    let step : Steps i.base entry c.in_ok-told.told c.apply.new.self = subst (λ (e : Entry). Steps i.base e c.in_ok-told.told c.apply.new.self) same c.in_ok-told.ensures.ok in
    journal_on i.base i.latest c.apply.new.self i.entries.items rest entry c.in_ok-told.told i.weight c.weight.result c.self.invariant front step c.weight.ensures
