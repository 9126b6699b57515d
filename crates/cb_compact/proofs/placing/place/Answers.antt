use Rattle.std.proofs.Common.{◌≡◌, ◌≢◌, ◌<◌, ℕ, [], ◌∷◌, List, length, map, Option, MatchOption, sym, ap, ◌∙◌, subst, refl, arith}
use Rattle.cb_compact.specs.Placing.{IsFilled}
use Rattle.cb_compact.specs.Slots.{AreDifferent, filled, laid_out, missing, slots}
use Rattle.cb_compact.specs.Tables.{IsTable, found_tx}
use Rattle.cb_compact.specs.declared.table.Table.{Table}
use Rattle.cb_compact.proofs.Tabling.{each_chosen}
use Rattle.cb_compact.proofs.placing.place.Goals as goal

no_length : (xs : List ℕ) → length xs ≡ 0 → xs ≡ []
no_length [] e = refl
no_length (x ∷ xs) e = absurd (omega (arith, e))

above : {n : ℕ} → n ≢ 0 → 0 < n
above other = omega (arith, other)

abbrev Begins : List ℕ → Option Table → Type 0
Begins ids begun = MatchOption begun (¬ AreDifferent ids) (λ table. AreDifferent ids × IsTable ids [] table)

pub returns-then-lacking-eq0-clause-placed : goal.returns-then-lacking-eq0-clause-placed
returns-then-lacking-eq0-clause-placed c =
    let ids = c.args.ids.now in
    let begins = subst (Begins ids) c.in-Some.is c.in_ok-table.ensures.exact in
    let others = ap (map found_tx) (c.found_among-found.ensures.found ids begins.0 begins.1) ∙ each_chosen c.args.pairs.items ids in
    let are : c.in_ok-list.list.items ≡ slots ids c.args.prefilled.items c.args.pairs.items = c.in_ok-list.ensures.same ∙ ap (laid_out 0 c.as_slice.result.now) others ∙ ap (λ given. slots ids given c.args.pairs.items) c.as_slice.ensures.value in
    let empty : length c.in_ok-places.places.items ≡ 0 = ap length (sym c.as_slice-lacking.ensures.value) ∙ c.if-lacking-eq0.true in
    let none = sym (c.in_ok-places.ensures.same ∙ ap (missing 0) (c.as_slice-2.ensures.value ∙ are)) ∙ no_length c.in_ok-places.places.items empty in
    (begins.0, none, subst (λ list. IsFilled c.args.header (filled list []) c.in_ok-whole.field-0) are c.in_ok-whole.ensures.filled)

pub returns-clause-placed : goal.returns-clause-placed
returns-clause-placed c =
    let ids = c.args.ids.now in
    let begins = subst (Begins ids) c.in-Some.is c.in_ok-table.ensures.exact in
    let others = ap (map found_tx) (c.found_among-found.ensures.found ids begins.0 begins.1) ∙ each_chosen c.args.pairs.items ids in
    let are : c.in_ok-list.list.items ≡ slots ids c.args.prefilled.items c.args.pairs.items = c.in_ok-list.ensures.same ∙ ap (laid_out 0 c.as_slice.result.now) others ∙ ap (λ given. slots ids given c.args.pairs.items) c.as_slice.ensures.value in
    let some = subst (λ list. 0 < length list) c.as_slice-lacking.ensures.value (above c.if-lacking-eq0.false) in
    let partial : c.new-partial.result ≡ record { header = c.args.header; slots = slots ids c.args.prefilled.items c.args.pairs.items } = c.new-partial.ensures ∙ ap (λ list. record { header = c.args.header; slots = list }) are in
    (begins.0, some, c.in_ok-places.ensures.same ∙ ap (missing 0) (c.as_slice-2.ensures.value ∙ are), partial)
