use Rattle.std.proofs.Common.{◌≡◌, ◌∙◌, ◌<◌, ◌++◌, [], ◌∷◌, List, arith, drop, length, subst, sym, rules, suc, ◌+◌}
use Rattle.std.specs.Prelude.{filter, nat_eq}
use Rattle.std.specs.HashSet.{contains}
use Rattle.cb_compact.specs.declared.named_tx.Pair.{Pair}
use Rattle.cb_relay.specs.Known.{told_pairs}
use Rattle.cb_relay.proofs.Pairing.{pair_at, told_passed, told_taken}
use Rattle.cb_relay.proofs.known.paired.Goals as goal
use Rattle.cb_relay.proofs.known.paired.Goals.{then-contains+in_ok-clone+in_ok-tx+in_ok-push, else-contains}

pub loop-place-preserved : goal.loop-place-preserved
loop-place-preserved c =
    let i = c.loop-place.place in
    let next : i + 1 ≡ suc i = omega arith in
    let within : i < length c.args.txids.now = omega arith in
    let there : i < length c.args.txs.now = omega (arith, within, c.requires) in
    let rest = filter (λ (pair : Pair). contains nat_eq c.args.wanted.now pair.id) (told_pairs c.args.key (drop (i + 1) c.args.txids.now) (drop (i + 1) c.args.txs.now)) in
    let all = filter (λ (pair : Pair). contains nat_eq c.args.wanted.now pair.id) (told_pairs c.args.key c.args.txids.now c.args.txs.now) in
    elim c.if-contains.branch [
      | then-contains+in_ok-clone+in_ok-tx+in_ok-push w ↦
          let list : c.if-contains.list.items ≡ c.loop-place.list.items ++ pair_at c.short_id-id.result w.in_ok-tx.tx ∷ [] = search rules in
          subst (λ (it : List Pair). it ++ rest ≡ all) (sym list)
          (told_taken c.args.key (contains nat_eq c.args.wanted.now) c.args.txids.now c.args.txs.now i (i + 1) _ _ c.short_id-id.result w.in_ok-tx.tx c.loop-place.list.items all next within there c.short_id-id.ensures.same
          (w.in_ok-tx.ensures.same ∙ w.in_ok-clone.ensures ∙ w.index-txs-place.is) (sym c.contains.ensures ∙ w.if-contains.true) c.loop-place.invariant)
      | else-contains w ↦
          let list : c.if-contains.list.items ≡ c.loop-place.list.items = search rules in
          subst (λ (it : List Pair). it ++ rest ≡ all) (sym list)
          (told_passed c.args.key (contains nat_eq c.args.wanted.now) c.args.txids.now c.args.txs.now i (i + 1) _ c.short_id-id.result c.loop-place.list.items all next within there c.short_id-id.ensures.same
          (sym c.contains.ensures ∙ w.if-contains.false) c.loop-place.invariant)
    ]
