use Rattle.std.proofs.Common.{◌≡◌, subst}
use Rattle.std.specs.Prelude.{IfOk, nat_eq}
use Rattle.std.specs.HashSet.{contains}
use Rattle.cb_compact.specs.Rebuilding.{rebuilt_of}
use Rattle.cb_relay.proofs.Knowing.{found_told}
use Rattle.cb_relay.proofs.known.rebuilt_known.Goals as goal

pub returns-clause-rebuilt : goal.returns-clause-rebuilt
returns-clause-rebuilt c =
    let all = found_told c.args.form.now c.args.txids.now c.args.txs.now c.key-key.result c.ids.result.now (contains nat_eq c.in_ok-wanted.wanted) c.in_ok-pairs.pairs.items c.key-key.ensures c.ids.ensures.same c.in_ok-wanted.ensures.ids c.in_ok-pairs.ensures.pairs in
    subst (λ list. IfOk c.rebuilt_by.result (λ rebuilt. rebuilt ≡ rebuilt_of c.args.form.now list)) all c.rebuilt_by.ensures.rebuilt
