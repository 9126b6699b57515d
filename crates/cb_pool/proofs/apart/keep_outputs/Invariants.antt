use Rattle.std.proofs.Common.{◌≡◌, ◌<◌, ℕ}
use Rattle.std.specs.FinMap as finite
use Rattle.cb_block.specs.declared.tx.OutPoint.{OutPoint}
use Rattle.cb_ledger.specs.Undo.{changed, changes_of}
use Rattle.cb_ledger.specs.Unspent.{Unspent}
use Rattle.cb_pool.proofs.apart.keep_outputs.Given as goal

abbrev pub invariant-loop-place : goal.invariant-loop-place
invariant-loop-place l =
    let at : ℕ → OutPoint = λ n. record { txid = l.txid; index = n } in
    (u : Unspent) (place : ℕ) → place < l.place → finite.get (changed u (changes_of l.coins.entries)) (at place) ≡ finite.get u (at place)
