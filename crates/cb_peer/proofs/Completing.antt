-- Transactions of a block that isn't being rebuilt, and too many or too few of one that is.
use Rattle.std.proofs.Common.{◌≡◌, Bool, true, false, cond, List, [], Option, Some, None, Result, Ok, Err, refl, sym, ap, subst, ◌∙◌}
use Rattle.std.specs.Prelude.{◌&&◌}
use Rattle.cb_base.specs.declared.fault.Fault.{Fault}
use Rattle.cb_base.specs.declared.fault.Fault.TheVariants.{Memory, WrongCount}
use Rattle.cb_compact.specs.Slots.{Unfilled}
use Rattle.cb_compact.specs.declared.partial.Filled.{Filled}
use Rattle.cb_wire.specs.declared.block_transactions.BlockTransactions.{BlockTransactions}
use Rattle.cb_compact.specs.Completing.{completed_of, judged_of}
use Rattle.cb_compact.specs.Rebuilding.{block_with}
use Rattle.cb_wire.specs.declared.message.Message.{Message}
use Rattle.cb_wire.specs.declared.message.Message.TheVariants as messages
use Rattle.cb_peer_state.specs.Receiving.{completed_by, ends, filled_by, txs_heard}
use Rattle.cb_peer_state.specs.Session.{weighs_ready}
use Rattle.cb_peer_state.specs.State.{is_count_of, is_partial, with_partial}
use Rattle.cb_peer_state.specs.declared.session_state.SessionState.{SessionState}

completes_no_other : (s : SessionState) (given : BlockTransactions) (partial : Option Unfilled) → is_partial given.block partial ≡ false → completed_by s given partial ≡ ends s []
completes_no_other s given None other = refl
completes_no_other s given (Some partial) other =
    ap (λ (same : Bool). cond same (filled_by (with_partial None s) given.block partial.header.prev (completed_of partial given)) (ends s [])) other

pub ignored : (s : SessionState) (given : BlockTransactions) (sent : List Message) → is_partial given.block s.compact.partial ≡ false → sent ≡ [] → ends s sent ≡ txs_heard s given
unfolding txs_heard
ignored s given sent other none = ap (ends s) none ∙ sym (completes_no_other s given s.compact.partial other)

-- ---- a wrong number of transactions

second : (a b : Bool) → a ≡ true → (a && b) ≡ false → b ≡ false
second a b first neither = subst (λ (x : Bool). (x && b) ≡ false) first neither

uncounted : (partial : Unfilled) (given : BlockTransactions) → is_count_of given.txs (Some partial) ≡ false → completed_of partial given ≡ Err WrongCount
unfolding completed_of
uncounted partial given other = ap (λ (as_many : Bool). cond as_many (Ok (judged_of (block_with partial given.txs))) (Err WrongCount)) other

pub unfit : (s : SessionState) (given : BlockTransactions) (partial : Unfilled) → s.compact.partial ≡ Some partial → is_partial given.block s.compact.partial ≡ true → weighs_ready s (messages.BlockTxn given) ≡ false
    → completed_of partial given ≡ Err WrongCount
unfit s given partial is same light =
    uncounted partial given
    (subst (λ (held : Option Unfilled). is_count_of given.txs held ≡ false) is (second (is_partial given.block s.compact.partial) (is_count_of given.txs s.compact.partial) same light))

-- it is found as that, whatever memory there is
pub not_filled : (filled : Filled) → Ok filled ≡ Err WrongCount → ⊥
not_filled filled same = absurd cc

pub not_memory : (fault : Fault) → fault ≡ Memory → (found : Result Filled Fault) → found ≡ Err fault → found ≡ Err WrongCount → ⊥
not_memory fault memory found error wrong = absurd (let clash : Err Memory ≡ Err WrongCount = sym (error ∙ ap Err memory) ∙ wrong in cc)
