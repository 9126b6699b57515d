-- Answers to questions.
use Rattle.std.proofs.Common.{◌≡◌, ◌≤◌, List, Option, length, take, arith, ap, refl, subst, sym}
use Rattle.std.proofs.lemmas.List.{length-take}
use Rattle.cb_base.specs.declared.fault.Fault.{Fault}
use Rattle.cb_block.specs.declared.header.Header.{Header}
use Rattle.cb_block.specs.declared.tx.Tx.{Tx}
use Rattle.cb_state.specs.declared.connection.Connection.{Connection}
use Rattle.cb_state.specs.Accepting.{TakesTx}
use Rattle.cb_state.specs.State.{RelayState}
use Rattle.cb_hall.specs.declared.answer.Answer.TheVariants as answer
use Rattle.cb_hall.specs.declared.entry.Local.{Local}
use Rattle.cb_hall.specs.declared.entry.Local.TheVariants as local
use Rattle.cb_hall.specs.declared.question.Question.{Question}
use Rattle.cb_hall.specs.declared.question.Question.TheVariants as question
use Rattle.cb_hall.specs.Replies.{Answers, Submits}

-- what follows a locator is at most 2,000 headers
pub after_few : (headers line : List Header) → headers ≡ take 2000 line → length headers ≤ 2000
after_few headers line is = let long = ap length is in omega (arith, long, length-take 2000 line)

-- a transaction that is given is shared, and taken as it is
pub answers_tx : (old new : RelayState) (connection : Connection) (asked : Question) (tx shared : Tx) (refused : Option Fault) → asked ≡ question.GiveTx tx → shared ≡ tx
    → TakesTx old shared refused new → Answers old connection asked (answer.TxTaken refused) new
answers_tx old new connection asked tx shared refused is same takes =
    subst (λ (q : Question). Answers old connection q (answer.TxTaken refused) new) (sym is) (refused, refl, subst (λ (t : Tx). TakesTx old t refused new) same takes)

pub submits_tx : (old new : RelayState) (given : Local) (tx shared : Tx) (refused : Option Fault) → given ≡ local.Tx tx → shared ≡ tx → TakesTx old shared refused new
    → Submits old given (answer.TxTaken refused) new
submits_tx old new given tx shared refused is same takes =
    subst (λ (g : Local). Submits old g (answer.TxTaken refused) new) (sym is) (refused, refl, subst (λ (t : Tx). TakesTx old t refused new) same takes)
