use Rattle.std.proofs.Common.{◌≡◌, ◌+◌, ◌++◌, drop}
use Rattle.cb_peer_state.specs.Questions.{pending_question}
use Rattle.cb_trace.specs.Trace.{asked_from}
use Rattle.cb_trace.proofs.Questions.{account_at}
use Rattle.cb_trace.proofs.asking.questions_asked.Given as goal

-- the questions so far, and those before the answers to come, are all of them
abbrev pub invariant-loop-entry : goal.invariant-loop-entry
invariant-loop-entry l =
    record {
      counted : l.count ≡ l.before + l.entry-index;
      stands : l.pending ≡ pending_question l.session;
      parts : l.asked.items ++ asked_from (account_at l.session l.count) (drop l.entry-index l.entries) ≡ asked_from (account_at l.fn.session l.before) l.entries;
    }
