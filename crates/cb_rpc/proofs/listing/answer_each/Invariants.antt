use Rattle.std.proofs.Common.{◌≡◌, ◌||◌, nat_eq, []}
use Rattle.json.specs.Value.{value_view}
use Rattle.cb_rpc.specs.Requests.{size_of}
use Rattle.cb_rpc.specs.Responses.{AreAdded, has_told}
use Rattle.cb_rpc.proofs.listing.answer_each.Given as goal

-- the answers so far, and whether there is one
abbrev pub invariant-loop-place : goal.invariant-loop-place
invariant-loop-place g l =
    record {
      added : AreAdded (g.N.CallHandler.answers l.node) (value_view l.requests) l.place l.writer.tokens;
      told : l.told ≡ (nat_eq (size_of (value_view l.requests)) 0 || has_told l.place (value_view l.requests));
      before : l.writer.before ≡ [];
    }
