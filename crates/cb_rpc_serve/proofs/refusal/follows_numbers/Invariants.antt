use Rattle.std.proofs.Common.{◌≡◌, drop}
use Rattle.cb_rpc_serve.specs.Words.{follows_numbers}
use Rattle.cb_rpc_serve.proofs.refusal.follows_numbers.Given as goal

-- it turns on what is left
abbrev pub invariant-loop-byte : goal.invariant-loop-byte
invariant-loop-byte l = follows_numbers (drop l.byte-index l.text) ≡ follows_numbers l.text
