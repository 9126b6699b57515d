use Rattle.std.proofs.Common.{◌≡◌, take, map}
use Rattle.std.specs.List.{fold}
use Rattle.std.specs.Int.{w64, from_le_bytes}
use Rattle.cb_base.specs.SipHash.{sip_start, with_word}
use Rattle.cb_base.proofs.sip_hash.sip24.Given as goal

abbrev pub invariant-loop-word : goal.invariant-loop-word
invariant-loop-word l = l.state ≡ fold with_word (sip_start l.k0 l.k1) (map (from_le_bytes w64) (take l.word-index l.words))
