use Rattle.std.specs.Io.KnownBytes.{Keeps}
use Rattle.cb_base.proofs.source.read_again.Given as goal

-- nothing was given so far
abbrev pub invariant-loop : goal.invariant-loop
invariant-loop g l = Keeps (g.R.Read.remaining l.fn.reader) (g.R.Read.remaining l.reader)
