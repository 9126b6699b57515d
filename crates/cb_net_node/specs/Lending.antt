-- What a link lends.
use Rattle.std.specs.Prelude.{Option, Some}
use Rattle.std.specs.Borrow.{Fml, LendsIf, MutBor}
use Rattle.cb_net_node.specs.declared.joined.Joined.{Joined}
use Rattle.cb_net_node.specs.declared.link.SimulatedLink.{SimulatedLink}
use Rattle.cb_net_node.specs.contracts.link.SimulatedLink as link
use Rattle.cb_net_node.specs.contracts.joined.Joined as joined

-- it ends joined by the last value behind the reference, if there is one
abbrev pub LendsJoined : MutBor SimulatedLink → Option (MutBor Joined) → Fml
LendsJoined lender lent =
    LendsIf link.the_row joined.the_row lender lent
    (λ last. record lender.now { joined = Some last }) lender.now
