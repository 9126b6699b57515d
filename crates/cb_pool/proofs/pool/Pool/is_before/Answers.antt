use Rattle.std.proofs.Common.{◌∙◌, sym, ap}
use Rattle.std.proofs.lemmas.Bool.{leb-true}
use Rattle.cb_pool.specs.Listing.{Listing, since_of}
use Rattle.cb_pool.proofs.Numbers.{none_since}
use Rattle.cb_pool.proofs.pool.Pool.is_before.Goals as goal

pub returns-then-self-lt18446744073709551615 : goal.returns-then-self-lt18446744073709551615
returns-then-self-lt18446744073709551615 c past =
    ap (λ (listing : Listing). since_of listing.list c.args.number) (sym c.self.view_is)
    ∙ none_since c.self.inside.members.list c.self.inside.next c.args.number c.self.invariant.0 c.if-self-lt18446744073709551615.true (leb-true c.self.inside.next c.args.number past)
