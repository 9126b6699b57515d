use Rattle.std.proofs.Common.{◌≡◌, true, All, sym, subst}
use Rattle.std.proofs.lemmas.List.Elements.{All-push}
use Rattle.cb_crew.specs.Past.{PastState}
use Rattle.cb_crew.proofs.LettingGo.{keeps_more, kept_closed}
use Rattle.cb_crew.proofs.past.PastWorks.push.Goals as goal

pub lighten_oldest-requires-clause-closed : goal.lighten_oldest-requires-clause-closed
lighten_oldest-requires-clause-closed g c =
    let closed = kept_closed g.W.Work.label g.W.Work.given g.W.Work.ticked g.W.Work.is_closed g.W.Work.weight c.args.work c.lighten.new.work c.lighten.ensures.stays.0 c.requires.closed.0 in
    subst (All (λ work. g.W.Work.is_closed work ≡ true)) (sym c.push_reserved.ensures.items) (All-push (λ work. g.W.Work.is_closed work ≡ true) c.self.inside.works.items c.lighten.new.work (subst (λ (s : PastState g.row.W.Denot). All (λ work. g.W.Work.is_closed work ≡ true) s.works) (sym c.self.view_is) c.requires.closed.1) closed)

pub lighten_oldest-requires-clause-keeps : goal.lighten_oldest-requires-clause-keeps
lighten_oldest-requires-clause-keeps g c = keeps_more g.W.Work.weight c.self.inside.works.items c.push_reserved.new.self.items c.self.inside.gone c.self.inside.kept c.lighten.result c.lighten.new.work c.push_reserved.ensures.items c.lighten.ensures.weight c.self.invariant.0
