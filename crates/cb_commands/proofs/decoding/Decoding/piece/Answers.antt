use Rattle.std.proofs.Common.{rules}
use Rattle.cb_commands.specs.Report.{Decoded}
use Rattle.cb_commands.proofs.Reporting.{decodes-more, decodes-broken, ok_before}
use Rattle.cb_commands.proofs.decoding.Decoding.piece.Goals as goal
use Rattle.cb_commands.proofs.decoding.Decoding.piece.Goals.{then-not-told+in_ok-push_fault, else-not-told}

pub returns-clause-printed : goal.returns-clause-printed
returns-clause-printed c bytes out =
    let old : Decoded = record { rest = c.self.inside.assembler.rest; fault = c.self.inside.assembler.fault } in
    let new : Decoded = record { rest = c.feed.new.self.rest; fault = c.feed.new.self.fault } in
    rw (← c.self.view_is) (elim c.if-not-told.branch [
      | then-not-told+in_ok-push_fault w ↦
          decodes-more bytes out c.args.piece.now _ old new c.in_ok-fed.fed.items.items
          (search rules) (λ items. ok_before _ _ c.feed.result c.map_err.result c.in_ok-fed.fed c.map_err.ensures.cases (c.in_ok-fed.was) c.feed.ensures.stream bytes items) (search rules)
      | else-not-told w ↦
          decodes-broken bytes out c.args.piece.now _ old new c.in_ok-fed.fed.items.items
          (search rules) (λ items. ok_before _ _ c.feed.result c.map_err.result c.in_ok-fed.fed c.map_err.ensures.cases (c.in_ok-fed.was) c.feed.ensures.stream bytes items) (search rules)
    ])
