use Rattle.std.proofs.Common.{◌≡◌, ◌∙◌, [], Ok, refl, subst, sym, ap}
use Rattle.std.specs.Prelude.{IsOk}
use Rattle.cb_ledger.specs.Spend.{spend}
use Rattle.cb_ledger.specs.Unspent.{Unspent}
use Rattle.cb_pool.specs.Listing.{txs_of}
use Rattle.cb_pool.specs.Staying.{Fits, Marking, StaysOf, Tells, Thin, ThinsOut, staying}
use Rattle.cb_pool.proofs.thinning.work_out.Goals as goal

pub returns-clause-thins : goal.returns-clause-thins
returns-clause-thins c = λ known was now ok spent.
    let empty : c.plan.inside.marks ≡ [] = ap (λ (p : Thin). p.marks) c.plan.view_is ∙ c.requires.marks in
    let start : Tells c.plan.inside.marks was was = subst (λ (m : Marking). Tells m was was) (sym empty) (λ q. refl) in
    let tells : Tells c.mark_block.new.marks was now = c.in_ok-mark_block.ensures.tells c.if-not-branch.false was was now spent start in
    let second = c.if-not-branch-2.false in
    record {
      fits = record { outside = c.in_ok-turn_all.ensures.agree second; inside = c.in_ok-note_all.ensures.covers };
      stay = c.in_ok-turn_all.ensures.stay second was now tells ok;
    }
