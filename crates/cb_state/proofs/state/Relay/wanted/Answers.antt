use Rattle.std.proofs.Common.{◌∙◌, List, length, ap, arith}
use Rattle.std.proofs.lemmas.Bool.{false≢true}
use Rattle.cb_wire.specs.declared.inventory.Inventory.{Inventory}
use Rattle.cb_state.specs.Wanting.{is_wanted, once}
use Rattle.cb_state.proofs.OnceEach.{few_more, listed_more, unwanted_at}
use Rattle.cb_state.proofs.state.Relay.wanted.Goals as goal

pub loop-entry-init : goal.loop-entry-init
unfolding once
loop-entry-init c = record {
  noted = c.none_under-wanted.ensures.noted;
  listed = c.none_under-wanted.ensures.list;
  few = omega (arith, ap (λ (l : List Inventory). length l) c.none_under-wanted.ensures.list);
}

pub loop-entry-preserved : goal.loop-entry-preserved
loop-entry-preserved c = record {
  noted = c.in_ok-look_at.ensures.noted;
  listed = listed_more c.args.self.now c.args.entries.now c.loop-entry.entry-index c.entry-item.result c.loop-entry.wanted.list.items c.look_at.new.wanted.list.items c.loop-entry-test.true c.loop-entry.invariant.listed
      (rw (← c.entry-item.is) c.in_ok-look_at.ensures.list);
  few = few_more c.args.self.now c.loop-entry.wanted.list.items c.look_at.new.wanted.list.items c.entry-item.result c.loop-entry.entry-index c.loop-entry.invariant.few
      c.in_ok-look_at.ensures.list;
}

-- an entry that isn't wanted needs no memory
pub returns-in_err-look_at-clause-none : goal.returns-in_err-look_at-clause-none
returns-in_err-look_at-clause-none c = λ none.
    absurd (false≢true (c.in_err-look_at.ensures.none (ap (is_wanted c.args.self.now) c.entry-item.is ∙ unwanted_at c.args.self.now c.args.entries.now c.loop-entry.entry-index c.entry-item.result c.loop-entry-test.true none)))
