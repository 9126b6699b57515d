use Rattle.std.proofs.Common.{◌≡◌, ◌∙◌, ap, false, sym, true}
use Rattle.cb_block.specs.Txid.{txid_of}
use Rattle.cb_pool.specs.Staying.{is_gone}
use Rattle.cb_pool.proofs.Thinned.{noted_gone, noted_stays}
use Rattle.cb_pool.proofs.thinning.note_pooled.Goals as goal

pub returns-then-contains-clause-covers : goal.returns-then-contains-clause-covers
returns-then-contains-clause-covers c = λ done so_far.
    let gone = c.args.gone.now.keys in
    let out : is_gone gone (txid_of c.args.pooled.now.tx) ≡ true = ap (is_gone gone) (sym c.txid.ensures) ∙ sym c.contains.ensures ∙ c.if-contains.true in
    noted_gone c.args.marks.now c.args.coins.now.entries gone done c.args.pooled.now out so_far

pub returns-clause-covers : goal.returns-clause-covers
returns-clause-covers c = λ done so_far.
    let gone = c.args.gone.now.keys in
    let stays : is_gone gone (txid_of c.args.pooled.now.tx) ≡ false = ap (is_gone gone) (sym c.txid.ensures) ∙ sym c.contains.ensures ∙ c.if-contains.false in
    noted_stays c.args.marks.now c.args.coins.now.entries c.note.new.coins.entries gone done c.args.pooled.now stays c.in_ok-note.ensures.covers so_far
