use Rattle.std.proofs.Common.{◌≡◌, Some, ap, refl, ◌∙◌, rules, false}
use Rattle.cb_base.specs.declared.fault.Fault.TheVariants.{Known}
use Rattle.cb_chain.specs.Calls.AcceptsHeader.{refused}
use Rattle.cb_chain.specs.Calls.{header_fault}
use Rattle.cb_chain.specs.Keeping.{tree_of}
use Rattle.cb_chain.specs.declared.block_index.BareIndex.{BareIndex}
use Rattle.cb_chain.specs.Marking.{index_of}
use Rattle.cb_chain.proofs.Headings.{heading_chains, heading_met, heading_index}
use Rattle.cb_chain.proofs.headers.meet_header.Goals as goal

pub add-requires-clause-block_index : goal.add-requires-clause-block_index
add-requires-clause-block_index c =
    heading_index c.args.tree.now.block_indexes c.args.header c.in-Ok.spot (index_of c.block_index.result false)
    (record { is = c.in-Ok.ensures.tree; work = c.in_ok-check_hashed_header.ensures; none = c.in-Ok.ensures.none; spot_is = c.in-Ok.ensures.ok; index_is = (ap (λ (b : BareIndex). index_of b false) c.block_index.ensures) })

pub returns-in-Ok-clause-ok : goal.returns-in-Ok-clause-ok
returns-in-Ok-clause-ok c =
    heading_met c.args.tree.now.block_indexes c.add.new.self.block_indexes c.args.header c.in-Ok.spot (index_of c.block_index.result false)
    (record { is = c.in-Ok.ensures.tree; work = c.in_ok-check_hashed_header.ensures; none = c.in-Ok.ensures.none; spot_is = c.in-Ok.ensures.ok; index_is = (ap (λ (b : BareIndex). index_of b false) c.block_index.ensures) }) c.add.ensures.block_indexes

pub returns-in-Ok-clause-chains : goal.returns-in-Ok-clause-chains
returns-in-Ok-clause-chains c =
    heading_chains c.args.tree.now c.add.new.self c.args.header c.in-Ok.spot (index_of c.block_index.result false)
    (record { is = c.in-Ok.ensures.tree; work = c.in_ok-check_hashed_header.ensures; none = c.in-Ok.ensures.none; spot_is = c.in-Ok.ensures.ok; index_is = (ap (λ (b : BareIndex). index_of b false) c.block_index.ensures) }) c.add.ensures.block_indexes c.add.ensures.undos

pub returns-in-Err-clause-ok : goal.returns-in-Err-clause-ok
returns-in-Err-clause-ok c =
    let known : c.in-Err.fault ≡ Known = search rules in
    let against : header_fault (tree_of c.args.tree.now.block_indexes) c.args.header ≡ Some Known = c.in-Err.ensures.err ∙ ap Some known in
    (Some Known, refl, refused c.in_ok-check_hashed_header.ensures Known against refl refl)

pub returns-in-Err-2-clause-err : goal.returns-in-Err-2-clause-err
returns-in-Err-2-clause-err c = refused c.in_ok-check_hashed_header.ensures c.in-Err.fault c.in-Err.ensures.err refl refl
