-- The calls on a chain, and the tree that they lead to. It depends on the list of calls alone.
use Rattle.std.specs.Prelude.{◌≡◌, List, [], ◌∷◌, Option, Result}
use Rattle.cb_base.specs.declared.fault.Fault.{Fault}
use Rattle.cb_block.specs.declared.header.Header.{Header}
use Rattle.cb_block.specs.declared.block.Block.{Block}
use Rattle.cb_block.specs.Blocks.{IsSoundBlock}
use Rattle.cb_chain.specs.declared.change.Change.{Change}
use Rattle.cb_chain.specs.Entries.{Tree}
use Rattle.cb_chain.specs.Calls.{AcceptsHeader, AcceptsBlock}

pub data Call : Type 0 where
  HeaderCall : Header → Call
  BlockCall : Block → Call

-- what one call leads to, whatever its answer; a block that a call gives is sound
abbrev pub IsStep : Tree → Call → Tree → Type 0
IsStep old (HeaderCall header) new = (answer : Option Fault) × AcceptsHeader old header answer new
IsStep old (BlockCall block) new =
    IsSoundBlock block × (answer : Result Change Fault) × AcceptsBlock old block answer new

-- The tree is what these calls lead to, the newest of them first. A new chain has had none.
abbrev pub IsHistory : List Call → Tree → Type 0
IsHistory [] tree = tree ≡ []
IsHistory (call ∷ calls) tree = (before : Tree) × IsHistory calls before × IsStep before call tree

-- some list of calls leads to this tree
abbrev pub IsHistoric : Tree → Type 0
IsHistoric tree = (calls : List Call) × IsHistory calls tree
