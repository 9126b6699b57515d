-- What is known of the mempool before a block is taken that may become the tip.
use Rattle.std.specs.Prelude.{◌≡◌, List, [], Ok, IsOk}
use Rattle.cb_block.specs.declared.block.Block.{Block}
use Rattle.cb_block.specs.declared.tx.Tx.{Tx}
use Rattle.cb_ledger.specs.Spend.{spend}
use Rattle.cb_ledger.specs.Unspent.{Unspent}
use Rattle.cb_chain.specs.Best.{best}
use Rattle.cb_pool.specs.Folding.{HasRoom}
use Rattle.cb_pool.specs.Listing.{txs_of}
use Rattle.cb_pool.specs.declared.members.Pooled.{Pooled}
use Rattle.cb_pool.specs.Staying.{Thin, ThinsOut}
use Rattle.cb_state.specs.declared.accepting.Outlook.{Outlook}
use Rattle.cb_state.specs.declared.accepting.Outlook.TheVariants.{Folds, Stays, Thins}
use Rattle.cb_state.specs.Accepting.{IsPlanOn, txs_above}
use Rattle.cb_state.specs.State.{IsUnspent, RelayState}

-- The block's parent is the tip, so no block is disconnected. The mempool can still be spent in
-- order after the block.
pub record LeavesPool (state : RelayState) (block : Block) : Type 0 where
  pub on : block.header.prev ≡ best state.tree
  pub above : txs_above state.tree block.header.prev ≡ []
  pub unspent : Unspent
  pub behind_tip : IsUnspent state.tree unspent
  pub wait : (after : Unspent) → spend unspent block.txs ≡ Ok after
      → IsOk (spend after (txs_of state.pool.list))

-- The block's parent is the tip, so no block is disconnected. The plan keeps those of the mempool
-- that apply in order after the block.
pub record ThinsPool (state : RelayState) (block : Block) (plan : Thin) : Type 0 where
  pub on : block.header.prev ≡ best state.tree
  pub above : txs_above state.tree block.header.prev ≡ []
  pub unspent : Unspent
  pub behind_tip : IsUnspent state.tree unspent
  pub thins : (after : Unspent) → spend unspent block.txs ≡ Ok after
      → ThinsOut after plan state.pool.list

-- The mempool stays, is thinned out, or is rebuilt by a plan.
abbrev pub IsOutlookOn : RelayState → Block → Outlook → Type 0
IsOutlookOn state block Stays = LeavesPool state block
IsOutlookOn state block (Thins plan) = ThinsPool state block plan
IsOutlookOn state block (Folds plan) = IsPlanOn state block.header.prev plan

-- The transactions that come before the mempool's when it is rebuilt.
abbrev pub first_of : Outlook → List Tx
first_of Stays = []
first_of (Thins plan) = []
first_of (Folds plan) = plan.first

-- The mempool can stay if its list can be spent in order. A plan must keep those that apply, or
-- have room for the list.
abbrev pub IsReady : Unspent → List Pooled → Outlook → Type 0
IsReady u list Stays = IsOk (spend u (txs_of list))
IsReady u list (Thins plan) = ThinsOut u plan list
IsReady u list (Folds plan) = HasRoom plan list
