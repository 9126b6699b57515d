-- News: what changed since a peer last asked. These are the headers up to the tip (BIP 130), the
-- block (BIP 152), and new transactions.
use Rattle.std.specs.Prelude.{◌≡◌, ◌-◌, ℕ, Bool, ◌&&◌, nat_eq, nat_lt, if◌then◌else◌, List, [], length, drop, Option, None, Some}
use Rattle.cb_base.specs.declared.hash.Hash256.{Hash256}
use Rattle.cb_block.specs.declared.header.Header.{Header}
use Rattle.cb_chain.specs.Best.{best}
use Rattle.cb_chain.specs.Entries.{Tree, block_of}
use Rattle.cb_chain.specs.Following.{headers_above}
use Rattle.cb_pool.specs.Listing.{since_of}
use Rattle.cb_state.specs.declared.connection.Connection.{Connection}
use Rattle.cb_state.specs.declared.news.News.{News}
use Rattle.cb_state.specs.Announcers.{is_among}
use Rattle.cb_state.specs.State.{RelayState}

-- The headers of the active chain above its fork point with the tip told last, up to the tip. If no
-- tip was told, there are none.
abbrev pub way_from : Tree → Option Hash256 → List Header
way_from tree None = []
way_from tree (Some tip) = headers_above tree tip

-- Whether there are more than eight headers, too many to be announced.
abbrev pub is_long : List Header → Bool
is_long headers = nat_lt 8 (length headers)

-- The headers, or the last one alone if they are too many.
abbrev pub announced : List Header → List Header
announced headers = if is_long headers then drop (length headers - 1) headers else headers

pub record IsNews (state : RelayState) (connection : Connection) (told : Option Hash256) (from : ℕ)
    (whole : Bool) (news : News) : Type 0 where
  pub tip : news.tip ≡ best state.tree
  pub path : news.path ≡ announced (way_from state.tree told)
  pub long : news.long ≡ is_long (way_from state.tree told)
  pub block : news.block
      ≡ (if whole && nat_eq (length (way_from state.tree told)) 1
      then block_of state.tree (best state.tree)
      else None)
  pub txids : news.txids ≡ since_of state.pool.list from
  pub next : news.next ≡ state.pool.next
  pub high : news.high ≡ is_among state.announcers connection
