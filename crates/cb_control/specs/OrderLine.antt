-- How an operator's line gives an order.
use Rattle.std.specs.Prelude.{◌≡◌, ℕ, ◌^◌, Bool, if◌then◌else◌, ◌⊎◌, List, ◌∷◌, ◌++◌, codes, Option, Some, MatchOption}
use Rattle.std.specs.Str.{IsUtf8}
use Rattle.std.specs.declared.net.socket_addr.SocketAddr.{SocketAddr}
use Rattle.std.specs.Net.Grammar.{IsSocketText}
use Rattle.cb_control.specs.Words.{number_in}
use Rattle.cb_control.specs.declared.order.Deed.{Deed}
use Rattle.cb_control.specs.declared.order.Deed.TheVariants.{Tx, Submit, Mine, Kick, Checkpoint}
use Rattle.cb_control.specs.declared.order.Order.{Order}
use Rattle.cb_control.specs.declared.order.Order.TheVariants.{Do, Tip, Block, Pool, Peers, Connect, Disconnect, Network, Stats, Restart, Quit}
use Rattle.cb_control.specs.Written.{block_in, hash_in, tx_in}

-- a word, one space, and a text that is read as this value
abbrev pub Names : {A : Type 0} → List ℕ → (List ℕ → Option A) → List ℕ → A → Type 0
Names word value line a = (text : List ℕ) × (line ≡ word ++ 32 ∷ text) × (value text ≡ Some a)

-- The line of what a node is to do. A `mine` that names no number mines one block, and none mines
-- more than 1,000. Slots are below 2^16.
abbrev pub GivesDeed : List ℕ → Deed → Type 0
GivesDeed line (Tx tx) = Names (codes "tx") tx_in line tx
GivesDeed line (Submit block) = Names (codes "submit-block") block_in line block
GivesDeed line (Mine count) =
    ((line ≡ codes "mine") × (count ≡ 1)) ⊎ Names (codes "mine") (number_in 1001) line count
GivesDeed line (Kick slot) = Names (codes "kick") (number_in (2 ^ 16)) line slot
GivesDeed line Checkpoint = line ≡ codes "checkpoint"

-- `on` or `off`
abbrev pub on_off : Bool → List ℕ
on_off on = if on then codes "on" else codes "off"

-- a word, one space, and this address
abbrev pub NamesAddress : List ℕ → List ℕ → SocketAddr → Type 0
NamesAddress word line address =
    (text : List ℕ) × (line ≡ word ++ 32 ∷ text) × IsSocketText text address

-- The line of an order. An address is an IP address and a port, as std spells them.
abbrev pub GivesOrder : List ℕ → Order → Type 0
GivesOrder line (Do deed) = GivesDeed line deed
GivesOrder line Tip = line ≡ codes "tip"
GivesOrder line (Block hash) = Names (codes "block") hash_in line hash
GivesOrder line Pool = line ≡ codes "pool"
GivesOrder line Peers = line ≡ codes "peers"
GivesOrder line (Connect address) = NamesAddress (codes "connect") line address
GivesOrder line (Disconnect address) = NamesAddress (codes "disconnect") line address
GivesOrder line (Network on) = line ≡ codes "network " ++ on_off on
GivesOrder line Stats = line ≡ codes "stats"
GivesOrder line Restart = line ≡ codes "restart"
GivesOrder line Quit = line ≡ codes "quit"

-- The line gives this order, or none. One that isn't UTF-8 gives none.
abbrev pub ReadsOrder : List ℕ → Option Order → Type 0
ReadsOrder line read =
    MatchOption read ((order : Order) → IsUtf8 line → GivesOrder line order → ⊥)
    (λ order. IsUtf8 line × GivesOrder line order)
