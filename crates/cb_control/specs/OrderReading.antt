-- An operator's line taken apart: the same as functions of the text, as far as they are.
use Rattle.std.specs.Prelude.{◌≡◌, ℕ, ◌^◌, Bool, true, false, if◌then◌else◌, ◌⊎◌, List, codes, Option, Some, None, option_map}
use Rattle.std.specs.Str.{bytes_eq}
use Rattle.std.specs.declared.net.socket_addr.SocketAddr.{SocketAddr}
use Rattle.std.specs.Net.Grammar.{IsSocketText}
use Rattle.cb_control.specs.Words.{cut_of, number_in}
use Rattle.cb_control.specs.declared.order.Order.{Order}
use Rattle.cb_control.specs.declared.order.Order.TheVariants.{Do, Tip, Block, Pool, Peers, Connect, Disconnect, Network, Stats, Restart, Quit}
use Rattle.cb_control.specs.declared.order.Deed.TheVariants.{Tx, Submit, Mine, Kick, Checkpoint}
use Rattle.cb_control.specs.Written.{block_in, hash_in, tx_in}

-- the order of one word
abbrev pub plain_order : List ℕ → Option Order
plain_order word =
    if bytes_eq word (codes "tip")
    then Some Tip
    else if bytes_eq word (codes "mine")
    then Some (Do (Mine 1))
    else if bytes_eq word (codes "pool")
    then Some Pool
    else if bytes_eq word (codes "peers")
    then Some Peers
    else if bytes_eq word (codes "checkpoint")
    then Some (Do Checkpoint)
    else if bytes_eq word (codes "stats")
    then Some Stats
    else if bytes_eq word (codes "restart")
    then Some Restart
    else if bytes_eq word (codes "quit")
    then Some Quit
    else None

-- what stands behind `network`
abbrev pub switch_in : List ℕ → Option Bool
switch_in rest =
    if bytes_eq rest (codes "on")
    then Some true
    else if bytes_eq rest (codes "off")
    then Some false
    else None

-- the order of a word and what stands behind it, if that isn't an address
abbrev pub order_with : List ℕ → List ℕ → Option Order
order_with word rest =
    if bytes_eq word (codes "block")
    then option_map (λ hash. Block hash) (hash_in rest)
    else if bytes_eq word (codes "tx")
    then option_map (λ tx. Do (Tx tx)) (tx_in rest)
    else if bytes_eq word (codes "submit-block")
    then option_map (λ block. Do (Submit block)) (block_in rest)
    else if bytes_eq word (codes "mine")
    then option_map (λ count. Do (Mine count)) (number_in 1001 rest)
    else if bytes_eq word (codes "kick")
    then option_map (λ slot. Do (Kick slot)) (number_in (2 ^ 16) rest)
    else if bytes_eq word (codes "network")
    then option_map (λ on. Network on) (switch_in rest)
    else None

-- the address that a text writes, or none
abbrev pub IsAddress : List ℕ → Option SocketAddr → Type 0
IsAddress text None = (address : SocketAddr) → IsSocketText text address → ⊥
IsAddress text (Some address) = IsSocketText text address

-- the order that a word gives with the address behind it, if there is one
abbrev pub IsAddressed : (SocketAddr → Order) → List ℕ → Option Order → Type 0
IsAddressed order rest read =
    (address : Option SocketAddr) × IsAddress rest address × (read ≡ option_map order address)

-- the order of a word and what stands behind it, or none
abbrev pub IsNamed : List ℕ → List ℕ → Option Order → Type 0
IsNamed word rest read =
    ((bytes_eq word (codes "connect") ≡ true) × IsAddressed (λ address. Connect address) rest read)
    ⊎ (((bytes_eq word (codes "disconnect") ≡ true)
    × IsAddressed (λ address. Disconnect address) rest read)
    ⊎ ((bytes_eq word (codes "connect") ≡ false) × (bytes_eq word (codes "disconnect") ≡ false)
    × (read ≡ order_with word rest)))

-- a text that was cut at its first space gives this order, or none
abbrev pub IsCut : List ℕ → Option (List ℕ × List ℕ) → Option Order → Type 0
IsCut text None read = read ≡ plain_order text
IsCut text (Some parts) read = IsNamed parts.0 parts.1 read

abbrev pub IsLine : List ℕ → Option Order → Type 0
IsLine text read = IsCut text (cut_of text) read
