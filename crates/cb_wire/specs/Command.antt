-- The names of commands in an envelope (Bitcoin's peer-to-peer protocol).
use Rattle.std.specs.Prelude.{◌≡◌, ℕ, ◌-◌, ◌&&◌, Bool, true, List, [], ◌∷◌, ◌++◌, length, take, drop, nat_le, ◌==◌, replicate, codes, find, if◌then◌else◌, Option, Some, None}
use Rattle.std.specs.List.{list_all, position_or_len}
use Rattle.std.specs.Str.{bytes_eq}
use Rattle.cb_wire.specs.declared.command.Command.{Command}
use Rattle.cb_wire.specs.declared.command.Command.TheVariants.{Version, Verack, Ping, Pong, SendHeaders, SendCmpct, Inv, GetData, NotFound, Headers, GetHeaders, Tx, Block, CmpctBlock, GetBlockTxn, BlockTxn}

-- the known commands
abbrev pub known_commands : List Command
known_commands =
    Version ∷ Verack ∷ Ping ∷ Pong ∷ SendHeaders ∷ SendCmpct ∷ Inv ∷ GetData ∷ NotFound ∷ Headers
    ∷ GetHeaders ∷ Tx ∷ Block ∷ CmpctBlock ∷ GetBlockTxn ∷ BlockTxn ∷ []

abbrev pub command_name : Command → List ℕ
command_name Version = codes "version"
command_name Verack = codes "verack"
command_name Ping = codes "ping"
command_name Pong = codes "pong"
command_name SendHeaders = codes "sendheaders"
command_name SendCmpct = codes "sendcmpct"
command_name Inv = codes "inv"
command_name GetData = codes "getdata"
command_name NotFound = codes "notfound"
command_name Headers = codes "headers"
command_name GetHeaders = codes "getheaders"
command_name Tx = codes "tx"
command_name Block = codes "block"
command_name CmpctBlock = codes "cmpctblock"
command_name GetBlockTxn = codes "getblocktxn"
command_name BlockTxn = codes "blocktxn"

-- the known command of a name, if there is one
abbrev pub known_command : List ℕ → Option Command
known_command name = find (λ command. bytes_eq name (command_name command)) known_commands

-- a byte that a command's name may have: from the space to the tilde
abbrev pub is_command_byte : ℕ → Bool
is_command_byte byte = nat_le 0x20 byte && nat_le byte 0x7e

-- the form of a command's name: 1 to 12 such bytes
abbrev pub is_command : List ℕ → Bool
is_command name = nat_le 1 (length name) && nat_le (length name) 12 && list_all is_command_byte name

abbrev pub IsCommand : List ℕ → Type 0
IsCommand name = is_command name ≡ true

-- a name in the form of a command that isn't a known one
pub record IsUnknownName (name : List ℕ) : Type 0 where
  pub form : is_command name ≡ true
  pub unknown : known_command name ≡ None

-- a command in the header's field of 12 bytes: its name, padded with zeros
abbrev pub command_field : List ℕ → List ℕ
command_field name = name ++ replicate (12 - length name) 0

-- the number of bytes before the first zero
abbrev pub name_length : List ℕ → ℕ
name_length field = position_or_len (λ byte. byte == 0) field

-- The command in that field, if there is one: the bytes before the first zero have the form of a
-- command, and only zeros follow.
unfoldable pub command_in : List ℕ → Option (List ℕ)
command_in field =
    if is_command (take (name_length field) field)
    && list_all (λ byte. byte == 0) (drop (name_length field) field)
    then Some (take (name_length field) field) else None
