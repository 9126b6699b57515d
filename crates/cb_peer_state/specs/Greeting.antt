-- The messages of a handshake (Bitcoin's peer-to-peer protocol; BIP 130, `sendheaders`; BIP 152,
-- `sendcmpct`).
use Rattle.std.specs.Prelude.{ℕ, ℤ, pos, Bool, true, false, List, [], ◌∷◌, ◌++◌, codes, replicate, int_lt, if◌then◌else◌}
use Rattle.cb_wire.specs.declared.version.NetAddress.{NetAddress}
use Rattle.cb_wire.specs.declared.message.Message.{Message}
use Rattle.cb_wire.specs.declared.message.Message.TheVariants.{Version, SendHeaders, SendCmpct}

-- The empty address: this node tells none.
abbrev pub no_address : NetAddress
no_address = record { services = 0; ip = replicate 16 0; port = 0 }

-- This node's `version` message: protocol version 70014, services 1 (NODE_NETWORK: it serves
-- blocks), and relay set (it wants transaction announcements).
abbrev pub our_version : ℕ → ℤ → ℤ → Message
our_version nonce time height =
    Version (record {
      version = pos 70014;
      services = 1;
      time = time;
      receiver = no_address;
      sender = no_address;
      nonce = nonce;
      agent = codes "/cbrelay:1/";
      height = height;
      relay = true;
    })

-- How this node wishes to hear of new blocks: as compact blocks of version 1, unasked if `high`
-- (BIP 152, high-bandwidth mode), or else only on request.
abbrev pub wish : Bool → Message
wish high = SendCmpct (record { high_bandwidth = high; version = 1 })

-- The messages that are sent once the handshake is done: `sendheaders` if the peer's version is at
-- least 70012, and `sendcmpct` for compact blocks only on request, if it is at least 70014.
abbrev pub wishes : ℤ → List Message
wishes version =
    (if int_lt version (pos 70012) then [] else SendHeaders ∷ [])
    ++ (if int_lt version (pos 70014) then [] else wish false ∷ [])
