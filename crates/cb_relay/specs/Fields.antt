-- The fields of messages as C has them.
use Rattle.std.specs.Prelude.{◌+◌, if◌then◌else◌, length}
use Rattle.cb_base.specs.CompactSize.{compact_text}
use Rattle.cb_relay.specs.Shapes.{hash_of}
use Rattle.cb_wire.specs.Lists.{named}
use Rattle.cb_wire.specs.declared.inventory.Inventory.{Inventory}
use Rattle.cb_wire.specs.declared.version.NetAddress.{NetAddress}
use Rattle.cb_wire.specs.declared.version.Version.{Version}
use Rattle.cb_relay.specs.declared.message_shapes.CbAddress.{CbAddress}
use Rattle.cb_relay.specs.declared.message_shapes.CbEntry.{CbEntry}
use Rattle.cb_relay.specs.declared.message_shapes.CbVersionFields.{CbVersionFields}

abbrev pub entry_of : CbEntry → Inventory
entry_of shape = named shape.kind (hash_of shape.hash)

abbrev pub shape_of_address : NetAddress → CbAddress
shape_of_address address =
    record { services = address.services; ip = address.ip; port = address.port }

-- The user agent lies behind 80 bytes and its length.
abbrev pub fields_of : Version → CbVersionFields
fields_of v = record {
  version = v.version;
  relay = if v.relay then 1 else 0;
  services = v.services;
  time = v.time;
  receiver = shape_of_address v.receiver;
  sender = shape_of_address v.sender;
  nonce = v.nonce;
  agent = record {
    offset = 80 + length (compact_text (length v.agent));
    len = length v.agent;
  };
  height = v.height;
}
