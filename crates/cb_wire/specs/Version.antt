-- The payload of version (Bitcoin's peer-to-peer protocol, with the relay byte of BIP 37).
use Rattle.std.specs.Prelude.{◌≡◌, ℕ, ◌^◌, ◌<◌, ◌≤◌, Bool, true, not, ◌==◌, List, [], ◌∷◌, ◌++◌, length, nat_lt, if◌then◌else◌, FitsSigned, Result, Ok, Err}
use Rattle.std.specs.Int.{w16, w32, w64, to_le_bytes, to_be_bytes, cast_unsigned}
use Rattle.cb_base.specs.declared.fault.Fault.{Fault}
use Rattle.cb_base.specs.declared.fault.Fault.TheVariants.{TooMany}
use Rattle.cb_base.specs.CompactSize.{compact_at, compact_text}
use Rattle.cb_base.specs.Reading.{Read, ◌>>=◌, bytes_at, number_at, port_at, signed_at}
use Rattle.cb_wire.specs.declared.version.NetAddress.{NetAddress}
use Rattle.cb_wire.specs.declared.version.Version.{Version}

-- ---- a network address: services, 16 bytes of address, and a big-endian port

unfoldable pub address_text : NetAddress → List ℕ
address_text a = to_le_bytes w64 a.services ++ (a.ip ++ to_be_bytes w16 a.port)

unfoldable pub address_at : List ℕ → Read NetAddress
address_at bytes = do
  services ← number_at w64 bytes
  ip ← bytes_at 16 services.1
  port ← port_at ip.1
  Ok (record { services = services.0; ip = ip.0; port = port.0 }, port.1)

pub record IsAddress (a : NetAddress) : Type 0 where
  pub services : a.services < 2 ^ 64
  pub ip : length a.ip ≡ 16
  pub port : a.port < 2 ^ 16

-- ---- the user agent: a length of at most 256, then that many bytes

unfoldable pub agent_text : List ℕ → List ℕ
agent_text agent = compact_text (length agent) ++ agent

unfoldable pub agent_at : List ℕ → Read (List ℕ)
agent_at bytes = do
  n ← compact_at bytes
  if nat_lt 256 n.0 then Err TooMany else bytes_at n.0 n.1

-- ---- the whole payload

-- all fields but the relay byte
unfoldable pub version_fields : Version → List ℕ
version_fields v =
    to_le_bytes w32 (cast_unsigned w32 v.version)
    ++ (to_le_bytes w64 v.services
    ++ (to_le_bytes w64 (cast_unsigned w64 v.time) ++ (address_text v.receiver
    ++ (address_text v.sender
    ++ (to_le_bytes w64 v.nonce
    ++ (agent_text v.agent ++ to_le_bytes w32 (cast_unsigned w32 v.height)))))))

-- the payload that is written: the fields, then the relay byte
unfoldable pub version_text : Version → List ℕ
version_text v = version_fields v ++ (if v.relay then 1 else 0) ∷ []

-- The relay flag by the bytes after the fields: true unless the first of them is 0. Bytes after it
-- are ignored; that is this program's own rule.
abbrev pub relay_of : List ℕ → Bool
relay_of [] = true
relay_of (byte ∷ more) = not (byte == 0)

-- the bytes are a payload of the version: its fields, then a relay byte or none, then any bytes
pub record IsVersionPayload (bytes : List ℕ) (v : Version) : Type 0 where
  pub tail : List ℕ
  pub fields : bytes ≡ version_fields v ++ tail
  pub relay : relay_of tail ≡ v.relay

unfoldable pub version_at : List ℕ → Result Version Fault
version_at bytes = do
  version ← signed_at w32 bytes
  services ← number_at w64 version.1
  time ← signed_at w64 services.1
  receiver ← address_at time.1
  sender ← address_at receiver.1
  nonce ← number_at w64 sender.1
  agent ← agent_at nonce.1
  height ← signed_at w32 agent.1
  Ok (record {
    version = version.0;
    services = services.0;
    time = time.0;
    receiver = receiver.0;
    sender = sender.0;
    nonce = nonce.0;
    agent = agent.0;
    height = height.0;
    relay = relay_of height.1;
  })

-- The range of a version: each number is in the range of its field, and the user agent has at most
-- 256 bytes.
pub record IsVersion (v : Version) : Type 0 where
  pub version : FitsSigned w32 v.version
  pub services : v.services < 2 ^ 64
  pub time : FitsSigned w64 v.time
  pub receiver : IsAddress v.receiver
  pub sender : IsAddress v.sender
  pub nonce : v.nonce < 2 ^ 64
  pub agent : length v.agent ≤ 256
  pub height : FitsSigned w32 v.height

-- reading allocates: all could be read, and the user agent isn't empty
abbrev pub TakesMemory : List ℕ → Type 0
TakesMemory bytes = (v : Version) × (version_at bytes ≡ Ok v) × (0 < length v.agent)
