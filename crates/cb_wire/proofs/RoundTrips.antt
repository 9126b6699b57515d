-- The laws of payloads, put together of what is read and what is written.
use Rattle.std.proofs.Common.{◌≡◌, ℕ, zero, suc, ◌^◌, ◌<◌, ◌≤◌, List, [], ◌∷◌, length, All, Ok, arith}
use Rattle.std.specs.List.{AllByRecursion}
use Rattle.cb_base.specs.Reading.{Read}
use Rattle.cb_base.proofs.Fields.{AreBytes}
use Rattle.cb_block.specs.TxText.{list_text}
use Rattle.cb_block.proofs.Parts.{IsKind}
use Rattle.cb_wire.specs.Lists.{listed_at}
use Rattle.cb_wire.specs.Requests.{IsRequest, compact_relay_at, compact_relay_text, request_at, request_text}
use Rattle.cb_wire.specs.RoundTrip.{IsReadAsWritten}
use Rattle.cb_wire.specs.Version.{IsVersion, IsVersionPayload, version_at}
use Rattle.cb_wire.specs.declared.version.Version.{Version}
use Rattle.cb_wire.proofs.Counting.{listed_takes, listed_again}
use Rattle.cb_wire.proofs.Introducing.{version_spells}
use Rattle.cb_wire.proofs.Requesting.{compact_relay_takes, compact_relay_again, request_takes, request_again}

bytes_are : (bytes : List ℕ) → AllByRecursion (λ byte. byte < 256) bytes → AreBytes bytes
bytes_are [] are i = omega arith
bytes_are (byte ∷ bytes) are zero = are.0
bytes_are (byte ∷ bytes) are (suc i) = bytes_are bytes are.1 i

pub list_trip : (A : Type 0) (text : A → List ℕ) (item_at : List ℕ → Read A) (Is : A → Type 0) (most size : ℕ) → IsKind A text item_at Is size → most < 2 ^ 64
    → IsReadAsWritten (list_text text) (listed_at most size item_at) (λ list. (length list ≤ most) × All Is list)
list_trip A text item_at Is most size kind lt = record {
  back = λ list rest is. listed_again A text item_at Is most size kind lt list rest is;
  only = λ bytes list rest are e. let t = listed_takes A text item_at Is most size kind bytes list rest (bytes_are bytes are) e in (t.0.parts, t.1);
}

pub relay_trip : IsReadAsWritten compact_relay_text compact_relay_at (λ relay. relay.version < 2 ^ 64)
relay_trip = record {
  back = λ relay rest is. compact_relay_again relay rest is;
  only = λ bytes relay rest are e. let t = compact_relay_takes bytes relay rest (bytes_are bytes are) e in (t.0.parts, t.1);
}

pub request_trip : IsReadAsWritten request_text request_at IsRequest
request_trip = record {
  back = λ request rest is. request_again request rest is;
  only = λ bytes request rest are e. let t = request_takes bytes request rest (bytes_are bytes are) e in (t.0.parts, t.1);
}

pub version_only : (bytes : List ℕ) (version : Version) → AllByRecursion (λ byte. byte < 256) bytes → version_at bytes ≡ Ok version → IsVersionPayload bytes version × IsVersion version
version_only bytes version are e = version_spells bytes version (bytes_are bytes are) e
