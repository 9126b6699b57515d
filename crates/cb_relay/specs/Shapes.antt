-- Hashes and headers as C has them.
use Rattle.cb_base.specs.declared.hash.Hash256.{Hash256}
use Rattle.cb_block.specs.declared.header.Header.{Header}
use Rattle.cb_relay.specs.declared.shapes.CbHash.{CbHash}
use Rattle.cb_relay.specs.declared.shapes.CbHeader.{CbHeader}

abbrev pub hash_of : CbHash → Hash256
hash_of hash = record { 0 = hash.bytes }

abbrev pub shape_of_hash : Hash256 → CbHash
shape_of_hash hash = record { bytes = hash.0 }

abbrev pub header_of : CbHeader → Header
header_of shape = record {
  version = shape.version;
  prev = hash_of shape.prev;
  root = hash_of shape.root;
  time = shape.time;
  bits = shape.bits;
  nonce = shape.nonce;
}
