-- A header as fields: Bitcoin Core's `getblockheader` (`blockheaderToJSON` in rpc/blockchain.cpp).
use Rattle.std.specs.Prelude.{ℕ, ◌+◌, ◌*◌, ◌==◌, if◌then◌else◌, List, [], ◌++◌, replicate, codes, Option, Some, None}
use Rattle.std.specs.Int.{w32, w64, to_be_bytes, cast_unsigned}
use Rattle.json.specs.Token.{Token}
use Rattle.cb_base.specs.declared.hash.Hash256.{Hash256}
use Rattle.cb_block.specs.declared.header.Header.{Header}
use Rattle.cb_rpc.specs.declared.told.HeaderReport.{HeaderReport}
use Rattle.cb_rpc_call.specs.Fields.{exact_field, hash_field, hex_field, number_field, object_tokens, signed_field}

unfoldable pub place_fields : HeaderReport → List Token
place_fields report =
    hash_field (codes "hash") report.hash
    ++ (signed_field (codes "confirmations") report.confirmations
    ++ number_field (codes "height") report.height)

unfoldable pub content_fields : Header → List Token
content_fields header =
    signed_field (codes "version") header.version
    ++ (hex_field (codes "versionHex") (to_be_bytes w32 (cast_unsigned w32 header.version))
    ++ hash_field (codes "merkleroot") header.root)

unfoldable pub time_fields : HeaderReport → List Token
time_fields report =
    number_field (codes "time") report.header.time
    ++ (number_field (codes "mediantime") report.median_time
    ++ (number_field (codes "nonce") report.header.nonce
    ++ hex_field (codes "bits") (to_be_bytes w32 report.header.bits)))

-- the difficulty of regtest's bits 207fffff, which all headers have
abbrev pub difficulty_text : List ℕ
difficulty_text = codes "4.656542373906925e-10"

unfoldable pub difficulty_field : List Token
difficulty_field = exact_field (codes "difficulty") difficulty_text

-- The work of the headers up to this height, as 32 bytes: each of them has 2 hashes to be expected.
abbrev pub chain_work : ℕ → List ℕ
chain_work height = replicate 24 0 ++ to_be_bytes w64 (2 * (height + 1))

unfoldable pub work_field : ℕ → List Token
work_field height = hex_field (codes "chainwork") (chain_work height)

-- the hash of the parent, which the genesis block doesn't have
unfoldable pub previous_field : ℕ → Hash256 → List Token
previous_field height hash =
    if height == 0 then [] else hash_field (codes "previousblockhash") hash

abbrev pub next_field : Option Hash256 → List Token
next_field None = []
next_field (Some hash) = hash_field (codes "nextblockhash") hash

unfoldable pub link_fields : HeaderReport → List Token
link_fields report =
    number_field (codes "nTx") report.txs
    ++ (previous_field report.height report.header.prev ++ next_field report.next)

unfoldable pub header_fields : HeaderReport → List Token
header_fields report =
    place_fields report
    ++ (content_fields report.header
    ++ (time_fields report
    ++ (difficulty_field ++ (work_field report.height ++ link_fields report))))

abbrev pub header_tokens : HeaderReport → List Token
header_tokens report = object_tokens (header_fields report)
