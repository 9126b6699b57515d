-- Where the chain stands: Bitcoin Core's `getblockchaininfo` and `getchaintips`
-- (rpc/blockchain.cpp).
use Rattle.std.specs.Prelude.{ℕ, false, List, ◌++◌, codes}
use Rattle.json.specs.Token.{Token}
use Rattle.cb_rpc.specs.declared.told.ChainReport.{ChainReport}
use Rattle.cb_rpc.specs.declared.told.TipReport.{TipReport}
use Rattle.cb_rpc.specs.declared.told.TipStatus.{TipStatus}
use Rattle.cb_rpc.specs.declared.told.TipStatus.TheVariants.{Active, ValidFork, HeadersOnly, Invalid}
use Rattle.cb_rpc_call.specs.Fields.{hash_field, number_field, object_tokens, switch_field, text_field}
use Rattle.cb_rpc.specs.Headers.{difficulty_field, work_field}

unfoldable pub tip_fields : ChainReport → List Token
tip_fields report =
    text_field (codes "chain") (codes "regtest")
    ++ (number_field (codes "blocks") report.height
    ++ (number_field (codes "headers") report.headers
    ++ hash_field (codes "bestblockhash") report.hash))

unfoldable pub progress_fields : ChainReport → List Token
progress_fields report =
    number_field (codes "time") report.header.time
    ++ (number_field (codes "mediantime") report.median_time
    ++ (number_field (codes "verificationprogress") 1
    ++ switch_field (codes "initialblockdownload") false))

-- nothing is on a disk
unfoldable pub disk_fields : List Token
disk_fields =
    number_field (codes "size_on_disk") 0
    ++ (switch_field (codes "pruned") false ++ text_field (codes "warnings") (codes ""))

abbrev pub chain_tokens : ChainReport → List Token
chain_tokens report =
    object_tokens
    (tip_fields report
    ++ (difficulty_field
    ++ (progress_fields report ++ (work_field report.height ++ disk_fields))))

abbrev pub status_name : TipStatus → List ℕ
status_name Active = codes "active"
status_name ValidFork = codes "valid-fork"
status_name HeadersOnly = codes "headers-only"
status_name Invalid = codes "invalid"

unfoldable pub tip_tokens : TipReport → List Token
tip_tokens report =
    object_tokens
    (number_field (codes "height") report.height
    ++ (hash_field (codes "hash") report.hash
    ++ (number_field (codes "branchlen") report.branch
    ++ text_field (codes "status") (status_name report.status))))
