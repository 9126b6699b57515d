-- The mempool and the UTXO set: Bitcoin Core's `getmempoolinfo`, `getmempoolentry`,
-- `getrawmempool`, `testmempoolaccept` (rpc/mempool.cpp) and `gettxout` (rpc/blockchain.cpp).
use Rattle.std.specs.Prelude.{ℕ, ℤ, pos, true, false, List, [], ◌∷◌, ◌++◌, codes, Result, Ok, Err}
use Rattle.std.specs.List.{flat_map}
use Rattle.json.specs.Token.{Token}
use Rattle.cb_base.specs.declared.fault.Fault.{Fault}
use Rattle.cb_rpc_call.specs.Words.{reject_words}
use Rattle.cb_rpc.specs.declared.told.EntryReport.{EntryReport}
use Rattle.cb_rpc.specs.declared.told.JudgedReport.{JudgedReport}
use Rattle.cb_rpc.specs.declared.told.MempoolReport.{MempoolReport}
use Rattle.cb_rpc.specs.declared.told.OutputReport.{OutputReport}
use Rattle.cb_rpc_call.specs.Amounts.{amount_field}
use Rattle.cb_rpc_call.specs.Fields.{hash_field, hash_item, hash_text, list_field, number_field, object_tokens, switch_field, text_field, weight_of}
use Rattle.cb_rpc.specs.Transactions.{script_field}

unfoldable pub use_fields : MempoolReport → List Token
use_fields report =
    switch_field (codes "loaded") true
    ++ (number_field (codes "size") report.size
    ++ (number_field (codes "bytes") report.bytes
    ++ (number_field (codes "usage") report.bytes
    ++ amount_field (codes "total_fee") report.fees)))

-- no fee is asked for
unfoldable pub rate_fields : List Token
rate_fields =
    amount_field (codes "mempoolminfee") (pos 0)
    ++ (amount_field (codes "minrelaytxfee") (pos 0)
    ++ amount_field (codes "incrementalrelayfee") (pos 0))

abbrev pub mempool_tokens : MempoolReport → List Token
mempool_tokens report =
    object_tokens
    (use_fields report
    ++ (rate_fields
    ++ (number_field (codes "unbroadcastcount") 0 ++ switch_field (codes "fullrbf") false)))

-- a transaction's fee; nothing changes what a miner takes it for
unfoldable pub fees_field : ℤ → List Token
fees_field fee =
    Token.key (codes "fees")
    ∷ object_tokens (amount_field (codes "base") fee ++ amount_field (codes "modified") fee)

unfoldable pub entry_sizes : EntryReport → List Token
entry_sizes report =
    number_field (codes "vsize") report.size
    ++ (number_field (codes "weight") (weight_of report.size)
    ++ hash_field (codes "wtxid") report.txid)

unfoldable pub family_fields : EntryReport → List Token
family_fields report =
    list_field (codes "depends") hash_item report.depends.items
    ++ list_field (codes "spentby") hash_item report.spent_by.items

unfoldable pub flag_fields : List Token
flag_fields =
    switch_field (codes "bip125-replaceable") false ++ switch_field (codes "unbroadcast") false

unfoldable pub entry_tokens : EntryReport → List Token
entry_tokens report =
    object_tokens
    (entry_sizes report ++ (fees_field report.fee ++ (family_fields report ++ flag_fields)))

-- an entry under its txid
unfoldable pub entry_member : EntryReport → List Token
entry_member report = Token.key (hash_text report.txid) ∷ entry_tokens report

abbrev pub entries_tokens : List EntryReport → List Token
entries_tokens entries = object_tokens (flat_map entry_member entries)

unfoldable pub output_report_tokens : OutputReport → List Token
output_report_tokens report =
    object_tokens
    (hash_field (codes "bestblock") report.best
    ++ (number_field (codes "confirmations") report.confirmations
    ++ (amount_field (codes "value") report.value
    ++ (script_field (codes "scriptPubKey") report.script
    ++ switch_field (codes "coinbase") report.coinbase))))

-- what is told of a transaction that would be taken, with its fee, or of one that wouldn't
abbrev pub verdict_fields : ℕ → Result ℤ Fault → List Token
verdict_fields size (Ok fee) =
    switch_field (codes "allowed") true
    ++ (number_field (codes "vsize") size
    ++ Token.key (codes "fees") ∷ object_tokens (amount_field (codes "base") fee))
verdict_fields size (Err fault) =
    switch_field (codes "allowed") false
    ++ text_field (codes "reject-reason") (reject_words fault)

unfoldable pub judged_object : JudgedReport → List Token
judged_object report =
    object_tokens
    (hash_field (codes "txid") report.txid
    ++ (hash_field (codes "wtxid") report.txid ++ verdict_fields report.size report.verdict))

abbrev pub judged_tokens : JudgedReport → List Token
judged_tokens report = Token.begin_array ∷ (judged_object report ++ Token.end_array ∷ [])
