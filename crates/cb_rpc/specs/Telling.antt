-- What is told, as JSON: the result of each method under the names and in the forms of Bitcoin
-- Core's daemon.
use Rattle.std.specs.Prelude.{ℕ, List, [], ◌∷◌, codes}
use Rattle.std.specs.Fmt.{decimal}
use Rattle.hex.specs.Hex.{encode_lower}
use Rattle.json.specs.Token.{Token}
use Rattle.log.specs.declared.level.LevelFilter.{LevelFilter}
use Rattle.log.specs.declared.level.LevelFilter.TheVariants as levels
use Rattle.cb_block.specs.TxText.{tx_text}
use Rattle.cb_block.specs.BlockText.{block_text, header_text}
use Rattle.cb_rpc_call.specs.Words.{block_words}
use Rattle.cb_rpc.specs.declared.told.CallResult.{CallResult}
use Rattle.cb_rpc.specs.declared.told.CallResult.TheVariants as told
use Rattle.cb_rpc.specs.Blocks.{txids_tokens, txs_tokens}
use Rattle.cb_rpc.specs.Chains.{chain_tokens, tip_tokens}
use Rattle.cb_rpc_call.specs.Fields.{hash_item, list_tokens}
use Rattle.cb_rpc.specs.Headers.{header_tokens}
use Rattle.cb_rpc.specs.Mempools.{entries_tokens, entry_tokens, judged_tokens, mempool_tokens, output_report_tokens}
use Rattle.cb_rpc.specs.Networks.{network_tokens, totals_tokens}
use Rattle.cb_rpc.specs.Peers.{peer_tokens}
use Rattle.cb_rpc.specs.Transactions.{tx_tokens}

abbrev pub level_name : LevelFilter → List ℕ
level_name levels.Off = codes "off"
level_name levels.Error = codes "error"
level_name levels.Warn = codes "warn"
level_name levels.Info = codes "info"
level_name levels.Debug = codes "debug"
level_name levels.Trace = codes "trace"

-- bytes in hex
abbrev pub hex_tokens : List ℕ → List Token
hex_tokens bytes = Token.string (encode_lower bytes) ∷ []

abbrev pub told_tokens : CallResult → List Token
told_tokens told.Nothing = Token.null ∷ []
told_tokens (told.Number n) = Token.number (decimal n) ∷ []
told_tokens (told.Switch b) = Token.boolean b ∷ []
told_tokens (told.Words text) = Token.string text.now ∷ []
told_tokens (told.Refusal fault) = Token.string (block_words fault) ∷ []
told_tokens (told.Level level) = Token.string (level_name level) ∷ []
told_tokens (told.Hash hash) = hash_item hash
told_tokens (told.Hashes hashes) = list_tokens hash_item hashes.items
told_tokens (told.HeaderHex header) = hex_tokens (header_text header)
told_tokens (told.Header report) = header_tokens report
told_tokens (told.BlockHex block) = hex_tokens (block_text block)
told_tokens (told.BlockTxids report block) = txids_tokens report block
told_tokens (told.BlockTxs report block) = txs_tokens report block
told_tokens (told.Chain report) = chain_tokens report
told_tokens (told.Tips tips) = list_tokens tip_tokens tips.items
told_tokens (told.Mempool report) = mempool_tokens report
told_tokens (told.Entry report) = entry_tokens report
told_tokens (told.Entries reports) = entries_tokens reports.items
told_tokens (told.TxHex tx) = hex_tokens (tx_text tx)
told_tokens (told.Tx report) = tx_tokens report
told_tokens (told.Output report) = output_report_tokens report
told_tokens (told.Judged report) = judged_tokens report
told_tokens (told.Network report) = network_tokens report
told_tokens (told.Totals report) = totals_tokens report
told_tokens (told.Peers peers) = list_tokens peer_tokens peers.items
