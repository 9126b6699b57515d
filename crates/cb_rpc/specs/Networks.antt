-- What the node tells of itself and of all connections: Bitcoin Core's `getnetworkinfo` and
-- `getnettotals` (rpc/net.cpp).
use Rattle.std.specs.Prelude.{◌+◌, pos, true, false, List, [], ◌∷◌, ◌++◌, codes}
use Rattle.json.specs.Token.{Token}
use Rattle.cb_rpc.specs.declared.told.NetworkReport.{NetworkReport}
use Rattle.cb_rpc.specs.declared.told.TotalsReport.{TotalsReport}
use Rattle.cb_rpc_call.specs.Amounts.{amount_field}
use Rattle.cb_rpc_call.specs.Fields.{capped, empty_field, number_field, object_tokens, signed_field, switch_field, text_field}

-- what the node's `version` message tells, too: its agent, its protocol version, and that it has
-- blocks (the service NODE_NETWORK)
unfoldable pub version_fields : List Token
version_fields =
    number_field (codes "version") 10000
    ++ (text_field (codes "subversion") (codes "/cbrelay:1/")
    ++ number_field (codes "protocolversion") 70014)

unfoldable pub services_fields : List Token
services_fields =
    text_field (codes "localservices") (codes "0000000000000001")
    ++ Token.key (codes "localservicesnames") ∷ Token.begin_array
    ∷ Token.string (codes "NETWORK") ∷ Token.end_array ∷ []

unfoldable pub switch_fields : NetworkReport → List Token
switch_fields report =
    switch_field (codes "localrelay") true
    ++ (number_field (codes "timeoffset") 0 ++ switch_field (codes "networkactive") report.active)

unfoldable pub count_fields : NetworkReport → List Token
count_fields report =
    number_field (codes "connections") (capped (report.inbound + report.outbound))
    ++ (number_field (codes "connections_in") report.inbound
    ++ number_field (codes "connections_out") report.outbound)

unfoldable pub end_fields : List Token
end_fields =
    empty_field (codes "networks")
    ++ (amount_field (codes "relayfee") (pos 0)
    ++ (amount_field (codes "incrementalfee") (pos 0)
    ++ (empty_field (codes "localaddresses") ++ text_field (codes "warnings") (codes ""))))

abbrev pub network_tokens : NetworkReport → List Token
network_tokens report =
    object_tokens
    (version_fields
    ++ (services_fields ++ (switch_fields report ++ (count_fields report ++ end_fields))))

unfoldable pub moved_fields : TotalsReport → List Token
moved_fields report =
    number_field (codes "totalbytesrecv") report.received
    ++ (number_field (codes "totalbytessent") report.sent
    ++ signed_field (codes "timemillis") report.millis)

-- no target limits what is sent
unfoldable pub target_fields : List Token
target_fields =
    number_field (codes "timeframe") 86400
    ++ (number_field (codes "target") 0 ++ switch_field (codes "target_reached") false)

unfoldable pub cycle_fields : List Token
cycle_fields =
    switch_field (codes "serve_historical_blocks") true
    ++ (number_field (codes "bytes_left_in_cycle") 0
    ++ number_field (codes "time_left_in_cycle") 0)

unfoldable pub target_field : List Token
target_field = Token.key (codes "uploadtarget") ∷ object_tokens (target_fields ++ cycle_fields)

abbrev pub totals_tokens : TotalsReport → List Token
totals_tokens report = object_tokens (moved_fields report ++ target_field)
