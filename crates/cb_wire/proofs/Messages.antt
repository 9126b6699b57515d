-- What is read of a payload is spelled by it, and what spells a message is read as that message.
use Rattle.std.proofs.Common.{◌≡◌, ℕ, ◌^◌, ◌<◌, ◌≤◌, Bool, true, false, cond, List, [], ◌∷◌, ◌++◌, length, All, Option, Some, None, Result, Ok, Err, refl, sym, ap, subst, ◌∙◌, arith, inl, inr, ◌⊎◌}
use Rattle.std.specs.Prelude.{IfOk, find}
use Rattle.std.specs.Str.{bytes_eq}
use Rattle.std.specs.Int.{w64, to_le_bytes}
use Rattle.std.proofs.lemmas.Slice.Eq.{bytes_eq-Decides}
use Rattle.std.proofs.lemmas.List.{append-nil}
use Rattle.cb_base.specs.declared.fault.Fault.{Fault}
use Rattle.cb_base.specs.declared.fault.Fault.TheVariants.{Memory}
use Rattle.cb_base.specs.Reading.{Read, ◌>>=◌, number_at}
use Rattle.cb_base.proofs.Fields.{AreBytes, Takes, bind_ok, ok_is, wide64, number_takes, number_again}
use Rattle.cb_block.specs.declared.tx.Tx as transaction
use Rattle.cb_block.specs.TxText.{list_text, tx_text, IsTx}
use Rattle.cb_block.specs.TxReading.{tx_at}
use Rattle.cb_block.proofs.TxLaws.{tx_spells, tx_again}
use Rattle.cb_block.specs.declared.block.Block as blocks
use Rattle.cb_block.specs.declared.header.Header as header
use Rattle.cb_block.specs.BlockText.{block_text, IsBlock, IsHeader, listed_header_text}
use Rattle.cb_block.specs.BlockReading.{block_at, listed_header_at}
use Rattle.cb_block.proofs.Headers.{block_spells, block_again}
use Rattle.cb_wire.specs.declared.command.Command.{Command}
use Rattle.cb_wire.specs.declared.command.Command.TheVariants as known
use Rattle.cb_wire.specs.declared.inventory.Inventory.{Inventory}
use Rattle.cb_wire.specs.declared.message.Message.{Message}
use Rattle.cb_wire.specs.declared.message.Message.TheVariants.{Version, Verack, Ping, Pong, SendHeaders, SendCmpct, Inv, GetData, NotFound, Headers, GetHeaders, Tx, Block, CmpctBlock, GetBlockTxn, BlockTxn, Unknown}
use Rattle.cb_wire.specs.declared.block_transactions.BlockTransactions.{BlockTransactions}
use Rattle.cb_wire.specs.declared.block_transactions.BlockTransactionsRequest.{BlockTransactionsRequest}
use Rattle.cb_wire.specs.declared.compact_block.HeaderAndShortIds.{HeaderAndShortIds}
use Rattle.cb_wire.specs.declared.requests.CompactRelay.{CompactRelay}
use Rattle.cb_wire.specs.declared.requests.HeadersRequest.{HeadersRequest}
use Rattle.cb_wire.specs.Command.{IsCommand, known_command, known_commands, command_name, is_command}
use Rattle.cb_wire.specs.BlockTransactions.{IsBlockTxs, IsTxsRequest, block_txs_at, block_txs_text, txs_request_at, txs_request_text}
use Rattle.cb_wire.specs.CompactBlocks.{IsCompactBlock, compact_block_at, compact_block_text}
use Rattle.cb_wire.specs.Lists.{IsEntry, entry_at, entry_text, listed_at}
use Rattle.cb_wire.specs.Requests.{IsRequest, compact_relay_at, compact_relay_text, request_at, request_text}
use Rattle.cb_wire.specs.Version.{version_at}
use Rattle.cb_wire.specs.Grammar.{name_of, payload_text, IsPayload, Spells, IsMessage, IsWithinLimits, whole, payload_at, message_under, message_at}
use Rattle.cb_wire.specs.RoundTrip.{Gives}
use Rattle.cb_wire.proofs.Compacting.{compact_block_takes, compact_block_again}
use Rattle.cb_wire.proofs.Fetching.{block_txs_takes, block_txs_again, txs_request_takes, txs_request_again, txs_request_most}
use Rattle.cb_wire.proofs.Counting.{entry_kind, listed_header_kind, listed_takes, listed_again, entries_most, headers_most}
use Rattle.cb_wire.proofs.Introducing.{version_spells, version_read, version_text_spells, version_most}
use Rattle.cb_wire.proofs.Requesting.{compact_relay_takes, compact_relay_again, compact_relay_long, request_takes, request_again, request_most}

-- ---- names

-- the name of a known command is that command's
pub known_command_lem : (command : Command) → known_command (command_name command) ≡ Some command
known_command_lem known.Version = refl
known_command_lem known.Verack = refl
known_command_lem known.Ping = refl
known_command_lem known.Pong = refl
known_command_lem known.SendHeaders = refl
known_command_lem known.SendCmpct = refl
known_command_lem known.Inv = refl
known_command_lem known.GetData = refl
known_command_lem known.NotFound = refl
known_command_lem known.Headers = refl
known_command_lem known.GetHeaders = refl
known_command_lem known.Tx = refl
known_command_lem known.Block = refl
known_command_lem known.CmpctBlock = refl
known_command_lem known.GetBlockTxn = refl
known_command_lem known.BlockTxn = refl

chosen : {A : Type 0} (b : Bool) (x y z : A) → cond b x y ≡ z → ((b ≡ true) × (x ≡ z)) ⊎ ((b ≡ false) × (y ≡ z))
chosen true x y z e = inl (refl, e)
chosen false x y z e = inr (refl, e)

named_among : (commands : List Command) (name : List ℕ) (command : Command) → find (λ c. bytes_eq name (command_name c)) commands ≡ Some command → name ≡ command_name command
named_among [] name command e = absurd cc
named_among (first ∷ others) name command e =
    elim (chosen (bytes_eq name (command_name first)) (Some first) (find (λ c. bytes_eq name (command_name c)) others) (Some command) e) [
      | inl h ↦ (bytes_eq-Decides name (command_name first)).0 h.0 ∙ ap command_name (let p : first ≡ command = cc in p)
      | inr h ↦ named_among others name command h.1
    ]

-- a known command goes under its own name alone
pub known_command-name : (name : List ℕ) (command : Command) → known_command name ≡ Some command → name ≡ command_name command
known_command-name name command e = named_among known_commands name command e

-- ---- payloads

whole_is : {A : Type 0} (value : A) (rest : List ℕ) (x : A) → whole (value, rest) ≡ Ok x → (value ≡ x) × (rest ≡ [])
whole_is value [] x e = (cc, refl)
whole_is value (byte ∷ rest) x e = absurd cc

-- How values of a kind stand in a payload: what is read is spelled so and is such a value, and what is spelled so is
-- read, whatever follows.
record IsField (A : Type 0) (text : A → List ℕ) (at : List ℕ → Read A) (Is : A → Type 0) : Type 0 where
  takes : (bytes : List ℕ) (x : A) (rest : List ℕ) → AreBytes bytes → at bytes ≡ Ok (x, rest) → Takes bytes (text x) rest × Is x
  again : (x : A) (rest : List ℕ) → Is x → at (text x ++ rest) ≡ Ok (x, rest)

nonce_field : IsField ℕ (to_le_bytes w64) (number_at w64) (λ n. n < 2 ^ 64)
nonce_field = record { takes = number_takes w64 (2 ^ 64) wide64; again = number_again w64 (2 ^ 64) wide64 }

relay_field : IsField CompactRelay compact_relay_text compact_relay_at (λ relay. relay.version < 2 ^ 64)
relay_field = record { takes = compact_relay_takes; again = compact_relay_again }

entries_field : IsField (List Inventory) (list_text entry_text) (listed_at 50000 36 entry_at) (λ entries. (length entries ≤ 50000) × All IsEntry entries)
entries_field = record {
  takes = listed_takes Inventory entry_text entry_at IsEntry 50000 36 entry_kind;
  again = listed_again Inventory entry_text entry_at IsEntry 50000 36 entry_kind (omega arith);
}

headers_field : IsField (List header.Header) (list_text listed_header_text) (listed_at 2000 81 listed_header_at) (λ headers. (length headers ≤ 2000) × All IsHeader headers)
headers_field = record {
  takes = listed_takes header.Header listed_header_text listed_header_at IsHeader 2000 81 listed_header_kind;
  again = listed_again header.Header listed_header_text listed_header_at IsHeader 2000 81 listed_header_kind (omega arith);
}

request_field : IsField HeadersRequest request_text request_at IsRequest
request_field = record { takes = request_takes; again = request_again }

tx_field : IsField transaction.Tx tx_text tx_at IsTx
tx_field = record { takes = tx_spells; again = tx_again }

block_field : IsField blocks.Block block_text block_at IsBlock
block_field = record { takes = block_spells; again = block_again }

compact_block_field : IsField HeaderAndShortIds compact_block_text compact_block_at IsCompactBlock
compact_block_field = record { takes = compact_block_takes; again = compact_block_again }

txs_request_field : IsField BlockTransactionsRequest txs_request_text txs_request_at IsTxsRequest
txs_request_field = record { takes = txs_request_takes; again = txs_request_again }

block_txs_field : IsField BlockTransactions block_txs_text block_txs_at IsBlockTxs
block_txs_field = record { takes = block_txs_takes; again = block_txs_again }

-- what a payload of one field says of its message
record IsRow (A : Type 0) (text : A → List ℕ) (Is : A → Type 0) (make : A → Message) (name : List ℕ) : Type 0 where
  named : (x : A) → name_of (make x) ≡ name
  spelled : (x : A) (bytes : List ℕ) → text x ≡ bytes → IsPayload bytes (make x)
  kept : (x : A) → Is x → IsMessage (make x)

-- a value and nothing after it
field_whole : (A : Type 0) (text : A → List ℕ) (at : List ℕ → Read A) (Is : A → Type 0) → IsField A text at Is → (make : A → Message) (name : List ℕ) → IsRow A text Is make name
    → (bytes : List ℕ) (message : Message) → AreBytes bytes → (at bytes >>= λ x. whole (make x.0, x.1)) ≡ Ok message → Spells name bytes message × IsMessage message
field_whole A text at Is field make name row bytes message fits e =
    let b = bind_ok (at bytes) (λ x. whole (make x.0, x.1)) message e in
    let w = whole_is (make b.0.0) b.0.1 message b.2 in
    let t = field.takes bytes b.0.0 b.0.1 fits b.1 in
    let all : text b.0.0 ≡ bytes = sym (append-nil _) ∙ ap (λ (rest : List ℕ). text b.0.0 ++ rest) (sym w.1) ∙ sym t.0.parts in
    subst (λ m. Spells name bytes m × IsMessage m) w.0 (record { under = row.named b.0.0; spelled = row.spelled b.0.0 bytes all }, row.kept b.0.0 t.1)

-- a text and nothing after it
field_read : (A : Type 0) (text : A → List ℕ) (at : List ℕ → Read A) (Is : A → Type 0) → IsField A text at Is
    → (make : A → Message) (x : A) (bytes : List ℕ) → Is x → text x ≡ bytes → (at bytes >>= λ x. whole (make x.0, x.1)) ≡ Ok (make x)
field_read A text at Is field make x bytes is e =
    ap (λ (b : List ℕ). at b >>= λ x. whole (make x.0, x.1)) (sym e ∙ sym (append-nil (text x)))
    ∙ ap (λ r. r >>= λ x. whole (make x.0, x.1)) (field.again x [] is)

-- a message without a payload
empty_is : (make : Message) (name bytes : List ℕ) (message : Message) → name_of make ≡ name → ([] ≡ bytes → IsPayload bytes make) → IsMessage make → whole (make, bytes) ≡ Ok message
    → Spells name bytes message × IsMessage message
empty_is make name bytes message under spelled kept e =
    let w = whole_is make bytes message e in
    subst (λ m. Spells name bytes m × IsMessage m) w.0 (record { under = under; spelled = spelled (sym w.1) }, kept)

empty_read : (make : Message) (bytes : List ℕ) → [] ≡ bytes → whole (make, bytes) ≡ Ok make
empty_read make bytes e = ap (λ (b : List ℕ). whole (make, b)) (sym e)

pub payload_at-is : (command : Command) (bytes : List ℕ) (message : Message) → AreBytes bytes → payload_at command bytes ≡ Ok message
    → Spells (command_name command) bytes message × IsMessage message
payload_at-is known.Version bytes message fits e =
    let b = bind_ok (version_at bytes) (λ version. Ok (Version version)) message e in
    let s = version_spells bytes b.0 fits b.1 in
    subst (λ m. Spells (command_name known.Version) bytes m × IsMessage m) (ok_is (Version b.0) message b.2) (record { under = refl; spelled = s.0 }, s.1)
payload_at-is known.Verack bytes message fits e = empty_is Verack (command_name known.Verack) bytes message refl (λ p. p) tt e
payload_at-is known.SendHeaders bytes message fits e = empty_is SendHeaders (command_name known.SendHeaders) bytes message refl (λ p. p) tt e
payload_at-is known.Ping bytes message fits e =
    field_whole ℕ (to_le_bytes w64) (number_at w64) (λ n. n < 2 ^ 64) nonce_field Ping (command_name known.Ping) (record { named = λ x. refl; spelled = λ x b p. p; kept = λ x is. is }) bytes message fits e
payload_at-is known.Pong bytes message fits e =
    field_whole ℕ (to_le_bytes w64) (number_at w64) (λ n. n < 2 ^ 64) nonce_field Pong (command_name known.Pong) (record { named = λ x. refl; spelled = λ x b p. p; kept = λ x is. is }) bytes message fits e
payload_at-is known.SendCmpct bytes message fits e =
    field_whole CompactRelay compact_relay_text compact_relay_at (λ relay. relay.version < 2 ^ 64) relay_field SendCmpct (command_name known.SendCmpct) (record { named = λ x. refl; spelled = λ x b p. p; kept = λ x is. is }) bytes message fits e
payload_at-is known.Inv bytes message fits e =
    field_whole (List Inventory) (list_text entry_text) (listed_at 50000 36 entry_at) (λ entries. (length entries ≤ 50000) × All IsEntry entries) entries_field Inv (command_name known.Inv) (record { named = λ x. refl; spelled = λ x b p. p; kept = λ x is. is }) bytes message fits e
payload_at-is known.GetData bytes message fits e =
    field_whole (List Inventory) (list_text entry_text) (listed_at 50000 36 entry_at) (λ entries. (length entries ≤ 50000) × All IsEntry entries) entries_field GetData (command_name known.GetData) (record { named = λ x. refl; spelled = λ x b p. p; kept = λ x is. is }) bytes message fits e
payload_at-is known.NotFound bytes message fits e =
    field_whole (List Inventory) (list_text entry_text) (listed_at 50000 36 entry_at) (λ entries. (length entries ≤ 50000) × All IsEntry entries) entries_field NotFound (command_name known.NotFound) (record { named = λ x. refl; spelled = λ x b p. p; kept = λ x is. is }) bytes message fits e
payload_at-is known.Headers bytes message fits e =
    field_whole (List header.Header) (list_text listed_header_text) (listed_at 2000 81 listed_header_at) (λ headers. (length headers ≤ 2000) × All IsHeader headers) headers_field Headers (command_name known.Headers) (record { named = λ x. refl; spelled = λ x b p. p; kept = λ x is. is }) bytes message fits e
payload_at-is known.GetHeaders bytes message fits e =
    field_whole HeadersRequest request_text request_at IsRequest request_field GetHeaders (command_name known.GetHeaders) (record { named = λ x. refl; spelled = λ x b p. p; kept = λ x is. is }) bytes message fits e
payload_at-is known.Tx bytes message fits e =
    field_whole transaction.Tx tx_text tx_at IsTx tx_field Tx (command_name known.Tx) (record { named = λ x. refl; spelled = λ x b p. p; kept = λ x is. is }) bytes message fits e
payload_at-is known.Block bytes message fits e =
    field_whole blocks.Block block_text block_at IsBlock block_field Block (command_name known.Block) (record { named = λ x. refl; spelled = λ x b p. p; kept = λ x is. is }) bytes message fits e
payload_at-is known.CmpctBlock bytes message fits e =
    field_whole HeaderAndShortIds compact_block_text compact_block_at IsCompactBlock compact_block_field CmpctBlock (command_name known.CmpctBlock) (record { named = λ x. refl; spelled = λ x b p. p; kept = λ x is. is }) bytes message fits e
payload_at-is known.GetBlockTxn bytes message fits e =
    field_whole BlockTransactionsRequest txs_request_text txs_request_at IsTxsRequest txs_request_field GetBlockTxn (command_name known.GetBlockTxn) (record { named = λ x. refl; spelled = λ x b p. p; kept = λ x is. is }) bytes message fits e
payload_at-is known.BlockTxn bytes message fits e =
    field_whole BlockTransactions block_txs_text block_txs_at IsBlockTxs block_txs_field BlockTxn (command_name known.BlockTxn) (record { named = λ x. refl; spelled = λ x b p. p; kept = λ x is. is }) bytes message fits e

under-spells : (o : Option Command) (name bytes : List ℕ) (message : Message) → known_command name ≡ o → AreBytes bytes → message_under o name bytes ≡ Ok message → Spells name bytes message
under-spells (Some command) name bytes message k fits e =
    subst (λ n. Spells n bytes message) (sym (known_command-name name command k)) (payload_at-is command bytes message fits e).0
under-spells None name bytes message k fits e =
    subst (λ m. Spells name bytes m) (ok_is (Unknown name bytes) message e) (record { under = refl; spelled = refl })

-- what is read is spelled so
pub message_at-spells : (name bytes : List ℕ) (message : Message) → AreBytes bytes → message_at name bytes ≡ Ok message → Spells name bytes message
unfolding message_at
message_at-spells name bytes message fits e = under-spells (known_command name) name bytes message refl fits e

-- what is read under a command's name keeps what the types of its fields keep
under-kept : (o : Option Command) (name bytes : List ℕ) (message : Message) → IsCommand name → known_command name ≡ o → AreBytes bytes → message_under o name bytes ≡ Ok message → IsMessage message
under-kept (Some command) name bytes message form k fits e = (payload_at-is command bytes message fits e).1
under-kept None name bytes message form k fits e = subst IsMessage (ok_is (Unknown name bytes) message e) (record { form = form; unknown = k })

message_at-kept : (name bytes : List ℕ) (message : Message) → IsCommand name → AreBytes bytes → message_at name bytes ≡ Ok message → IsMessage message
unfolding message_at
message_at-kept name bytes message form fits e = under-kept (known_command name) name bytes message form refl fits e

-- a payload is read as its message
pub payload_read : (message : Message) (bytes : List ℕ) → IsMessage message → IsPayload bytes message → message_under (known_command (name_of message)) (name_of message) bytes ≡ Ok message
payload_read (Version version) bytes h p = ap (λ r. r >>= λ v. Ok (Version v)) (version_read bytes version h p)
payload_read Verack bytes h p = empty_read Verack bytes p
payload_read SendHeaders bytes h p = empty_read SendHeaders bytes p
payload_read (Ping nonce) bytes h p = field_read ℕ (to_le_bytes w64) (number_at w64) (λ n. n < 2 ^ 64) nonce_field Ping nonce bytes h p
payload_read (Pong nonce) bytes h p = field_read ℕ (to_le_bytes w64) (number_at w64) (λ n. n < 2 ^ 64) nonce_field Pong nonce bytes h p
payload_read (SendCmpct relay) bytes h p = field_read CompactRelay compact_relay_text compact_relay_at (λ relay. relay.version < 2 ^ 64) relay_field SendCmpct relay bytes h p
payload_read (Inv entries) bytes h p = field_read (List Inventory) (list_text entry_text) (listed_at 50000 36 entry_at) (λ entries. (length entries ≤ 50000) × All IsEntry entries) entries_field Inv entries bytes h p
payload_read (GetData entries) bytes h p = field_read (List Inventory) (list_text entry_text) (listed_at 50000 36 entry_at) (λ entries. (length entries ≤ 50000) × All IsEntry entries) entries_field GetData entries bytes h p
payload_read (NotFound entries) bytes h p = field_read (List Inventory) (list_text entry_text) (listed_at 50000 36 entry_at) (λ entries. (length entries ≤ 50000) × All IsEntry entries) entries_field NotFound entries bytes h p
payload_read (Headers headers) bytes h p = field_read (List header.Header) (list_text listed_header_text) (listed_at 2000 81 listed_header_at) (λ headers. (length headers ≤ 2000) × All IsHeader headers) headers_field Headers headers bytes h p
payload_read (GetHeaders request) bytes h p = field_read HeadersRequest request_text request_at IsRequest request_field GetHeaders request bytes h p
payload_read (Tx tx) bytes h p = field_read transaction.Tx tx_text tx_at IsTx tx_field Tx tx bytes h p
payload_read (Block block) bytes h p = field_read blocks.Block block_text block_at IsBlock block_field Block block bytes h p
payload_read (CmpctBlock block) bytes h p = field_read HeaderAndShortIds compact_block_text compact_block_at IsCompactBlock compact_block_field CmpctBlock block bytes h p
payload_read (GetBlockTxn request) bytes h p = field_read BlockTransactionsRequest txs_request_text txs_request_at IsTxsRequest txs_request_field GetBlockTxn request bytes h p
payload_read (BlockTxn txs) bytes h p = field_read BlockTransactions block_txs_text block_txs_at IsBlockTxs block_txs_field BlockTxn txs bytes h p
payload_read (Unknown name payload) bytes h p = ap (λ o. message_under o name bytes) h.unknown ∙ ap (λ (b : List ℕ). Ok (Unknown name b)) (sym p)

-- a text is a payload of its message
text_spells : (message : Message) → IsPayload (payload_text message) message
text_spells (Version version) = version_text_spells version
text_spells Verack = refl
text_spells SendHeaders = refl
text_spells (Ping nonce) = refl
text_spells (Pong nonce) = refl
text_spells (SendCmpct relay) = refl
text_spells (Inv entries) = refl
text_spells (GetData entries) = refl
text_spells (NotFound entries) = refl
text_spells (Headers headers) = refl
text_spells (GetHeaders request) = refl
text_spells (Tx tx) = refl
text_spells (Block block) = refl
text_spells (CmpctBlock block) = refl
text_spells (GetBlockTxn request) = refl
text_spells (BlockTxn txs) = refl
text_spells (Unknown name payload) = refl

-- a text is read as its message
pub text_read : (message : Message) → IsMessage message → message_under (known_command (name_of message)) (name_of message) (payload_text message) ≡ Ok message
text_read message h = payload_read message (payload_text message) h (text_spells message)

-- what is spelled so is read
pub message_at-text : (name bytes : List ℕ) (message : Message) → IsMessage message → Spells name bytes message → message_at name bytes ≡ Ok message
unfolding message_at
message_at-text name bytes message h s =
    ap (λ (n : List ℕ). message_under (known_command n) n bytes) (sym s.under)
    ∙ payload_read message bytes h s.spelled

-- the command of a message is of a command's form
pub name_of-command : (message : Message) → IsMessage message → is_command (name_of message) ≡ true
name_of-command (Version version) h = refl
name_of-command Verack h = refl
name_of-command SendHeaders h = refl
name_of-command (Ping nonce) h = refl
name_of-command (Pong nonce) h = refl
name_of-command (SendCmpct relay) h = refl
name_of-command (Inv entries) h = refl
name_of-command (GetData entries) h = refl
name_of-command (NotFound entries) h = refl
name_of-command (Headers headers) h = refl
name_of-command (GetHeaders request) h = refl
name_of-command (Tx tx) h = refl
name_of-command (Block block) h = refl
name_of-command (CmpctBlock block) h = refl
name_of-command (GetBlockTxn request) h = refl
name_of-command (BlockTxn txs) h = refl
name_of-command (Unknown name payload) h = h.form

-- ---- limits

-- the payload of a message within the limits has at most 4,000,000 bytes
pub payload_most : (message : Message) → IsMessage message → IsWithinLimits message → length (payload_text message) ≤ 4000000
payload_most (Version version) h limit = omega (arith, version_most version h)
payload_most Verack h limit = omega arith
payload_most (Ping nonce) h limit = omega arith
payload_most (Pong nonce) h limit = omega arith
payload_most SendHeaders h limit = omega arith
payload_most (SendCmpct relay) h limit = omega (arith, compact_relay_long relay)
payload_most (Inv entries) h limit = omega (arith, entries_most entries h.0 h.1)
payload_most (GetData entries) h limit = omega (arith, entries_most entries h.0 h.1)
payload_most (NotFound entries) h limit = omega (arith, entries_most entries h.0 h.1)
payload_most (Headers headers) h limit = omega (arith, headers_most headers h.0 h.1)
payload_most (GetHeaders request) h limit = omega (arith, request_most request h)
payload_most (Tx tx) h limit = limit
payload_most (Block block) h limit = limit
payload_most (CmpctBlock block) h limit = limit
payload_most (GetBlockTxn request) h limit = omega (arith, txs_request_most request h)
payload_most (BlockTxn txs) h limit = limit
payload_most (Unknown name payload) h limit = limit

-- a message with a payload of at most 4,000,000 bytes is within the limits
within : (message : Message) (bytes : List ℕ) → IsPayload bytes message → length bytes ≤ 4000000 → IsWithinLimits message
within (Version version) bytes p le = tt
within Verack bytes p le = tt
within (Ping nonce) bytes p le = tt
within (Pong nonce) bytes p le = tt
within SendHeaders bytes p le = tt
within (SendCmpct relay) bytes p le = tt
within (Inv entries) bytes p le = tt
within (GetData entries) bytes p le = tt
within (NotFound entries) bytes p le = tt
within (Headers headers) bytes p le = tt
within (GetHeaders request) bytes p le = tt
within (Tx tx) bytes p le = subst (λ (b : List ℕ). length b ≤ 4000000) (sym p) le
within (Block block) bytes p le = subst (λ (b : List ℕ). length b ≤ 4000000) (sym p) le
within (CmpctBlock block) bytes p le = subst (λ (b : List ℕ). length b ≤ 4000000) (sym p) le
within (GetBlockTxn request) bytes p le = tt
within (BlockTxn txs) bytes p le = subst (λ (b : List ℕ). length b ≤ 4000000) (sym p) le
within (Unknown name payload) bytes p le = subst (λ (b : List ℕ). length b ≤ 4000000) (sym p) le

-- ---- what a reader answers

-- an answer that is one definition's is that of an equal one
pub Gives-is : {A : Type 0} (read other r : Result A Fault) → other ≡ read → Gives read r → Gives other r
Gives-is read other r e g = subst (λ x. Gives x r) (sym e) g

-- an answer that is the definition's
pub Gives-same : {A : Type 0} (read r : Result A Fault) → r ≡ read → Gives read r
Gives-same read (Ok x) e = sym e
Gives-same read (Err fault) e = inr (sym e)

pub message_at-known : (name bytes : List ℕ) (command : Command) → known_command name ≡ Some command → message_at name bytes ≡ payload_at command bytes
unfolding message_at
message_at-known name bytes command e = ap (λ o. message_under o name bytes) e

pub message_at-unknown : (name bytes : List ℕ) → known_command name ≡ None → message_at name bytes ≡ Ok (Unknown name bytes)
unfolding message_at
message_at-unknown name bytes e = ap (λ o. message_under o name bytes) e

-- what is answered is spelled so
pub found_lem : (name bytes : List ℕ) (r : Result Message Fault) → AreBytes bytes → Gives (message_at name bytes) r → IfOk r (Spells name bytes)
found_lem name bytes (Ok message) fits e = message_at-spells name bytes message fits e
found_lem name bytes (Err fault) fits e = tt

pub kept_lem : (name bytes : List ℕ) (r : Result Message Fault) → IsCommand name → AreBytes bytes → Gives (message_at name bytes) r → IfOk r IsMessage
kept_lem name bytes (Ok message) form fits e = message_at-kept name bytes message form fits e
kept_lem name bytes (Err fault) form fits e = tt

-- a known command's payload that is within the limit spells a message that is
pub payload_at-limits : (command : Command) (bytes : List ℕ) (message : Message) → AreBytes bytes → length bytes ≤ 4000000 → payload_at command bytes ≡ Ok message → IsWithinLimits message
payload_at-limits command bytes message fits le e = within message bytes (payload_at-is command bytes message fits e).0.spelled le

-- what is spelled so is answered, unless memory runs out
pub only_lem : (name bytes : List ℕ) (r : Result Message Fault) (message : Message) → Gives (message_at name bytes) r → IsMessage message → Spells name bytes message → (r ≡ Ok message) ⊎ (r ≡ Err Memory)
only_lem name bytes (Ok other) message e h s = inl (sym e ∙ message_at-text name bytes message h s)
only_lem name bytes (Err fault) message (inl m) h s = inr (ap (λ f. Err f) m)
only_lem name bytes (Err fault) message (inr e) h s = absurd (let p = sym (message_at-text name bytes message h s) ∙ e in cc)
