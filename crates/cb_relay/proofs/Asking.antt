-- Where memory was asked for: what is read has transactions.
use Rattle.std.proofs.Common.{◌≡◌, ℕ, zero, suc, ◌+◌, ◌<◌, ◌++◌, ◌∙◌, true, false, List, [], ◌∷◌, length, Result, Ok, Err, refl, ap, subst, arith}
use Rattle.std.specs.Int.{w32, w64, to_le_bytes}
use Rattle.std.specs.List.{flat_map}
use Rattle.std.specs.Prelude.{IfOk, IsOk}
use Rattle.std.proofs.lemmas.List.{length-append}
use Rattle.cb_base.specs.declared.fault.Fault.{Fault}
use Rattle.cb_base.specs.declared.fault.Fault.TheVariants.{Memory}
use Rattle.cb_base.specs.Reading.{Read, ◌>>=◌, number_at}
use Rattle.cb_base.specs.declared.hash.Hash256.{Hash256}
use Rattle.cb_base.proofs.Fields.{AreBytes, bind_ok, ok_is}
use Rattle.cb_base.specs.CompactSize.{compact_text}
use Rattle.cb_block.specs.BlockReading.{header_at}
use Rattle.cb_block.specs.BlockText.{IsHeader, header_text}
use Rattle.cb_block.specs.declared.header.Header.{Header}
use Rattle.cb_wire.specs.BlockTransactions.{BlockTxsTakesMemory, block_txs_at, block_txs_count_at, block_txs_text}
use Rattle.cb_wire.specs.CompactBlocks.{CompactBlockTakesMemory, compact_block_at, compact_block_text}
use Rattle.cb_wire.specs.Lists.{CountsSome, limited_at, listed_at}
use Rattle.cb_wire.specs.Requests.{TakesMemory, request_at, request_count_at}
use Rattle.cb_wire.specs.declared.block_transactions.BlockTransactions.{BlockTransactions}
use Rattle.cb_wire.specs.declared.requests.HeadersRequest.{HeadersRequest}
use Rattle.cb_wire.proofs.Compacting.{compact_block_takes}
use Rattle.cb_wire.proofs.Fetching.{block_txs_takes}
use Rattle.cb_wire.specs.ShortForms.{FormTakesMemory, ShortForm, prefilled_at, prefilled_count_at, prefilled_text, short_form_at, short_form_text, short_id_at, short_id_text}
use Rattle.cb_wire.specs.declared.compact_block.HeaderAndShortIds.{HeaderAndShortIds}
use Rattle.cb_wire.proofs.Needing.{block_takes, prefilled_take}
use Rattle.cb_relay.specs.WholeMessages.{all_of}
use Rattle.cb_block.specs.TxReading.{count_at, hash_at, items_at, list_at, tx_at}
use Rattle.cb_block.specs.TxText.{list_text}
use Rattle.cb_wire.specs.Grammar.{whole}

whole_is : {A : Type 0} (value : A) (rest : List ℕ) (x : A) → whole (value, rest) ≡ Ok x → (value ≡ x) × (rest ≡ [])
whole_is value [] x e = (cc, refl)
whole_is value (byte ∷ rest) x e = absurd cc

-- what is read as a whole is read, and nothing is left
pub all_is : {A : Type 0} (read : Read A) (value : A) → all_of read ≡ Ok value → read ≡ Ok (value, [])
all_is read value e =
    let b = bind_ok read (λ it. whole it) value e in
    let w = whole_is b.0.0 b.0.1 value b.2 in
    b.1 ∙ ap (λ it. Ok (it, b.0.1)) w.0 ∙ ap (λ it. Ok (value, it)) w.1

some_form : (bytes : List ℕ) (form : ShortForm) (rest : List ℕ) → short_form_at bytes ≡ Ok (form, rest) → FormTakesMemory bytes
unfolding short_form_at
some_form bytes form rest e =
    let i = bind_ok (list_at 6 short_id_at bytes) (λ ids. prefilled_count_at (length ids.0) ids.1 >>= λ n. items_at prefilled_at n.0 n.1 >>= λ prefilled. Ok (record { ids = ids.0; prefilled = prefilled.0 }, prefilled.1)) (form, rest) e in
    let n = bind_ok (prefilled_count_at (length i.0.0) i.0.1) (λ n. items_at prefilled_at n.0 n.1 >>= λ prefilled. Ok (record { ids = i.0.0; prefilled = prefilled.0 }, prefilled.1)) (form, rest) i.2 in
    prefilled_take bytes i.0.0 i.0.1 (length i.0.0) n.0 i.1 refl n.1

-- a compact block has a transaction, so its reading asked for memory
pub some_compact : (bytes : List ℕ) (form : HeaderAndShortIds) (rest : List ℕ) → compact_block_at bytes ≡ Ok (form, rest) → CompactBlockTakesMemory bytes
unfolding compact_block_at
some_compact bytes form rest e =
    let h = bind_ok (header_at bytes) (λ header. number_at w64 header.1 >>= λ nonce. short_form_at nonce.1 >>= λ txs. Ok (record { header = header.0; nonce = nonce.0; txs = txs.0 }, txs.1)) (form, rest) e in
    let n = bind_ok (number_at w64 h.0.1) (λ nonce. short_form_at nonce.1 >>= λ txs. Ok (record { header = h.0.0; nonce = nonce.0; txs = txs.0 }, txs.1)) (form, rest) h.2 in
    let t = bind_ok (short_form_at n.0.1) (λ txs. Ok (record { header = h.0.0; nonce = n.0.0; txs = txs.0 }, txs.1)) (form, rest) n.2 in
    block_takes bytes h.0.0 h.0.1 n.0.0 n.0.1 h.1 n.1 (some_form n.0.1 t.0.0 t.0.1 t.1)

-- ---- lists

items_some : {A : Type 0} (item_at : List ℕ → Read A) (n : ℕ) (bytes : List ℕ) (items : List A) (after : List ℕ) → items_at item_at n bytes ≡ Ok (items, after) → 0 < length items → 0 < n
unfolding items_at
items_some {A = A} item_at zero bytes items after e some =
    let none : [] ≡ items = ap (λ (p : List A × List ℕ). p.0) (ok_is ([], bytes) (items, after) e) in
    absurd (omega (arith, some, ap length none))
items_some item_at (suc n) bytes items after e some = omega arith

-- what fails for want of memory alone had something to allocate for
pub some_left : {X : Type 0} (r : Result X Fault) (n : ℕ) → (n ≡ 0 → IsOk r) → r ≡ Err Memory → 0 < n
some_left r zero fine e = absurd (let z : false ≡ true = subst IsOk e (fine refl) in cc)
some_left r (suc n) fine e = omega arith

-- a list that isn't empty counts its items
pub some_listed : {A : Type 0} (most size : ℕ) (item_at : List ℕ → Read A) (bytes : List ℕ) (items : List A) → all_of (listed_at most size item_at bytes) ≡ Ok items → 0 < length items → CountsSome most size bytes
unfolding listed_at
some_listed most size item_at bytes items e some =
    let b = bind_ok (limited_at most size bytes) (λ n. items_at item_at n.0 n.1) (items, []) (all_is (listed_at most size item_at bytes) items e) in
    (b.0, b.1, items_some item_at b.0.0 b.0.1 items [] b.2 some)

-- so a locator
pub some_locator : (bytes : List ℕ) (request : HeadersRequest) → all_of (request_at bytes) ≡ Ok request → 0 < length request.locator → TakesMemory bytes
unfolding request_at listed_at request_count_at
some_locator bytes request e some =
    let v = bind_ok (number_at w32 bytes) (λ version. listed_at 101 32 hash_at version.1 >>= λ locator. hash_at locator.1 >>= λ stop. Ok (record { version = version.0; locator = locator.0; stop = stop.0 }, stop.1)) (request, []) (all_is (request_at bytes) request e) in
    let l = bind_ok (listed_at 101 32 hash_at v.0.1) (λ locator. hash_at locator.1 >>= λ stop. Ok (record { version = v.0.0; locator = locator.0; stop = stop.0 }, stop.1)) (request, []) v.2 in
    let h = bind_ok (hash_at l.0.1) (λ stop. Ok (record { version = v.0.0; locator = l.0.0; stop = stop.0 }, stop.1)) (request, []) l.2 in
    let b = bind_ok (limited_at 101 32 v.0.1) (λ n. items_at hash_at n.0 n.1) l.0 l.1 in
    let same : l.0.0 ≡ request.locator = ap (λ (p : HeadersRequest × List ℕ). p.0.locator) (ok_is (record { version = v.0.0; locator = l.0.0; stop = h.0.0 }, h.0.1) (request, []) h.2) in
    (b.0, ap (λ (r : Read ℕ). r >>= λ version. limited_at 101 32 version.1) v.1 ∙ b.1, items_some hash_at b.0.0 b.0.1 l.0.0 l.0.1 b.2 (omega (arith, some, ap length same)))

-- so the transactions of a blocktxn
pub some_part : (bytes : List ℕ) (part : BlockTransactions) → all_of (block_txs_at bytes) ≡ Ok part → 0 < length part.txs → BlockTxsTakesMemory bytes
unfolding block_txs_at list_at block_txs_count_at
some_part bytes part e some =
    let h = bind_ok (hash_at bytes) (λ block. list_at 10 tx_at block.1 >>= λ txs. Ok (record { block = block.0; txs = txs.0 }, txs.1)) (part, []) (all_is (block_txs_at bytes) part e) in
    let t = bind_ok (list_at 10 tx_at h.0.1) (λ txs. Ok (record { block = h.0.0; txs = txs.0 }, txs.1)) (part, []) h.2 in
    let b = bind_ok (count_at 10 h.0.1) (λ n. items_at tx_at n.0 n.1) t.0 t.1 in
    let same : t.0.0 ≡ part.txs = ap (λ (p : BlockTransactions × List ℕ). p.0.txs) (ok_is (record { block = h.0.0; txs = t.0.0 }, t.0.1) (part, []) t.2) in
    (b.0, ap (λ (r : Read Hash256). r >>= λ block. count_at 10 block.1) h.1 ∙ b.1, items_some tx_at b.0.0 b.0.1 t.0.0 t.0.1 b.2 (omega (arith, some, ap length same)))

-- ---- how long a payload is

-- what is read as a whole is all of the bytes
pub part_long : (bytes : List ℕ) (part : BlockTransactions) → AreBytes bytes → all_of (block_txs_at bytes) ≡ Ok part → length (block_txs_text part) ≡ length bytes
part_long bytes part are e =
    let t = (block_txs_takes bytes part [] are (all_is (block_txs_at bytes) part e)).0 in
    omega (arith, ap length t.parts, length-append (block_txs_text part) [])

header_long : (x : Header) → IsHeader x → length (header_text x) ≡ 80
unfolding header_text
header_long x is =
    let tail = to_le_bytes w32 x.time ++ (to_le_bytes w32 x.bits ++ to_le_bytes w32 x.nonce) in
    omega (arith, is.prev, is.root, length-append x.prev.0 (x.root.0 ++ tail), length-append x.root.0 tail)

list_room : {A : Type 0} (text : A → List ℕ) (xs : List A) → length (list_text text xs) ≡ length (compact_text (length xs)) + length (flat_map text xs)
unfolding list_text
list_room text xs = length-append (compact_text (length xs)) (flat_map text xs)

-- the parts of a short form
pub short_room : (form : ShortForm) → length (short_form_text form) ≡ length (list_text short_id_text form.ids) + (length (compact_text (length form.prefilled)) + length (flat_map prefilled_text form.prefilled))
unfolding short_form_text
short_room form = length-append (list_text short_id_text form.ids) (list_text prefilled_text form.prefilled) ∙ ap (λ n. length (list_text short_id_text form.ids) + n) (list_room prefilled_text form.prefilled)

form_text_room : (form : HeaderAndShortIds) → IsHeader form.header → length (compact_block_text form) ≡ 88 + length (short_form_text form.txs)
unfolding compact_block_text
form_text_room form is =
    omega (arith, header_long form.header is, length-append (header_text form.header) (to_le_bytes w64 form.nonce ++ short_form_text form.txs), length-append (to_le_bytes w64 form.nonce) (short_form_text form.txs))

-- a compact block is 88 bytes and its short form
pub form_room : (bytes : List ℕ) (form : HeaderAndShortIds) → AreBytes bytes → all_of (compact_block_at bytes) ≡ Ok form → 88 + length (short_form_text form.txs) ≡ length bytes
form_room bytes form are e =
    let t = compact_block_takes bytes form [] are (all_is (compact_block_at bytes) form e) in
    omega (arith, ap length t.0.parts, length-append (compact_block_text form) [], form_text_room form t.1.header)

pub if_ok : {A : Type 0} (P : Type 0) (r : Result A Fault) → P → IfOk r (λ _. P)
if_ok P (Ok x) it = it
if_ok P (Err fault) it = tt
