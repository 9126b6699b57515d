-- Compact blocks: what is read is spelled so, and what was written is read again.
use Rattle.std.proofs.Common.{◌≡◌, ℕ, zero, suc, ◌+◌, ◌*◌, ◌^◌, ◌≤◌, Bool, false, cond, ltb, eqb, List, [], ◌∷◌, ◌++◌, length, All, drop, Ok, Err, refl, sym, ap, subst, ◌∙◌, append_assoc, arith}
use Rattle.std.specs.Int.{w64, to_le_bytes}
use Rattle.std.proofs.lemmas.Bool.{ltb-false, le-ltb, ne_eqb}
use Rattle.std.proofs.lemmas.List.{length-append, drop_at}
use Rattle.std.proofs.lemmas.List.Elements.{All-from_recursion, recursion_from_All}
use Rattle.cb_base.specs.declared.fault.Fault.TheVariants.{Truncated, TooMany, Empty}
use Rattle.cb_base.specs.CompactSize.{compact_at, compact_text}
use Rattle.cb_base.specs.Reading.{Read, ◌>>=◌, number_at}
use Rattle.cb_base.proofs.Fields.{AreBytes, AreBytes-drop, bind_ok, guard_ok, ok_is, Takes, Takes-then, wide64, number_takes, number_again}
use Rattle.cb_base.proofs.Compact.{compact_takes, compact_again, compact_long}
use Rattle.cb_block.specs.TxText.{list_text, tx_text}
use Rattle.cb_block.specs.TxReading.{count_at, items_at, list_at, tx_at}
use Rattle.cb_block.proofs.Parts.{IsKind, list_takes, list_again}
use Rattle.cb_block.proofs.TxLaws.{tx_spells, tx_again, tx_long}
use Rattle.cb_block.specs.declared.header.Header.{Header}
use Rattle.cb_block.specs.BlockReading.{header_at}
use Rattle.cb_block.specs.BlockText.{IsHeader, header_text}
use Rattle.cb_block.proofs.Headers.{header_again, header_laws_at}
use Rattle.cb_wire.specs.declared.prefilled.PrefilledTransaction.{PrefilledTransaction}
use Rattle.cb_wire.specs.declared.compact_block.HeaderAndShortIds.{HeaderAndShortIds}
use Rattle.cb_wire.specs.ShortForms.{IsPrefilled, IsShortForm, IsShortId, ShortForm, prefilled_at, prefilled_count_at, prefilled_text, short_form_at, short_form_text, short_id_at, short_id_text}
use Rattle.cb_wire.specs.CompactBlocks.{IsCompactBlock, compact_block_at, compact_block_text}
use Rattle.cb_wire.proofs.Counting.{refused_not}
use Rattle.cb_wire.proofs.SixBytes.{short_id_kind}

-- ---- a prefilled transaction

prefilled_takes : (bytes : List ℕ) (x : PrefilledTransaction) (rest : List ℕ) → AreBytes bytes → prefilled_at bytes ≡ Ok (x, rest) → Takes bytes (prefilled_text x) rest × IsPrefilled x
unfolding prefilled_at prefilled_text
prefilled_takes bytes x rest are e =
    let a = bind_ok (compact_at bytes) (λ difference. tx_at difference.1 >>= λ tx. Ok (record { difference = difference.0; tx = tx.0 }, tx.1)) (x, rest) e in
    let b = bind_ok (tx_at a.0.1) (λ tx. Ok (record { difference = a.0.0; tx = tx.0 }, tx.1)) (x, rest) a.2 in
    let t = compact_takes bytes a.0.0 a.0.1 are a.1 in
    let u = tx_spells a.0.1 b.0.0 b.0.1 t.0.rest_bytes b.1 in
    let both = Takes-then bytes (compact_text a.0.0) a.0.1 (tx_text b.0.0) b.0.1 t.0 u.0 in
    let made : PrefilledTransaction × List ℕ = (record { difference = a.0.0; tx = b.0.0 }, b.0.1) in
    let is : IsPrefilled made.0 = record { difference = t.1; tx = u.1 } in
    subst (λ (y : PrefilledTransaction × List ℕ). Takes bytes (prefilled_text y.0) y.1 × IsPrefilled y.0) (ok_is made (x, rest) b.2) (both, is)

prefilled_again : (x : PrefilledTransaction) (rest : List ℕ) → IsPrefilled x → prefilled_at (prefilled_text x ++ rest) ≡ Ok (x, rest)
unfolding prefilled_at prefilled_text
prefilled_again x rest is =
    ap prefilled_at (append_assoc (compact_text x.difference) (tx_text x.tx) rest)
    ∙ rw (compact_again x.difference (tx_text x.tx ++ rest) is.difference, tx_again x.tx rest is.tx) refl

prefilled_long : (x : PrefilledTransaction) → 11 ≤ length (prefilled_text x)
unfolding prefilled_text
prefilled_long x = omega (arith, compact_long x.difference, tx_long x.tx, length-append (compact_text x.difference) (tx_text x.tx))

pub prefilled_kind : IsKind PrefilledTransaction prefilled_text prefilled_at IsPrefilled 11
prefilled_kind = record { takes = prefilled_takes; again = prefilled_again; long = λ x is. prefilled_long x }

-- ---- prefilled transactions behind so many ids

-- as many items are read as were asked for
as_many : {A : Type 0} (item_at : List ℕ → Read A) (n : ℕ) (bytes : List ℕ) (x : List A × List ℕ) → items_at item_at n bytes ≡ Ok x → length x.0 ≡ n
unfolding items_at
as_many {A = A} item_at zero bytes x e =
    let made : List A × List ℕ = ([], bytes) in
    ap (λ (p : List A × List ℕ). length p.0) (sym (ok_is made x e))
as_many {A = A} item_at (suc n) bytes x e =
    let a = bind_ok (item_at bytes) (λ first. items_at item_at n first.1 >>= λ others. Ok (first.0 ∷ others.0, others.1)) x e in
    let b = bind_ok (items_at item_at n a.0.1) (λ others. Ok (a.0.0 ∷ others.0, others.1)) x a.2 in
    let made : List A × List ℕ = (a.0.0 ∷ b.0.0, b.0.1) in
    ap (λ (p : List A × List ℕ). length p.0) (sym (ok_is made x b.2)) ∙ ap suc (as_many item_at n a.0.1 b.0 b.1)

-- a count that is judged together with the ids
abbrev pub judged : ℕ → ℕ × List ℕ → Read ℕ
judged ids n = cond (eqb (ids + n.0) 0) (Err Empty) (cond (ltb 16666 (ids + n.0)) (Err TooMany) (cond (ltb (length n.1) (n.0 * 11)) (Err Truncated) (Ok n)))

positive : (n : ℕ) → eqb n 0 ≡ false → 1 ≤ n
positive zero e = absurd cc
positive (suc n) e = omega arith

pub not_none : (n : ℕ) → 1 ≤ n → eqb n 0 ≡ false
not_none zero le = absurd (omega (arith, le))
not_none (suc n) le = ne_eqb (suc n) 0 (λ e. omega (arith, e))

-- what is read behind ids is a list, and both are as many as they may be
behind_ids : (ids : ℕ) (bytes : List ℕ) (n : ℕ × List ℕ) (x : List PrefilledTransaction × List ℕ) → prefilled_count_at ids bytes ≡ Ok n → items_at prefilled_at n.0 n.1 ≡ Ok x
    → (list_at 11 prefilled_at bytes ≡ Ok x) × (1 ≤ ids + length x.0) × (ids + length x.0 ≤ 16666)
unfolding prefilled_count_at list_at count_at
behind_ids ids bytes n x e f =
    let b = bind_ok (compact_at bytes) (judged ids) n e in
    let g = refused_not (eqb (ids + b.0.0) 0) Empty (cond (ltb 16666 (ids + b.0.0)) (Err TooMany) (cond (ltb (length b.0.1) (b.0.0 * 11)) (Err Truncated) (Ok b.0))) n b.2 in
    let h = refused_not (ltb 16666 (ids + b.0.0)) TooMany (cond (ltb (length b.0.1) (b.0.0 * 11)) (Err Truncated) (Ok b.0)) n g.1 in
    let k = guard_ok (ltb (length b.0.1) (b.0.0 * 11)) Truncated b.0 n h.1 in
    let counted : count_at 11 bytes ≡ Ok n = ap (λ (r : Read ℕ). r >>= λ m. cond (ltb (length m.1) (m.0 * 11)) (Err Truncated) (Ok m)) b.1 ∙ h.1 in
    let same : b.0.0 ≡ n.0 = ap (λ (p : ℕ × List ℕ). p.0) k.1 in
    let count : length x.0 ≡ n.0 = as_many prefilled_at n.0 n.1 x f in
    let some : 1 ≤ ids + b.0.0 = positive (ids + b.0.0) g.0 in
    let few : ids + b.0.0 ≤ 16666 = ltb-false _ _ h.0 in
    (ap (λ (r : Read ℕ). r >>= λ m. items_at prefilled_at m.0 m.1) counted ∙ f, omega (arith, some, same, count), omega (arith, few, same, count))

-- and a list of as many is read so behind ids
told_count : (ids : ℕ) (bytes : List ℕ) (x : List PrefilledTransaction × List ℕ) → list_at 11 prefilled_at bytes ≡ Ok x → 1 ≤ ids + length x.0 → ids + length x.0 ≤ 16666
    → (n : ℕ × List ℕ) × (prefilled_count_at ids bytes ≡ Ok n) × (items_at prefilled_at n.0 n.1 ≡ Ok x)
unfolding prefilled_count_at list_at count_at
told_count ids bytes x e some few =
    let a = bind_ok (count_at 11 bytes) (λ m. items_at prefilled_at m.0 m.1) x e in
    let b = bind_ok (compact_at bytes) (λ m. cond (ltb (length m.1) (m.0 * 11)) (Err Truncated) (Ok m)) a.0 a.1 in
    let k = guard_ok (ltb (length b.0.1) (b.0.0 * 11)) Truncated b.0 a.0 b.2 in
    let same : b.0.0 ≡ a.0.0 = ap (λ (p : ℕ × List ℕ). p.0) k.1 in
    let count : length x.0 ≡ a.0.0 = as_many prefilled_at a.0.0 a.0.1 x a.2 in
    let there : eqb (ids + b.0.0) 0 ≡ false = not_none _ (omega (arith, some, same, count)) in
    let fits : ltb 16666 (ids + b.0.0) ≡ false = le-ltb _ _ (omega (arith, few, same, count)) in
    let counted : prefilled_count_at ids bytes ≡ Ok a.0 =
    ap (λ (r : Read ℕ). r >>= judged ids) b.1
    ∙ ap (λ (t : Bool). cond t (Err Empty) (cond (ltb 16666 (ids + b.0.0)) (Err TooMany) (cond (ltb (length b.0.1) (b.0.0 * 11)) (Err Truncated) (Ok b.0)))) there
    ∙ ap (λ (t : Bool). cond t (Err TooMany) (cond (ltb (length b.0.1) (b.0.0 * 11)) (Err Truncated) (Ok b.0))) fits ∙ b.2 in
    (a.0, counted, a.2)

-- ---- the transactions of a compact block

pub short_form_takes : (bytes : List ℕ) (x : ShortForm) (rest : List ℕ) → AreBytes bytes → short_form_at bytes ≡ Ok (x, rest)
    → Takes bytes (short_form_text x) rest × (IsShortForm x × All IsPrefilled x.prefilled)
unfolding short_form_at short_form_text
short_form_takes bytes x rest are e =
    let a = bind_ok (list_at 6 short_id_at bytes) (λ ids. prefilled_count_at (length ids.0) ids.1 >>= λ n. items_at prefilled_at n.0 n.1 >>= λ prefilled. Ok (record { ids = ids.0; prefilled = prefilled.0 }, prefilled.1)) (x, rest) e in
    let b = bind_ok (prefilled_count_at (length a.0.0) a.0.1) (λ n. items_at prefilled_at n.0 n.1 >>= λ prefilled. Ok (record { ids = a.0.0; prefilled = prefilled.0 }, prefilled.1)) (x, rest) a.2 in
    let c = bind_ok (items_at prefilled_at b.0.0 b.0.1) (λ prefilled. Ok (record { ids = a.0.0; prefilled = prefilled.0 }, prefilled.1)) (x, rest) b.2 in
    let l = behind_ids (length a.0.0) a.0.1 b.0 c.0 b.1 c.1 in
    let t = list_takes ℕ short_id_text short_id_at IsShortId 6 short_id_kind bytes a.0.0 a.0.1 are a.1 in
    let u = list_takes PrefilledTransaction prefilled_text prefilled_at IsPrefilled 11 prefilled_kind a.0.1 c.0.0 c.0.1 t.0.rest_bytes l.0 in
    let both = Takes-then bytes (list_text short_id_text a.0.0) a.0.1 (list_text prefilled_text c.0.0) c.0.1 t.0 u.0 in
    let made : ShortForm × List ℕ = (record { ids = a.0.0; prefilled = c.0.0 }, c.0.1) in
    let form : IsShortForm made.0 = record { some = l.1; few = l.2; ids = All-from_recursion IsShortId a.0.0 t.2 } in
    subst (λ (y : ShortForm × List ℕ). Takes bytes (short_form_text y.0) y.1 × (IsShortForm y.0 × All IsPrefilled y.0.prefilled)) (ok_is made (x, rest) c.2) (both, (form, All-from_recursion IsPrefilled c.0.0 u.2))

pub short_form_again : (x : ShortForm) (rest : List ℕ) → IsShortForm x → All IsPrefilled x.prefilled → short_form_at (short_form_text x ++ rest) ≡ Ok (x, rest)
unfolding short_form_at short_form_text
short_form_again x rest is are =
    let after = list_text prefilled_text x.prefilled ++ rest in
    let ids = list_again ℕ short_id_text short_id_at IsShortId 6 short_id_kind x.ids after (omega (arith, is.few)) (recursion_from_All IsShortId x.ids is.ids) in
    let others = list_again PrefilledTransaction prefilled_text prefilled_at IsPrefilled 11 prefilled_kind x.prefilled rest (omega (arith, is.few)) (recursion_from_All IsPrefilled x.prefilled are) in
    let told = told_count (length x.ids) after (x.prefilled, rest) others is.some is.few in
    ap short_form_at (append_assoc (list_text short_id_text x.ids) (list_text prefilled_text x.prefilled) rest)
    ∙ ap (λ (r : Read (List ℕ)). r >>= λ i. prefilled_count_at (length i.0) i.1 >>= λ n. items_at prefilled_at n.0 n.1 >>= λ prefilled. Ok (record { ids = i.0; prefilled = prefilled.0 }, prefilled.1)) ids
    ∙ ap (λ (r : Read ℕ). r >>= λ n. items_at prefilled_at n.0 n.1 >>= λ prefilled. Ok (record { ids = x.ids; prefilled = prefilled.0 }, prefilled.1)) told.1
    ∙ ap (λ (r : Read (List PrefilledTransaction)). r >>= λ prefilled. Ok (record { ids = x.ids; prefilled = prefilled.0 }, prefilled.1)) told.2

-- ---- a compact block

header_takes : (bytes : List ℕ) (x : Header) (rest : List ℕ) → AreBytes bytes → header_at bytes ≡ Ok (x, rest) → Takes bytes (header_text x) rest × IsHeader x
header_takes bytes x rest are e =
    let found = (header_laws_at bytes bytes (Ok x) rest refl are e).found in
    let tail : drop (length (header_text x)) bytes ≡ rest = ap (drop (length (header_text x))) found.1 ∙ drop_at (header_text x) rest (length (header_text x)) refl in
    (record { parts = found.1; rest_bytes = subst AreBytes tail (AreBytes-drop (length (header_text x)) bytes are) }, found.0)

pub compact_block_takes : (bytes : List ℕ) (x : HeaderAndShortIds) (rest : List ℕ) → AreBytes bytes → compact_block_at bytes ≡ Ok (x, rest) → Takes bytes (compact_block_text x) rest × IsCompactBlock x
unfolding compact_block_at compact_block_text
compact_block_takes bytes x rest are e =
    let a = bind_ok (header_at bytes) (λ header. number_at w64 header.1 >>= λ nonce. short_form_at nonce.1 >>= λ txs. Ok (record { header = header.0; nonce = nonce.0; txs = txs.0 }, txs.1)) (x, rest) e in
    let b = bind_ok (number_at w64 a.0.1) (λ nonce. short_form_at nonce.1 >>= λ txs. Ok (record { header = a.0.0; nonce = nonce.0; txs = txs.0 }, txs.1)) (x, rest) a.2 in
    let c = bind_ok (short_form_at b.0.1) (λ txs. Ok (record { header = a.0.0; nonce = b.0.0; txs = txs.0 }, txs.1)) (x, rest) b.2 in
    let t = header_takes bytes a.0.0 a.0.1 are a.1 in
    let u = number_takes w64 (2 ^ 64) wide64 a.0.1 b.0.0 b.0.1 t.0.rest_bytes b.1 in
    let w = short_form_takes b.0.1 c.0.0 c.0.1 u.0.rest_bytes c.1 in
    let uw = Takes-then a.0.1 (to_le_bytes w64 b.0.0) b.0.1 (short_form_text c.0.0) c.0.1 u.0 w.0 in
    let tw = Takes-then bytes (header_text a.0.0) a.0.1 (to_le_bytes w64 b.0.0 ++ short_form_text c.0.0) c.0.1 t.0 uw in
    let made : HeaderAndShortIds × List ℕ = (record { header = a.0.0; nonce = b.0.0; txs = c.0.0 }, c.0.1) in
    let is : IsCompactBlock made.0 = record { header = t.1; nonce = u.1; form = w.1.0; prefilled = w.1.1 } in
    subst (λ (y : HeaderAndShortIds × List ℕ). Takes bytes (compact_block_text y.0) y.1 × IsCompactBlock y.0) (ok_is made (x, rest) c.2) (tw, is)

pub compact_block_again : (x : HeaderAndShortIds) (rest : List ℕ) → IsCompactBlock x → compact_block_at (compact_block_text x ++ rest) ≡ Ok (x, rest)
unfolding compact_block_at compact_block_text
compact_block_again x rest is =
    let regrouped : compact_block_text x ++ rest ≡ header_text x.header ++ (to_le_bytes w64 x.nonce ++ (short_form_text x.txs ++ rest)) =
    append_assoc (header_text x.header) (to_le_bytes w64 x.nonce ++ short_form_text x.txs) rest ∙ ap (λ (y : List ℕ). header_text x.header ++ y) (append_assoc (to_le_bytes w64 x.nonce) (short_form_text x.txs) rest) in
    ap compact_block_at regrouped
    ∙ rw (header_again x.header (to_le_bytes w64 x.nonce ++ (short_form_text x.txs ++ rest)) is.header, number_again w64 (2 ^ 64) wide64 x.nonce (short_form_text x.txs ++ rest) is.nonce, short_form_again x.txs rest is.form is.prefilled) refl
