use Rattle.std.proofs.Common.{◌≡◌, ◌+◌, ◌<◌, suc, List, [], ◌∷◌, ◌++◌, get_or, drop, length, Option, None, Some, sym, ap, ◌∙◌, arith, append_assoc}
use Rattle.std.proofs.lemmas.List.{map-append}
use Rattle.std.specs.Vec.Iter.{into_iter_items}
use Rattle.cb_base.specs.DoubleHash.{double_hash}
use Rattle.cb_base.specs.declared.hash.Hash256.{Hash256}
use Rattle.cb_block.specs.TxText.{tx_text}
use Rattle.cb_block.specs.declared.tx.Tx.{Tx}
use Rattle.cb_block.specs.Blocks.{texts}
use Rattle.cb_block.specs.Soundness.{names}
use Rattle.cb_compact.specs.Slots.{filled, missing}
use Rattle.cb_compact.proofs.Indexes.{from_here}
use Rattle.cb_compact.proofs.Slotting.{missing_anywhere}
use Rattle.cb_compact.proofs.partial.fill_in.Goals as goal

-- One name more.
named_more : (txs : List Tx) (tx : Tx) (ids : List Hash256) → ids ≡ names (texts txs) → ids ++ double_hash (tx_text tx) ∷ [] ≡ names (texts (txs ++ tx ∷ []))
named_more txs tx ids are = ap (λ list. list ++ double_hash (tx_text tx) ∷ []) are ∙ sym (ap names (map-append tx_text txs (tx ∷ [])) ∙ map-append double_hash (texts txs) (tx_text tx ∷ []))

-- The first of some slots is passed: how many are missing behind it.
behind_some : (tx : Tx) (all rest : List (Option Tx)) → all ≡ Some tx ∷ rest → length (missing 0 all) ≡ length (missing 0 rest)
behind_some tx all rest are = ap (λ list. length (missing 0 list)) are ∙ missing_anywhere 1 0 rest

behind_none : (all rest : List (Option Tx)) → all ≡ None ∷ rest → length (missing 0 all) ≡ suc (length (missing 0 rest))
behind_none all rest are = ap (λ list. length (missing 0 list)) are ∙ ap (λ n. suc n) (missing_anywhere 1 0 rest)

pub loop-slot-preserved-in-Some-slot : goal.loop-slot-preserved-in-Some-slot
loop-slot-preserved-in-Some-slot c =
    let l = c.loop-slot in
    let tx : Tx = c.in-Some-slot.named in
    let rest = into_iter_items c.next.new.self in
    let given = drop l.used c.args.given.now in
    let rest_is : into_iter_items l.slot-iterator ≡ Some tx ∷ rest = c.in-Some.ensures.steps.0 ∙ ap (λ slot. slot ∷ rest) c.in-Some-slot.is in
    let many = behind_some tx (into_iter_items l.slot-iterator) rest rest_is in (
      ap (λ list. list ++ filled rest given) c.in_ok-push.ensures.txs ∙ append_assoc l.listed.txs.items (tx ∷ []) (filled rest given)
          ∙ ap (λ list. l.listed.txs.items ++ filled list given) (sym rest_is) ∙ l.invariant.0,
      c.in_ok-push.ensures.txids ∙ named_more l.listed.txs.items tx l.listed.txids.items l.invariant.1 ∙ sym (ap (λ list. names (texts list)) c.in_ok-push.ensures.txs),
      omega (arith, many, l.invariant.2),
    )

pub loop-slot-preserved : goal.loop-slot-preserved
loop-slot-preserved c =
    let l = c.loop-slot in
    let tx = c.index-given-used.result in
    let given = get_or c.args.given.now l.used tx in
    let rest = into_iter_items c.next.new.self in
    let behind = drop (l.used + 1) c.args.given.now in
    let rest_is : into_iter_items l.slot-iterator ≡ None ∷ rest = c.in-Some.ensures.steps.0 ∙ ap (λ slot. slot ∷ rest) c.in_default.is in
    let many = behind_none (into_iter_items l.slot-iterator) rest rest_is in
    let some : l.used < length c.args.given.now = omega (arith, many, l.invariant.2) in
    let step : filled (into_iter_items l.slot-iterator) (drop l.used c.args.given.now) ≡ given ∷ filled rest behind =
    ap (λ list. filled list (drop l.used c.args.given.now)) rest_is ∙ ap (filled (None ∷ rest)) (from_here c.args.given.now l.used tx some) in
    let same = c.in_ok-named.ensures.same ∙ c.in_ok-tx.ensures ∙ c.index-given-used.is in
    let pushed = c.in_ok-push-2.ensures.txs ∙ ap (λ it. l.listed.txs.items ++ it ∷ []) same in (
      ap (λ list. list ++ filled rest behind) pushed ∙ append_assoc l.listed.txs.items (given ∷ []) (filled rest behind) ∙ ap (λ list. l.listed.txs.items ++ list) (sym step) ∙ l.invariant.0,
      c.in_ok-push-2.ensures.txids ∙ ap (λ it. l.listed.txids.items ++ double_hash (tx_text it) ∷ []) same ∙ named_more l.listed.txs.items given l.listed.txids.items l.invariant.1 ∙ sym (ap (λ list. names (texts list)) pushed),
      omega (arith, many, l.invariant.2),
    )
