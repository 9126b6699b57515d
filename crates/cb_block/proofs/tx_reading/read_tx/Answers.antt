-- The laws of a transaction's text, at what the read answered.
use Rattle.std.proofs.Common.{◌≡◌, Ok, Err, arith, rules}
use Rattle.std.proofs.lemmas.Grind.{common_steps}
use Rattle.cb_base.specs.Reading.{ReadsInMemory}
use Rattle.cb_block.specs.TxReading.{tx_at}
use Rattle.cb_block.proofs.TxLaws.{tx_laws_at}
use Rattle.cb_block.proofs.tx_reading.read_tx.Goals as goal

pub returns-in-Ok-clause-found : goal.returns-in-Ok-clause-found
returns-in-Ok-clause-found c =
    let whole : c.in_ok-bytes.bytes.now ≡ c.args.cursor.now = grind (arith, common_steps) in
    let reads : ReadsInMemory (tx_at c.args.cursor.now) c.args.cursor.now (Ok c.in-Ok.tx) c.in-Ok.rest = search rules in
    (tx_laws_at c.in_ok-bytes.bytes.now c.args.cursor.now (Ok c.in-Ok.tx) c.in-Ok.rest whole c.in-Ok.ensures.bytes reads).found

pub returns-in-Ok-clause-only : goal.returns-in-Ok-clause-only
returns-in-Ok-clause-only c =
    let whole : c.in_ok-bytes.bytes.now ≡ c.args.cursor.now = grind (arith, common_steps) in
    let reads : ReadsInMemory (tx_at c.args.cursor.now) c.args.cursor.now (Ok c.in-Ok.tx) c.in-Ok.rest = search rules in
    (tx_laws_at c.in_ok-bytes.bytes.now c.args.cursor.now (Ok c.in-Ok.tx) c.in-Ok.rest whole c.in-Ok.ensures.bytes reads).only

pub returns-in-Err-clause-only : goal.returns-in-Err-clause-only
returns-in-Err-clause-only c =
    let whole : c.in_ok-bytes.bytes.now ≡ c.args.cursor.now = grind (arith, common_steps) in
    let reads : ReadsInMemory (tx_at c.args.cursor.now) c.args.cursor.now (Err c.in-Err.fault) c.new.result = search rules in
    (tx_laws_at c.in_ok-bytes.bytes.now c.args.cursor.now (Err c.in-Err.fault) c.new.result whole c.in-Err.ensures.bytes reads).only
