-- The laws of a header's text, at what the read answered.
use Rattle.std.proofs.Common.{◌≡◌, Ok, Err, arith, rules}
use Rattle.std.proofs.lemmas.Grind.{common_steps}
use Rattle.cb_base.specs.Reading.{Reads}
use Rattle.cb_block.specs.BlockReading.{header_at}
use Rattle.cb_block.proofs.Headers.{header_laws_at}
use Rattle.cb_block.proofs.header.read_header.Goals as goal

pub returns-in-Ok-clause-found : goal.returns-in-Ok-clause-found
returns-in-Ok-clause-found c =
    let whole : c.in_ok-bytes.bytes.now ≡ c.args.cursor.now = grind (arith, common_steps) in
    let reads : Reads (header_at c.args.cursor.now) c.args.cursor.now (Ok c.in-Ok.header) c.in-Ok.rest = search rules in
    (header_laws_at c.in_ok-bytes.bytes.now c.args.cursor.now (Ok c.in-Ok.header) c.in-Ok.rest whole c.in-Ok.ensures.bytes reads).found

pub returns-in-Ok-clause-only : goal.returns-in-Ok-clause-only
returns-in-Ok-clause-only c =
    let whole : c.in_ok-bytes.bytes.now ≡ c.args.cursor.now = grind (arith, common_steps) in
    let reads : Reads (header_at c.args.cursor.now) c.args.cursor.now (Ok c.in-Ok.header) c.in-Ok.rest = search rules in
    (header_laws_at c.in_ok-bytes.bytes.now c.args.cursor.now (Ok c.in-Ok.header) c.in-Ok.rest whole c.in-Ok.ensures.bytes reads).only

pub returns-in-Err-clause-only : goal.returns-in-Err-clause-only
returns-in-Err-clause-only c =
    let whole : c.in_ok-bytes.bytes.now ≡ c.args.cursor.now = grind (arith, common_steps) in
    let reads : Reads (header_at c.args.cursor.now) c.args.cursor.now (Err c.in-Err.fault) c.new.result = search rules in
    (header_laws_at c.in_ok-bytes.bytes.now c.args.cursor.now (Err c.in-Err.fault) c.new.result whole c.in-Err.ensures.bytes reads).only
