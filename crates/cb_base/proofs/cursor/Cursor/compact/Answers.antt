-- The laws of CompactSize, at what the read answered.
use Rattle.std.proofs.Common.{Ok, rules}
use Rattle.cb_base.specs.CompactSize.{compact_at}
use Rattle.cb_base.specs.Reading.{Reads}
use Rattle.cb_base.proofs.Compact.{compact_laws_at}
use Rattle.cb_base.proofs.cursor.Cursor.compact.Goals as goal

pub returns-in_err-number-clause-only : goal.returns-in_err-number-clause-only
returns-in_err-number-clause-only c =
    let reads : Reads (compact_at c.args.self.now) c.args.self.now c.from_residual.result c.args.self.now = search rules in
    (compact_laws_at c.self.inside.rest.now _ _ _ c.self.view_is c.compact_of.ensures.bytes reads).only

pub returns-in_err-number-clause-longer : goal.returns-in_err-number-clause-longer
returns-in_err-number-clause-longer c =
    let reads : Reads (compact_at c.args.self.now) c.args.self.now c.from_residual.result c.args.self.now = search rules in
    (compact_laws_at c.self.inside.rest.now _ _ _ c.self.view_is c.compact_of.ensures.bytes reads).longer

pub returns-in_err-number-clause-short : goal.returns-in_err-number-clause-short
returns-in_err-number-clause-short c =
    let reads : Reads (compact_at c.args.self.now) c.args.self.now c.from_residual.result c.args.self.now = search rules in
    (compact_laws_at c.self.inside.rest.now _ _ _ c.self.view_is c.compact_of.ensures.bytes reads).short

pub returns-clause-found : goal.returns-clause-found
returns-clause-found c =
    let reads : Reads (compact_at c.args.self.now) c.args.self.now (Ok c.in_ok-number.number) c.in_ok-number.rest.now = search rules in
    (compact_laws_at c.self.inside.rest.now c.args.self.now (Ok c.in_ok-number.number) c.in_ok-number.rest.now c.self.view_is c.compact_of.ensures.bytes reads).found

pub returns-clause-only : goal.returns-clause-only
returns-clause-only c =
    let reads : Reads (compact_at c.args.self.now) c.args.self.now (Ok c.in_ok-number.number) c.in_ok-number.rest.now = search rules in
    (compact_laws_at c.self.inside.rest.now c.args.self.now (Ok c.in_ok-number.number) c.in_ok-number.rest.now c.self.view_is c.compact_of.ensures.bytes reads).only

pub returns-clause-longer : goal.returns-clause-longer
returns-clause-longer c =
    let reads : Reads (compact_at c.args.self.now) c.args.self.now (Ok c.in_ok-number.number) c.in_ok-number.rest.now = search rules in
    (compact_laws_at c.self.inside.rest.now c.args.self.now (Ok c.in_ok-number.number) c.in_ok-number.rest.now c.self.view_is c.compact_of.ensures.bytes reads).longer

pub returns-clause-short : goal.returns-clause-short
returns-clause-short c =
    let reads : Reads (compact_at c.args.self.now) c.args.self.now (Ok c.in_ok-number.number) c.in_ok-number.rest.now = search rules in
    (compact_laws_at c.self.inside.rest.now c.args.self.now (Ok c.in_ok-number.number) c.in_ok-number.rest.now c.self.view_is c.compact_of.ensures.bytes reads).short
