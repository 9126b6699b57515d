use Rattle.cb_wire.proofs.Introducing.{version_written}
use Rattle.cb_wire.proofs.version.put_version.Goals as goal

pub returns-clause-ok : goal.returns-clause-ok
returns-clause-ok c =
    version_written c.args.version.now c.args.out.now.items c.put_numbers.new.out.items c.put_address.new.out.items c.put_address-2.new.out.items c.put_tail.new.out.items c.push.new.self.items c.relay_byte.result
    c.in_ok-put_numbers.ensures.ok c.in_ok-put_address.ensures.ok c.in_ok-put_address-2.ensures.ok c.in_ok-put_tail.ensures.ok c.in_ok-push.ensures.items c.relay_byte.ensures
