use Rattle.std.proofs.Common.{◌≡◌, arith}
use Rattle.std.specs.Int.{w32, w64, to_le_bytes, cast_unsigned}
use Rattle.std.proofs.lemmas.Int.{to_z-of_z}
use Rattle.cb_wire.proofs.Introducing.{three_written}
use Rattle.cb_wire.proofs.version.put_numbers.Goals as goal

pub returns-clause-ok : goal.returns-clause-ok
returns-clause-ok c =
    let version : c.to_le_bytes.result ≡ to_le_bytes w32 (cast_unsigned w32 c.args.version.now.version) = grind (arith, to_z-of_z, c.to_le_bytes.ensures) in
    let time : c.to_le_bytes-3.result ≡ to_le_bytes w64 (cast_unsigned w64 c.args.version.now.time) = grind (arith, to_z-of_z, c.to_le_bytes-3.ensures) in
    three_written c.args.out.now.items c.extend_from_slice.new.self.items c.extend_from_slice-2.new.self.items c.extend_from_slice-3.new.self.items c.to_le_bytes.result c.to_le_bytes-2.result c.to_le_bytes-3.result
    (to_le_bytes w32 (cast_unsigned w32 c.args.version.now.version)) (to_le_bytes w64 c.args.version.now.services) (to_le_bytes w64 (cast_unsigned w64 c.args.version.now.time))
    c.in_ok-extend_from_slice.ensures.items c.in_ok-extend_from_slice-2.ensures.items c.in_ok-extend_from_slice-3.ensures.items version c.to_le_bytes-2.ensures time
