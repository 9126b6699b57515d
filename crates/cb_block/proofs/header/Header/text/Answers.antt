use Rattle.std.proofs.Common.{◌≡◌, refl, arith}
use Rattle.std.specs.Int.{w32, to_le_bytes, cast_unsigned}
use Rattle.std.proofs.lemmas.Int.{to_z-of_z}
use Rattle.cb_block.specs.BlockText.{header_text}
use Rattle.cb_block.proofs.header.Header.text.Goals as goal

pub returns-clause-bytes : goal.returns-clause-bytes
unfolding header_text
returns-clause-bytes c =
    let version : c.to_le_bytes.result ≡ to_le_bytes w32 (cast_unsigned w32 c.args.self.now.version) = grind (arith, to_z-of_z, c.to_le_bytes.ensures) in
    rw (c.copy_from_slice.ensures.after, c.copy_from_slice-2.ensures.after, c.copy_from_slice-3.ensures.after, c.copy_from_slice-4.ensures.after, c.copy_from_slice-5.ensures.after, c.copy_from_slice-6.ensures.after, version, c.to_le_bytes-2.ensures, c.to_le_bytes-3.ensures, c.to_le_bytes-4.ensures) refl
