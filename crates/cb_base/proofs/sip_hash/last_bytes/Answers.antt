use Rattle.std.proofs.Common.{ap, ◌∙◌, ◌++◌, length, drop, set, ◌∷◌, []}
use Rattle.cb_base.proofs.SipWords.{padded}
use Rattle.cb_base.proofs.sip_hash.last_bytes.Goals as goal

pub returns : goal.returns
returns c =
    ap (λ bytes. set (bytes ++ drop (length c.args.rest.now) (0 ∷ 0 ∷ 0 ∷ 0 ∷ 0 ∷ 0 ∷ 0 ∷ 0 ∷ [])) 7 c.args.length_byte) c.copy_from_slice.ensures.after
    ∙ padded c.args.rest.now c.args.length_byte c.requires
