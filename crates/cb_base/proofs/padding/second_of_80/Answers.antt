use Rattle.std.proofs.Common.{◌≡◌, drop, refl, ◌∙◌, arith}
use Rattle.std.proofs.lemmas.List.{length-drop, take_all}
use Rattle.cb_base.proofs.padding.second_of_80.Goals as goal

pub returns : goal.returns
returns c =
    let tail : c.copy_from_slice.new.self ≡ drop 64 c.args.text.now =
    c.copy_from_slice.ensures.after ∙ take_all 16 (drop 64 c.args.text.now) (omega (arith, length-drop 64 c.args.text.now)) in
    rw (tail, c.to_be_bytes.ensures) refl
