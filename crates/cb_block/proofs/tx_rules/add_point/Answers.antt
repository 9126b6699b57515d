use Rattle.std.proofs.Common.{◌≡◌, ◌++◌, List, ℕ, append_assoc, subst, ap, ◌∙◌}
use Rattle.std.specs.Int.{w32, to_le_bytes}
use Rattle.cb_base.specs.Seeding.{AreKeys}
use Rattle.cb_block.proofs.tx_rules.add_point.Goals as goal

pub returns : goal.returns
returns c = λ text are.
    let txid = c.as_slice.result.now in
    let index = c.as_slice-2.result.now in
    let all : (text ++ txid) ++ index ≡ text ++ (c.args.point.txid.0 ++ to_le_bytes w32 c.args.point.index) =
    append_assoc text txid index ∙ ap (λ (xs : List ℕ). text ++ (xs ++ index)) c.as_slice.ensures ∙ ap (λ (xs : List ℕ). text ++ (c.args.point.txid.0 ++ xs)) (c.as_slice-2.ensures ∙ c.to_le_bytes.ensures) in
    subst (λ (xs : List ℕ). AreKeys c.add-2.new.self xs) all (c.add-2.ensures (text ++ txid) (c.add.ensures text are))
