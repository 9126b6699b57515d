use Rattle.std.proofs.Common.{◌≡◌, ◌++◌, ℕ, arith, codes, subst}
use Rattle.std.specs.List.{flat_map, range_with_len}
use Rattle.std.specs.String.{string_bytes}
use Rattle.cb_net.specs.TrafficText.{head_at}
use Rattle.cb_net.proofs.Parts.{line_more, more}
use Rattle.cb_net.proofs.traffic.push_heads.Goals as goal

pub loop-place-preserved : goal.loop-place-preserved
loop-place-preserved c = line_more head_at c.loop-place.place (string_bytes c.args.text.now) (string_bytes c.loop-place.text) (string_bytes c.push_head_at.new.text) c.loop-place.invariant c.in_ok-push_head_at.ensures.text

pub returns-clause-text : goal.returns-clause-text
returns-clause-text c =
    let all : c.loop-place.place ≡ 17 = omega (arith, c.loop-place-test.false, c.loop-place.auto.place-end) in
    let whole : string_bytes c.loop-place.text ≡ string_bytes c.args.text.now ++ flat_map head_at (range_with_len 0 17) = subst (λ (n : ℕ). string_bytes c.loop-place.text ≡ string_bytes c.args.text.now ++ flat_map head_at (range_with_len 0 n)) all c.loop-place.invariant in
    more (string_bytes c.args.text.now) (flat_map head_at (range_with_len 0 17)) (codes "\n") (string_bytes c.loop-place.text) (string_bytes c.writeln.new.self) whole c.in_ok-writeln.ensures.bytes
