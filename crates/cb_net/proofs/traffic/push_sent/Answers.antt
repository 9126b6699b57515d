use Rattle.std.proofs.Common.{◌≡◌, ◌++◌, ℕ, arith, codes, subst}
use Rattle.std.specs.List.{flat_map, range_with_len}
use Rattle.std.specs.String.{string_bytes}
use Rattle.cb_net.specs.TrafficText.{sent_at}
use Rattle.cb_net.proofs.Parts.{line_more, more}
use Rattle.cb_net.proofs.traffic.push_sent.Goals as goal

pub loop-place-preserved : goal.loop-place-preserved
loop-place-preserved c = line_more (sent_at c.args.rows.now) c.loop-place.place (string_bytes c.args.text.now) (string_bytes c.loop-place.text) (string_bytes c.push_sent_at.new.text) c.loop-place.invariant c.in_ok-push_sent_at.ensures.text

pub returns-clause-text : goal.returns-clause-text
returns-clause-text c =
    let all : c.loop-place.place ≡ 17 = omega (arith, c.loop-place-test.false, c.loop-place.auto.place-end) in
    let whole : string_bytes c.loop-place.text ≡ string_bytes c.args.text.now ++ flat_map (sent_at c.args.rows.now) (range_with_len 0 17) = subst (λ (n : ℕ). string_bytes c.loop-place.text ≡ string_bytes c.args.text.now ++ flat_map (sent_at c.args.rows.now) (range_with_len 0 n)) all c.loop-place.invariant in
    more (string_bytes c.args.text.now) (flat_map (sent_at c.args.rows.now) (range_with_len 0 17)) (codes "\n") (string_bytes c.loop-place.text) (string_bytes c.writeln.new.self) whole c.in_ok-writeln.ensures.bytes
