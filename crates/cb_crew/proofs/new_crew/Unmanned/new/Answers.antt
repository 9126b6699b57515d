use Rattle.std.proofs.Common.{◌≡◌, ◌≤◌, length, rules, sym, subst, arith}
use Rattle.cb_crew.specs.Crew.{IsNewCrew}
use Rattle.cb_crew.specs.Ring.{most_peers}
use Rattle.cb_crew.proofs.NewCrews.{crew_of_lines, lines_count}
use Rattle.cb_crew.proofs.new_crew.Unmanned.new.Goals as goal

pub invariant_of-result : goal.invariant_of-result
invariant_of-result g c =
    let count : c.len-peers.result ≡ length c.args.works.now.items = search rules in
    (crew_of_lines c.in_ok-labels.labels.items c.len-peers.result c.args.handlers c.args.capacity c.in_ok-ring.ring _ _ _ c.in_ok-lines.ensures.lines (subst (λ n. (1 ≤ n) × (n ≤ most_peers)) (sym count) c.requires.peers) c.requires.handlers.0 c.in_ok-ring.ensures.ring).0

pub invariant_of-result-2 : goal.invariant_of-result-2
invariant_of-result-2 g c =
    let count = lines_count _ c.args.capacity _ _ _ c.in_ok-lines.ensures.lines in (
      search rules,
      c.in_ok-lines.ensures.lines.readers_are,
      c.in_ok-lines.ensures.lines.vacancies_are,
      c.in_ok-desks.ensures.items,
      omega (arith, count, c.in_ok-desks.ensures.capacity),
      c.in_ok-hired.ensures.items,
      omega (arith, c.in_ok-hired.ensures.capacity),
    )

pub returns-clause-crew : goal.returns-clause-crew
returns-clause-crew g c =
    let count : c.len-peers.result ≡ length c.args.works.now.items = search rules in
    subst (λ n. IsNewCrew n c.args.handlers c.args.capacity record { ring = c.in_ok-ring.ring; inboxes = c.in_ok-lines.lines.inboxes.items; handlers = c.args.handlers; labels = c.in_ok-labels.labels.items }) count
    (crew_of_lines c.in_ok-labels.labels.items c.len-peers.result c.args.handlers c.args.capacity c.in_ok-ring.ring _ _ _ c.in_ok-lines.ensures.lines (subst (λ n. (1 ≤ n) × (n ≤ most_peers)) (sym count) c.requires.peers) c.requires.handlers.0 c.in_ok-ring.ensures.ring).1
