use Rattle.std.proofs.Common.{◌≡◌, ℕ, [], Option, None, length, refl, ap, ◌∙◌, arith}
use Rattle.std.specs.Vec.{vec_len}
use Rattle.std.proofs.lemmas.List.{length-replicate}
use Rattle.cb_crew.specs.declared.act.Mark.{Mark}
use Rattle.cb_crew.specs.Line.{Line, empty_line}
use Rattle.cb_crew.specs.CrewModel.{opening_crew}
use Rattle.cb_crew.proofs.SystemLemmas.{crew_at, map_none}
use Rattle.cb_crew.proofs.system.System.new.Goals as goal

pub invariant_of-result : goal.invariant_of-result
invariant_of-result c =
    let inboxes = c.in_ok-inboxes.inboxes in
    let held = c.in_ok-held.held in
    let same : crew_at inboxes.items c.in_ok-ring.ring.items held.items ≡ opening_crew c.args.peers c.args.handlers =
    rw (c.in_ok-inboxes.ensures.items, c.in_ok-ring.ensures.items, c.in_ok-held.ensures.items, map_none c.args.handlers) refl in
    let peers : c.args.peers ≡ vec_len inboxes = omega (arith, ap (length {A = Line Mark}) c.in_ok-inboxes.ensures.items, length-replicate {A = Line Mark} c.args.peers empty_line) in
    let handlers : c.args.handlers ≡ vec_len held = omega (arith, ap (length {A = Option ℕ}) c.in_ok-held.ensures.items, length-replicate {A = Option ℕ} c.args.handlers None) in
    record {
      reached = record { acts = []; run = same ∙ (ap (λ n. opening_crew n c.args.handlers) peers ∙ ap (opening_crew (vec_len inboxes)) handlers) };
      room = omega (arith, c.in_ok-ring.ensures.room);
      some_peer = omega (arith, c.requires.peers);
      peers = omega (arith, c.requires.peers);
      some_handler = omega (arith, c.requires.handlers);
      handlers = omega (arith, c.requires.handlers);
    }

pub returns-clause-opening : goal.returns-clause-opening
returns-clause-opening c = (refl, rw (c.in_ok-inboxes.ensures.items, c.in_ok-ring.ensures.items, c.in_ok-held.ensures.items, map_none c.args.handlers) refl)
