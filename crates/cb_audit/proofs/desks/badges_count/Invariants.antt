use Rattle.std.proofs.Common.{◌≡◌, take}
use Rattle.cb_audit.specs.Desks.{badge_count, traces_of}
use Rattle.cb_audit.proofs.Badges.{told_in_all}
use Rattle.cb_audit.proofs.desks.badges_count.Given as goal

abbrev pub invariant-loop-desk : goal.invariant-loop-desk
invariant-loop-desk g l = told_in_all (traces_of (take l.desk-index l.desks)) ≡ badge_count (take l.desk-index l.desks)
