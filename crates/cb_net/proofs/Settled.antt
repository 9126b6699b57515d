-- Counting that starts over.
use Rattle.std.proofs.Common.{◌≡◌, Result, Ok, Err, OnOk, ap, arith}
use Rattle.cb_base.specs.declared.fault.Fault.{Fault}
use Rattle.cb_net_node.specs.declared.results.BlockResult.{BlockResult}
use Rattle.cb_net.specs.Moments.{Ages, roles_in}
use Rattle.cb_net.specs.Totals.{Settles, SettlesOnce}
use Rattle.cb_net.specs.declared.net.Net.{Net}
use Rattle.cb_net.proofs.Moments.{ages_last, ages_then}

pub ages_settled : (old new : Net) → Settles old new → Ages old new
ages_settled old new settles = record {
  settings = ap (λ (net : Net). net.settings) settles.others;
  roles = ap (λ (net : Net). roles_in net.world.nodes.items) settles.others;
  time = omega (arith, ap (λ (net : Net). net.world.queue.time) settles.others);
  left = omega (arith, ap (λ (net : Net). net.left) settles.others);
  relayed = ap (λ (net : Net). net.relayed) settles.others;
}

pub settled_once : (r : Result BlockResult Fault) (old first second before after new : Net) → Ages old first → Ages first second → Ages second before → Settles before after → Ages after new → new.total ≡ after.total → OnOk r (SettlesOnce old new)
settled_once (Ok told) old first second before after new one two three settles since total =
    record {
      before = before;
      after = after;
      begins = ages_last old before (ages_then old second before (ages_then old first second one two) three);
      settles = settles;
      lasts = ages_last after new since;
      total = total;
    }
settled_once (Err fault) old first second before after new one two three settles since total = tt
