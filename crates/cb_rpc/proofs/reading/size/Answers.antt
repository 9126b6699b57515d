use Rattle.std.proofs.Common.{length, ap, sym, ◌∙◌}
use Rattle.json.specs.Value.{value_view}
use Rattle.json.proofs.Trees.{view-Array}
use Rattle.cb_rpc.specs.Requests.{size_of}
use Rattle.cb_rpc.proofs.Counting.{count_is}
use Rattle.cb_rpc.proofs.reading.size.Goals as goal

pub returns-in-Array : goal.returns-in-Array
returns-in-Array c =
    ap length c.as_slice.ensures.value ∙ sym (count_is c.in-Array.items.items) ∙ ap size_of (sym (view-Array c.in-Array.items)) ∙ ap (λ v. size_of (value_view v)) (sym c.in-Array.is)
