-- Links as they are drawn.
use Rattle.std.specs.Prelude.{◌≡◌, ℕ, ◌≤◌, Bool, ◌==◌, ◌&&◌}
use Rattle.std.specs.HashSet.{contains}
use Rattle.cb_net_plan.specs.declared.links.Sketch.{Sketch}
use Rattle.cb_net_plan.specs.Links.{Outline, are_linked}

abbrev pub same_pair : ℕ × ℕ → ℕ × ℕ → Bool
same_pair a b = a.0 == b.0 && a.1 == b.1

-- the pairs of nodes, the lower one first, are those that are linked
abbrev pub AreTold : Sketch → Type 0
AreTold sketch =
    (a b : ℕ) → a ≤ b
    → contains same_pair sketch.pairs (a, b) ≡ are_linked sketch.links.items a b

-- what a sketch shows
abbrev pub outline_of : Sketch → Outline
outline_of sketch = record {
  draws = sketch.draws;
  low = sketch.low;
  high = sketch.high;
  honest = sketch.honest.items;
  links = sketch.links.items;
}
