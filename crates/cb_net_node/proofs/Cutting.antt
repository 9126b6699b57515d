-- A link is cut, and what it was joined by is of the past.
use Rattle.std.proofs.Common.{◌≡◌, ℕ, None, refl, ap, ◌∙◌}
use Rattle.std.specs.Prelude.{vec_len}
use Rattle.cb_net_node.specs.declared.side.Side.TheVariants.{First, Second}
use Rattle.cb_net_node.specs.Links.{IsCut, IsCutAlone, IsForgotten, all_joined, forgotten_at}
use Rattle.cb_net_node.specs.declared.link.SimulatedLink.{SimulatedLink}

pub cut_itself : (old cut : SimulatedLink) → IsCut old cut → IsCutAlone old cut
cut_itself old cut is = record { between = cut; cut = is; past = refl; others = refl }

pub cut_alone : (old cut new : SimulatedLink) → IsCut old cut → new ≡ record cut { past = new.past } → new.past.items ≡ cut.past.items → IsCutAlone old new
cut_alone old cut new is others past = record { between = cut; cut = is; past = past; others = others }

pub forgot_first : (old cut retired : SimulatedLink) (gone : ℕ) → IsCut old cut → retired ≡ record cut { joined = None; past = retired.past } → retired.past.items ≡ all_joined cut
    → gone ≡ vec_len retired.past → IsForgotten First old (forgotten_at First gone retired)
forgot_first old cut retired gone is others past many =
    record {
      between = cut;
      cut = is;
      past = past;
      others =
          ap (λ (n : ℕ). forgotten_at First n retired) many
          ∙ ap (λ (l : SimulatedLink). forgotten_at First (vec_len retired.past) l) others;
    }

pub forgot_second : (old cut retired : SimulatedLink) (gone : ℕ) → IsCut old cut → retired ≡ record cut { joined = None; past = retired.past } → retired.past.items ≡ all_joined cut
    → gone ≡ vec_len retired.past → IsForgotten Second old (forgotten_at Second gone retired)
forgot_second old cut retired gone is others past many =
    record {
      between = cut;
      cut = is;
      past = past;
      others =
          ap (λ (n : ℕ). forgotten_at Second n retired) many
          ∙ ap (λ (l : SimulatedLink). forgotten_at Second (vec_len retired.past) l) others;
    }
