-- Blocks that are relayed and told, one after another.
use Rattle.std.proofs.Common.{◌≡◌, ℕ, Bool, List, [], ◌∷◌, ◌++◌, Option, Some, None, Result, Ok, Err, IfOk, IfSome, OnOk, refl, subst, inl}
use Rattle.std.specs.Prelude.{IfNone}
use Rattle.std.specs.Io.KnownBytes.{Appends}
use Rattle.std.specs.List.{flat_map}
use Rattle.std.proofs.lemmas.List.{flat_map_more}
use Rattle.cb_base.proofs.Known.{Appends-then}
use Rattle.cb_base.specs.declared.fault.Fault.{Fault}
use Rattle.cb_net.specs.declared.net.Net.{Net}
use Rattle.cb_net_node.specs.declared.results.BlockResult.{BlockResult}
use Rattle.cb_net_plan.specs.declared.settings.NetSettings.{NetSettings}
use Rattle.cb_control.specs.declared.ending.Halt.{Halt}
use Rattle.cb_net.specs.declared.net_end.NetEnd.{NetEnd}
use Rattle.cb_net.specs.declared.net_end.NetEnd.TheVariants.{Ended, Broke}
use Rattle.cb_net.specs.Played.{Begins, EndsAs, HasPlayed, IsOver, PlaysOn, RelaysAll, RelaysOne}
use Rattle.cb_net.specs.Playing.{PlaysNet, block_part, end_part, end_status, head_part}

-- blocks were relayed from one network to the other, and told
abbrev pub Relaying : Bool → Net → Net → Option (List ℕ) → Option (List ℕ) → Type 0
Relaying csv old new held holds = (blocks : List BlockResult) × RelaysAll old blocks new × Appends held holds (flat_map (block_part csv) blocks)

-- one block more
relays_push : (old mid new : Net) (blocks : List BlockResult) (block : BlockResult) → RelaysAll old blocks mid → RelaysOne mid new block → RelaysAll old (blocks ++ block ∷ []) new
relays_push old mid new [] block same one = (new, subst (λ (n : Net). RelaysOne n new block) same one, refl)
relays_push old mid new (first ∷ blocks) block h one = (h.0, h.1, relays_push h.0 mid new blocks block h.2 one)

pub relaying_more : (csv : Bool) (old mid new : Net) (held between holds : Option (List ℕ)) (block : BlockResult) → Relaying csv old mid held between → RelaysOne mid new block → Appends between holds (block_part csv block) → Relaying csv old new held holds
relaying_more csv old mid new held between holds block so_far one told = (
  so_far.0 ++ block ∷ [],
  relays_push old mid new so_far.0 block so_far.1 one,
  subst (Appends held holds) (flat_map_more (block_part csv) [] so_far.0 block) (Appends-then held between holds (flat_map (block_part csv) so_far.0) (block_part csv block) so_far.2 told),
)

-- what is told if there was a next block, and if there was none
pub none_of : {A P : Type 0} (o : Option A) → o ≡ None → IfNone o P → P
none_of {A} {P} o is h = subst (λ (x : Option A). IfNone x P) is h

pub some_of : {A : Type 0} (P : A → Type 0) (o : Option A) (x : A) → o ≡ Some x → IfSome o P → P x
some_of {A} P o x is h = subst (λ (y : Option A). IfSome y P) is h

-- what is told of a network that was played from its beginning
abbrev pub Told : Bool → Net → Option (List ℕ) → Option (List ℕ) → NetEnd → Type 0
Told csv begun held holds end = (blocks : List BlockResult) × PlaysOn begun blocks end × Appends held holds (flat_map (block_part csv) blocks)

-- it ended
pub told_end : (csv : Bool) (begun last over : Net) (held holds : Option (List ℕ)) (end : NetEnd) → Relaying csv begun last held holds → IsOver last → EndsAs last over end → Told csv begun held holds end
told_end csv begun last over held holds (Ended ending) so_far is_over ends = (so_far.0, (last, over, so_far.1, is_over, ends), so_far.2)
told_end csv begun last over held holds (Broke fault) so_far is_over ends = (so_far.0, (last, so_far.1), so_far.2)

-- it couldn't be played on
pub told_broken : (csv : Bool) (begun last : Net) (held holds : Option (List ℕ)) (fault : Fault) → Relaying csv begun last held holds → Told csv begun held holds (Broke fault)
told_broken csv begun last held holds fault so_far = (so_far.0, (last, so_far.1), so_far.2)

-- the same of a network that was made for settings
pub told_made : (settings : NetSettings) (begun : Net) (held holds : Option (List ℕ)) (end : Result NetEnd Halt) → Begins settings begun → IfOk end (Told settings.csv begun held holds) → IfOk end (λ end. (blocks : List BlockResult) × HasPlayed settings blocks end × Appends held holds (flat_map (block_part settings.csv) blocks))
told_made settings begun held holds (Ok end) begins told = (told.0, inl (begun, begins, told.1), told.2)
told_made settings begun held holds (Err halt) begins told = tt

-- what is printed from the head to the end
pub told_whole : (settings : NetSettings) (held head mid holds : Option (List ℕ)) (end : NetEnd) (ended : Result ℕ Halt) → Appends held head (head_part settings.csv)
    → ((blocks : List BlockResult) × HasPlayed settings blocks end × Appends head mid (flat_map (block_part settings.csv) blocks)) → OnOk ended (Appends mid holds (end_part settings end)) → IfOk ended (λ status. status ≡ end_status end)
    → IfOk ended (λ status. (out : List ℕ) × Appends held holds out × PlaysNet settings out status)
told_whole settings held head mid holds end (Err halt) h b e s = tt
told_whole settings held head mid holds end (Ok status) h b e s = (
  head_part settings.csv ++ flat_map (block_part settings.csv) b.0 ++ end_part settings end,
  Appends-then held mid holds (head_part settings.csv ++ flat_map (block_part settings.csv) b.0) (end_part settings end) (Appends-then held head mid (head_part settings.csv) (flat_map (block_part settings.csv) b.0) h b.2) e,
  record {
    blocks = b.0;
    end = end;
    played = b.1;
    out_is = refl;
    status_is = s;
  },
)
