-- How the lines of `sim` are written: the acts, and the sizes of a crew.
use Rattle.std.specs.Prelude.{◌≡◌, ℕ, ◌^◌, ◌<◌, ◌≤◌, nat_le, ◌&&◌, if◌then◌else◌, List, ◌∷◌, ◌++◌, codes, Option, Some, None, option_and_then, option_map}
use Rattle.std.specs.Str.{bytes_eq}
use Rattle.cb_control.specs.Words.{Writes, NamesOne, cut_of, number_in}
use Rattle.cb_commands.specs.declared.sim.read.Sizes.{Sizes}
use Rattle.cb_crew.specs.declared.act.Act.{Act}
use Rattle.cb_crew.specs.declared.act.Act.TheVariants as act

-- The line is this act: its name and its numbers, with one space between two words.
abbrev pub TellsAct : List ℕ → Act → Type 0
TellsAct text (act.Put p x) =
    (peer : List ℕ) × (item : List ℕ) × Writes peer p × (p < 2 ^ 16) × Writes item x × (x < 2 ^ 64)
    × (text ≡ codes "put" ++ 32 ∷ (peer ++ 32 ∷ item))
TellsAct text (act.End p) = NamesOne (2 ^ 16) text (codes "end") p
TellsAct text (act.Open p) = NamesOne (2 ^ 16) text (codes "open") p
TellsAct text (act.Claim k) = NamesOne (2 ^ 16) text (codes "claim") k
TellsAct text (act.Take k) = NamesOne (2 ^ 16) text (codes "take") k
TellsAct text (act.Give k) = NamesOne (2 ^ 16) text (codes "give") k

-- The line has the sizes of a crew, within their ranges.
pub record TellsSizes (text : List ℕ) (sizes : Sizes) : Type 0 where
  pub peers : List ℕ
  pub handlers : List ℕ
  pub capacity : List ℕ
  pub peers_are : Writes peers sizes.peers
  pub handlers_are : Writes handlers sizes.handlers
  pub capacity_is : Writes capacity sizes.capacity
  pub peers_range : (1 ≤ sizes.peers) × (sizes.peers ≤ 64)
  pub handlers_range : (1 ≤ sizes.handlers) × (sizes.handlers ≤ 16)
  pub capacity_range : (1 ≤ sizes.capacity) × (sizes.capacity ≤ 1024)
  pub line : text ≡ codes "system" ++ 32 ∷ (peers ++ 32 ∷ (handlers ++ 32 ∷ capacity))

-- ---- the same as functions of the text

-- the act with this name and the numbers in `rest`
abbrev pub act_named : List ℕ → List ℕ → Option Act
act_named name rest =
    if bytes_eq name (codes "put")
    then option_and_then
    (λ p. option_and_then
    (λ peer. option_map (λ item. act.Put peer item) (number_in (2 ^ 64) p.1))
    (number_in (2 ^ 16) p.0))
    (cut_of rest)
    else if bytes_eq name (codes "end")
    then option_map (λ p. act.End p) (number_in (2 ^ 16) rest)
    else if bytes_eq name (codes "open")
    then option_map (λ p. act.Open p) (number_in (2 ^ 16) rest)
    else if bytes_eq name (codes "claim")
    then option_map (λ k. act.Claim k) (number_in (2 ^ 16) rest)
    else if bytes_eq name (codes "take")
    then option_map (λ k. act.Take k) (number_in (2 ^ 16) rest)
    else if bytes_eq name (codes "give")
    then option_map (λ k. act.Give k) (number_in (2 ^ 16) rest)
    else None

abbrev pub act_in : List ℕ → Option Act
act_in text = option_and_then (λ p. act_named p.0 p.1) (cut_of text)

-- the sizes, if all are within their ranges
abbrev pub sizes_named : List ℕ → Option ℕ → Option ℕ → Option ℕ → Option Sizes
sizes_named name (Some p) (Some k) (Some c) =
    if bytes_eq name (codes "system") && (nat_le 1 p && nat_le p 64) && (nat_le 1 k && nat_le k 16)
    && (nat_le 1 c && nat_le c 1024)
    then Some (record { peers = p; handlers = k; capacity = c })
    else None
sizes_named name p k c = None

abbrev pub sizes_in : List ℕ → Option Sizes
sizes_in text =
    option_and_then
    (λ a. option_and_then
    (λ b. option_and_then
    (λ c. sizes_named a.0 (number_in (2 ^ 16) b.0) (number_in (2 ^ 16) c.0)
    (number_in (2 ^ 16) c.1))
    (cut_of b.1))
    (cut_of a.1))
    (cut_of text)
