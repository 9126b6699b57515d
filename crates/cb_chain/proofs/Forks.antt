-- Where a branch leaves the active chain, and what stands above that on the branch.
use Rattle.std.proofs.Common.{◌≡◌, ℕ, suc, ◌+◌, ◌<◌, ◌≤◌, Bool, true, false, cond, List, [], ◌∷◌, ◌++◌, length, map, drop, Some, Option, sym, ap, subst, ◌∙◌, arith, inl, inr, length-append}
use Rattle.std.specs.Prelude.{slice_get, reverse, is_some}
use Rattle.std.specs.Option.{option_map_or}
use Rattle.std.proofs.lemmas.Bool.{cases_lt, false≢true}
use Rattle.std.proofs.lemmas.List.{append_assoc, append-nil, drop-append-le, drop_all, length-map, length-reverse, map-append}
use Rattle.std.proofs.lemmas.Option.{same_Some}
use Rattle.cb_base.specs.declared.hash.Hash256.{Hash256}
use Rattle.cb_block.specs.declared.header.Header.{Header}
use Rattle.cb_block.specs.Genesis.{genesis_header}
use Rattle.cb_chain.specs.Marking.{BlockIndex}
use Rattle.cb_chain.specs.Entries.{Entry, Tree, block_hash, same}
use Rattle.cb_chain.specs.Best.{active, best}
use Rattle.cb_chain.specs.Following.{above_branch, stands_at}
use Rattle.cb_chain.specs.Keeping.{Step, tree_of, place_of, way, climb, IsFork, IsTree}
use Rattle.cb_chain.proofs.BlockIndexes.{same-true, same-refl, reverse_cons, reverse_push}
use Rattle.cb_chain.proofs.PathsDown.{header_of, place_at, line_of, IsKeptAt, Leads, Leads-unique, named, leads, leads_at, branch_way, active_way, length_active, kept_at, kept_place, same_kept, Active, active_at, active_past, low_reversed, index_named}

-- ---- down a branch, as long as it isn't the active chain

-- what is below a place of the branch, and that nothing of the active chain is above it
pub record Below (tree : Tree) (hash : Hash256) (low : List Step) : Type 0 where
  pub front : List Step
  pub parts : way tree hash ≡ front ++ low
  pub above : above_branch (line_of (way tree hash)) (active tree) ≡ above_branch (line_of low) (active tree)

pub record Forking (block_indexes : List BlockIndex) (from place : ℕ) : Type 0 where
  pub low : List Step
  pub leads : Leads block_indexes place low
  pub kept : IsKeptAt block_indexes from → IsKeptAt block_indexes place
  pub below : (hash : Hash256) → place_of (tree_of block_indexes) hash ≡ Some from → Below (tree_of block_indexes) hash low

pub forking_starts : (block_indexes : List BlockIndex) (from : ℕ) → IsTree block_indexes → from < length block_indexes → Forking block_indexes from from
forking_starts block_indexes from is lt =
    let down = leads_at block_indexes from is lt in
    record {
      low = down.0;
      leads = down.1;
      kept = λ k. k;
      below = λ hash e.
          let one : way (tree_of block_indexes) hash ≡ down.0 = Leads-unique block_indexes from (way (tree_of block_indexes) hash) down.0 (leads block_indexes hash from is e) down.1 in
          record { front = []; parts = one; above = ap (λ (ss : List Step). above_branch (line_of ss) (active (tree_of block_indexes))) one };
    }

first_stands : (block_indexes : List BlockIndex) → IsTree block_indexes → stands_at (active (tree_of block_indexes)) 0 genesis_header ≡ true
first_stands block_indexes is = rw (active_way block_indexes is) (same-refl (block_hash genesis_header))

above_more : (header : Header) (line headers : List Header) (height : ℕ) → length line ≡ height → stands_at headers height header ≡ false → above_branch (header ∷ line) headers ≡ above_branch line headers
above_more header line headers height long e = ap (λ (b : Bool). cond b (drop (suc (length line)) headers) (above_branch line headers)) (ap (λ (h : ℕ). stands_at headers h header) long ∙ e)

above_here : (header : Header) (line headers : List Header) (height : ℕ) → length line ≡ height → stands_at headers height header ≡ true → above_branch (header ∷ line) headers ≡ drop (suc height) headers
above_here header line headers height long e =
    ap (λ (b : Bool). cond b (drop (suc (length line)) headers) (above_branch line headers)) (ap (λ (h : ℕ). stands_at headers h header) long ∙ e) ∙ ap (λ (h : ℕ). drop (suc h) headers) long

length_line : (steps : List Step) → length (line_of steps) ≡ suc (length steps)
length_line steps = length-append (map header_of steps) (genesis_header ∷ []) ∙ omega (arith, length-map steps header_of)

-- the parent, where the block index isn't on the active chain
pub record Goes (block_indexes : List BlockIndex) (from : ℕ) (block_index : BlockIndex) (place : ℕ) : Type 0 where
  pub parent : block_index.parent < place
  pub within : block_index.parent < length block_indexes
  pub next : Forking block_indexes from block_index.parent

forking_down : (block_indexes : List BlockIndex) (from place : ℕ) (block_index : BlockIndex) (low : List Step) → IsTree block_indexes → Leads block_indexes place low → (IsKeptAt block_indexes from → IsKeptAt block_indexes place)
    → ((hash : Hash256) → place_of (tree_of block_indexes) hash ≡ Some from → Below (tree_of block_indexes) hash low)
    → place < length block_indexes → slice_get block_indexes place ≡ Some block_index → stands_at (active (tree_of block_indexes)) block_index.height block_index.header ≡ false → Goes block_indexes from block_index place
forking_down block_indexes from place block_index [] is w kept below lt at off =
    let one : w.block_index ≡ block_index = same_Some w.block_index block_index (sym w.at ∙ at) in
    let header : block_index.header ≡ genesis_header = ap (λ (n : BlockIndex). n.header) (sym one) ∙ w.first.header in
    let height : block_index.height ≡ 0 = ap (λ (n : BlockIndex). n.height) (sym one) ∙ w.first.height in
    let there : stands_at (active (tree_of block_indexes)) block_index.height block_index.header ≡ true = ap (λ (h : ℕ). stands_at (active (tree_of block_indexes)) h block_index.header) height ∙ ap (stands_at (active (tree_of block_indexes)) 0) header ∙ first_stands block_indexes is in
    absurd (false≢true (sym off ∙ there))
forking_down block_indexes from place block_index (step ∷ steps) is w kept below lt at off =
    let headers = active (tree_of block_indexes) in
    let one : w.0.block_index ≡ block_index = same_Some w.0.block_index block_index (sym w.0.at ∙ at) in
    let parent : w.0.block_index.parent ≡ block_index.parent = ap (λ (n : BlockIndex). n.parent) one in
    let header : step.entry.header ≡ block_index.header = ap (λ (e : Entry). e.header) w.0.entry ∙ ap (λ (n : BlockIndex). n.header) one in
    let height : length (line_of steps) ≡ block_index.height = length_line steps ∙ sym w.0.height ∙ ap (λ (n : BlockIndex). n.height) one in
    let elsewhere : stands_at headers block_index.height step.entry.header ≡ false = ap (stands_at headers block_index.height) header ∙ off in
    record {
      parent = omega (arith, w.0.parent, parent);
      within = omega (arith, w.0.parent, parent, lt);
      next = record {
        low = steps;
        leads = subst (λ (p : ℕ). Leads block_indexes p steps) parent w.1;
        kept = λ k. subst (λ (p : ℕ). IsKeptAt block_indexes p) parent (w.0.under (same_kept block_indexes place w.0.block_index w.0.at (kept k)));
        below = λ hash e.
            let b = below hash e in
            record {
              front = b.front ++ step ∷ [];
              parts = b.parts ∙ sym (append_assoc b.front (step ∷ []) steps);
              above = b.above ∙ above_more step.entry.header (line_of steps) headers block_index.height height elsewhere;
            };
      };
    }

pub forking_goes : (block_indexes : List BlockIndex) (from place : ℕ) (block_index : BlockIndex) → IsTree block_indexes → Forking block_indexes from place → place < length block_indexes → slice_get block_indexes place ≡ Some block_index
    → stands_at (active (tree_of block_indexes)) block_index.height block_index.header ≡ false → Goes block_indexes from block_index place
forking_goes block_indexes from place block_index is f lt at off = forking_down block_indexes from place block_index f.low is f.leads f.kept f.below lt at off

-- what is above a place whose hash stands on the active chain
above_low : (block_indexes : List BlockIndex) (place : ℕ) (block_index : BlockIndex) (low : List Step) → Leads block_indexes place low → slice_get block_indexes place ≡ Some block_index → stands_at (active (tree_of block_indexes)) block_index.height block_index.header ≡ true
    → above_branch (line_of low) (active (tree_of block_indexes)) ≡ drop (suc block_index.height) (active (tree_of block_indexes))
above_low block_indexes place block_index [] w at on =
    let headers = active (tree_of block_indexes) in
    let one : w.block_index ≡ block_index = same_Some w.block_index block_index (sym w.at ∙ at) in
    let header : genesis_header ≡ block_index.header = sym w.first.header ∙ ap (λ (n : BlockIndex). n.header) one in
    let height : 0 ≡ block_index.height = sym w.first.height ∙ ap (λ (n : BlockIndex). n.height) one in
    above_here genesis_header [] headers block_index.height height (ap (stands_at headers block_index.height) header ∙ on)
above_low block_indexes place block_index (step ∷ steps) w at on =
    let headers = active (tree_of block_indexes) in
    let one : w.0.block_index ≡ block_index = same_Some w.0.block_index block_index (sym w.0.at ∙ at) in
    let header : step.entry.header ≡ block_index.header = ap (λ (e : Entry). e.header) w.0.entry ∙ ap (λ (n : BlockIndex). n.header) one in
    let height : length (line_of steps) ≡ block_index.height = length_line steps ∙ sym w.0.height ∙ ap (λ (n : BlockIndex). n.height) one in
    above_here step.entry.header (line_of steps) headers block_index.height height (ap (stands_at headers block_index.height) header ∙ on)

-- the active block of the block index's height has the block index's hash
pub record Meets (block_indexes : List BlockIndex) (block_index : BlockIndex) : Type 0 where
  pub low : block_index.height ≤ length (way (tree_of block_indexes) (best (tree_of block_indexes)))
  pub there : Active block_indexes block_index.height
  pub hash : there.block_index.hash ≡ block_index.hash

pub meets : (block_indexes : List BlockIndex) (place : ℕ) (block_index : BlockIndex) → IsTree block_indexes → slice_get block_indexes place ≡ Some block_index → stands_at (active (tree_of block_indexes)) block_index.height block_index.header ≡ true → Meets block_indexes block_index
meets block_indexes place block_index is at on =
    let test = λ (o : Option Header). option_map_or (λ x. same (block_hash x) (block_hash block_index.header)) o false in
    elim (cases_lt (length (way (tree_of block_indexes) (best (tree_of block_indexes)))) block_index.height) [
      | inl past ↦ absurd (false≢true (sym (ap test (active_past block_indexes block_index.height is past).1) ∙ on))
      | inr le ↦
          let there = active_at block_indexes block_index.height is le in
          let same_hash : same (block_hash there.block_index.header) (block_hash block_index.header) ≡ true = sym (ap test there.header) ∙ on in
          record {
            low = le;
            there = there;
            hash = there.hash ∙ same-true (block_hash there.block_index.header) (block_hash block_index.header) same_hash ∙ sym (index_named block_indexes place block_index is at);
          }
    ]

-- a kept block on the active chain is the active one
pub kept_meets : (block_indexes : List BlockIndex) (place : ℕ) (block_index : BlockIndex) → IsTree block_indexes → slice_get block_indexes place ≡ Some block_index → is_some block_index.kept ≡ true → (m : Meets block_indexes block_index) → m.there.place ≡ place
kept_meets block_indexes place block_index is at kept m =
    same_Some m.there.place place (sym m.there.newest ∙ ap (place_of (tree_of block_indexes)) m.hash ∙ kept_place block_indexes block_index place is at kept)

pub forking_ends : (block_indexes : List BlockIndex) (from place : ℕ) (block_index : BlockIndex) (hash : Hash256) → IsTree block_indexes → Forking block_indexes from place → slice_get block_indexes place ≡ Some block_index
    → stands_at (active (tree_of block_indexes)) block_index.height block_index.header ≡ true → place_of (tree_of block_indexes) hash ≡ Some from → IsFork (tree_of block_indexes) hash block_index.height
forking_ends block_indexes from place block_index hash is f at on e =
    let tree = tree_of block_indexes in
    let m = meets block_indexes place block_index is at on in
    let b = f.below hash e in
    let name = named block_indexes place f.low f.leads in
    let long : length f.low ≡ block_index.height = sym name.height ∙ ap (λ (n : BlockIndex). n.height) (same_Some name.block_index block_index (sym name.at ∙ at)) in
    let parts : length (way tree hash) ≡ length b.front + length f.low = ap length b.parts ∙ length-append b.front f.low in
    record {
      low = omega (arith, m.low, length_active block_indexes is);
      short = omega (arith, parts, long);
      above = ap (λ (hs : List Header). above_branch hs (active tree)) (branch_way block_indexes hash from is e) ∙ b.above ∙ above_low block_indexes place block_index f.low f.leads at on;
      below = λ kept.
          let index_kept = same_kept block_indexes place block_index at (f.kept (kept_at block_indexes hash from is e kept)) in
          let one : m.there.place ≡ place = kept_meets block_indexes place block_index is at index_kept m in
          let lows : m.there.low ≡ f.low = Leads-unique block_indexes place m.there.low f.low (subst (λ (p : ℕ). Leads block_indexes p m.there.low) one m.there.leads) f.leads in
          low_reversed b.front f.low (way tree hash) block_index.height b.parts long ∙ ap reverse (sym lows) ∙ sym m.there.below;
    }

-- ---- the places of a branch above a height

-- from the lowest up
abbrev pub tops : ℕ → List Step → List ℕ
tops fork steps = map place_at (drop fork (reverse steps))

-- what was passed, from the highest down, and what is below it
pub record Climbing (block_indexes : List BlockIndex) (from fork place : ℕ) (passed : List ℕ) : Type 0 where
  pub low : List Step
  pub leads : Leads block_indexes place low
  pub all : (hash : Hash256) → place_of (tree_of block_indexes) hash ≡ Some from → tops fork (way (tree_of block_indexes) hash) ≡ tops fork low ++ reverse passed

pub climbing_starts : (block_indexes : List BlockIndex) (from fork : ℕ) (passed : List ℕ) → passed ≡ [] → IsTree block_indexes → from < length block_indexes → Climbing block_indexes from fork from passed
climbing_starts block_indexes from fork passed none is lt =
    let down = leads_at block_indexes from is lt in
    record {
      low = down.0;
      leads = down.1;
      all = λ hash e.
          let one : way (tree_of block_indexes) hash ≡ down.0 = Leads-unique block_indexes from (way (tree_of block_indexes) hash) down.0 (leads block_indexes hash from is e) down.1 in
          ap (tops fork) one ∙ sym (append-nil (tops fork down.0)) ∙ ap (λ (ps : List ℕ). tops fork down.0 ++ reverse ps) (sym none);
    }

tops_more : (fork place : ℕ) (step : Step) (steps : List Step) (passed : List ℕ) → fork ≤ length steps → step.place ≡ place → tops fork (step ∷ steps) ++ reverse passed ≡ tops fork steps ++ reverse (passed ++ place ∷ [])
tops_more fork place step steps passed le at =
    let line : drop fork (reverse (step ∷ steps)) ≡ drop fork (reverse steps) ++ step ∷ [] = ap (drop fork) (reverse_cons steps step) ∙ drop-append-le fork (reverse steps) (step ∷ []) (omega (arith, length-reverse steps)) in
    let places : tops fork (step ∷ steps) ≡ tops fork steps ++ place ∷ [] = ap (map place_at) line ∙ map-append place_at (drop fork (reverse steps)) (step ∷ []) ∙ ap (λ (p : ℕ). tops fork steps ++ p ∷ []) at in
    ap (λ (ps : List ℕ). ps ++ reverse passed) places ∙ append_assoc (tops fork steps) (place ∷ []) (reverse passed) ∙ ap (λ (ps : List ℕ). tops fork steps ++ ps) (sym (reverse_push passed place))

-- the parent, where the block index is above the height
pub record Climbs (block_indexes : List BlockIndex) (from fork : ℕ) (block_index : BlockIndex) (place : ℕ) (passed : List ℕ) : Type 0 where
  pub parent : block_index.parent < place
  pub within : block_index.parent < length block_indexes
  pub next : Climbing block_indexes from fork block_index.parent (passed ++ place ∷ [])

climbing_down : (block_indexes : List BlockIndex) (from fork place : ℕ) (passed : List ℕ) (block_index : BlockIndex) (low : List Step) → Leads block_indexes place low
    → ((hash : Hash256) → place_of (tree_of block_indexes) hash ≡ Some from → tops fork (way (tree_of block_indexes) hash) ≡ tops fork low ++ reverse passed)
    → place < length block_indexes → slice_get block_indexes place ≡ Some block_index → fork < block_index.height → Climbs block_indexes from fork block_index place passed
climbing_down block_indexes from fork place passed block_index [] w all lt at higher =
    absurd (omega (arith, higher, ap (λ (n : BlockIndex). n.height) (same_Some w.block_index block_index (sym w.at ∙ at)), w.first.height))
climbing_down block_indexes from fork place passed block_index (step ∷ steps) w all lt at higher =
    let one : w.0.block_index ≡ block_index = same_Some w.0.block_index block_index (sym w.0.at ∙ at) in
    let parent : w.0.block_index.parent ≡ block_index.parent = ap (λ (n : BlockIndex). n.parent) one in
    let height : block_index.height ≡ suc (length steps) = ap (λ (n : BlockIndex). n.height) (sym one) ∙ w.0.height in
    record {
      parent = omega (arith, w.0.parent, parent);
      within = omega (arith, w.0.parent, parent, lt);
      next = record {
        low = steps;
        leads = subst (λ (p : ℕ). Leads block_indexes p steps) parent w.1;
        all = λ hash e. all hash e ∙ tops_more fork place step steps passed (omega (arith, higher, height)) w.0.place;
      };
    }

pub climbing_goes : (block_indexes : List BlockIndex) (from fork place : ℕ) (passed : List ℕ) (block_index : BlockIndex) → Climbing block_indexes from fork place passed → place < length block_indexes → slice_get block_indexes place ≡ Some block_index → fork < block_index.height
    → Climbs block_indexes from fork block_index place passed
climbing_goes block_indexes from fork place passed block_index c lt at higher = climbing_down block_indexes from fork place passed block_index c.low c.leads c.all lt at higher

pub climbing_ends : (block_indexes : List BlockIndex) (from fork place : ℕ) (passed : List ℕ) (block_index : BlockIndex) (hash : Hash256) → Climbing block_indexes from fork place passed → slice_get block_indexes place ≡ Some block_index → block_index.height ≤ fork
    → place_of (tree_of block_indexes) hash ≡ Some from → reverse passed ≡ map (λ step. step.place) (drop fork (climb (tree_of block_indexes) hash))
climbing_ends block_indexes from fork place passed block_index hash c at le e =
    let name = named block_indexes place c.low c.leads in
    let long : length c.low ≡ block_index.height = sym name.height ∙ ap (λ (n : BlockIndex). n.height) (same_Some name.block_index block_index (sym name.at ∙ at)) in
    let none : drop fork (reverse c.low) ≡ [] = drop_all fork (reverse c.low) (omega (arith, long, le, length-reverse c.low)) in
    sym (c.all hash e ∙ ap (λ (ss : List Step). map place_at ss ++ reverse passed) none)
