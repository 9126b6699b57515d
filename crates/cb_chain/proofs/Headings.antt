-- Headers that are given in turn.
use Rattle.std.proofs.Common.{◌≡◌, ℕ, ◌+◌, ◌-◌, ◌%◌, ◌<◌, ◌≤◌, false, List, [], ◌∷◌, ◌++◌, append-nil, append_assoc, take, drop, get_or, length, map, Some, None, Option, refl, sym, ap, subst, ◌∙◌, inl, inr, arith}
use Rattle.std.proofs.lemmas.List.{drop_all, drop_more}
use Rattle.cb_base.specs.declared.fault.Fault.{Fault}
use Rattle.cb_base.specs.declared.fault.Fault.TheVariants.{Known}
use Rattle.cb_base.specs.declared.hash.Hash256.{Hash256}
use Rattle.cb_block.specs.declared.header.Header.{Header}
use Rattle.cb_block.specs.Work.{HasWork}
use Rattle.cb_ledger.specs.Unspent.{Unspent}
use Rattle.cb_ledger.specs.declared.undo.CoinChange.{CoinChange}
use Rattle.cb_chain.specs.declared.accepting.Spot.{Spot}
use Rattle.cb_chain.specs.Marking.{BlockIndex}
use Rattle.cb_chain.specs.declared.side_branch.SideBranch.{SideBranch}
use Rattle.cb_chain.specs.Calls.{AcceptsHeader, header_entry, header_fault}
use Rattle.cb_chain.specs.Entries.{Entry, Tree, block_hash}
use Rattle.cb_chain.specs.Headers.{HasFour, Meets, TakesHeaders, goes_on}
use Rattle.cb_chain.specs.History.{IsHistoric}
use Rattle.cb_chain.specs.Keeping.{Grown, IsIndex, IsSpot, IsTree, entry_from, index_on, tree_of}
use Rattle.cb_chain.specs.Laws.{Stays}
use Rattle.cb_chain.specs.SideBranches.{IsChain, KeepsChains}
use Rattle.cb_chain.proofs.Histories.{historic_header}
use Rattle.cb_chain.proofs.Reached.{planted_after}
use Rattle.cb_chain.proofs.SideBranchIndexes.{Grows, bare_best, bare_index, bare_on, grows_tree, header_free}
use Rattle.cb_chain.proofs.Stays.{header_stays, stays_same, stays_then}
use Rattle.cb_chain.proofs.Undos.{grows_chain}

-- ---- one header

-- a header that nothing speaks against, and the block index that it will be
pub record IsHeading (block_indexes : List BlockIndex) (header : Header) (spot : Spot) (block_index : BlockIndex) : Type 0 where
  pub is : IsTree block_indexes
  pub work : HasWork header
  pub none : header_fault (tree_of block_indexes) header ≡ None
  pub spot_is : IsSpot spot header (tree_of block_indexes)
  pub index_is : block_index ≡ index_on spot None false

pub heading_index : (block_indexes : List BlockIndex) (header : Header) (spot : Spot) (block_index : BlockIndex) → IsHeading block_indexes header spot block_index → IsIndex block_index (tree_of block_indexes)
heading_index block_indexes header spot block_index h =
    subst (λ (n : BlockIndex). IsIndex n (tree_of block_indexes)) (sym h.index_is) (bare_index spot header (tree_of block_indexes) false h.spot_is (header_free (tree_of block_indexes) header h.none))

heading_grows : (block_indexes : List BlockIndex) (header : Header) (spot : Spot) (block_index : BlockIndex) → IsHeading block_indexes header spot block_index → Grows block_indexes block_indexes (tree_of block_indexes) block_index
heading_grows block_indexes header spot block_index h = record { is = h.is; same = refl; view = refl; one = heading_index block_indexes header spot block_index h }

-- it is kept
pub heading_met : (block_indexes more : List BlockIndex) (header : Header) (spot : Spot) (block_index : BlockIndex) → IsHeading block_indexes header spot block_index → more ≡ block_indexes ++ block_index ∷ [] → Meets (tree_of block_indexes) header (tree_of more)
heading_met block_indexes more header spot block_index h grown =
    let entry : entry_from block_index ≡ header_entry header = ap entry_from h.index_is ∙ bare_on spot header h.spot_is.header in
    let tree : tree_of more ≡ header_entry header ∷ tree_of block_indexes =
    grows_tree block_indexes block_indexes more (tree_of block_indexes) block_index (heading_grows block_indexes header spot block_index h) grown ∙ ap (λ (e : Entry). e ∷ tree_of block_indexes) entry in
    (None, refl, AcceptsHeader.kept h.work h.none refl tree)

pub heading_chains : (old new : Grown) (header : Header) (spot : Spot) (block_index : BlockIndex) → IsHeading old.block_indexes header spot block_index → new.block_indexes ≡ old.block_indexes ++ block_index ∷ [] → new.undos ≡ old.undos ++ None ∷ [] → KeepsChains old new
heading_chains old new header spot block_index h grown noted path unspent side_branch chain =
    grows_chain old.block_indexes old.block_indexes new.block_indexes (tree_of old.block_indexes) block_index path old.undos old.undos new.undos unspent side_branch (heading_grows old.block_indexes header spot block_index h) grown refl noted
    (bare_best (entry_from block_index) (tree_of old.block_indexes) (ap (λ (n : BlockIndex). n.kept) h.index_is)) chain

-- ---- one after another

-- whatever the rest of the headers leads to from here, all of them lead to from the start
abbrev pub GoesThrough : Tree → List Header → List Hash256 → Tree → List Header → Type 0
GoesThrough old headers met now rest = (against : Option Fault) (others : List Hash256) (new : Tree) → TakesHeaders now rest against others new → TakesHeaders old headers against (met ++ others) new

pub through_first : (old : Tree) (headers : List Header) (met : List Hash256) → met ≡ [] → GoesThrough old headers met old headers
through_first old headers met none against others new takes = rw none takes

-- the next header is met
pub through_more : (old now next : Tree) (headers : List Header) (met more : List Hash256) (k : ℕ) (none : Header) → GoesThrough old headers met now (drop k headers) → k < length headers
    → Meets now (get_or headers k none) next → more ≡ met ++ block_hash (get_or headers k none) ∷ [] → GoesThrough old headers more next (drop (k + 1) headers)
through_more old now next headers met more k none through lt meets grown against others new takes =
    let header = get_or headers k none in
    let one : TakesHeaders now (header ∷ drop (k + 1) headers) against (block_hash header ∷ others) new = inl (next, others, meets, refl, takes) in
    let here : TakesHeaders now (drop k headers) against (block_hash header ∷ others) new =
    subst (λ (rest : List Header). TakesHeaders now rest against (block_hash header ∷ others) new) (sym (drop_more headers k none lt)) one in
    let whole : met ++ block_hash header ∷ others ≡ more ++ others = sym (ap (λ (hs : List Hash256). hs ++ others) grown ∙ append_assoc met (block_hash header ∷ []) others) in
    subst (λ (hs : List Hash256). TakesHeaders old headers against hs new) whole (through against (block_hash header ∷ others) new here)

-- all are met
pub through_all : (old now : Tree) (headers : List Header) (met : List Hash256) (k : ℕ) → GoesThrough old headers met now (drop k headers) → length headers ≤ k → TakesHeaders old headers None met now
through_all old now headers met k through le =
    let here : TakesHeaders now (drop k headers) None [] now = subst (λ (rest : List Header). TakesHeaders now rest None [] now) (sym (drop_all k headers le)) (refl, refl, refl) in
    subst (λ (hs : List Hash256). TakesHeaders old headers None hs now) (append-nil met) (through None [] now here)

-- the next one is refused
pub through_against : (old now next : Tree) (headers : List Header) (met : List Hash256) (k : ℕ) (none : Header) (fault : Fault) → GoesThrough old headers met now (drop k headers) → k < length headers
    → goes_on (Some fault) ≡ false → AcceptsHeader now (get_or headers k none) (Some fault) next → TakesHeaders old headers (Some fault) met next
through_against old now next headers met k none fault through lt stop told =
    let header = get_or headers k none in
    let one : TakesHeaders now (header ∷ drop (k + 1) headers) (Some fault) [] next = inr (stop, told, refl) in
    let here : TakesHeaders now (drop k headers) (Some fault) [] next = subst (λ (rest : List Header). TakesHeaders now rest (Some fault) [] next) (sym (drop_more headers k none lt)) one in
    subst (λ (hs : List Hash256). TakesHeaders old headers (Some fault) hs next) (append-nil met) (through (Some fault) [] next here)

-- the hashes of four headers, from one of them to the next
pub four_next : (headers : List Header) (i : ℕ) (hashes : List Hash256) → HasFour headers i hashes → 0 < (i + 1) % 4 → HasFour headers (i + 1) hashes
four_next headers i hashes has later =
    let same : i - i % 4 ≡ i + 1 - (i + 1) % 4 = omega arith in
    subst (λ (first : ℕ). first + 4 ≤ length headers → hashes ≡ map block_hash (take 4 (drop first headers))) same has

-- ---- what they leave

pub headers_historic : (headers : List Header) (old : Tree) (against : Option Fault) (met : List Hash256) (new : Tree) → IsHistoric old → TakesHeaders old headers against met new → IsHistoric new
headers_historic [] old against met new is takes = subst IsHistoric (sym takes.2) is
headers_historic (header ∷ headers) old against met new is (inl t) = headers_historic headers t.0 against t.1 new (historic_header old t.0 header t.2.0 is t.2.2) t.4
headers_historic (header ∷ headers) old against met new is (inr t) = historic_header old new header against is t.1

pub headers_stay : (headers : List Header) (old : Tree) (against : Option Fault) (met : List Hash256) (new : Tree) → IsHistoric old → TakesHeaders old headers against met new → Stays old new
headers_stay [] old against met new is takes = stays_same old new takes.2
headers_stay (header ∷ headers) old against met new is (inl t) =
    stays_then old t.0 new (header_stays old t.0 header t.2.0 (planted_after old is) t.2.2) (headers_stay headers t.0 against t.1 new (historic_header old t.0 header t.2.0 is t.2.2) t.4)
headers_stay (header ∷ headers) old against met new is (inr t) = header_stays old new header against (planted_after old is) t.1

-- ---- a chain that is given headers: what is in hand, once there is room for them, and what they leave

pub headers_chain : (old reserved new : Grown) (headers : List Header) (against : Option Fault) (met : List Hash256) (path : List ℕ) (unspent : Unspent) (side_branch : Option SideBranch) → reserved.block_indexes ≡ old.block_indexes → reserved.undos ≡ old.undos
    → TakesHeaders (tree_of reserved.block_indexes) headers against met (tree_of new.block_indexes) → KeepsChains reserved new → IsChain (tree_of old.block_indexes) path old.undos unspent side_branch × IsHistoric (tree_of old.block_indexes)
    → IsChain (tree_of new.block_indexes) path new.undos unspent side_branch × IsHistoric (tree_of new.block_indexes)
headers_chain old reserved new headers against met path unspent side_branch block_indexes undos takes keeps is =
    let kept : IsChain (tree_of reserved.block_indexes) path old.undos unspent side_branch = subst (λ (ns : List BlockIndex). IsChain (tree_of ns) path old.undos unspent side_branch) (sym block_indexes) is.0 in
    let chain : IsChain (tree_of reserved.block_indexes) path reserved.undos unspent side_branch = subst (λ (us : List (Option (List CoinChange))). IsChain (tree_of reserved.block_indexes) path us unspent side_branch) (sym undos) kept in
    let past : IsHistoric (tree_of reserved.block_indexes) = subst (λ (ns : List BlockIndex). IsHistoric (tree_of ns)) (sym block_indexes) is.1 in
    (keeps path unspent side_branch chain, headers_historic headers (tree_of reserved.block_indexes) against met (tree_of new.block_indexes) past takes)

pub headers_leave : (old reserved new : Grown) (tree : Tree) (headers : List Header) (against : Option Fault) (met : List Hash256) → reserved.block_indexes ≡ old.block_indexes → tree_of old.block_indexes ≡ tree → IsHistoric (tree_of old.block_indexes)
    → TakesHeaders (tree_of reserved.block_indexes) headers against met (tree_of new.block_indexes) → Stays tree (tree_of new.block_indexes)
headers_leave old reserved new tree headers against met block_indexes view is takes =
    let same : tree_of reserved.block_indexes ≡ tree = ap tree_of block_indexes ∙ view in
    headers_stay headers tree against met (tree_of new.block_indexes) (subst IsHistoric view is) (subst (λ (t : Tree). TakesHeaders t headers against met (tree_of new.block_indexes)) same takes)
