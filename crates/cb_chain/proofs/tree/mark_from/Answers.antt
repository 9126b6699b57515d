use Rattle.std.proofs.Common.{◌≡◌, ◌<◌, ◌≤◌, ◌+◌, ◌++◌, ◌∷◌, ℕ, [], Bool, List, get_or, length, rules, refl, sym, ap, ◌∙◌, arith, true}
use Rattle.std.proofs.Math.ListN.{set}
use Rattle.std.proofs.lemmas.Option.{slice_get_within}
use Rattle.cb_chain.specs.Keeping.{IsMarked, above_at, above_first, marked_indexes}
use Rattle.cb_chain.specs.Marking.{BlockIndex, marks_of}
use Rattle.cb_chain.proofs.Branches.{Walked, turned, walked_ends, walked_goes, walked_starts, walked_within}
use Rattle.cb_chain.proofs.Marks.{marked_as, one_index, target_at}
use Rattle.cb_chain.proofs.Pairs.{length_marks_of, marks_set}
use Rattle.cb_chain.proofs.tree.mark_from.Goals as goal

-- the number of block indexes
count : (block_indexes : List BlockIndex) (marks : List Bool) → marks ≡ marks_of block_indexes → length marks ≡ length block_indexes
count block_indexes marks are = ap length are ∙ length_marks_of block_indexes

pub loop-turn-init : goal.loop-turn-init
loop-turn-init c =
    let pushed = rw c.unwrap.ensures at c.push.ensures.items in
    let found : c.push.new.self.items ≡ c.args.first ∷ [] = pushed ∙ ap (λ (ps : List ℕ). ps ++ c.args.first ∷ []) c.clear.ensures.items in
    (λ block_indexes is. (block_indexes, walked_starts block_indexes c.args.first c.push.new.self.items found, is.marks_are), omega (arith, c.clear.ensures.capacity, c.push.ensures.capacity))

-- the place is a block index's, so many turns are left, and there is room for what is found
here : (block_indexes : List BlockIndex) (marks new : List Bool) (newest elder found : List ℕ) (first turn place : ℕ) → IsMarked block_indexes marks newest elder first → 0 < first → (now : List BlockIndex) × Walked block_indexes first turn found now × (new ≡ marks_of now) → turn < length found
    → place ≡ get_or found turn place → (place < length new) × (turn < length marks) × (length found + length (above_at (above_first block_indexes) place) ≤ length marks) × (place < length newest)
here block_indexes marks new newest elder found first turn place is some now lt read =
    let target = target_at block_indexes first is.kept in
    let at = turned block_indexes first turn place found now.0 target.0 is.tree some target.1 now.1 lt read in
    let low = walked_within block_indexes first turn place found now.0 is.tree some (slice_get_within block_indexes first target.0 target.1) now.1 lt read in
    let all = count block_indexes marks is.marks_are in (
      omega (arith, at.0, count now.0 new now.2),
      omega (arith, at.1, all),
      omega (arith, at.2, all),
      omega (arith, low, is.links.newest_long),
    )

pub bounds-marks-place : goal.bounds-marks-place
bounds-marks-place c =
    let block_indexes = c.requires.tree.0 in
    let is = c.requires.tree.1 in
    let lt : c.loop-turn.turn < length c.loop-turn.found.items = omega (arith, c.loop-turn-test.true, c.len.ensures, c.loop-turn.found.ok.0) in
    let at = here block_indexes c.args.marks.now c.loop-turn.marks c.args.newest.now c.args.elder.now c.loop-turn.found.items c.args.first c.loop-turn.turn c.index-place.result.now is c.requires.above (c.loop-turn.invariant.0 block_indexes is) lt c.index-place.ensures in
    at.0

pub offset_bounds-newest-place : goal.offset_bounds-newest-place
offset_bounds-newest-place c =
    let block_indexes = c.requires.tree.0 in
    let is = c.requires.tree.1 in
    let lt : c.loop-turn.turn < length c.loop-turn.found.items = omega (arith, c.loop-turn-test.true, c.len.ensures, c.loop-turn.found.ok.0) in
    let at = here block_indexes c.args.marks.now c.loop-turn.marks c.args.newest.now c.args.elder.now c.loop-turn.found.items c.args.first c.loop-turn.turn c.index-place.result.now is c.requires.above (c.loop-turn.invariant.0 block_indexes is) lt c.index-place.ensures in
    let low = at.3 in
    search rules

pub bounds-newest-place : goal.bounds-newest-place
bounds-newest-place c =
    let block_indexes = c.requires.tree.0 in
    let is = c.requires.tree.1 in
    let lt : c.loop-turn.turn < length c.loop-turn.found.items = omega (arith, c.loop-turn-test.true, c.len.ensures, c.loop-turn.found.ok.0) in
    let at = here block_indexes c.args.marks.now c.loop-turn.marks c.args.newest.now c.args.elder.now c.loop-turn.found.items c.args.first c.loop-turn.turn c.index-place.result.now is c.requires.above (c.loop-turn.invariant.0 block_indexes is) lt c.index-place.ensures in
    at.3

pub push_linked-requires : goal.push_linked-requires
push_linked-requires c =
    let block_indexes = c.requires.tree.0 in
    let is = c.requires.tree.1 in
    let lt : c.loop-turn.turn < length c.loop-turn.found.items = omega (arith, c.loop-turn-test.true, c.len.ensures, c.loop-turn.found.ok.0) in
    let at = here block_indexes c.args.marks.now c.loop-turn.marks c.args.newest.now c.args.elder.now c.loop-turn.found.items c.args.first c.loop-turn.turn c.index-place.result.now is c.requires.above (c.loop-turn.invariant.0 block_indexes is) lt c.index-place.ensures in
    let place = c.index-place.result.now in
    record { links = (above_at (above_first block_indexes) place, is.links.each place, omega (arith, at.2, c.loop-turn.invariant.1, c.requires.room, c.loop-turn.found.ok.0)) }

pub loop-turn-smaller : goal.loop-turn-smaller
loop-turn-smaller c =
    let block_indexes = c.requires.tree.0 in
    let is = c.requires.tree.1 in
    let lt : c.loop-turn.turn < length c.loop-turn.found.items = omega (arith, c.loop-turn-test.true, c.len.ensures, c.loop-turn.found.ok.0) in
    let at = here block_indexes c.args.marks.now c.loop-turn.marks c.args.newest.now c.args.elder.now c.loop-turn.found.items c.args.first c.loop-turn.turn c.index-place.result.now is c.requires.above (c.loop-turn.invariant.0 block_indexes is) lt c.index-place.ensures in
    omega (arith, at.1)

pub loop-turn-preserved : goal.loop-turn-preserved
loop-turn-preserved c =
    let place = c.index-place.result.now in
    let lt : c.loop-turn.turn < length c.loop-turn.found.items = omega (arith, c.loop-turn-test.true, c.len.ensures, c.loop-turn.found.ok.0) in (
      λ block_indexes is.
          let now = c.loop-turn.invariant.0 block_indexes is in
          let target = target_at block_indexes c.args.first is.kept in
          let pushed = c.push_linked.ensures.found (above_at (above_first block_indexes) place) (is.links.each place) in
          let block_index = get_or now.0 place target.0 in
          let walked = walked_goes block_indexes c.args.first c.loop-turn.turn place c.loop-turn.found.items c.push_linked.new.found.items now.0 target.0 target.0 is.tree c.requires.above target.1 now.1 lt c.index-place.ensures pushed in
          (set now.0 place (marked_as true block_index), walked, ap (λ (ms : List Bool). set ms place true) now.2 ∙ sym (marks_set now.0 place block_index)),
      omega (arith, c.loop-turn.invariant.1, c.push_linked.ensures.room),
    )

pub returns-clause-marks : goal.returns-clause-marks
returns-clause-marks c = λ block_indexes block_index is at.
    let now = c.loop-turn.invariant.0 block_indexes is in
    let target = target_at block_indexes c.args.first is.kept in
    let one = one_index block_indexes c.args.first c.args.first target.0 block_index target.1 at refl in
    let done : length c.loop-turn.found.items ≤ c.loop-turn.turn = omega (arith, c.loop-turn-test.false, c.len.ensures, c.loop-turn.found.ok.0) in
    now.2
    ∙ ap marks_of (walked_ends block_indexes c.args.first c.loop-turn.turn c.loop-turn.found.items now.0 target.0 is.tree c.requires.above target.1 target.2 now.1 done ∙ ap (λ (n : BlockIndex). marked_indexes n.hash block_indexes) one)
