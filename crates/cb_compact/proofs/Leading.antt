-- Differences that lead to places in a block, one by one.
use Rattle.std.proofs.Common.{◌≡◌, ℕ, suc, ◌+◌, ◌-◌, ◌<◌, ◌≤◌, Bool, true, ltb, ◌&&◌, List, [], ◌∷◌, length, map, take, drop, get_or, Option, Some, All, refl, sym, ap, ◌∙◌, subst, arith, length-append, length-drop, length-take}
use Rattle.std.specs.List.{list_all}
use Rattle.std.proofs.lemmas.Bool.{and_parts}
use Rattle.std.proofs.lemmas.Bool.Decides.{Decides-by_and, Decides-ltb}
use Rattle.std.proofs.lemmas.List.{length-map}
use Rattle.cb_block.specs.declared.tx.Tx.{Tx}
use Rattle.cb_compact.specs.Differences.{Rise, differences, sums}
use Rattle.cb_compact.specs.Forms.{places_of}
use Rattle.cb_compact.specs.Slots.{choice, laid_out, missing, slots}
use Rattle.cb_compact.specs.declared.form.Prefilled.{Prefilled}
use Rattle.cb_compact.specs.declared.named_tx.Pair.{Pair}
use Rattle.cb_compact.proofs.Indexes.{from_here, sums_rise}
use Rattle.cb_compact.proofs.Seen.{missing_rise}
use Rattle.cb_compact.proofs.Slotting.{rise_room}
use Rattle.cb_wire.specs.ShortForms.{ShortForm}
use Rattle.cb_wire.specs.declared.prefilled.PrefilledTransaction.{PrefilledTransaction}
use Rattle.cb_compact.specs.Places.{differences_of, has_places, placed_from, total_of}

-- the differences lead from `least` on to places below the total
abbrev pub lead : ℕ → ℕ → List PrefilledTransaction → Bool
lead total least prefilled = list_all (λ place. ltb place total) (sums least (differences_of prefilled))

pub lead_here : (total least : ℕ) (list : List PrefilledTransaction) (i : ℕ) (d : PrefilledTransaction) → i < length list
    → lead total least (drop i list) ≡ (ltb (least + (get_or list i d).difference) total && lead total (least + (get_or list i d).difference + 1) (drop (i + 1) list))
lead_here total least list i d within = ap (lead total least) (from_here list i d within)

pub lead_next : (total least : ℕ) (list : List PrefilledTransaction) (i : ℕ) (d : PrefilledTransaction) → i < length list → lead total least (drop i list) ≡ true
    → (least + (get_or list i d).difference < total) × (lead total (least + (get_or list i d).difference + 1) (drop (i + 1) list) ≡ true)
lead_next total least list i d within all =
    let place = least + (get_or list i d).difference in
    let both = and_parts (ltb place total) (lead total (place + 1) (drop (i + 1) list)) (sym (lead_here total least list i d within) ∙ all) in
    ((Decides-ltb place total).0 both.0, both.1)

pub placed_here : (least : ℕ) (list : List PrefilledTransaction) (i : ℕ) (d : PrefilledTransaction) → i < length list
    → placed_from least (drop i list) ≡ record { place = least + (get_or list i d).difference; tx = (get_or list i d).tx } ∷ placed_from (least + (get_or list i d).difference + 1) (drop (i + 1) list)
placed_here least list i d within = ap (placed_from least) (from_here list i d within)

pub places_placed : (least : ℕ) (list : List PrefilledTransaction) → places_of (placed_from least list) ≡ sums least (differences_of list)
places_placed least [] = refl
places_placed least (given ∷ more) = ap (λ list. (least + given.difference) ∷ list) (places_placed (least + given.difference + 1) more)

pub length_placed : (least : ℕ) (list : List PrefilledTransaction) → length (placed_from least list) ≡ length list
length_placed least [] = refl
length_placed least (given ∷ more) = ap suc (length_placed (least + given.difference + 1) more)

pub all_below : (total : ℕ) (places : List ℕ) → list_all (λ place. ltb place total) places ≡ true → All (λ place. place < total) places
all_below total places all = (Decides-by_and (λ place. ltb place total) (λ place. place < total) (list_all (λ place. ltb place total)) (λ place. Decides-ltb place total) refl (λ place others. refl) places).0 all

pub are_below : (total : ℕ) (places : List ℕ) → All (λ place. place < total) places → list_all (λ place. ltb place total) places ≡ true
are_below total places all = (Decides-by_and (λ place. ltb place total) (λ place. place < total) (list_all (λ place. ltb place total)) (λ place. Decides-ltb place total) refl (λ place others. refl) places).1 all

-- Places that are led to rise, and lie in the block.
pub placed_rise : (form : ShortForm) → has_places form ≡ true → Rise 0 (total_of form) (places_of (placed_from 0 form.prefilled))
unfolding has_places
placed_rise form has =
    subst (Rise 0 (total_of form)) (sym (places_placed 0 form.prefilled))
    (sums_rise 0 (total_of form) (differences_of form.prefilled) (all_below (total_of form) (sums 0 (differences_of form.prefilled)) has))

-- They meet what placing asks for.
pub fits_placing : (form : ShortForm) (ids : List ℕ) (given : List Prefilled) → has_places form ≡ true → ids ≡ form.ids → given ≡ placed_from 0 form.prefilled → Rise 0 (length ids + length given) (places_of given)
fits_placing form ids given has same at =
    let all : total_of form ≡ length ids + length (placed_from 0 form.prefilled) = omega (arith, ap length same, length_placed 0 form.prefilled) in
    subst (λ list. Rise 0 (length ids + length list) (places_of list)) (sym at) (subst (λ n. Rise 0 n (places_of (placed_from 0 form.prefilled))) all (placed_rise form has))

pub some_placed : (form : ShortForm) (ids : List ℕ) (given : List Prefilled) → 1 ≤ length form.ids + length form.prefilled → ids ≡ form.ids → given ≡ placed_from 0 form.prefilled → 0 < length ids + length given
some_placed form ids given some same at = omega (arith, some, ap length same, ap length at, length_placed 0 form.prefilled)

-- ---- how many places there are

laid_most : (first : ℕ) (given : List Prefilled) (others : List (Option Tx)) → length (laid_out first given others) ≤ length others + length given
laid_most first [] others = omega arith
laid_most first (it ∷ more) others =
    let passed = it.place - first in
    let rest = laid_out (it.place + 1) more (drop passed others) in
    omega (arith, length-append (take passed others) (Some it.tx ∷ rest), length-take passed others, length-drop passed others, laid_most (it.place + 1) more (drop passed others))

pub slots_most : (form : ShortForm) (ids : List ℕ) (given : List Prefilled) (pairs : List Pair) → length form.ids + length form.prefilled ≤ 16666 → ids ≡ form.ids → given ≡ placed_from 0 form.prefilled → length (slots ids given pairs) ≤ 16666
slots_most form ids given pairs few same at =
    omega (arith, few, ap length same, ap length at, length_placed 0 form.prefilled, laid_most 0 given (map (choice pairs) ids), length-map ids (choice pairs))

rise_wider : (least total more : ℕ) (places : List ℕ) → total ≤ more → Rise least total places → Rise least more places
rise_wider least total more [] less rises = tt
rise_wider least total more (place ∷ places) less (low, below, rest) = (low, omega (arith, below, less), rise_wider (place + 1) total more places less rest)

pub missing_wider : (slots : List (Option Tx)) → length slots ≤ 16666 → Rise 0 18446744073709551616 (missing 0 slots)
missing_wider slots few = rise_wider 0 (length slots) 18446744073709551616 (missing 0 slots) (omega (arith, few)) (missing_rise 0 (length slots) slots (omega arith))

length_differences : (least : ℕ) (places : List ℕ) → length (differences least places) ≡ length places
length_differences least [] = refl
length_differences least (place ∷ places) = ap (λ n. suc n) (length_differences (place + 1) places)

pub missing_few : (slots : List (Option Tx)) → length slots ≤ 16666 → length (differences 0 (missing 0 slots)) ≤ 16666
missing_few slots few =
    let room = rise_room 0 (length slots) (missing 0 slots) (missing_rise 0 (length slots) slots (omega arith)) (omega arith) in
    omega (arith, few, room, length_differences 0 (missing 0 slots))
