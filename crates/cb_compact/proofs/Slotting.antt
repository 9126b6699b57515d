-- Slots that are laid out, and filled.
use Rattle.std.proofs.Common.{◌≡◌, ◌≢◌, ℕ, zero, suc, ◌+◌, ◌-◌, ◌<◌, ◌≤◌, List, [], ◌∷◌, ◌++◌, length, take, drop, get_or, map, Option, Some, None, true, false, refl, sym, ap, ◌∙◌, subst, arith, length-drop}
use Rattle.std.proofs.lemmas.List.{drop-map, length-map}
use Rattle.std.specs.Option.{is_some}
use Rattle.cb_base.specs.declared.fault.Fault.{Fault}
use Rattle.cb_base.specs.declared.fault.Fault.TheVariants.{Empty, Size64, Mutated, BadRoot}
use Rattle.cb_block.specs.declared.tx.Tx.{Tx}
use Rattle.cb_block.specs.TxText.{tx_text}
use Rattle.cb_block.specs.declared.block.Block.{Block}
use Rattle.cb_block.specs.Blocks.{IsSoundBlock, IsUnsound}
use Rattle.cb_compact.specs.Differences.{Rise}
use Rattle.cb_compact.specs.Forms.{places_of}
use Rattle.cb_compact.specs.Slots.{laid_out, missing}
use Rattle.cb_compact.specs.declared.form.Prefilled.{Prefilled}
use Rattle.cb_compact.proofs.Indexes.{from_here, rise_more}

pub get_or_of_map : {A B : Type 0} (f : A → B) (xs : List A) (i : ℕ) (d : A) (e : B) → i < length xs → get_or (map f xs) i e ≡ f (get_or xs i d)
get_or_of_map f [] i d e within = absurd (omega (arith, within))
get_or_of_map f (x ∷ xs) zero d e within = refl
get_or_of_map f (x ∷ xs) (suc i) d e within = get_or_of_map f xs i d e (omega (arith, within))

-- Rising places have room below the total.
pub rise_room : (first total : ℕ) (places : List ℕ) → Rise first total places → first ≤ total → first + length places ≤ total
rise_room first total [] rises room = omega (arith, room)
rise_room first total (place ∷ places) (low, below, rest) room = let more = rise_room (place + 1) total places rest (omega (arith, below)) in omega (arith, low, more)

-- One place more is missing where nothing stands there.
pub missing_here : (first : ℕ) (list : List (Option Tx)) (i : ℕ) (slot : Option Tx) → i < length list → slot ≡ get_or list i slot → missing first (drop i list) ≡ missing first (slot ∷ drop (i + 1) list)
missing_here first list i slot there is = ap (missing first) (from_here list i slot there ∙ ap (λ s. s ∷ drop (i + 1) list) (sym is))

pub missing_none : (first : ℕ) (slot : Option Tx) (others : List (Option Tx)) → is_some slot ≡ false → missing first (slot ∷ others) ≡ first ∷ missing (first + 1) others
missing_none first None others none = refl
missing_none first (Some tx) others none = absurd (let clash : true ≡ false = none in cc)

pub missing_some : (first : ℕ) (slot : Option Tx) (others : List (Option Tx)) → is_some slot ≡ true → missing first (slot ∷ others) ≡ missing (first + 1) others
missing_some first None others some = absurd (let clash : false ≡ true = some in cc)
missing_some first (Some tx) others some = refl

pub laid_at : (first : ℕ) (given : Prefilled) (more : List Prefilled) (others : List (Option Tx)) → given.place ≡ first → laid_out first (given ∷ more) others ≡ Some given.tx ∷ laid_out (first + 1) more others
laid_at first given more others is =
    let none : given.place - first ≡ 0 = omega (arith, is) in
    ap (λ n. take n others ++ Some given.tx ∷ laid_out (given.place + 1) more (drop n others)) none ∙ ap (λ n. Some given.tx ∷ laid_out (n + 1) more others) is

pub laid_kept : (first total : ℕ) (more : List Prefilled) (x : Option Tx) (xs : List (Option Tx)) → Rise (first + 1) total (places_of more) → laid_out first more (x ∷ xs) ≡ x ∷ laid_out (first + 1) more xs
laid_kept first total [] x xs rises = refl
laid_kept first total (given ∷ more) x xs (low, below, rest) =
    let next : given.place - first ≡ suc (given.place - (first + 1)) = omega (arith, low) in
    ap (λ n. take n (x ∷ xs) ++ Some given.tx ∷ laid_out (given.place + 1) more (drop n (x ∷ xs))) next

pub laid_none : (first : ℕ) (more : List Prefilled) (others : List (Option Tx)) → length others ≡ 0 → Rise first first (places_of more) → laid_out first more others ≡ []
laid_none first [] [] none rises = refl
laid_none first [] (x ∷ xs) none rises = absurd (let no : suc (length xs) ≡ 0 = none in omega (arith, no))
laid_none first (given ∷ more) others none (low, below, rest) = absurd (omega (arith, low, below))

-- One place more at which a transaction is there whole.
pub laid_passed : (total place passed : ℕ) (prefilled : List Prefilled) (others : List (Option Tx)) (d : Prefilled) → passed < length prefilled → passed ≤ place → get_or (places_of prefilled) passed 0 ≡ place → Rise place total (places_of (drop passed prefilled))
    → (laid_out place (drop passed prefilled) (drop (place - passed) others) ≡ Some (get_or prefilled passed d).tx ∷ laid_out (place + 1) (drop (passed + 1) prefilled) (drop (place + 1 - (passed + 1)) others)) × Rise (place + 1) total (places_of (drop (passed + 1) prefilled))
laid_passed total place passed prefilled others d some few is rises =
    let here = from_here prefilled passed d some in
    let given = get_or prefilled passed d in
    let at : given.place ≡ place = sym (get_or_of_map (λ it. it.place) prefilled passed d 0 some) ∙ is in
    let same : place - passed ≡ place + 1 - (passed + 1) = omega arith in
    let next = subst (λ list. Rise place total (places_of list)) here rises in (
      ap (λ list. laid_out place list (drop (place - passed) others)) here ∙ laid_at place given (drop (passed + 1) prefilled) (drop (place - passed) others) at
          ∙ ap (λ n. Some given.tx ∷ laid_out (place + 1) (drop (passed + 1) prefilled) (drop n others)) same,
      subst (λ n. Rise (n + 1) total (places_of (drop (passed + 1) prefilled))) at next.2,
    )

next_apart : (prefilled : List Prefilled) (passed place : ℕ) → (passed < length prefilled → get_or (places_of prefilled) passed 0 ≢ place) → 0 < length (places_of (drop passed prefilled)) → get_or (places_of (drop passed prefilled)) 0 0 ≢ place
next_apart prefilled passed place other some same =
    let counted : length (places_of (drop passed prefilled)) ≡ length prefilled - passed = length-map (drop passed prefilled) (λ it. it.place) ∙ length-drop passed prefilled in
    let within : passed < length prefilled = omega (arith, some, counted) in
    let inside : passed < length (places_of prefilled) = subst (λ n. passed < n) (sym (length-map prefilled (λ it. it.place))) within in
    let here = ap (λ list. get_or list 0 0) (sym (drop-map (λ it. it.place) passed prefilled) ∙ from_here (places_of prefilled) passed 0 inside) in
    other within (sym here ∙ same)

-- One place more at which none is: its other place lies within the others.
pub laid_unpassed : (total place passed : ℕ) (prefilled : List Prefilled) (others : List (Option Tx)) → total ≡ length others + length prefilled → place < total → passed ≤ length prefilled → passed ≤ place → (passed < length prefilled → get_or (places_of prefilled) passed 0 ≢ place) → Rise place total (places_of (drop passed prefilled))
    → (place - passed < length others) × Rise (place + 1) total (places_of (drop passed prefilled))
laid_unpassed total place passed prefilled others all within few less other rises =
    let later = rise_more place total (places_of (drop passed prefilled)) (next_apart prefilled passed place other) rises in
    let room = rise_room (place + 1) total (places_of (drop passed prefilled)) later (omega (arith, within)) in
    let counted : length (places_of (drop passed prefilled)) ≡ length prefilled - passed = length-map (drop passed prefilled) (λ it. it.place) ∙ length-drop passed prefilled in
    (omega (arith, room, counted, all, few, less), later)

pub laid_more : (total place passed : ℕ) (prefilled : List Prefilled) (others : List (Option Tx)) (d : Option Tx) → place - passed < length others → passed ≤ place → Rise (place + 1) total (places_of (drop passed prefilled))
    → laid_out place (drop passed prefilled) (drop (place - passed) others) ≡ get_or others (place - passed) d ∷ laid_out (place + 1) (drop passed prefilled) (drop (place + 1 - passed) others)
laid_more total place passed prefilled others d within less later =
    let same : place - passed + 1 ≡ place + 1 - passed = omega (arith, less) in
    ap (laid_out place (drop passed prefilled)) (from_here others (place - passed) d within)
    ∙ laid_kept place total (drop passed prefilled) (get_or others (place - passed) d) (drop (place - passed + 1) others) later
    ∙ ap (λ n. get_or others (place - passed) d ∷ laid_out (place + 1) (drop passed prefilled) (drop n others)) same

-- Behind the last place nothing is laid out.
pub laid_end : (total place passed : ℕ) (prefilled : List Prefilled) (others : List (Option Tx)) → total ≡ length others + length prefilled → place ≡ total → passed ≤ length prefilled → passed ≤ place → Rise place total (places_of (drop passed prefilled)) → laid_out place (drop passed prefilled) (drop (place - passed) others) ≡ []
laid_end total place passed prefilled others all last few less rises =
    let none : length (drop (place - passed) others) ≡ 0 = omega (arith, length-drop (place - passed) others, all, last, few) in
    laid_none place (drop passed prefilled) (drop (place - passed) others) none (subst (λ n. Rise place n (places_of (drop passed prefilled))) (sym last) rises)

-- How many places are missing doesn't depend on where they are counted from.
pub missing_anywhere : (m n : ℕ) (slots : List (Option Tx)) → length (missing m slots) ≡ length (missing n slots)
missing_anywhere m n [] = refl
missing_anywhere m n (None ∷ slots) = ap (λ k. suc k) (missing_anywhere (m + 1) (n + 1) slots)
missing_anywhere m n (Some tx ∷ slots) = missing_anywhere (m + 1) (n + 1) slots

-- A block for which there is a reason against it isn't sound.
pub not_sound : (block : Block) (fault : Fault) → IsUnsound block fault → ¬ IsSoundBlock block
not_sound block Empty none sound = let some = sound.some in absurd (omega (arith, some, none, length-map block.txs tx_text))
not_sound block Size64 (k, tx, within, is, long) sound =
    sound.no_size_64 k (tx_text tx) (subst (λ n. k < n) (sym (length-map block.txs tx_text)) within) (ap length (get_or_of_map tx_text block.txs k tx (tx_text tx) within ∙ ap tx_text is) ∙ long)
not_sound block Mutated (some, sizes, mutated) sound = sound.not_mutated mutated
not_sound block BadRoot (some, sizes, whole, other) sound = other sound.root_is
not_sound block other reason sound = absurd reason
