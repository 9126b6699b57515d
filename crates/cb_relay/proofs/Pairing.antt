-- Transactions that are looked for one by one, by the txids that are told of them.
use Rattle.std.proofs.Common.{◌≡◌, ◌∙◌, ℕ, zero, suc, ◌<◌, Bool, true, false, cond, List, [], ◌∷◌, ◌++◌, length, drop, get_or, refl, sym, ap, append_assoc, arith}
use Rattle.std.specs.Prelude.{filter}
use Rattle.cb_base.specs.declared.hash.Hash256.{Hash256}
use Rattle.cb_compact.specs.ShortIds.{short_id_of}
use Rattle.cb_compact.specs.declared.named_tx.Pair.{Pair}
use Rattle.cb_relay.specs.Known.{told_pairs}
use Rattle.cb_block.specs.declared.tx.Tx.{Tx}

abbrev pub pair_at : ℕ → Tx → Pair
pair_at id tx = record { id = id; tx = tx }

-- the next of them
told_drop : (key : ℕ × ℕ) (txids : List Hash256) (txs : List Tx) (i : ℕ) (d : Hash256) (t : Tx) → i < length txids → i < length txs
    → told_pairs key (drop i txids) (drop i txs) ≡ pair_at (short_id_of key (get_or txids i d)) (get_or txs i t) ∷ told_pairs key (drop (suc i) txids) (drop (suc i) txs)
told_drop key [] txs i d t at there = absurd (omega arith)
told_drop key (x ∷ txids) [] i d t at there = absurd (omega arith)
told_drop key (x ∷ txids) (y ∷ txs) zero d t at there = refl
told_drop key (x ∷ txids) (y ∷ txs) (suc i) d t at there = told_drop key txids txs i d t (omega arith) (omega arith)

-- it is taken
pub told_taken : (key : ℕ × ℕ) (wanted : ℕ → Bool) (txids : List Hash256) (txs : List Tx) (i j : ℕ) (d : Hash256) (t : Tx) (id : ℕ) (tx : Tx) (list all : List Pair) → j ≡ suc i
    → i < length txids → i < length txs → id ≡ short_id_of key (get_or txids i d) → tx ≡ get_or txs i t → wanted id ≡ true
    → list ++ filter (λ pair. wanted pair.id) (told_pairs key (drop i txids) (drop i txs)) ≡ all
    → (list ++ pair_at id tx ∷ []) ++ filter (λ pair. wanted pair.id) (told_pairs key (drop j txids) (drop j txs)) ≡ all
told_taken key wanted txids txs i j d t id tx list all next at there same it is before =
    let rest = filter (λ (pair : Pair). wanted pair.id) (told_pairs key (drop (suc i) txids) (drop (suc i) txs)) in
    let one : pair_at id tx ≡ pair_at (short_id_of key (get_or txids i d)) (get_or txs i t) = ap (λ (n : ℕ). pair_at n tx) same ∙ ap (pair_at (short_id_of key (get_or txids i d))) it in
    ap (λ (n : ℕ). (list ++ pair_at id tx ∷ []) ++ filter (λ (pair : Pair). wanted pair.id) (told_pairs key (drop n txids) (drop n txs))) next
    ∙ append_assoc list (pair_at id tx ∷ []) rest
    ∙ ap (λ (yes : Bool). list ++ cond yes (pair_at id tx ∷ rest) rest) (sym is)
    ∙ ap (λ (p : Pair). list ++ filter (λ (pair : Pair). wanted pair.id) (p ∷ told_pairs key (drop (suc i) txids) (drop (suc i) txs))) one
    ∙ ap (λ (it : List Pair). list ++ filter (λ (pair : Pair). wanted pair.id) it) (sym (told_drop key txids txs i d t at there))
    ∙ before

-- or passed over
pub told_passed : (key : ℕ × ℕ) (wanted : ℕ → Bool) (txids : List Hash256) (txs : List Tx) (i j : ℕ) (d : Hash256) (id : ℕ) (list all : List Pair) → j ≡ suc i
    → i < length txids → i < length txs → id ≡ short_id_of key (get_or txids i d) → wanted id ≡ false
    → list ++ filter (λ pair. wanted pair.id) (told_pairs key (drop i txids) (drop i txs)) ≡ all
    → list ++ filter (λ pair. wanted pair.id) (told_pairs key (drop j txids) (drop j txs)) ≡ all
told_passed key wanted txids [] i j d id list all next at there same isnt before = absurd (omega arith)
told_passed key wanted txids (t ∷ others) i j d id list all next at there same isnt before =
    let txs = t ∷ others in
    let rest = filter (λ (pair : Pair). wanted pair.id) (told_pairs key (drop (suc i) txids) (drop (suc i) txs)) in
    let tx = get_or txs i t in
    ap (λ (n : ℕ). list ++ filter (λ (pair : Pair). wanted pair.id) (told_pairs key (drop n txids) (drop n txs))) next
    ∙ ap (λ (yes : Bool). list ++ cond yes (pair_at id tx ∷ rest) rest) (sym isnt)
    ∙ ap (λ (n : ℕ). list ++ filter (λ (pair : Pair). wanted pair.id) (pair_at n tx ∷ told_pairs key (drop (suc i) txids) (drop (suc i) txs))) same
    ∙ ap (λ (it : List Pair). list ++ filter (λ (pair : Pair). wanted pair.id) it) (sym (told_drop key txids txs i d t at there))
    ∙ before
