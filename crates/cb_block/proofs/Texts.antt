-- The texts and the names of a list of transactions.
use Rattle.std.proofs.Common.{◌≡◌, ℕ, ◌+◌, ◌<◌, List, [], ◌∷◌, ◌++◌, length, get_or, take, map, All, refl, sym, ap, subst, ◌∙◌, append_assoc, ◌≤◌, suc, arith}
use Rattle.std.specs.Prelude.{◌≢◌, Any}
use Rattle.std.specs.List.{AllByRecursion}
use Rattle.std.proofs.lemmas.List.Elements.{All-from_recursion, All-more, recursion_from_All}
use Rattle.std.proofs.lemmas.List.{map-append, take_more}
use Rattle.cb_base.specs.declared.hash.Hash256.{Hash256}
use Rattle.cb_base.specs.DoubleHash.{double_hash}
use Rattle.cb_block.specs.declared.tx.Tx.{Tx}
use Rattle.cb_block.specs.TxText.{tx_text, IsTx}
use Rattle.cb_block.proofs.TxLaws.{one_text}
use Rattle.cb_block.specs.Soundness.{names, IsSound, AreApart}
use Rattle.cb_block.specs.Blocks.{texts}
use Rattle.cb_block.proofs.Only.{only_one}

pub names_more : (txs : List Tx) (i : ℕ) (tx : Tx) (txids : List Hash256) (txid : Hash256) → i < length txs → tx ≡ get_or txs i tx → txids ≡ names (map tx_text (take i txs))
    → txid ≡ double_hash (tx_text tx) → txids ++ txid ∷ [] ≡ names (map tx_text (take (i + 1) txs))
names_more txs i tx txids txid lt is so_far named =
    let more : take (i + 1) txs ≡ take i txs ++ tx ∷ [] = take_more txs i tx lt ∙ ap (λ (x : Tx). take i txs ++ x ∷ []) (sym is) in
    let mapped : names (map tx_text (take i txs ++ tx ∷ [])) ≡ names (map tx_text (take i txs)) ++ double_hash (tx_text tx) ∷ [] =
    ap names (map-append tx_text (take i txs) (tx ∷ [])) ∙ map-append double_hash (map tx_text (take i txs)) (tx_text tx ∷ []) in
    ap (λ (x : List Hash256). x ++ txid ∷ []) so_far
    ∙ ap (λ (x : Hash256). names (map tx_text (take i txs)) ++ x ∷ []) named
    ∙ sym mapped
    ∙ ap (λ (x : List Tx). names (map tx_text x)) (sym more)

-- four transactions more
pub names_four : (txs : List Tx) (n m : ℕ) (a b c d : Tx) (txids hashes : List Hash256) → m ≡ n + 4 → n + 4 ≤ length txs
    → a ≡ get_or txs n a → b ≡ get_or txs (n + 1) b → c ≡ get_or txs (n + 2) c → d ≡ get_or txs (n + 3) d → txids ≡ names (map tx_text (take n txs))
    → hashes ≡ double_hash (tx_text a) ∷ double_hash (tx_text b) ∷ double_hash (tx_text c) ∷ double_hash (tx_text d) ∷ [] → txids ++ hashes ≡ names (map tx_text (take m txs))
names_four txs n m a b c d txids hashes four le ea eb ec ed so_far are =
    let two : n + 1 + 1 ≡ n + 2 = omega arith in
    let three : n + 2 + 1 ≡ n + 3 = omega arith in
    let all : n + 3 + 1 ≡ m = omega arith in
    let ha : Hash256 = double_hash (tx_text a) in
    let hb : Hash256 = double_hash (tx_text b) in
    let hc : Hash256 = double_hash (tx_text c) in
    let hd : Hash256 = double_hash (tx_text d) in
    let first : txids ++ ha ∷ [] ≡ names (map tx_text (take (n + 1) txs)) = names_more txs n a txids ha (omega arith) ea so_far refl in
    let second : (txids ++ ha ∷ []) ++ hb ∷ [] ≡ names (map tx_text (take (n + 2) txs)) = names_more txs (n + 1) b (txids ++ ha ∷ []) hb (omega arith) eb first refl ∙ ap (λ (i : ℕ). names (map tx_text (take i txs))) two in
    let third : ((txids ++ ha ∷ []) ++ hb ∷ []) ++ hc ∷ [] ≡ names (map tx_text (take (n + 3) txs)) = names_more txs (n + 2) c ((txids ++ ha ∷ []) ++ hb ∷ []) hc (omega arith) ec second refl ∙ ap (λ (i : ℕ). names (map tx_text (take i txs))) three in
    let last : (((txids ++ ha ∷ []) ++ hb ∷ []) ++ hc ∷ []) ++ hd ∷ [] ≡ names (map tx_text (take m txs)) = names_more txs (n + 3) d (((txids ++ ha ∷ []) ++ hb ∷ []) ++ hc ∷ []) hd (omega arith) ed third refl ∙ ap (λ (i : ℕ). names (map tx_text (take i txs))) all in
    ap (λ (x : List Hash256). txids ++ x) are
    ∙ sym (append_assoc txids (ha ∷ []) (hb ∷ hc ∷ hd ∷ []))
    ∙ sym (append_assoc (txids ++ ha ∷ []) (hb ∷ []) (hc ∷ hd ∷ []))
    ∙ sym (append_assoc ((txids ++ ha ∷ []) ++ hb ∷ []) (hc ∷ []) (hd ∷ []))
    ∙ last

one_fits : (txs : List Tx) (n m : ℕ) (a : Tx) → m ≡ n + 1 → n < length txs → a ≡ get_or txs n a → IsTx a → All IsTx (take n txs) → All IsTx (take m txs)
one_fits txs n m a more lt is fits so_far = rw more (All-more IsTx txs n a lt so_far (subst IsTx is fits))

pub four_fit : (txs : List Tx) (n m : ℕ) (a b c d : Tx) → m ≡ n + 4 → n + 4 ≤ length txs
    → a ≡ get_or txs n a → b ≡ get_or txs (n + 1) b → c ≡ get_or txs (n + 2) c → d ≡ get_or txs (n + 3) d → IsTx a → IsTx b → IsTx c → IsTx d
    → All IsTx (take n txs) → All IsTx (take m txs)
four_fit txs n m a b c d four le ea eb ec ed fa fb fc fd so_far =
    one_fits txs (n + 3) m d (omega arith) (omega arith) ed fd
    (one_fits txs (n + 2) (n + 3) c (omega arith) (omega arith) ec fc
    (one_fits txs (n + 1) (n + 2) b (omega arith) (omega arith) eb fb
    (one_fits txs n (n + 1) a refl (omega arith) ea fa so_far)))

-- transactions with the same texts are the same
pub texts_tell : (xs ys : List Tx) → AllByRecursion IsTx xs → AllByRecursion IsTx ys → map tx_text xs ≡ map tx_text ys → xs ≡ ys
texts_tell [] [] hx hy e = refl
texts_tell [] (y ∷ ys) hx hy e = absurd cc
texts_tell (x ∷ xs) [] hx hy e = absurd cc
texts_tell (x ∷ xs) (y ∷ ys) hx hy e =
    let first : tx_text x ≡ tx_text y = cc in
    let others : map tx_text xs ≡ map tx_text ys = cc in
    let same = (one_text x y [] [] hx.0 hy.0 (ap (λ (t : List ℕ). t ++ []) first)).0 in
    ap (λ (z : Tx). z ∷ xs) same ∙ ap (λ (zs : List Tx). y ∷ zs) (texts_tell xs ys hx.1 hy.1 others)

-- a block's transactions are the only ones under its root
pub only_txs : (root : Hash256) (txs : List Tx) → IsSound root (texts txs) → All IsTx txs → (others : List Tx) → All IsTx others → IsSound root (texts others) → AreApart (texts txs) (texts others) → others ≡ txs
only_txs root txs sound fits others fits' sound' apart =
    texts_tell others txs (recursion_from_All IsTx others fits') (recursion_from_All IsTx txs fits) (only_one root (texts txs) sound (texts others) sound' apart)

-- no text has 64 bytes, where none of the transactions has
pub none_of_64 : (txs : List Tx) → (Any (λ tx. length (tx_text tx) ≡ 64) txs → ⊥) → All (λ tx. length (tx_text tx) ≢ 64) txs
none_of_64 txs none = All-from_recursion (λ tx. length (tx_text tx) ≢ 64) txs (none_by txs none) where
  none_by : (xs : List Tx) → (Any (λ tx. length (tx_text tx) ≡ 64) xs → ⊥) → AllByRecursion (λ tx. length (tx_text tx) ≢ 64) xs
  none_by [] n = tt
  none_by (x ∷ xs) n = (λ e. n (0, x, omega arith, refl, e), none_by xs (λ a. n (suc a.0, a.1, omega (arith, a.2), a.3, a.4)))
