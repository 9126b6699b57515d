-- Outputs and transactions, one more behind those that are written.
use Rattle.std.proofs.Common.{◌≡◌, ℕ, zero, suc, ◌+◌, ◌<◌, List, [], ◌∷◌, ◌++◌, length, take, get_or, refl, sym, ap, ◌∙◌, arith, append_assoc, append-nil}
use Rattle.std.proofs.lemmas.List.{length-take, take_more}
use Rattle.json.specs.Token.{Token}
use Rattle.cb_base.specs.declared.hash.Hash256.{Hash256}
use Rattle.cb_base.specs.DoubleHash.{double_hash}
use Rattle.cb_block.specs.declared.tx.Tx.{Tx}
use Rattle.cb_block.specs.declared.tx.TxOut.{TxOut}
use Rattle.cb_block.specs.TxText.{tx_text}
use Rattle.cb_block.specs.Blocks.{texts}
use Rattle.cb_block.specs.Soundness.{names}
use Rattle.cb_rpc.specs.Transactions.{output_tokens, outputs_from}

last_output : (n : ℕ) (outputs : List TxOut) (x : TxOut) → outputs_from n (outputs ++ x ∷ []) ≡ outputs_from n outputs ++ output_tokens (n + length outputs) x
last_output n [] x =
    let e : n ≡ n + 0 = omega arith in
    append-nil (output_tokens n x) ∙ ap (λ (k : ℕ). output_tokens k x) e
last_output n (y ∷ ys) x =
    let e : suc n + length ys ≡ n + suc (length ys) = omega arith in
    ap (λ (l : List Token). output_tokens n y ++ l) (last_output (suc n) ys x ∙ ap (λ (k : ℕ). outputs_from (suc n) ys ++ output_tokens k x) e)
    ∙ sym (append_assoc (output_tokens n y) (outputs_from (suc n) ys) (output_tokens (n + suc (length ys)) x))

-- one more output behind those so far
pub one_more_output : (outputs : List TxOut) (place : ℕ) (x : TxOut) (start before after : List Token) → place < length outputs → get_or outputs place x ≡ x → before ≡ start ++ outputs_from 0 (take place outputs)
    → after ≡ before ++ output_tokens place x → after ≡ start ++ outputs_from 0 (take (place + 1) outputs)
one_more_output outputs place x start before after there is so_far written =
    let more : take (place + 1) outputs ≡ take place outputs ++ x ∷ [] = take_more outputs place x there ∙ ap (λ (e : TxOut). take place outputs ++ e ∷ []) is in
    let count : 0 + length (take place outputs) ≡ place = omega (arith, length-take place outputs) in
    written ∙ ap (λ (l : List Token). l ++ output_tokens place x) so_far
    ∙ append_assoc start (outputs_from 0 (take place outputs)) (output_tokens place x)
    ∙ ap (λ (k : ℕ). start ++ (outputs_from 0 (take place outputs) ++ output_tokens k x)) (sym count)
    ∙ ap (λ (l : List Token). start ++ l) (sym (last_output 0 (take place outputs) x))
    ∙ ap (λ (l : List TxOut). start ++ outputs_from 0 l) (sym more)

-- as many txids as transactions
pub length-names : (txs : List Tx) → length (names (texts txs)) ≡ length txs
length-names [] = refl
length-names (tx ∷ txs) = ap suc (length-names txs)

-- the txid at the place of a transaction
name_at : (txs : List Tx) (place : ℕ) (tx : Tx) (other : Hash256) → place < length txs → get_or txs place tx ≡ tx → get_or (names (texts txs)) place other ≡ double_hash (tx_text tx)
name_at [] place tx other there is = absurd (omega arith)
name_at (first ∷ txs) zero tx other there is = ap (λ (t : Tx). double_hash (tx_text t)) is
name_at (first ∷ txs) (suc place) tx other there is = name_at txs place tx other (omega arith) is

pub txid_at : (txids : List Hash256) (txs : List Tx) (place : ℕ) (tx shared : Tx) (other : Hash256) → txids ≡ names (texts txs) → place < length txs → get_or txs place tx ≡ tx → shared ≡ tx
    → get_or txids place other ≡ double_hash (tx_text shared)
txid_at txids txs place tx shared other named there is same =
    ap (λ (l : List Hash256). get_or l place other) named ∙ name_at txs place tx other there is ∙ ap (λ (t : Tx). double_hash (tx_text t)) (sym same)
