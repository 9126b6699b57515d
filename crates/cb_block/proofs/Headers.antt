-- The laws of a header's and a block's text: what is read was written so, and what was written is read again.
use Rattle.std.proofs.Common.{◌≡◌, ℕ, ◌^◌, ◌⊎◌, List, ◌++◌, Result, Ok, Err, refl, sym, ap, subst, ◌∙◌, append_assoc, inl, inr}
use Rattle.std.specs.Prelude.{IfOk}
use Rattle.std.specs.Int.{w32, to_le_bytes, cast_unsigned}
use Rattle.std.proofs.lemmas.List.Elements.{All-from_recursion, recursion_from_All}
use Rattle.cb_base.specs.declared.fault.Fault.{Fault}
use Rattle.cb_base.specs.declared.fault.Fault.TheVariants.{Memory}
use Rattle.cb_base.specs.Reading.{Reads, ReadsInMemory, ◌>>=◌, number_at, signed_at}
use Rattle.cb_base.proofs.Fields.{AreBytes, bind_ok, ok_is, Takes, Takes-then, wide32, number_takes, number_again}
use Rattle.cb_block.specs.declared.tx.Tx.{Tx}
use Rattle.cb_block.specs.TxText.{tx_text, list_text, IsTx}
use Rattle.cb_block.specs.TxReading.{hash_at, list_at, tx_at}
use Rattle.cb_block.proofs.Parts.{signed32, signed_takes, signed_again, hash_takes, hash_again, list_takes, list_again}
use Rattle.cb_block.proofs.TxLaws.{tx_kind}
use Rattle.cb_block.specs.declared.header.Header.{Header}
use Rattle.cb_block.specs.declared.block.Block.{Block}
use Rattle.cb_block.specs.BlockText.{header_text, block_text, IsHeader, IsBlock}
use Rattle.cb_block.specs.BlockReading.{header_at, block_at}

header_spells : (bytes : List ℕ) (x : Header) (rest : List ℕ) → AreBytes bytes → header_at bytes ≡ Ok (x, rest) → Takes bytes (header_text x) rest × IsHeader x
unfolding header_at header_text
header_spells bytes x rest are h =
    let a = bind_ok (signed_at w32 bytes) (λ version. hash_at version.1 >>= λ prev. hash_at prev.1 >>= λ root. number_at w32 root.1 >>= λ time. number_at w32 time.1 >>= λ bits. number_at w32 bits.1 >>= λ nonce. Ok (record { version = version.0; prev = prev.0; root = root.0; time = time.0; bits = bits.0; nonce = nonce.0 }, nonce.1)) (x, rest) h in
    let b = bind_ok (hash_at a.0.1) (λ prev. hash_at prev.1 >>= λ root. number_at w32 root.1 >>= λ time. number_at w32 time.1 >>= λ bits. number_at w32 bits.1 >>= λ nonce. Ok (record { version = a.0.0; prev = prev.0; root = root.0; time = time.0; bits = bits.0; nonce = nonce.0 }, nonce.1)) (x, rest) a.2 in
    let c = bind_ok (hash_at b.0.1) (λ root. number_at w32 root.1 >>= λ time. number_at w32 time.1 >>= λ bits. number_at w32 bits.1 >>= λ nonce. Ok (record { version = a.0.0; prev = b.0.0; root = root.0; time = time.0; bits = bits.0; nonce = nonce.0 }, nonce.1)) (x, rest) b.2 in
    let d = bind_ok (number_at w32 c.0.1) (λ time. number_at w32 time.1 >>= λ bits. number_at w32 bits.1 >>= λ nonce. Ok (record { version = a.0.0; prev = b.0.0; root = c.0.0; time = time.0; bits = bits.0; nonce = nonce.0 }, nonce.1)) (x, rest) c.2 in
    let e = bind_ok (number_at w32 d.0.1) (λ bits. number_at w32 bits.1 >>= λ nonce. Ok (record { version = a.0.0; prev = b.0.0; root = c.0.0; time = d.0.0; bits = bits.0; nonce = nonce.0 }, nonce.1)) (x, rest) d.2 in
    let f = bind_ok (number_at w32 e.0.1) (λ nonce. Ok (record { version = a.0.0; prev = b.0.0; root = c.0.0; time = d.0.0; bits = e.0.0; nonce = nonce.0 }, nonce.1)) (x, rest) e.2 in
    let ta = signed_takes w32 (2 ^ 32) signed32 bytes a.0.0 a.0.1 are a.1 in
    let tb = hash_takes a.0.1 b.0.0 b.0.1 ta.0.rest_bytes b.1 in
    let tc = hash_takes b.0.1 c.0.0 c.0.1 tb.0.rest_bytes c.1 in
    let td = number_takes w32 (2 ^ 32) wide32 c.0.1 d.0.0 d.0.1 tc.0.rest_bytes d.1 in
    let te = number_takes w32 (2 ^ 32) wide32 d.0.1 e.0.0 e.0.1 td.0.rest_bytes e.1 in
    let tf = number_takes w32 (2 ^ 32) wide32 e.0.1 f.0.0 f.0.1 te.0.rest_bytes f.1 in
    let ef = Takes-then d.0.1 (to_le_bytes w32 e.0.0) e.0.1 (to_le_bytes w32 f.0.0) f.0.1 te.0 tf.0 in
    let df = Takes-then c.0.1 (to_le_bytes w32 d.0.0) d.0.1 (to_le_bytes w32 e.0.0 ++ to_le_bytes w32 f.0.0) f.0.1 td.0 ef in
    let cf = Takes-then b.0.1 c.0.0.0 c.0.1 (to_le_bytes w32 d.0.0 ++ (to_le_bytes w32 e.0.0 ++ to_le_bytes w32 f.0.0)) f.0.1 tc.0 df in
    let bf = Takes-then a.0.1 b.0.0.0 b.0.1 (c.0.0.0 ++ (to_le_bytes w32 d.0.0 ++ (to_le_bytes w32 e.0.0 ++ to_le_bytes w32 f.0.0))) f.0.1 tb.0 cf in
    let af = Takes-then bytes (to_le_bytes w32 (cast_unsigned w32 a.0.0)) a.0.1 (b.0.0.0 ++ (c.0.0.0 ++ (to_le_bytes w32 d.0.0 ++ (to_le_bytes w32 e.0.0 ++ to_le_bytes w32 f.0.0)))) f.0.1 ta.0 bf in
    let made : Header × List ℕ = (record { version = a.0.0; prev = b.0.0; root = c.0.0; time = d.0.0; bits = e.0.0; nonce = f.0.0 }, f.0.1) in
    let is : IsHeader made.0 = record { version = ta.1; prev = tb.1; root = tc.1; time = td.1; bits = te.1; nonce = tf.1 } in
    subst (λ (y : Header × List ℕ). Takes bytes (header_text y.0) y.1 × IsHeader y.0) (ok_is made (x, rest) f.2) (af, is)

pub header_again : (x : Header) (rest : List ℕ) → IsHeader x → header_at (header_text x ++ rest) ≡ Ok (x, rest)
unfolding header_at header_text
header_again x rest is =
    let nonce = to_le_bytes w32 x.nonce ++ rest in
    let bits = to_le_bytes w32 x.bits ++ nonce in
    let time = to_le_bytes w32 x.time ++ bits in
    let regrouped : header_text x ++ rest ≡ to_le_bytes w32 (cast_unsigned w32 x.version) ++ (x.prev.0 ++ (x.root.0 ++ time)) =
    append_assoc (to_le_bytes w32 (cast_unsigned w32 x.version)) (x.prev.0 ++ (x.root.0 ++ (to_le_bytes w32 x.time ++ (to_le_bytes w32 x.bits ++ to_le_bytes w32 x.nonce)))) rest
    ∙ ap (λ (y : List ℕ). to_le_bytes w32 (cast_unsigned w32 x.version) ++ y) (append_assoc x.prev.0 (x.root.0 ++ (to_le_bytes w32 x.time ++ (to_le_bytes w32 x.bits ++ to_le_bytes w32 x.nonce))) rest
    ∙ ap (λ (y : List ℕ). x.prev.0 ++ y) (append_assoc x.root.0 (to_le_bytes w32 x.time ++ (to_le_bytes w32 x.bits ++ to_le_bytes w32 x.nonce)) rest)) in
    ap header_at regrouped
    ∙ rw (signed_again w32 (2 ^ 32) signed32 x.version (x.prev.0 ++ (x.root.0 ++ time)) is.version, hash_again x.prev (x.root.0 ++ time) is.prev, hash_again x.root time is.root, number_again w32 (2 ^ 32) wide32 x.time bits is.time, number_again w32 (2 ^ 32) wide32 x.bits nonce is.bits, number_again w32 (2 ^ 32) wide32 x.nonce rest is.nonce) refl

-- what follows for a call that had old, answered r and has new
pub record HeaderLaws (old : List ℕ) (r : Result Header Fault) (new : List ℕ) : Type 0 where
  pub found : IfOk r (λ header. IsHeader header × (old ≡ header_text header ++ new))
  pub only : (header : Header) (rest : List ℕ) → IsHeader header → old ≡ header_text header ++ rest → (r ≡ Ok header) × (new ≡ rest)

header_laws : (old : List ℕ) (r : Result Header Fault) (new : List ℕ) → AreBytes old → Reads (header_at old) old r new → HeaderLaws old r new
header_laws old (Ok x) new are h =
    let s = header_spells old x new are h in
    record {
      found = (s.1, s.0.parts);
      only = λ header rest is e.
          let same : (x, new) ≡ (header, rest) = ok_is (x, new) (header, rest) (sym h ∙ ap header_at e ∙ header_again header rest is) in
          (ap (λ (p : Header × List ℕ). Ok p.0) same, ap (λ (p : Header × List ℕ). p.1) same);
    }
header_laws old (Err fault) new are h = record {
  found = tt;
  only = λ header rest is e. absurd (let f = sym h.0 ∙ ap header_at e ∙ header_again header rest is in cc);
}

pub header_laws_at : (inner old : List ℕ) (r : Result Header Fault) (new : List ℕ) → inner ≡ old → AreBytes inner → Reads (header_at old) old r new → HeaderLaws old r new
header_laws_at inner old r new e are h = header_laws old r new (subst AreBytes e are) h

-- ---- blocks

pub block_spells : (bytes : List ℕ) (x : Block) (rest : List ℕ) → AreBytes bytes → block_at bytes ≡ Ok (x, rest) → Takes bytes (block_text x) rest × IsBlock x
unfolding block_at block_text
block_spells bytes x rest are h =
    let a = bind_ok (header_at bytes) (λ header. list_at 10 tx_at header.1 >>= λ txs. Ok (record { header = header.0; txs = txs.0 }, txs.1)) (x, rest) h in
    let b = bind_ok (list_at 10 tx_at a.0.1) (λ txs. Ok (record { header = a.0.0; txs = txs.0 }, txs.1)) (x, rest) a.2 in
    let ta = header_spells bytes a.0.0 a.0.1 are a.1 in
    let tb = list_takes Tx tx_text tx_at IsTx 10 tx_kind a.0.1 b.0.0 b.0.1 ta.0.rest_bytes b.1 in
    let both = Takes-then bytes (header_text a.0.0) a.0.1 (list_text tx_text b.0.0) b.0.1 ta.0 tb.0 in
    let made : Block × List ℕ = (record { header = a.0.0; txs = b.0.0 }, b.0.1) in
    let is : IsBlock made.0 = record { header = ta.1; few = tb.1; txs = All-from_recursion IsTx b.0.0 tb.2 } in
    subst (λ (y : Block × List ℕ). Takes bytes (block_text y.0) y.1 × IsBlock y.0) (ok_is made (x, rest) b.2) (both, is)

pub block_again : (x : Block) (rest : List ℕ) → IsBlock x → block_at (block_text x ++ rest) ≡ Ok (x, rest)
unfolding block_at block_text
block_again x rest is =
    ap block_at (append_assoc (header_text x.header) (list_text tx_text x.txs) rest)
    ∙ rw (header_again x.header (list_text tx_text x.txs ++ rest) is.header, list_again Tx tx_text tx_at IsTx 10 tx_kind x.txs rest is.few (recursion_from_All IsTx x.txs is.txs)) refl

pub record BlockLaws (old : List ℕ) (r : Result Block Fault) (new : List ℕ) : Type 0 where
  pub found : IfOk r (λ block. IsBlock block × (old ≡ block_text block ++ new))
  pub only : (block : Block) (rest : List ℕ) → IsBlock block → old ≡ block_text block ++ rest → (r ≡ Err Memory) ⊎ ((r ≡ Ok block) × (new ≡ rest))

block_laws : (old : List ℕ) (r : Result Block Fault) (new : List ℕ) → AreBytes old → ReadsInMemory (block_at old) old r new → BlockLaws old r new
block_laws old (Ok x) new are h =
    let s = block_spells old x new are h in
    record {
      found = (s.1, s.0.parts);
      only = λ block rest is e.
          let same : (x, new) ≡ (block, rest) = ok_is (x, new) (block, rest) (sym h ∙ ap block_at e ∙ block_again block rest is) in
          inr (ap (λ (p : Block × List ℕ). Ok p.0) same, ap (λ (p : Block × List ℕ). p.1) same);
    }
block_laws old (Err fault) new are h = record {
  found = tt;
  only = λ block rest is e.
      elim h.0 [
        | inl memory ↦ inl (ap Err memory)
        | inr fails ↦ absurd (let f = sym fails ∙ ap block_at e ∙ block_again block rest is in cc)
      ];
}

pub block_laws_at : (inner old : List ℕ) (r : Result Block Fault) (new : List ℕ) → inner ≡ old → AreBytes inner → ReadsInMemory (block_at old) old r new → BlockLaws old r new
block_laws_at inner old r new e are h = block_laws old r new (subst AreBytes e are) h

-- one block has one text, and no text begins another
pub one_block_text : (a b : Block) (x y : List ℕ) → IsBlock a → IsBlock b → block_text a ++ x ≡ block_text b ++ y → (a ≡ b) × (x ≡ y)
one_block_text a b x y is_a is_b e =
    let same : (a, x) ≡ (b, y) = ok_is (a, x) (b, y) (sym (block_again a x is_a) ∙ ap block_at e ∙ block_again b y is_b) in
    (ap (λ (p : Block × List ℕ). p.0) same, ap (λ (p : Block × List ℕ). p.1) same)
