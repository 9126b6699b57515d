-- The laws of a transaction's text: what is read was written so, and what was written is read again.
use Rattle.std.proofs.Common.{◌≡◌, ℕ, ◌^◌, ◌≤◌, ◌⊎◌, List, ◌++◌, length, Result, Ok, Err, refl, sym, ap, subst, ◌∙◌, append_assoc, arith, inl, inr}
use Rattle.std.specs.Prelude.{IfOk}
use Rattle.std.specs.List.{flat_map}
use Rattle.std.specs.Int.{w32, w64, to_le_bytes, cast_unsigned}
use Rattle.std.proofs.lemmas.List.{length-append}
use Rattle.std.proofs.lemmas.List.Elements.{All-from_recursion, recursion_from_All}
use Rattle.cb_base.specs.declared.fault.Fault.{Fault}
use Rattle.cb_base.specs.declared.fault.Fault.TheVariants.{Memory}
use Rattle.cb_base.specs.CompactSize.{compact_text}
use Rattle.cb_base.specs.Reading.{ReadsInMemory, ◌>>=◌, number_at, signed_at}
use Rattle.cb_base.proofs.Fields.{AreBytes, bind_ok, ok_is, Takes, Takes-then, wide32, number_takes, number_again}
use Rattle.cb_base.proofs.Compact.{compact_long}
use Rattle.cb_block.specs.declared.tx.TxIn.{TxIn}
use Rattle.cb_block.specs.declared.tx.TxOut.{TxOut}
use Rattle.cb_block.specs.declared.tx.Tx.{Tx}
use Rattle.cb_block.specs.TxText.{script_text, input_text, output_text, list_text, tx_text, IsInput, IsOutput, IsTx}
use Rattle.cb_block.specs.TxReading.{hash_at, script_at, input_at, output_at, list_at, tx_at}
use Rattle.cb_block.proofs.Parts.{signed32, signed64, signed_takes, signed_again, hash_takes, hash_again, script_takes, script_again, IsKind, list_takes, list_again}

-- ---- inputs

input_takes : (bytes : List ℕ) (x : TxIn) (rest : List ℕ) → AreBytes bytes → input_at bytes ≡ Ok (x, rest) → Takes bytes (input_text x) rest × IsInput x
unfolding input_at input_text
input_takes bytes x rest are e =
    let a = bind_ok (hash_at bytes) (λ txid. number_at w32 txid.1 >>= λ index. script_at index.1 >>= λ script. number_at w32 script.1 >>= λ sequence. Ok (record { prev = record { txid = txid.0; index = index.0 }; script = script.0; sequence = sequence.0 }, sequence.1)) (x, rest) e in
    let b = bind_ok (number_at w32 a.0.1) (λ index. script_at index.1 >>= λ script. number_at w32 script.1 >>= λ sequence. Ok (record { prev = record { txid = a.0.0; index = index.0 }; script = script.0; sequence = sequence.0 }, sequence.1)) (x, rest) a.2 in
    let c = bind_ok (script_at b.0.1) (λ script. number_at w32 script.1 >>= λ sequence. Ok (record { prev = record { txid = a.0.0; index = b.0.0 }; script = script.0; sequence = sequence.0 }, sequence.1)) (x, rest) b.2 in
    let d = bind_ok (number_at w32 c.0.1) (λ sequence. Ok (record { prev = record { txid = a.0.0; index = b.0.0 }; script = c.0.0; sequence = sequence.0 }, sequence.1)) (x, rest) c.2 in
    let t = hash_takes bytes a.0.0 a.0.1 are a.1 in
    let u = number_takes w32 (2 ^ 32) wide32 a.0.1 b.0.0 b.0.1 t.0.rest_bytes b.1 in
    let v = script_takes b.0.1 c.0.0 c.0.1 u.0.rest_bytes c.1 in
    let w = number_takes w32 (2 ^ 32) wide32 c.0.1 d.0.0 d.0.1 v.0.rest_bytes d.1 in
    let vw = Takes-then b.0.1 (script_text c.0.0) c.0.1 (to_le_bytes w32 d.0.0) d.0.1 v.0 w.0 in
    let uw = Takes-then a.0.1 (to_le_bytes w32 b.0.0) b.0.1 (script_text c.0.0 ++ to_le_bytes w32 d.0.0) d.0.1 u.0 vw in
    let tw = Takes-then bytes a.0.0.0 a.0.1 (to_le_bytes w32 b.0.0 ++ (script_text c.0.0 ++ to_le_bytes w32 d.0.0)) d.0.1 t.0 uw in
    let made : TxIn × List ℕ = (record { prev = record { txid = a.0.0; index = b.0.0 }; script = c.0.0; sequence = d.0.0 }, d.0.1) in
    let is : IsInput made.0 = record { txid = t.1; index = u.1; script = v.1; sequence = w.1 } in
    subst (λ (y : TxIn × List ℕ). Takes bytes (input_text y.0) y.1 × IsInput y.0) (ok_is made (x, rest) d.2) (tw, is)

input_again : (x : TxIn) (rest : List ℕ) → IsInput x → input_at (input_text x ++ rest) ≡ Ok (x, rest)
unfolding input_at input_text
input_again x rest is =
    let regrouped : input_text x ++ rest ≡ x.prev.txid.0 ++ (to_le_bytes w32 x.prev.index ++ (script_text x.script ++ (to_le_bytes w32 x.sequence ++ rest))) =
    append_assoc x.prev.txid.0 (to_le_bytes w32 x.prev.index ++ (script_text x.script ++ to_le_bytes w32 x.sequence)) rest
    ∙ ap (λ (y : List ℕ). x.prev.txid.0 ++ (to_le_bytes w32 x.prev.index ++ y)) (append_assoc (script_text x.script) (to_le_bytes w32 x.sequence) rest) in
    ap input_at regrouped
    ∙ rw (hash_again x.prev.txid (to_le_bytes w32 x.prev.index ++ (script_text x.script ++ (to_le_bytes w32 x.sequence ++ rest))) is.txid, number_again w32 (2 ^ 32) wide32 x.prev.index (script_text x.script ++ (to_le_bytes w32 x.sequence ++ rest)) is.index, script_again x.script (to_le_bytes w32 x.sequence ++ rest) is.script, number_again w32 (2 ^ 32) wide32 x.sequence rest is.sequence) refl

script_long : (s : List ℕ) → 1 ≤ length (script_text s)
unfolding script_text
script_long s = omega (arith, length-append (compact_text (length s)) s, compact_long (length s))

input_long : (x : TxIn) → IsInput x → 41 ≤ length (input_text x)
unfolding input_text
input_long x is =
    omega (arith, is.txid, script_long x.script, length-append x.prev.txid.0 (to_le_bytes w32 x.prev.index ++ (script_text x.script ++ to_le_bytes w32 x.sequence)), length-append (script_text x.script) (to_le_bytes w32 x.sequence))

pub input_kind : IsKind TxIn input_text input_at IsInput 41
input_kind = record { takes = input_takes; again = input_again; long = input_long }

-- ---- outputs

output_takes : (bytes : List ℕ) (x : TxOut) (rest : List ℕ) → AreBytes bytes → output_at bytes ≡ Ok (x, rest) → Takes bytes (output_text x) rest × IsOutput x
unfolding output_at output_text
output_takes bytes x rest are e =
    let a = bind_ok (signed_at w64 bytes) (λ value. script_at value.1 >>= λ script. Ok (record { value = value.0; script = script.0 }, script.1)) (x, rest) e in
    let b = bind_ok (script_at a.0.1) (λ script. Ok (record { value = a.0.0; script = script.0 }, script.1)) (x, rest) a.2 in
    let t = signed_takes w64 (2 ^ 64) signed64 bytes a.0.0 a.0.1 are a.1 in
    let u = script_takes a.0.1 b.0.0 b.0.1 t.0.rest_bytes b.1 in
    let both = Takes-then bytes (to_le_bytes w64 (cast_unsigned w64 a.0.0)) a.0.1 (script_text b.0.0) b.0.1 t.0 u.0 in
    let made : TxOut × List ℕ = (record { value = a.0.0; script = b.0.0 }, b.0.1) in
    let is : IsOutput made.0 = record { value = t.1; script = u.1 } in
    subst (λ (y : TxOut × List ℕ). Takes bytes (output_text y.0) y.1 × IsOutput y.0) (ok_is made (x, rest) b.2) (both, is)

output_again : (x : TxOut) (rest : List ℕ) → IsOutput x → output_at (output_text x ++ rest) ≡ Ok (x, rest)
unfolding output_at output_text
output_again x rest is =
    ap output_at (append_assoc (to_le_bytes w64 (cast_unsigned w64 x.value)) (script_text x.script) rest)
    ∙ rw (signed_again w64 (2 ^ 64) signed64 x.value (script_text x.script ++ rest) is.value, script_again x.script rest is.script) refl

output_long : (x : TxOut) → IsOutput x → 9 ≤ length (output_text x)
unfolding output_text
output_long x is = omega (arith, script_long x.script, length-append (to_le_bytes w64 (cast_unsigned w64 x.value)) (script_text x.script))

pub output_kind : IsKind TxOut output_text output_at IsOutput 9
output_kind = record { takes = output_takes; again = output_again; long = output_long }

-- ---- transactions

-- what is read is spelled so, and then comes the rest
pub tx_spells : (bytes : List ℕ) (x : Tx) (rest : List ℕ) → AreBytes bytes → tx_at bytes ≡ Ok (x, rest) → Takes bytes (tx_text x) rest × IsTx x
unfolding tx_at tx_text
tx_spells bytes x rest are e =
    let a = bind_ok (signed_at w32 bytes) (λ version. list_at 41 input_at version.1 >>= λ inputs. list_at 9 output_at inputs.1 >>= λ outputs. number_at w32 outputs.1 >>= λ lock_time. Ok (record { version = version.0; inputs = inputs.0; outputs = outputs.0; lock_time = lock_time.0 }, lock_time.1)) (x, rest) e in
    let b = bind_ok (list_at 41 input_at a.0.1) (λ inputs. list_at 9 output_at inputs.1 >>= λ outputs. number_at w32 outputs.1 >>= λ lock_time. Ok (record { version = a.0.0; inputs = inputs.0; outputs = outputs.0; lock_time = lock_time.0 }, lock_time.1)) (x, rest) a.2 in
    let c = bind_ok (list_at 9 output_at b.0.1) (λ outputs. number_at w32 outputs.1 >>= λ lock_time. Ok (record { version = a.0.0; inputs = b.0.0; outputs = outputs.0; lock_time = lock_time.0 }, lock_time.1)) (x, rest) b.2 in
    let d = bind_ok (number_at w32 c.0.1) (λ lock_time. Ok (record { version = a.0.0; inputs = b.0.0; outputs = c.0.0; lock_time = lock_time.0 }, lock_time.1)) (x, rest) c.2 in
    let t = signed_takes w32 (2 ^ 32) signed32 bytes a.0.0 a.0.1 are a.1 in
    let u = list_takes TxIn input_text input_at IsInput 41 input_kind a.0.1 b.0.0 b.0.1 t.0.rest_bytes b.1 in
    let v = list_takes TxOut output_text output_at IsOutput 9 output_kind b.0.1 c.0.0 c.0.1 u.0.rest_bytes c.1 in
    let w = number_takes w32 (2 ^ 32) wide32 c.0.1 d.0.0 d.0.1 v.0.rest_bytes d.1 in
    let vw = Takes-then b.0.1 (list_text output_text c.0.0) c.0.1 (to_le_bytes w32 d.0.0) d.0.1 v.0 w.0 in
    let uw = Takes-then a.0.1 (list_text input_text b.0.0) b.0.1 (list_text output_text c.0.0 ++ to_le_bytes w32 d.0.0) d.0.1 u.0 vw in
    let tw = Takes-then bytes (to_le_bytes w32 (cast_unsigned w32 a.0.0)) a.0.1 (list_text input_text b.0.0 ++ (list_text output_text c.0.0 ++ to_le_bytes w32 d.0.0)) d.0.1 t.0 uw in
    let made : Tx × List ℕ = (record { version = a.0.0; inputs = b.0.0; outputs = c.0.0; lock_time = d.0.0 }, d.0.1) in
    let is : IsTx made.0 = record { version = t.1; few_inputs = u.1; inputs = All-from_recursion IsInput b.0.0 u.2; few_outputs = v.1; outputs = All-from_recursion IsOutput c.0.0 v.2; lock_time = w.1 } in
    subst (λ (y : Tx × List ℕ). Takes bytes (tx_text y.0) y.1 × IsTx y.0) (ok_is made (x, rest) d.2) (tw, is)

-- what was written is read again, whatever follows it
pub tx_again : (x : Tx) (rest : List ℕ) → IsTx x → tx_at (tx_text x ++ rest) ≡ Ok (x, rest)
unfolding tx_at tx_text
tx_again x rest is =
    let after = list_text output_text x.outputs ++ (to_le_bytes w32 x.lock_time ++ rest) in
    let regrouped : tx_text x ++ rest ≡ to_le_bytes w32 (cast_unsigned w32 x.version) ++ (list_text input_text x.inputs ++ after) =
    append_assoc (to_le_bytes w32 (cast_unsigned w32 x.version)) (list_text input_text x.inputs ++ (list_text output_text x.outputs ++ to_le_bytes w32 x.lock_time)) rest
    ∙ ap (λ (y : List ℕ). to_le_bytes w32 (cast_unsigned w32 x.version) ++ y) (append_assoc (list_text input_text x.inputs) (list_text output_text x.outputs ++ to_le_bytes w32 x.lock_time) rest ∙ ap (λ (y : List ℕ). list_text input_text x.inputs ++ y) (append_assoc (list_text output_text x.outputs) (to_le_bytes w32 x.lock_time) rest)) in
    ap tx_at regrouped
    ∙ rw (signed_again w32 (2 ^ 32) signed32 x.version (list_text input_text x.inputs ++ after) is.version, list_again TxIn input_text input_at IsInput 41 input_kind x.inputs after is.few_inputs (recursion_from_All IsInput x.inputs is.inputs), list_again TxOut output_text output_at IsOutput 9 output_kind x.outputs (to_le_bytes w32 x.lock_time ++ rest) is.few_outputs (recursion_from_All IsOutput x.outputs is.outputs), number_again w32 (2 ^ 32) wide32 x.lock_time rest is.lock_time) refl

list_long : {A : Type 0} (text : A → List ℕ) (xs : List A) → 1 ≤ length (list_text text xs)
unfolding list_text
list_long text xs = omega (arith, compact_long (length xs), length-append (compact_text (length xs)) (flat_map text xs))

-- a transaction has at least 10 bytes
pub tx_long : (x : Tx) → 10 ≤ length (tx_text x)
unfolding tx_text
tx_long x =
    omega (arith, list_long input_text x.inputs, list_long output_text x.outputs, length-append (list_text input_text x.inputs) (list_text output_text x.outputs ++ to_le_bytes w32 x.lock_time), length-append (list_text output_text x.outputs) (to_le_bytes w32 x.lock_time))

-- a transaction among others
pub tx_kind : IsKind Tx tx_text tx_at IsTx 10
tx_kind = record { takes = tx_spells; again = tx_again; long = λ x _. tx_long x }

-- what follows for a call that had old, answered r and has new
pub record TxLaws (old : List ℕ) (r : Result Tx Fault) (new : List ℕ) : Type 0 where
  pub found : IfOk r (λ tx. IsTx tx × (old ≡ tx_text tx ++ new))
  pub only : (tx : Tx) (rest : List ℕ) → IsTx tx → old ≡ tx_text tx ++ rest → (r ≡ Err Memory) ⊎ ((r ≡ Ok tx) × (new ≡ rest))

pub tx_laws : (old : List ℕ) (r : Result Tx Fault) (new : List ℕ) → AreBytes old → ReadsInMemory (tx_at old) old r new → TxLaws old r new
tx_laws old (Ok x) new are h =
    let s = tx_spells old x new are h in
    record {
      found = (s.1, s.0.parts);
      only = λ tx rest is e.
          let same : (x, new) ≡ (tx, rest) = ok_is (x, new) (tx, rest) (sym h ∙ ap tx_at e ∙ tx_again tx rest is) in
          inr (ap (λ (p : Tx × List ℕ). Ok p.0) same, ap (λ (p : Tx × List ℕ). p.1) same);
    }
tx_laws old (Err fault) new are h = record {
  found = tt;
  only = λ tx rest is e.
      elim h.0 [
        | inl memory ↦ inl (ap Err memory)
        | inr fails ↦ absurd (let f = sym fails ∙ ap tx_at e ∙ tx_again tx rest is in cc)
      ];
}

-- one transaction has one text, and no text begins another
pub one_text : (a b : Tx) (x y : List ℕ) → IsTx a → IsTx b → tx_text a ++ x ≡ tx_text b ++ y → (a ≡ b) × (x ≡ y)
one_text a b x y is_a is_b e =
    let same : (a, x) ≡ (b, y) = ok_is (a, x) (b, y) (sym (tx_again a x is_a) ∙ ap tx_at e ∙ tx_again b y is_b) in
    (ap (λ (p : Tx × List ℕ). p.0) same, ap (λ (p : Tx × List ℕ). p.1) same)

-- the same, where the bytes are known by another name
pub tx_laws_at : (inner old : List ℕ) (r : Result Tx Fault) (new : List ℕ) → inner ≡ old → AreBytes inner → ReadsInMemory (tx_at old) old r new → TxLaws old r new
tx_laws_at inner old r new e are h = tx_laws old r new (subst AreBytes e are) h
