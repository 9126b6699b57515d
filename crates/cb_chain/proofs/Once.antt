-- To a call there is one answer, and it leaves one tree.
use Rattle.std.proofs.Common.{◌≡◌, ℕ, zero, suc, ◌<◌, List, [], ◌∷◌, eqb, cond, take, None, Some, Option, refl, sym, ap, subst, ◌∙◌, arith, inl, inr}
use Rattle.std.specs.Prelude.{All, Result, Err, slice_get}
use Rattle.std.proofs.lemmas.Bool.{cases_lt, false≢true}
use Rattle.std.proofs.lemmas.Option.{slice_get_within, get_or_from_slice_get}
use Rattle.cb_base.specs.Fault.{rule_number}
use Rattle.cb_base.specs.declared.fault.Fault.{Fault}
use Rattle.cb_base.specs.declared.fault.Fault.TheVariants.{BadCoinbase, BadTx, Oversize}
use Rattle.cb_base.specs.declared.fault.TxRule.{TxRule}
use Rattle.cb_base.specs.declared.fault.TxRule.TheVariants.{NoInputs, NoOutputs, TooLong, BadValue, BadSum, RepeatedInput, BadCoinbaseScript, NullInput}
use Rattle.cb_base.specs.declared.hash.Hash256.{Hash256}
use Rattle.cb_block.specs.declared.block.Block.{Block}
use Rattle.cb_block.specs.declared.header.Header.{Header}
use Rattle.cb_block.specs.Blocks.{BreaksFirst, IsRefused, MeetsBlockRules}
use Rattle.cb_chain.specs.declared.change.Change.{Change}
use Rattle.cb_chain.specs.Calls.{AcceptsBlock, AcceptsHeader, block_fault, header_fault}
use Rattle.cb_chain.specs.Entries.{Tree, block_hash}
use Rattle.cb_chain.specs.Headers.{TakesHeaders, goes_on}
use Rattle.cb_chain.specs.History.{BlockCall, Call, HeaderCall, IsHistory, IsStep}
use Rattle.cb_block.specs.declared.tx.Tx.{Tx}
use Rattle.cb_block.specs.TxRules.{IsLeastBroken, MeetsRules}

-- ---- a block breaks one rule first

-- the rule of a number
rule_of : ℕ → TxRule
rule_of n =
    cond (eqb n 1) NoInputs (cond (eqb n 2) NoOutputs (cond (eqb n 3) TooLong (cond (eqb n 4) BadValue (cond (eqb n 5) BadSum (cond (eqb n 6) RepeatedInput (cond (eqb n 7) BadCoinbaseScript NullInput))))))

numbered : (rule : TxRule) → rule_of (rule_number rule) ≡ rule
unfolding rule_of
numbered NoInputs = refl
numbered NoOutputs = refl
numbered TooLong = refl
numbered BadValue = refl
numbered BadSum = refl
numbered RepeatedInput = refl
numbered BadCoinbaseScript = refl
numbered NullInput = refl

one_rule : (tx : Tx) (rule other : TxRule) → IsLeastBroken tx rule → IsLeastBroken tx other → rule ≡ other
one_rule tx rule other is are =
    elim (cases_lt (rule_number rule) (rule_number other)) [
      | inl less ↦ absurd (are.earlier rule less is.broken)
      | inr le ↦
          elim (cases_lt (rule_number other) (rule_number rule)) [
            | inl less ↦ absurd (is.earlier other less are.broken)
            | inr ge ↦ sym (numbered rule) ∙ ap rule_of (let one : rule_number rule ≡ rule_number other = omega arith in one) ∙ numbered other
          ]
    ]

meets_at : (txs : List Tx) (k : ℕ) (tx : Tx) → slice_get txs k ≡ Some tx → All MeetsRules txs → MeetsRules tx
meets_at txs k tx at all = subst MeetsRules (get_or_from_slice_get txs k tx tx at) (all k tx (slice_get_within txs k tx at))

get_taken : {A : Type 0} (xs : List A) (k n : ℕ) (x : A) → slice_get xs k ≡ Some x → k < n → slice_get (take n xs) k ≡ Some x
get_taken [] k n x at lt = absurd cc
get_taken (y ∷ xs) k zero x at lt = absurd (omega arith)
get_taken (y ∷ xs) zero (suc n) x at lt = at
get_taken (y ∷ xs) (suc k) (suc n) x at lt = get_taken xs k n x at (omega arith)

-- the first that breaks one stands before no other
breaks_one : (txs : List Tx) (rule other : TxRule) → BreaksFirst txs rule → BreaksFirst txs other → rule ≡ other
breaks_one txs rule other is are =
    elim (cases_lt is.0 are.0) [
      | inl less ↦ absurd (meets_at (take are.0 txs) is.0 is.1 (get_taken txs is.0 are.0 is.1 is.2 less) are.4 rule is.3.broken)
      | inr le ↦
          elim (cases_lt are.0 is.0) [
            | inl less ↦ absurd (meets_at (take is.0 txs) are.0 are.1 (get_taken txs are.0 is.0 are.1 are.2 less) is.4 other are.3.broken)
            | inr ge ↦
                let place : are.0 ≡ is.0 = omega arith in
                let there : Some are.1 ≡ Some is.1 = sym are.2 ∙ ap (slice_get txs) place ∙ is.2 in
                let one : are.1 ≡ is.1 = cc in
                one_rule is.1 rule other is.3 (subst (λ (tx : Tx). IsLeastBroken tx other) one are.3)
          ]
    ]

one_refusal : (block : Block) (fault other : Fault) → IsRefused block fault → IsRefused block other → fault ≡ other
one_refusal block Oversize Oversize is are = refl
one_refusal block Oversize BadCoinbase is are = absurd (omega (arith, is, are.0))
one_refusal block Oversize (BadTx rule) is are = absurd (omega (arith, is, are.0))
one_refusal block Oversize _ is are = absurd are
one_refusal block BadCoinbase Oversize is are = absurd (omega (arith, is.0, are))
one_refusal block BadCoinbase BadCoinbase is are = refl
one_refusal block BadCoinbase (BadTx rule) is are = absurd (is.1 are.1)
one_refusal block BadCoinbase _ is are = absurd are
one_refusal block (BadTx rule) Oversize is are = absurd (omega (arith, is.0, are))
one_refusal block (BadTx rule) BadCoinbase is are = absurd (are.1 is.1)
one_refusal block (BadTx rule) (BadTx other) is are = ap BadTx (breaks_one block.txs rule other is.2 are.2)
one_refusal block (BadTx rule) _ is are = absurd are
one_refusal block _ other is are = absurd is

-- a block that breaks a rule doesn't meet them all
refused_meets : (block : Block) (fault : Fault) → IsRefused block fault → MeetsBlockRules block → ⊥
refused_meets block Oversize is meets = omega (arith, is, meets.size)
refused_meets block BadCoinbase is meets = is.1 meets.coinbase
refused_meets block (BadTx rule) is meets =
    let broken = is.2 in
    meets_at block.txs broken.0 broken.1 broken.2 meets.txs rule broken.3.broken
refused_meets block _ is meets = absurd is

-- ---- one answer, and one tree

none_some : {A : Type 0} (x : A) (o : Option A) → o ≡ None → o ≡ Some x → ⊥
none_some x o none is = let e : None ≡ Some x = sym none ∙ is in absurd cc

one_some : {A : Type 0} (x y : A) (o : Option A) → o ≡ Some x → o ≡ Some y → x ≡ y
one_some x y o is are = let e : Some x ≡ Some y = sym is ∙ are in cc

pub one_header : (old one other : Tree) (header : Header) (a b : Option Fault) → AcceptsHeader old header a one → AcceptsHeader old header b other → (a ≡ b) × (one ≡ other)
one_header old one other header a b (AcceptsHeader.without_work _ u e) (AcceptsHeader.without_work _ v f) = (u ∙ sym v, e ∙ sym f)
one_header old one other header a b (AcceptsHeader.without_work lacks _ _) (AcceptsHeader.refused work _ _ _ _) = absurd (lacks work)
one_header old one other header a b (AcceptsHeader.without_work lacks _ _) (AcceptsHeader.kept work _ _ _) = absurd (lacks work)
one_header old one other header a b (AcceptsHeader.refused work _ _ _ _) (AcceptsHeader.without_work lacks _ _) = absurd (lacks work)
one_header old one other header a b (AcceptsHeader.refused _ fault is u e) (AcceptsHeader.refused _ again are v f) = (u ∙ ap Some (one_some fault again (header_fault old header) is are) ∙ sym v, e ∙ sym f)
one_header old one other header a b (AcceptsHeader.refused _ fault is _ _) (AcceptsHeader.kept _ none _ _) = absurd (none_some fault (header_fault old header) none is)
one_header old one other header a b (AcceptsHeader.kept work _ _ _) (AcceptsHeader.without_work lacks _ _) = absurd (lacks work)
one_header old one other header a b (AcceptsHeader.kept _ none _ _) (AcceptsHeader.refused _ fault is _ _) = absurd (none_some fault (header_fault old header) none is)
one_header old one other header a b (AcceptsHeader.kept _ _ u e) (AcceptsHeader.kept _ _ v f) = (u ∙ sym v, e ∙ sym f)

-- headers in turn: one that is met isn't refused
pub one_heading : (headers : List Header) (old one other : Tree) (against again : Option Fault) (met others : List Hash256) → TakesHeaders old headers against met one → TakesHeaders old headers again others other
    → (against ≡ again) × (met ≡ others) × (one ≡ other)
one_heading [] old one other against again met others t u = (t.0 ∙ sym u.0, t.1 ∙ sym u.1, t.2 ∙ sym u.2)
one_heading (header ∷ headers) old one other against again met others (inl t) (inl u) =
    let first = one_header old t.0 u.0 header t.2.0 u.2.0 t.2.2 u.2.2 in
    let rest = one_heading headers t.0 one other against again t.1 u.1 t.4 (subst (λ (next : Tree). TakesHeaders next headers again u.1 other) (sym first.1) u.4) in
    (rest.0, t.3 ∙ ap (λ (hs : List Hash256). block_hash header ∷ hs) rest.1 ∙ sym u.3, rest.2)
one_heading (header ∷ headers) old one other against again met others (inl t) (inr u) =
    let first = one_header old t.0 other header t.2.0 again t.2.2 u.1 in absurd (false≢true (sym u.0 ∙ sym (ap goes_on first.0) ∙ t.2.1))
one_heading (header ∷ headers) old one other against again met others (inr t) (inl u) =
    let first = one_header old one u.0 header against u.2.0 t.1 u.2.2 in absurd (false≢true (sym t.0 ∙ ap goes_on first.0 ∙ u.2.1))
one_heading (header ∷ headers) old one other against again met others (inr t) (inr u) =
    let first = one_header old one other header against again t.1 u.1 in (first.0, t.2 ∙ sym u.2, first.1)

abbrev answered : Result Change Fault × Tree → Result Change Fault
answered both = both.0

abbrev left_by : Result Change Fault × Tree → Tree
left_by both = both.1

pub one_block : (old one other : Tree) (block : Block) (a b : Result Change Fault) → AcceptsBlock old block a one → AcceptsBlock old block b other → (a ≡ b) × (one ≡ other)
one_block old one other block a b (AcceptsBlock.without_work _ u e) (AcceptsBlock.without_work _ v f) = (u ∙ sym v, e ∙ sym f)
one_block old one other block a b (AcceptsBlock.without_work lacks _ _) (AcceptsBlock.refused work _ _ _ _) = absurd (lacks work)
one_block old one other block a b (AcceptsBlock.without_work lacks _ _) (AcceptsBlock.breaks_rule work _ _ _ _ _) = absurd (lacks work)
one_block old one other block a b (AcceptsBlock.without_work lacks _ _) (AcceptsBlock.meets_rules work _ _ _) = absurd (lacks work)
one_block old one other block a b (AcceptsBlock.refused work _ _ _ _) (AcceptsBlock.without_work lacks _ _) = absurd (lacks work)
one_block old one other block a b (AcceptsBlock.refused _ fault is u e) (AcceptsBlock.refused _ again are v f) = (u ∙ ap Err (one_some fault again (block_fault old block.header) is are) ∙ sym v, e ∙ sym f)
one_block old one other block a b (AcceptsBlock.refused _ fault is _ _) (AcceptsBlock.breaks_rule _ none _ _ _ _) = absurd (none_some fault (block_fault old block.header) none is)
one_block old one other block a b (AcceptsBlock.refused _ fault is _ _) (AcceptsBlock.meets_rules _ none _ _) = absurd (none_some fault (block_fault old block.header) none is)
one_block old one other block a b (AcceptsBlock.breaks_rule work _ _ _ _ _) (AcceptsBlock.without_work lacks _ _) = absurd (lacks work)
one_block old one other block a b (AcceptsBlock.breaks_rule _ none _ _ _ _) (AcceptsBlock.refused _ fault is _ _) = absurd (none_some fault (block_fault old block.header) none is)
one_block old one other block a b (AcceptsBlock.breaks_rule _ _ fault is u e) (AcceptsBlock.breaks_rule _ _ again are v f) = (u ∙ ap Err (one_refusal block fault again is are) ∙ sym v, e ∙ sym f)
one_block old one other block a b (AcceptsBlock.breaks_rule _ _ fault is _ _) (AcceptsBlock.meets_rules _ _ meets _) = absurd (refused_meets block fault is meets)
one_block old one other block a b (AcceptsBlock.meets_rules work _ _ _) (AcceptsBlock.without_work lacks _ _) = absurd (lacks work)
one_block old one other block a b (AcceptsBlock.meets_rules _ none _ _) (AcceptsBlock.refused _ fault is _ _) = absurd (none_some fault (block_fault old block.header) none is)
one_block old one other block a b (AcceptsBlock.meets_rules _ _ meets _) (AcceptsBlock.breaks_rule _ _ fault is _ _) = absurd (refused_meets block fault is meets)
one_block old one other block a b (AcceptsBlock.meets_rules _ _ _ e) (AcceptsBlock.meets_rules _ _ _ f) = (ap answered (e ∙ sym f), ap left_by (e ∙ sym f))

one_step : (old one other : Tree) (call : Call) → IsStep old call one → IsStep old call other → one ≡ other
one_step old one other (HeaderCall header) s t = (one_header old one other header s.0 t.0 s.1 t.1).1
one_step old one other (BlockCall block) s t = (one_block old one other block s.1 t.1 s.2 t.2).1

pub one_history : (calls : List Call) (one other : Tree) → IsHistory calls one → IsHistory calls other → one ≡ other
one_history [] one other h k = h ∙ sym k
one_history (call ∷ calls) one other h k =
    let before = one_history calls h.0 k.0 h.1 k.1 in
    one_step k.0 one other call (subst (λ (t : Tree). IsStep t call one) before h.2) k.2
