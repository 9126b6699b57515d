-- The order that is read of a script's line is the one that the line gives, and its nodes are there.
use Rattle.std.proofs.Common.{◌≡◌, ℕ, ◌^◌, ◌<◌, List, ◌∷◌, ◌++◌, Option, Some, None, Result, Ok, Err, IfOk, refl, sym, ap, subst, ◌∙◌}
use Rattle.std.specs.Prelude.{IfSome, codes}
use Rattle.std.specs.Str.{IsUtf8}
use Rattle.cb_control.specs.Words.{cut_of, number_in}
use Rattle.cb_control.proofs.WordLemmas.{NoSpace, cut_parts, cut_some, digits_no_space, none_is_no_some, number_read}
use Rattle.cb_control.specs.declared.order.Deed.TheVariants as deeds
use Rattle.cb_control.specs.declared.script_line.ScriptOrder.{ScriptOrder}
use Rattle.cb_control.specs.declared.script_line.ScriptOrder.TheVariants.{Link, Wait, Obey}
use Rattle.cb_control.specs.ScriptLine.{GivesScript, IsAmong, ReadsScript}
use Rattle.cb_control.specs.ScriptReading.{script_in, script_named}
use Rattle.cb_control.specs.Written.{block_in, tx_in}
use Rattle.cb_control.proofs.Found.{by_map, by_then, by_two, by_word}

below : (limit : ℕ) (word : List ℕ) (n : ℕ) → number_in limit word ≡ Some n → n < limit
below limit word n e = (number_read limit word n e).1

no_space : (limit : ℕ) (word : List ℕ) (n : ℕ) → number_in limit word ≡ Some n → NoSpace word
no_space limit word n e = digits_no_space word (number_read limit word n e).0.0

-- ---- what is read is given

-- the line gives the order, whose nodes are there
abbrev Fits : ℕ → List ℕ → ScriptOrder → Type 0
Fits nodes line order = GivesScript nodes line order × IsAmong nodes order

behind : (word name rest first second : List ℕ) → word ≡ name → rest ≡ first ++ 32 ∷ second → word ++ 32 ∷ rest ≡ name ++ 32 ∷ (first ++ 32 ∷ second)
behind word name rest first second e cut = ap (λ w. w ++ 32 ∷ rest) e ∙ ap (λ r. name ++ 32 ∷ r) cut

named_gives : (nodes : ℕ) (word rest : List ℕ) → IfSome (script_named nodes word rest) (Fits nodes (word ++ 32 ∷ rest))
named_gives nodes word rest =
    let P : ScriptOrder → Type 0 = Fits nodes (word ++ 32 ∷ rest) in
    by_word P word (codes "link") _ _
    (λ e. by_two P (λ a b. Link a b) (number_in nodes) (number_in nodes) rest (λ first second a b cut is also. ((first, second, behind word (codes "link") rest first second e cut, is, also), (below nodes first a is, below nodes second b also))))
    (by_word P word (codes "tx") _ _
    (λ e. by_two P (λ node tx. Obey node (deeds.Tx tx)) (number_in nodes) tx_in rest (λ first second a b cut is also. ((first, second, behind word (codes "tx") rest first second e cut, is, also), below nodes first a is)))
    (by_word P word (codes "block") _ _
    (λ e. by_two P (λ node block. Obey node (deeds.Submit block)) (number_in nodes) block_in rest (λ first second a b cut is also. ((first, second, behind word (codes "block") rest first second e cut, is, also), below nodes first a is)))
    (by_word P word (codes "mine") _ _ (λ e. by_map P (number_in nodes rest) (λ node. Obey node (deeds.Mine 1)) (λ node is. (((rest, ap (λ w. w ++ 32 ∷ rest) e, is), refl), below nodes rest node is)))
    (by_word P word (codes "kick") _ _
    (λ e. by_two P (λ node slot. Obey node (deeds.Kick slot)) (number_in nodes) (number_in (2 ^ 16)) rest (λ first second a b cut is also. ((first, second, behind word (codes "kick") rest first second e cut, is, also), below nodes first a is)))
    (by_word P word (codes "checkpoint") _ _ (λ e. by_map P (number_in nodes rest) (λ node. Obey node deeds.Checkpoint) (λ node is. ((rest, ap (λ w. w ++ 32 ∷ rest) e, is), below nodes rest node is)))
    tt)))))

script_gives : (nodes : ℕ) (line : List ℕ) → IfSome (script_in nodes line) (Fits nodes line)
script_gives nodes line =
    by_word (Fits nodes line) line (codes "wait") (Some Wait) _ (λ e. (e, tt))
    (by_then (Fits nodes line) (cut_of line) (λ parts. script_named nodes parts.0 parts.1)
    (λ parts cut. subst (λ l. IfSome (script_named nodes parts.0 parts.1) (Fits nodes l)) (sym (cut_parts line parts cut)) (named_gives nodes parts.0 parts.1)))

-- ---- what is given is read

given_read : (nodes : ℕ) (line : List ℕ) (order : ScriptOrder) → GivesScript nodes line order → script_in nodes line ≡ Some order
given_read nodes line Wait e = rw e refl
given_read nodes line (Link a b) (first, second, e, is, also) = rw (e, cut_some first second (no_space nodes first a is), is, also) refl
given_read nodes line (Obey node (deeds.Tx tx)) (first, second, e, is, also) = rw (e, cut_some first second (no_space nodes first node is), is, also) refl
given_read nodes line (Obey node (deeds.Submit block)) (first, second, e, is, also) = rw (e, cut_some first second (no_space nodes first node is), is, also) refl
given_read nodes line (Obey node (deeds.Mine count)) ((text, e, is), one) = rw (e, is, one) refl
given_read nodes line (Obey node (deeds.Kick slot)) (first, second, e, is, also) = rw (e, cut_some first second (no_space nodes first node is), is, also) refl
given_read nodes line (Obey node deeds.Checkpoint) (text, e, is) = rw (e, is) refl

-- ---- a line

line_reads : (nodes : ℕ) (line : List ℕ) (read : Option ScriptOrder) → IsUtf8 line → read ≡ script_in nodes line → ReadsScript nodes line read × IfSome read (λ order. IsAmong nodes order)
line_reads nodes line None utf8 is = ((λ order utf8 gives. none_is_no_some order (is ∙ given_read nodes line order gives)), tt)
line_reads nodes line (Some order) utf8 is =
    let fits : Fits nodes line order = subst (λ x. IfSome x (Fits nodes line)) (sym is) (script_gives nodes line) in
    ((utf8, fits.0), fits.1)

-- the same of what a reading comes to
pub script_is_read : {E : Type 0} (nodes : ℕ) (line text : List ℕ) (r : Result (Option ScriptOrder) E) → text ≡ line → IsUtf8 line → IfOk r (λ read. read ≡ script_in nodes text) → IfOk r (λ read. ReadsScript nodes line read)
script_is_read nodes line text (Ok read) same utf8 is = (line_reads nodes line read utf8 (is ∙ ap (script_in nodes) same)).0
script_is_read nodes line text (Err fault) same utf8 is = tt

pub script_is_among : {E : Type 0} (nodes : ℕ) (line text : List ℕ) (r : Result (Option ScriptOrder) E) → text ≡ line → IsUtf8 line → IfOk r (λ read. read ≡ script_in nodes text) → IfOk r (λ read. IfSome read (λ order. IsAmong nodes order))
script_is_among nodes line text (Ok read) same utf8 is = (line_reads nodes line read utf8 (is ∙ ap (script_in nodes) same)).1
script_is_among nodes line text (Err fault) same utf8 is = tt
