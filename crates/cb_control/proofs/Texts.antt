-- What a reply is told by.
use Rattle.std.proofs.Common.{◌≡◌, ℕ, List, ◌++◌, append_assoc, Option, Result, Ok, Err, OnOk, ap, subst, ◌∙◌}
use Rattle.std.specs.Io.KnownBytes.{Appends}
use Rattle.cb_control.specs.declared.reply.Reply.{Reply}
use Rattle.std.specs.Prelude.{codes}
use Rattle.std.specs.Fmt.{decimal}
use Rattle.cb_control.specs.declared.report.BlockReport.{BlockReport}
use Rattle.cb_control.specs.ReplyText.{IsOr, block_text, count_line, hash_text, reply_text, yes_no}

-- a text was written that tells a reply
pub told_text : {T E : Type 0} (r : Result T E) (a b : Option (List ℕ)) (text : List ℕ) (reply told : Reply) → IsOr reply told → text ≡ reply_text told → OnOk r (Appends a b text) → OnOk r ((said : Reply) × IsOr reply said × Appends a b (reply_text said))
told_text (Ok t) a b text reply told is e p = (told, is, subst (Appends a b) e p)
told_text (Err fault) a b text reply told is e p = p

-- three parts, one written behind the other
pub three : (old a b c mid more new : List ℕ) → mid ≡ old ++ a → more ≡ mid ++ b → new ≡ more ++ c → new ≡ old ++ (a ++ b ++ c)
three old a b c mid more new first second third =
    third ∙ ap (λ (l : List ℕ). l ++ c) (second ∙ ap (λ (l : List ℕ). l ++ b) first ∙ append_assoc old a b) ∙ append_assoc old (a ++ b) c

-- a block's line, of which the last part is written by a call
pub block_line : {T E : Type 0} (r : Result T E) (old mid new shown best : List ℕ) (block : BlockReport) → shown ≡ hash_text block.hash → best ≡ yes_no block.best
    → mid ≡ old ++ (codes "block " ++ (shown ++ (codes " height " ++ (decimal block.height ++ (codes " best " ++ (best ++ codes " transactions "))))))
    → OnOk r (new ≡ mid ++ count_line block.txs) → OnOk r (new ≡ old ++ block_text block)
block_line (Err e) old mid new shown best block s b m told = told
block_line (Ok t) old mid new shown best block s b m told =
    let front : List ℕ → List ℕ → List ℕ = λ h y. codes "block " ++ (h ++ (codes " height " ++ (decimal block.height ++ (codes " best " ++ (y ++ codes " transactions "))))) in
    told ∙ ap (λ (l : List ℕ). l ++ count_line block.txs) (m ∙ ap (λ (h : List ℕ). old ++ front h best) s ∙ ap (λ (y : List ℕ). old ++ front (hash_text block.hash) y) b)
    ∙ append_assoc old (front (hash_text block.hash) (yes_no block.best)) (count_line block.txs)
