-- A line of a script taken apart: the same as functions of the text.
use Rattle.std.specs.Prelude.{ℕ, ◌^◌, if◌then◌else◌, List, codes, Option, Some, None, option_and_then, option_map}
use Rattle.std.specs.Str.{bytes_eq}
use Rattle.cb_control.specs.Words.{cut_of, number_in}
use Rattle.cb_control.specs.declared.order.Deed.TheVariants.{Tx, Submit, Mine, Kick, Checkpoint}
use Rattle.cb_control.specs.declared.script_line.ScriptOrder.{ScriptOrder}
use Rattle.cb_control.specs.declared.script_line.ScriptOrder.TheVariants.{Link, Wait, Obey}
use Rattle.cb_control.specs.Written.{block_in, tx_in}

-- what is made of a text that one space cuts in two values
abbrev pub two_in : {A B C : Type 0} → (A → B → C) → (List ℕ → Option A) → (List ℕ → Option B)
    → List ℕ → Option C
two_in make value other rest =
    option_and_then
    (λ texts. option_and_then (λ a. option_map (λ b. make a b) (other texts.1)) (value texts.0))
    (cut_of rest)

-- the number of a node, and what stands behind it
abbrev pub addressed_in : ℕ → List ℕ → Option (ℕ × List ℕ)
addressed_in nodes rest =
    option_and_then (λ texts. option_map (λ node. (node, texts.1)) (number_in nodes texts.0))
    (cut_of rest)

-- the order of a word, and what stands behind it
abbrev pub script_named : ℕ → List ℕ → List ℕ → Option ScriptOrder
script_named nodes word rest =
    if bytes_eq word (codes "link")
    then two_in (λ first second. Link first second) (number_in nodes) (number_in nodes) rest
    else if bytes_eq word (codes "tx")
    then two_in (λ node tx. Obey node (Tx tx)) (number_in nodes) tx_in rest
    else if bytes_eq word (codes "block")
    then two_in (λ node block. Obey node (Submit block)) (number_in nodes) block_in rest
    else if bytes_eq word (codes "mine")
    then option_map (λ node. Obey node (Mine 1)) (number_in nodes rest)
    else if bytes_eq word (codes "kick")
    then two_in (λ node slot. Obey node (Kick slot)) (number_in nodes) (number_in (2 ^ 16)) rest
    else if bytes_eq word (codes "checkpoint")
    then option_map (λ node. Obey node Checkpoint) (number_in nodes rest)
    else None

-- the order that a text gives, if it gives one
abbrev pub script_in : ℕ → List ℕ → Option ScriptOrder
script_in nodes text =
    if bytes_eq text (codes "wait")
    then Some Wait
    else option_and_then (λ parts. script_named nodes parts.0 parts.1) (cut_of text)
