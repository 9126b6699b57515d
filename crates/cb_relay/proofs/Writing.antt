-- What is written is read again.
use Rattle.std.proofs.Common.{◌≡◌, ◌≤◌, ◌∙◌, ℕ, Bool, true, false, cond, ltb, List, ◌++◌, length, Option, Some, None, refl, ap}
use Rattle.std.proofs.lemmas.Bool.{ltb-false}
use Rattle.cb_base.specs.declared.fault.Fault.TheVariants.{Oversize}
use Rattle.cb_relay.specs.Envelopes.{cut_at, cut_by}
use Rattle.cb_relay.specs.Messages.{wrong_message, wrong_payload, wrong_with}
use Rattle.cb_relay.specs.declared.envelope.CutEnvelope.TheVariants as cuts
use Rattle.cb_relay.specs.declared.message.NoMessage.{NoMessage}
use Rattle.cb_relay.specs.declared.message.NoMessage.TheVariants as reasons
use Rattle.cb_wire.specs.Command.{is_command}
use Rattle.cb_wire.specs.Envelope.{envelope_text}
use Rattle.cb_wire.proofs.Streams.{front_at-whole}
use Rattle.cb_wire.proofs.Texts.{envelope-item, envelope-whole}

nothing_wrong : (formed long : Bool) (wrong : Option NoMessage) → cond formed (cond long (Some (reasons.Bad Oversize)) wrong) (Some reasons.Damaged) ≡ None → (formed ≡ true) × (long ≡ false) × (wrong ≡ None)
nothing_wrong true true wrong e = absurd cc
nothing_wrong true false wrong e = (refl, refl, e)
nothing_wrong false long wrong e = absurd cc

pub written_again : (name payload rest : List ℕ) → wrong_message name payload ≡ None → cut_at (envelope_text name payload ++ rest) ≡ cuts.Whole (length payload) None
written_again name payload rest e =
    let fine = nothing_wrong (is_command name) (ltb 4000000 (length payload)) (wrong_payload name payload) e in
    let most : length payload ≤ 4000000 = ltb-false 4000000 (length payload) fine.1 in
    let bytes = envelope_text name payload ++ rest in
    ap (λ front. cut_by front bytes) (front_at-whole bytes (length payload) (envelope-whole name payload rest fine.0 most))
    ∙ ap (λ item. cuts.Whole (length payload) (wrong_with item)) (envelope-item name payload rest fine.0)
    ∙ ap (cuts.Whole (length payload)) fine.2
