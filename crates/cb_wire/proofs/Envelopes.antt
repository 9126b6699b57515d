-- What an envelope at the front of a stream is: a command field is a name and zeros, and a message's envelope is its own.
use Rattle.std.proofs.Common.{◌≡◌, ◌↔◌, ℕ, zero, suc, ◌+◌, ◌-◌, ◌<◌, ◌≤◌, Bool, true, false, not, cond, ◌&&◌, eqb, List, [], ◌∷◌, ◌++◌, length, take, drop, replicate, Option, Some, None, Result, Ok, Err, refl, sym, ap, subst, ◌∙◌, append_assoc, arith}
use Rattle.std.specs.List.{AllByRecursion, list_all}
use Rattle.std.specs.Int.{w32, to_le_bytes}
use Rattle.std.specs.Str.{bytes_eq}
use Rattle.std.proofs.lemmas.Slice.Eq.{bytes_eq-Decides}
use Rattle.std.proofs.lemmas.Bool.{eqb-true}
use Rattle.std.proofs.lemmas.List.{length-drop, length-take-le, take-append-drop, drop-take}
use Rattle.std.proofs.lemmas.List.Sums.{prefix_len-le-length}
use Rattle.std.proofs.Math.Seq.{take-add, take-take, drop-drop}
use Rattle.cb_base.specs.declared.fault.Fault.{Fault}
use Rattle.cb_base.proofs.Fields.{AreBytes, AreBytes-drop, AreBytes-take, wide32}
use Rattle.cb_wire.specs.declared.command.Command.{Command}
use Rattle.cb_wire.specs.declared.message.Message.{Message}
use Rattle.cb_wire.specs.declared.message.Message.TheVariants.{Unknown}
use Rattle.cb_wire.specs.declared.item.Item.TheVariants.{Good, Damaged}
use Rattle.cb_wire.specs.declared.envelope.Front.TheVariants.{Whole}
use Rattle.cb_wire.specs.Command.{IsCommand, is_command, command_field, command_in, known_command, name_length}
use Rattle.cb_wire.specs.Grammar.{Spells, name_of, payload_at, message_under, message_at}
use Rattle.cb_wire.specs.Envelope.{IsEnvelopeOf, magic, checksum, envelope_text, told_length, front_at, outcome, item_under, item_named, item_at}
use Rattle.cb_wire.proofs.Messages.{message_at-spells}
use Rattle.cb_wire.proofs.Names.{command_in-field}
use Rattle.cb_wire.proofs.Streams.{whole_is}

-- ---- the twelve bytes of a command

and_true : (a b : Bool) → (a && b) ≡ true → (a ≡ true) × (b ≡ true)
and_true true b e = (refl, e)
and_true false b e = absurd cc

-- bytes that are all zero
zeros_are : (bytes : List ℕ) → list_all (λ byte. eqb byte 0) bytes ≡ true → bytes ≡ replicate (length bytes) 0
zeros_are [] e = refl
zeros_are (byte ∷ bytes) e =
    let t = and_true _ _ e in
    ap (λ (b : ℕ). b ∷ bytes) (eqb-true byte 0 t.0) ∙ ap (λ (bs : List ℕ). 0 ∷ bs) (zeros_are bytes t.1)

some_by : (b : Bool) (x name : List ℕ) → cond b (Some x) None ≡ Some name → (b ≡ true) × (x ≡ name)
some_by true x name e = (refl, cc)
some_by false x name e = absurd cc

command_in-is : (field name : List ℕ) → length field ≡ 12 → command_in field ≡ Some name → IsCommand name × (field ≡ command_field name)
unfolding command_in
command_in-is field name len e =
    let k = name_length field in
    let s = some_by (is_command (take k field) && list_all (λ byte. eqb byte 0) (drop k field)) (take k field) name e in
    let t : (is_command (take k field) ≡ true) × (list_all (λ byte. eqb byte 0) (drop k field) ≡ true) = and_true _ _ s.0 in
    let le : k ≤ length field = prefix_len-le-length (λ byte. not (eqb byte 0)) field in
    let long : length name ≡ k = ap length (sym s.1) ∙ length-take-le k field le in
    let count : length (drop k field) ≡ 12 - length name = length-drop k field ∙ omega (arith, len, long) in
    let zeros : drop k field ≡ replicate (12 - length name) 0 = zeros_are (drop k field) t.1 ∙ ap (λ (n : ℕ). replicate n 0) count in (
      ap is_command (sym s.1) ∙ t.0,
      sym (take-append-drop k field) ∙ ap (λ (front : List ℕ). front ++ drop k field) s.1 ∙ ap (λ (back : List ℕ). name ++ back) zeros,
    )

pub command_in-iff : (field name : List ℕ) → length field ≡ 12 → ((command_in field ≡ Some name) ↔ (IsCommand name × (field ≡ command_field name)))
command_in-iff field name len = (λ e. command_in-is field name len e, λ h. ap command_in h.1 ∙ command_in-field name h.0)

-- ---- a good item

good_outcome : (command : Command) (r : Result Message Fault) (message : Message) → outcome command r ≡ Good message → r ≡ Ok message
good_outcome command (Ok read) message e = let p : read ≡ message = cc in ap (λ m. Ok m) p
good_outcome command (Err fault) message e = absurd cc

good_under : (known : Option Command) (name payload : List ℕ) (message : Message) → item_under known name payload ≡ Good message → message_under known name payload ≡ Ok message
good_under (Some command) name payload message e = good_outcome command (payload_at command payload) message e
good_under None name payload message e = let p : Unknown name payload ≡ message = cc in ap (λ m. Ok m) p

-- what a good item tells of its twelve bytes and its payload
record IsGood (field payload : List ℕ) (message : Message) : Type 0 where
  name : List ℕ
  command : command_in field ≡ Some name
  read : message_under (known_command name) name payload ≡ Ok message

good_named : (found : Option (List ℕ)) (field payload : List ℕ) (message : Message) → command_in field ≡ found → item_named found payload ≡ Good message → IsGood field payload message
good_named (Some name) field payload message c e = record { name = name; command = c; read = good_under (known_command name) name payload message e }
good_named None field payload message c e = absurd cc

good_from : (b : Bool) (field payload : List ℕ) (message : Message) → cond b (item_named (command_in field) payload) Damaged ≡ Good message → (b ≡ true) × IsGood field payload message
good_from true field payload message e = (refl, good_named (command_in field) field payload message refl e)
good_from false field payload message e = absurd cc

marked_is : (b : Bool) → not b ≡ false → b ≡ true
marked_is true e = refl
marked_is false e = absurd cc

read_under : (name payload : List ℕ) (message : Message) → message_under (known_command name) name payload ≡ Ok message → message_at name payload ≡ Ok message
unfolding message_at
read_under name payload message e = e

bytes_are : (bytes : List ℕ) → AllByRecursion (λ byte. byte < 256) bytes → AreBytes bytes
bytes_are [] h i = omega arith
bytes_are (byte ∷ bytes) h zero = h.0
bytes_are (byte ∷ bytes) h (suc i) = bytes_are bytes h.1 i

-- 24 bytes and a payload in the parts of an envelope
parts_are : (bytes : List ℕ) (n : ℕ) → 24 + n ≤ length bytes
    → take (24 + n) bytes ≡ take 4 bytes ++ (take 12 (drop 4 (take 24 bytes)) ++ (take 4 (drop 16 bytes) ++ (drop 20 (take 24 bytes) ++ take n (drop 24 bytes))))
parts_are bytes n long =
    let header : take 24 bytes ≡ take 4 bytes ++ (take 12 (drop 4 bytes) ++ (take 4 (drop 16 bytes) ++ take 4 (drop 20 bytes))) =
    take-add 4 20 bytes
    ∙ ap (λ (bs : List ℕ). take 4 bytes ++ bs)
    (take-add 12 8 (drop 4 bytes)
    ∙ ap (λ (bs : List ℕ). take 12 (drop 4 bytes) ++ bs)
    (ap (λ (bs : List ℕ). take 8 bs) (drop-drop 12 4 bytes) ∙ take-add 4 4 (drop 16 bytes) ∙ ap (λ (bs : List ℕ). take 4 (drop 16 bytes) ++ take 4 bs) (drop-drop 4 16 bytes))) in
    let field : take 12 (drop 4 (take 24 bytes)) ≡ take 12 (drop 4 bytes) = ap (take 12) (drop-take 4 20 bytes) ∙ take-take 12 20 (drop 4 bytes) (omega arith) in
    let told : drop 20 (take 24 bytes) ≡ take 4 (drop 20 bytes) = drop-take 20 4 bytes in
    take-add 24 n bytes ∙ ap (λ (bs : List ℕ). bs ++ take n (drop 24 bytes)) header ∙ rw (field, told) (simp append_assoc)

-- the length in an envelope's 24 bytes is written as any other number
told_is : (bytes : List ℕ) (n : ℕ) → 24 ≤ length bytes → AreBytes bytes → told_length bytes ≡ n → take 4 (drop 16 bytes) ≡ to_le_bytes w32 n
told_is bytes n long fits e =
    let four : length (take 4 (drop 16 bytes)) ≡ 4 = length-take-le 4 (drop 16 bytes) (omega (arith, length-drop 16 bytes)) in
    sym (wide32.back (take 4 (drop 16 bytes)) four (AreBytes-take 4 (drop 16 bytes) (AreBytes-drop 16 bytes fits))) ∙ ap (to_le_bytes w32) e

pub good_is : (bytes : List ℕ) (n : ℕ) (message : Message) → AllByRecursion (λ byte. byte < 256) bytes → front_at bytes ≡ Whole n → item_at n bytes ≡ Good message → IsEnvelopeOf (take (24 + n) bytes) message
unfolding item_at envelope_text
good_is bytes n message all front item =
    let fits = bytes_are bytes all in
    let w = whole_is bytes n front in
    let within = w.within in
    let header = take 24 bytes in
    let payload = take n (drop 24 bytes) in
    let field = take 12 (drop 4 header) in
    let g = good_from (bytes_eq (drop 20 header) (checksum payload)) field payload message item in
    let good = g.1 in
    let long : 24 ≤ length bytes = omega arith in
    let size : length payload ≡ n = length-take-le n (drop 24 bytes) (omega (arith, length-drop 24 bytes)) in
    let twelve : length field ≡ 12 = length-take-le 12 (drop 4 header) (omega (arith, length-drop 4 header, length-take-le 24 bytes long)) in
    let spelled : Spells good.name payload message =
    message_at-spells good.name payload message (AreBytes-take n (drop 24 bytes) (AreBytes-drop 24 bytes fits)) (read_under good.name payload message good.read) in
    let command : field ≡ command_field (name_of message) = (command_in-is field good.name twelve good.command).1 ∙ ap command_field (sym spelled.under) in
    let magic_is : take 4 bytes ≡ magic = (bytes_eq-Decides (take 4 bytes) magic).0 (marked_is _ w.marked) in
    let told : take 4 (drop 16 bytes) ≡ to_le_bytes w32 (length payload) = told_is bytes n long fits w.told ∙ ap (to_le_bytes w32) (sym size) in
    let sum : drop 20 header ≡ checksum payload = (bytes_eq-Decides (drop 20 header) (checksum payload)).0 g.0 in
    record {
      payload = payload;
      spelled = subst (λ (name : List ℕ). Spells name payload message) (sym spelled.under) spelled;
      envelope = parts_are bytes n within
          ∙ ap (λ (x : List ℕ). x ++ (field ++ (take 4 (drop 16 bytes) ++ (drop 20 header ++ payload)))) magic_is
          ∙ ap (λ (x : List ℕ). magic ++ (x ++ (take 4 (drop 16 bytes) ++ (drop 20 header ++ payload)))) command
          ∙ ap (λ (x : List ℕ). magic ++ (command_field (name_of message) ++ (x ++ (drop 20 header ++ payload)))) told
          ∙ ap (λ (x : List ℕ). magic ++ (command_field (name_of message) ++ (to_le_bytes w32 (length payload) ++ (x ++ payload)))) sum;
    }
