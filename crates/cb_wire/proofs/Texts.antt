-- The text of a message is a stream of that one message, whatever stands behind it.
use Rattle.std.proofs.Common.{◌≡◌, ℕ, ◌+◌, ◌-◌, ◌^◌, ◌<◌, ◌≤◌, true, false, not, cond, List, [], ◌∷◌, ◌++◌, length, take, drop, replicate, Option, Some, None, Ok, refl, sym, ap, subst, ◌∙◌, append_assoc, arith}
use Rattle.std.specs.Prelude.{map}
use Rattle.std.specs.List.{AllByRecursion}
use Rattle.std.specs.Int.{w32, to_le_bytes, from_le_bytes}
use Rattle.std.specs.Str.{bytes_eq}
use Rattle.std.proofs.lemmas.Nat.{from_le_bytes-to_le_bytes_4}
use Rattle.std.proofs.lemmas.List.{append-nil, length-append, length-take, length-replicate, take-replicate, take_at, drop_at}
use Rattle.std.proofs.lemmas.Slice.Eq.{bytes_eq-Decides}
use Rattle.cb_base.specs.declared.hash.Hash256.{Hash256}
use Rattle.cb_base.specs.DoubleHash.{double_hash}
use Rattle.cb_wire.specs.declared.message.Message.{Message}
use Rattle.cb_wire.specs.declared.message.Message.TheVariants.{Unknown}
use Rattle.cb_wire.specs.declared.command.Command.{Command}
use Rattle.cb_wire.specs.Grammar.{name_of, payload_text, IsMessage, IsWithinLimits, IsProper, message_under}
use Rattle.cb_wire.proofs.Messages.{name_of-command, payload_most, text_read}
use Rattle.cb_base.specs.declared.fault.Fault.{Fault}
use Rattle.cb_base.proofs.Fields.{ok_is}
use Rattle.cb_wire.proofs.Names.{command-le, command_in-field}
use Rattle.cb_wire.specs.declared.item.Item.{Item}
use Rattle.cb_wire.specs.declared.item.Item.TheVariants.{Good, Damaged}
use Rattle.cb_wire.specs.Command.{is_command, command_field, command_in, known_command}
use Rattle.cb_wire.specs.Envelope.{magic, checksum, envelope_text, told_length, outcome, item_under, item_named, item_from, item_at, text}
use Rattle.cb_wire.specs.Stream.{Stream, Ends, texts}
use Rattle.cb_base.proofs.Hashes.{length-double_hash}
use Rattle.cb_wire.proofs.Streams.{Stream-one, IsWhole, front_at-whole, front_at-nil}

-- ---- writing

-- six pieces, put behind one another
pub appended : (old a m b n c p d l e k f payload g : List ℕ) → a ≡ old → b ≡ a ++ m → c ≡ b ++ n → d ≡ c ++ p → e ≡ d ++ l → f ≡ e ++ k → g ≡ f ++ payload
    → g ≡ old ++ (m ++ ((n ++ p) ++ (l ++ (k ++ payload))))
appended old a m b n c p d l e k f payload g z h1 h2 h3 h4 h5 h6 =
    let b' : b ≡ old ++ m = h1 ∙ ap (λ (x : List ℕ). x ++ m) z in
    let f' : f ≡ ((((old ++ m) ++ n) ++ p) ++ l) ++ k =
    h5 ∙ ap (λ (x : List ℕ). x ++ k) (h4 ∙ ap (λ (x : List ℕ). x ++ l) (h3 ∙ ap (λ (x : List ℕ). x ++ p) (h2 ∙ ap (λ (x : List ℕ). x ++ n) b'))) in
    h6 ∙ ap (λ (x : List ℕ). x ++ payload) f' ∙ simp append_assoc

-- the zeros behind a command
pub padding : (n : ℕ) (zeros p : List ℕ) → zeros ≡ replicate 12 0 → p ≡ take (12 - n) zeros → p ≡ replicate (12 - n) 0
padding n zeros p z e = e ∙ ap (take (12 - n)) z ∙ take-replicate (12 - n) 12 0 (omega arith)

-- the pieces are those of an envelope
pub envelope_is : (name payload m n p l k : List ℕ) → m ≡ magic → n ≡ name → p ≡ replicate (12 - length name) 0 → l ≡ to_le_bytes w32 (length payload) → k ≡ checksum payload
    → m ++ ((n ++ p) ++ (l ++ (k ++ payload))) ≡ envelope_text name payload
unfolding envelope_text
envelope_is name payload m n p l k a b c d f =
    ap (λ (x : List ℕ). x ++ ((n ++ p) ++ (l ++ (k ++ payload)))) a
    ∙ ap (λ (x : List ℕ). magic ++ ((x ++ p) ++ (l ++ (k ++ payload)))) b
    ∙ ap (λ (x : List ℕ). magic ++ ((name ++ x) ++ (l ++ (k ++ payload)))) c
    ∙ ap (λ (x : List ℕ). magic ++ (command_field name ++ (x ++ (k ++ payload)))) d
    ∙ ap (λ (x : List ℕ). magic ++ (command_field name ++ (to_le_bytes w32 (length payload) ++ (x ++ payload)))) f

pub checksum_is : (payload front : List ℕ) (hash : Hash256) → hash ≡ double_hash payload → front ≡ take 4 hash.0 → front ≡ checksum payload
unfolding checksum
checksum_is payload front hash h e = e ∙ ap (λ (x : Hash256). take 4 x.0) h

-- ---- reading again

checksum-length : (payload : List ℕ) → length (checksum payload) ≡ 4
unfolding checksum
checksum-length payload = omega (arith, length-take 4 (double_hash payload).0, length-double_hash payload)

command_field-length : (name : List ℕ) → is_command name ≡ true → length (command_field name) ≡ 12
command_field-length name e =
    let le : length name ≤ 12 = command-le name e in
    length-append name (replicate (12 - length name) 0) ∙ ap (λ k. length name + k) (length-replicate (12 - length name) 0) ∙ omega arith

-- an envelope is its 24 bytes, and then the payload
header_text : List ℕ → List ℕ → List ℕ
header_text name payload = magic ++ (command_field name ++ (to_le_bytes w32 (length payload) ++ checksum payload))

envelope-header : (name payload rest : List ℕ) → envelope_text name payload ++ rest ≡ header_text name payload ++ (payload ++ rest)
unfolding envelope_text header_text
envelope-header name payload rest = simp append_assoc

header-length : (name payload : List ℕ) → is_command name ≡ true → length (header_text name payload) ≡ 24
unfolding header_text
header-length name payload e =
    let f = command_field-length name e in
    let s = checksum-length payload in
    let a = length-append (to_le_bytes w32 (length payload)) (checksum payload) in
    let b = length-append (command_field name) (to_le_bytes w32 (length payload) ++ checksum payload) in
    let c = length-append magic (command_field name ++ (to_le_bytes w32 (length payload) ++ checksum payload)) in
    omega arith

header-command : (name payload : List ℕ) → is_command name ≡ true → take 12 (drop 4 (header_text name payload)) ≡ command_field name
unfolding header_text
header-command name payload e = take_at (command_field name) (to_le_bytes w32 (length payload) ++ checksum payload) 12 (command_field-length name e)

header-checksum : (name payload : List ℕ) → is_command name ≡ true → drop 20 (header_text name payload) ≡ checksum payload
unfolding header_text
header-checksum name payload e =
    let front = magic ++ (command_field name ++ to_le_bytes w32 (length payload)) in
    let parts : header_text name payload ≡ front ++ checksum payload = simp append_assoc in
    let f = command_field-length name e in
    let a = length-append (command_field name) (to_le_bytes w32 (length payload)) in
    let b = length-append magic (command_field name ++ to_le_bytes w32 (length payload)) in
    let len : length front ≡ 20 = omega arith in
    ap (drop 20) parts ∙ drop_at front (checksum payload) 20 len

envelope-told : (name payload rest : List ℕ) → is_command name ≡ true → length payload < 2 ^ 32 → told_length (envelope_text name payload ++ rest) ≡ length payload
unfolding envelope_text
envelope-told name payload rest e lt =
    let front = magic ++ command_field name in
    let tail = checksum payload ++ (payload ++ rest) in
    let len4 = to_le_bytes w32 (length payload) in
    let parts : envelope_text name payload ++ rest ≡ front ++ (len4 ++ tail) = simp append_assoc in
    let f = command_field-length name e in
    let b = length-append magic (command_field name) in
    let len : length front ≡ 16 = omega arith in
    let at : drop 16 (envelope_text name payload ++ rest) ≡ len4 ++ tail = ap (drop 16) parts ∙ drop_at front (len4 ++ tail) 16 len in
    ap (λ (bytes : List ℕ). from_le_bytes w32 (take 4 bytes)) at ∙ ap (from_le_bytes w32) (take_at len4 tail 4 refl) ∙ from_le_bytes-to_le_bytes_4 (length payload) lt

envelope-marked : (name payload rest : List ℕ) → not (bytes_eq (take 4 (envelope_text name payload ++ rest)) magic) ≡ false
unfolding envelope_text
envelope-marked name payload rest = refl

-- ---- an envelope is a whole one, and its item is that of the payload under the name

envelope-length : (name payload rest : List ℕ) → is_command name ≡ true → 24 + length payload ≤ length (envelope_text name payload ++ rest)
envelope-length name payload rest e =
    let parts = ap length (envelope-header name payload rest) in
    let h = header-length name payload e in
    omega (arith, parts, length-append (header_text name payload) (payload ++ rest), length-append payload rest)

same_bytes : (bytes : List ℕ) → bytes_eq bytes bytes ≡ true
same_bytes bytes = (bytes_eq-Decides bytes bytes).1 refl

pub envelope-whole : (name payload rest : List ℕ) → is_command name ≡ true → length payload ≤ 4000000 → IsWhole (envelope_text name payload ++ rest) (length payload)
envelope-whole name payload rest e le =
    record {
      told = envelope-told name payload rest e (omega arith);
      marked = envelope-marked name payload rest;
      limit = le;
      within = envelope-length name payload rest e;
    }

pub envelope-item : (name payload rest : List ℕ) → is_command name ≡ true → item_at (length payload) (envelope_text name payload ++ rest) ≡ item_under (known_command name) name payload
unfolding item_at
envelope-item name payload rest e =
    let len = header-length name payload e in
    let all = envelope-header name payload rest in
    let header : take 24 (envelope_text name payload ++ rest) ≡ header_text name payload = ap (take 24) all ∙ take_at (header_text name payload) (payload ++ rest) 24 len in
    let tail : drop 24 (envelope_text name payload ++ rest) ≡ payload ++ rest = ap (drop 24) all ∙ drop_at (header_text name payload) (payload ++ rest) 24 len in
    let body : take (length payload) (drop 24 (envelope_text name payload ++ rest)) ≡ payload = ap (take (length payload)) tail ∙ take_at payload rest (length payload) refl in
    let sum : bytes_eq (drop 20 (header_text name payload)) (checksum payload) ≡ true = ap (λ (x : List ℕ). bytes_eq x (checksum payload)) (header-checksum name payload e) ∙ same_bytes (checksum payload) in
    let command : command_in (take 12 (drop 4 (header_text name payload))) ≡ Some name = ap command_in (header-command name payload e) ∙ command_in-field name e in
    ap (λ (x : List ℕ). item_from x (take (length payload) (drop 24 (envelope_text name payload ++ rest)))) header
    ∙ ap (λ (x : List ℕ). item_from (header_text name payload) x) body
    ∙ ap (λ b. cond b (item_named (command_in (take 12 (drop 4 (header_text name payload)))) payload) Damaged) sum
    ∙ ap (λ o. item_named o payload) command

pub envelope-after : (name payload rest : List ℕ) → is_command name ≡ true → drop (24 + length payload) (envelope_text name payload ++ rest) ≡ rest
envelope-after name payload rest e =
    let front = header_text name payload ++ payload in
    let len : length front ≡ 24 + length payload = omega (arith, length-append (header_text name payload) payload, header-length name payload e) in
    ap (drop (24 + length payload)) (envelope-header name payload rest ∙ sym (append_assoc (header_text name payload) payload rest)) ∙ drop_at front rest (24 + length payload) len

item_under-message : (o : Option Command) (name payload : List ℕ) (message : Message) → message_under o name payload ≡ Ok message → item_under o name payload ≡ Good message
item_under-message (Some command) name payload message e = ap (outcome command) e
item_under-message None name payload message e = ap (λ m. Good m) (ok_is {A = Message} (Unknown name payload) message e)

-- behind the text of a message comes what comes
pub text-stream : (message : Message) (rest : List ℕ) (items : List Item) (after : List ℕ) (fault : Option Fault) → IsMessage message → IsWithinLimits message
    → Stream rest items after fault → Stream (text message ++ rest) (Good message ∷ items) after fault
text-stream message rest items after fault h limit s =
    let e = name_of-command message h in
    let item : item_at (length (payload_text message)) (text message ++ rest) ≡ Good message =
    envelope-item (name_of message) (payload_text message) rest e
    ∙ item_under-message (known_command (name_of message)) (name_of message) (payload_text message) message (text_read message h) in (
      length (payload_text message),
      front_at-whole (text message ++ rest) (length (payload_text message)) (envelope-whole (name_of message) (payload_text message) rest e (payload_most message h limit)),
      sym item,
      subst (λ (bytes : List ℕ). Stream bytes items after fault) (sym (envelope-after (name_of message) (payload_text message) rest e)) s,
    )

-- a message's text is a stream of that message alone
pub text-alone : (message : Message) → IsMessage message → IsWithinLimits message → Stream (text message) (Good message ∷ []) [] None
text-alone message h limit =
    let empty : Stream [] [] [] None = subst (λ front. Ends front [] [] None) (sym front_at-nil) (refl, refl) in
    subst (λ (bytes : List ℕ). Stream bytes (Good message ∷ []) [] None) (append-nil (text message)) (text-stream message [] [] [] None h limit empty)

-- the same of what was written
pub again_lem : (message : Message) (bytes : List ℕ) → IsMessage message → IsWithinLimits message → bytes ≡ text message → Stream bytes (Good message ∷ []) [] None
again_lem message bytes h limit e = subst (λ (b : List ℕ). Stream b (Good message ∷ []) [] None) (sym e) (text-alone message h limit)

-- the texts of messages are a stream of these messages
pub texts-stream : (messages : List Message) → AllByRecursion IsProper messages → Stream (texts messages) (map (λ message. Good message) messages) [] None
texts-stream [] h = subst (λ front. Ends front [] [] None) (sym front_at-nil) (refl, refl)
texts-stream (message ∷ messages) h =
    text-stream message (texts messages) (map (λ m. Good m) messages) [] None h.0.kept h.0.limits (texts-stream messages h.1)

good_is : (m n : Message) (is js : List Item) → Good m ∷ is ≡ Good n ∷ js → m ≡ n
good_is m n is js e = cc

-- no two messages have one text
pub text_alone : (m n : Message) → IsProper m → IsProper n → text m ≡ text n → m ≡ n
text_alone m n h k e =
    let one = text-alone m h.kept h.limits in
    let two = subst (λ (bytes : List ℕ). Stream bytes (Good n ∷ []) [] None) (sym e) (text-alone n k.kept k.limits) in
    good_is m n [] [] (Stream-one (text m) (Good m ∷ []) (Good n ∷ []) [] [] None None one two).items
