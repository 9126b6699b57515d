-- What reading the payload of a known command comes to.
use Rattle.std.proofs.Common.{◌≡◌, ◌⊎◌, ◌∙◌, ℕ, false, List, Some, None, Result, Ok, Err, sym, ap, inl, inr}
use Rattle.std.specs.Str.{IsUtf8}
use Rattle.std.proofs.lemmas.Bool.{false_from_ne_true}
use Rattle.cb_base.specs.declared.fault.Fault.{Fault}
use Rattle.cb_base.specs.declared.fault.Fault.TheVariants.{Memory}
use Rattle.cb_relay.specs.Messages.{wrong_payload, wrong_with}
use Rattle.cb_relay.specs.declared.message.NoMessage.TheVariants.{Bad}
use Rattle.cb_wire.specs.Command.{is_command, known_command}
use Rattle.cb_wire.specs.Envelope.{item_under, outcome}
use Rattle.cb_wire.specs.Grammar.{message_at, message_under, payload_at}
use Rattle.cb_wire.specs.declared.command.Command.{Command}
use Rattle.cb_wire.specs.declared.message.Message.{Message}
use Rattle.cb_wire.proofs.Names.{command-utf8}

-- bytes that are no text are no command
pub no_text : (name : List ℕ) → ¬ IsUtf8 name → is_command name ≡ false
no_text name never = false_from_ne_true (is_command name) (λ e. never (command-utf8 name e))

at_known : (name payload : List ℕ) (command : Command) → known_command name ≡ Some command → message_at name payload ≡ payload_at command payload
unfolding message_at
at_known name payload command e = ap (λ it. message_under it name payload) e

wrong_known : (name payload : List ℕ) (command : Command) (read : Result Message Fault) → known_command name ≡ Some command → message_at name payload ≡ read
    → wrong_payload name payload ≡ wrong_with (outcome command read)
wrong_known name payload command read e is =
    ap (λ it. wrong_with (item_under it name payload)) e ∙ ap (λ it. wrong_with (outcome command it)) (sym (at_known name payload command e) ∙ is)

pub known_fine : (name payload : List ℕ) (command : Command) (message : Message) → known_command name ≡ Some command → message_at name payload ≡ Ok message → wrong_payload name payload ≡ None
known_fine name payload command message e is = wrong_known name payload command (Ok message) e is

pub known_wrong : (name payload : List ℕ) (command : Command) (fault : Fault) → known_command name ≡ Some command → (fault ≡ Memory) ⊎ (message_at name payload ≡ Err fault)
    → (fault ≡ Memory) ⊎ (wrong_payload name payload ≡ Some (Bad fault))
known_wrong name payload command fault e (inl memory) = inl memory
known_wrong name payload command fault e (inr is) = inr (wrong_known name payload command (Err fault) e is)

-- ---- faults that come before an allocation

abbrev failed : (A W : Type 0) → W → Result A W
failed A W why = Err why

abbrev fine : (A W : Type 0) → A → Result A W
fine A W value = Ok value

-- they are told of one value, and so of another
pub passed_on : {A B W : Type 0} (P : Fault → Type 0) (f : Fault → W) (why : W) → ((fault : Fault) → P fault → failed A W why ≡ Err (f fault)) → (fault : Fault) → P fault → failed B W why ≡ Err (f fault)
passed_on {B = B} {W = W} P f why told fault is =
    let same : why ≡ f fault = (let all = told fault is in cc) in
    ap (failed B W) same

-- where there is a value, there is none of them
pub passed_by : {A B W : Type 0} (P : Fault → Type 0) (f : Fault → W) (value : A) (r : Result B W) → ((fault : Fault) → P fault → fine A W value ≡ Err (f fault)) → (fault : Fault) → P fault → r ≡ Err (f fault)
passed_by P f value r told fault is = absurd (let all = told fault is in cc)
