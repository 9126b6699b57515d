-- The command that the words of a command line enter.
use Rattle.std.proofs.Common.{◌≡◌, ◌≢◌, ◌⊎◌, inl, inr, ℕ, Bool, true, false, List, [], ◌∷◌, codes, Option, Some, None, Result, Ok, Err, IfOk, refl, subst}
use Rattle.std.specs.Prelude.{option_map}
use Rattle.clap.specs.Words.{IsAmong, fault_of, is_simple, is_simple_and_free, takes, subcommand_name_of, subcommand_rows_of}
use Rattle.clap.specs.declared.error.kind.ErrorKind.{ErrorKind}
use Rattle.clap.specs.declared.error.kind.ErrorKind.TheVariants.{OutOfMemory}
use Rattle.clap.specs.declared.parser.matches.ArgMatches.{ArgMatches}
use Rattle.clap.proofs.OnLiterals.{clap_on_literals}
use Rattle.cb_command.specs.Words.{AreRefused, program, task_in}
use Rattle.cb_command.specs.declared.commanding.Task.TheVariants.{Decode, Serve, Sim, Run, Node, Net}
use Rattle.cb_command.specs.declared.node_words.BadWords.{BadWords}
use Rattle.cb_net_plan.specs.Settings.{usual_settings}
use Rattle.cb_process.specs.declared.orders.NodeOrders.{NodeOrders}
use Rattle.cb_driver.specs.declared.running.RunOrders.{RunOrders}

pub program_is_simple : is_simple program ≡ true
unfolding clap_on_literals
program_is_simple = refl

pub program_is_free : is_simple_and_free program ≡ true
unfolding clap_on_literals
program_is_free = refl

mapped_twice : {A B C : Type 0} (f : A → B) (g : B → C) (o : Option A) → option_map (λ a. g (f a)) o ≡ option_map g (option_map f o)
mapped_twice f g None = refl
mapped_twice f g (Some a) = refl

-- the name of the command that was entered, and the same with its matches
pub name_of_rows : (m : ArgMatches) → subcommand_name_of m ≡ option_map (λ found. found.0) (subcommand_rows_of m)
name_of_rows m = mapped_twice _ (λ found. found.0) _

-- the commands by their words
pub named : (orders : RunOrders) (node : Result NodeOrders BadWords) (name : List ℕ) → (task_in orders node (name ∷ []) ≡ Decode) × (task_in orders node (name ∷ codes "decode" ∷ []) ≡ Decode) × (task_in orders node (name ∷ codes "serve" ∷ []) ≡ Serve) × (task_in orders node (name ∷ codes "sim" ∷ []) ≡ Sim)
    × (task_in orders node (name ∷ codes "run" ∷ codes "--nodes" ∷ codes "8" ∷ codes "--handlers" ∷ codes "16" ∷ []) ≡ Run orders) × (task_in orders node (name ∷ codes "node" ∷ []) ≡ Node node)
    × (task_in orders node (name ∷ codes "net" ∷ codes "--nodes" ∷ codes "5" ∷ []) ≡ Net (Ok (usual_settings 5)))
unfolding clap_on_literals
named orders node name = (refl, refl, refl, refl, refl, refl, refl)

-- and they are taken
pub taken : (name : List ℕ) → (takes program (name ∷ []) ≡ true) × (takes program (name ∷ codes "decode" ∷ []) ≡ true) × (takes program (name ∷ codes "serve" ∷ []) ≡ true) × (takes program (name ∷ codes "sim" ∷ []) ≡ true)
    × (takes program (name ∷ codes "run" ∷ codes "--nodes" ∷ codes "8" ∷ codes "--handlers" ∷ codes "16" ∷ []) ≡ true) × (takes program (name ∷ codes "node" ∷ []) ≡ true)
    × (takes program (name ∷ codes "net" ∷ codes "--nodes" ∷ codes "5" ∷ []) ≡ true)
unfolding clap_on_literals
taken name = (refl, refl, refl, refl, refl, refl, refl)

pub if_ok_more : {T E : Type 0} {P Q : T → Type 0} (r : Result T E) → ((t : T) → P t → Q t) → IfOk r P → IfOk r Q
if_ok_more (Ok t) f p = f t p
if_ok_more (Err e) f p = p

-- ---- words on which a parse failed

decided : (b : Bool) → (b ≡ true) ⊎ (b ≡ false)
decided true = inl refl
decided false = inr refl

some_kind : (kind : ErrorKind) (kinds : List ErrorKind) → IsAmong kind kinds → kinds ≢ []
some_kind kind kinds among none = subst (IsAmong kind) none among

-- memory ran out, or the words are refused
pub failed_parse : {Refused Lacked : Type 0} (parsed words : List (List ℕ)) (kind : ErrorKind) → parsed ≡ words → (takes program parsed ≡ true → kind ≡ OutOfMemory)
    → (kind ≡ OutOfMemory) ⊎ IsAmong kind (fault_of program parsed) → (kind ≡ OutOfMemory → Lacked) → Refused ⊎ Lacked → (AreRefused words × Refused) ⊎ Lacked
failed_parse parsed words kind same passes kinds lacks ends =
    elim (decided (takes program parsed)) [
      | inl taken ↦ inr (lacks (passes taken))
      | inr not_taken ↦ elim kinds [
        | inl memory ↦ inr (lacks memory)
        | inr among ↦ elim ends [
          | inl refused ↦ inl (subst AreRefused same (not_taken, some_kind kind (fault_of program parsed) among), refused)
          | inr lacked ↦ inr lacked
        ]
      ]
    ]
