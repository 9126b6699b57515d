-- The task that the words name, and how it ended.
use Rattle.std.proofs.Common.{◌≡◌, ℕ, Bool, true, false, List, [], ◌⊎◌, inl, inr, codes, Option, Some, None, Result, Ok, Err, IfOk, IfErr, MatchResult, ap, sym, subst, ◌∙◌}
use Rattle.std.specs.Io.KnownBytes.{Appends}
use Rattle.std.specs.Prelude.{if◌then◌else◌}
use Rattle.std.specs.Str.{bytes_eq}
use Rattle.clap.specs.Words.{fault_of}
use Rattle.cb_control.specs.declared.ending.Status.{Status}
use Rattle.cb_control.specs.declared.ending.Halt.{Halt}
use Rattle.cb_control.specs.declared.ending.Halt.TheVariants.{Memory, ReadFailed, WriteFailed}
use Rattle.cb_control.specs.Ending.{HasCause, status_code}
use Rattle.cb_commands.specs.Report.{ReportsKnown}
use Rattle.cb_driver.specs.declared.running.RunOrders.{RunOrders}
use Rattle.cb_command.specs.Command.{EndsEarly, EndsNet, EndsNode, Halts, HasNodeCause, PrintsReport, code_of}
use Rattle.cb_command.specs.Words.{AreAsked, ByTask, entered, net_asked, program, task_in, task_named}
use Rattle.cb_command.specs.declared.commanding.Task.{Task}
use Rattle.cb_command.specs.declared.commanding.Task.TheVariants.{Decode, Serve, Sim, Run, Node, Net}
use Rattle.cb_command.specs.declared.node_words.BadWords.{BadWords}
use Rattle.cb_net_plan.specs.declared.settings.NetSettings.{NetSettings}
use Rattle.cb_net_plan.specs.declared.bad_net.BadNet.{BadNet}
use Rattle.cb_process.specs.declared.orders.NodeOrders.{NodeOrders}
use Rattle.cb_net.specs.Playing.{EndsShort}

-- a run with its status, or one that ended early
pub done : (Prints : ℕ → Type 0) (Same : Type 0) (input : Option (List ℕ)) (read_failed write_failed : Bool) (told tells : Option (List ℕ)) (failed : Bool) (ended : Result ℕ Halt) (code : ℕ) → IfOk ended Prints
    → IfErr ended (HasCause input read_failed write_failed) → MatchResult ended (λ c. (code ≡ c) × Same) (EndsEarly told tells failed code) → (Prints code × Same) ⊎ Halts input read_failed write_failed told tells failed code
done Prints Same input read_failed write_failed told tells failed (Ok status) code prints cause settled = inl (subst Prints (sym settled.0) prints, settled.1)
done Prints Same input read_failed write_failed told tells failed (Err halt) code prints cause settled = inr (halt, cause, settled)

-- the same of `decode`
pub decoded : (Same : Type 0) (input held holds : Option (List ℕ)) (read_failed write_failed : Bool) (told tells : Option (List ℕ)) (failed : Bool) (ended : Result Status Halt) (coded : Result ℕ Halt) (code : ℕ)
    → coded ≡ code_of ended → IfOk ended (ReportsKnown input held holds) → IfErr ended (HasCause input read_failed write_failed)
    → MatchResult coded (λ c. (code ≡ c) × Same) (EndsEarly told tells failed code) → (PrintsReport input held holds code × Same) ⊎ Halts input read_failed write_failed told tells failed code
decoded Same input held holds read_failed write_failed told tells failed (Ok status) coded code is reports cause settled =
    let both : (code ≡ status_code status) × Same = subst (λ (r : Result ℕ Halt). MatchResult r (λ c. (code ≡ c) × Same) (EndsEarly told tells failed code)) is settled in inl ((status, reports, both.0), both.1)
decoded Same input held holds read_failed write_failed told tells failed (Err halt) coded code is reports cause settled =
    inr (halt, cause, subst (λ (r : Result ℕ Halt). MatchResult r (λ c. (code ≡ c) × Same) (EndsEarly told tells failed code)) is settled)

-- the orders of `run` are those that were found
by_words : (orders other : RunOrders) (found : Result NodeOrders BadWords) (asked : Result NetSettings BadNet) (serve sim run node net : Bool) → Run other ≡ (if serve then Serve else if sim then Sim else if run then Run orders else if node then Node found else if net then Net asked else Decode) → other ≡ orders
by_words orders other found asked true sim run node net is = absurd (let clash : Run other ≡ Serve = is in cc)
by_words orders other found asked false true run node net is = absurd (let clash : Run other ≡ Sim = is in cc)
by_words orders other found asked false false true node net is = let same : Run other ≡ Run orders = is in cc
by_words orders other found asked false false false true net is = absurd (let clash : Run other ≡ Node found = is in cc)
by_words orders other found asked false false false false true is = absurd (let clash : Run other ≡ Net asked = is in cc)
by_words orders other found asked false false false false false is = absurd (let clash : Run other ≡ Decode = is in cc)

by_name : (orders other : RunOrders) (found : Result NodeOrders BadWords) (asked : Result NetSettings BadNet) (name : Option (List ℕ)) → Run other ≡ task_named orders found asked name → other ≡ orders
by_name orders other found asked None is = absurd (let clash : Run other ≡ Decode = is in cc)
by_name orders other found asked (Some name) is = by_words orders other found asked (bytes_eq name (codes "serve")) (bytes_eq name (codes "sim")) (bytes_eq name (codes "run")) (bytes_eq name (codes "node")) (bytes_eq name (codes "net")) is

-- and those of `node`
node_by_words : (orders : RunOrders) (found other : Result NodeOrders BadWords) (asked : Result NetSettings BadNet) (serve sim run node net : Bool) → Node other ≡ (if serve then Serve else if sim then Sim else if run then Run orders else if node then Node found else if net then Net asked else Decode) → other ≡ found
node_by_words orders found other asked true sim run node net is = absurd (let clash : Node other ≡ Serve = is in cc)
node_by_words orders found other asked false true run node net is = absurd (let clash : Node other ≡ Sim = is in cc)
node_by_words orders found other asked false false true node net is = absurd (let clash : Node other ≡ Run orders = is in cc)
node_by_words orders found other asked false false false true net is = let same : Node other ≡ Node found = is in cc
node_by_words orders found other asked false false false false true is = absurd (let clash : Node other ≡ Net asked = is in cc)
node_by_words orders found other asked false false false false false is = absurd (let clash : Node other ≡ Decode = is in cc)

node_by_name : (orders : RunOrders) (found other : Result NodeOrders BadWords) (asked : Result NetSettings BadNet) (name : Option (List ℕ)) → Node other ≡ task_named orders found asked name → other ≡ found
node_by_name orders found other asked None is = absurd (let clash : Node other ≡ Decode = is in cc)
node_by_name orders found other asked (Some name) is = node_by_words orders found other asked (bytes_eq name (codes "serve")) (bytes_eq name (codes "sim")) (bytes_eq name (codes "run")) (bytes_eq name (codes "node")) (bytes_eq name (codes "net")) is

-- and what was asked of `net`
net_by_words : (orders : RunOrders) (found : Result NodeOrders BadWords) (asked other : Result NetSettings BadNet) (serve sim run node net : Bool) → Net other ≡ (if serve then Serve else if sim then Sim else if run then Run orders else if node then Node found else if net then Net asked else Decode) → other ≡ asked
net_by_words orders found asked other true sim run node net is = absurd (let clash : Net other ≡ Serve = is in cc)
net_by_words orders found asked other false true run node net is = absurd (let clash : Net other ≡ Sim = is in cc)
net_by_words orders found asked other false false true node net is = absurd (let clash : Net other ≡ Run orders = is in cc)
net_by_words orders found asked other false false false true net is = absurd (let clash : Net other ≡ Node found = is in cc)
net_by_words orders found asked other false false false false true is = let same : Net other ≡ Net asked = is in cc
net_by_words orders found asked other false false false false false is = absurd (let clash : Net other ≡ Decode = is in cc)

net_by_name : (orders : RunOrders) (found : Result NodeOrders BadWords) (asked other : Result NetSettings BadNet) (name : Option (List ℕ)) → Net other ≡ task_named orders found asked name → other ≡ asked
net_by_name orders found asked other None is = absurd (let clash : Net other ≡ Decode = is in cc)
net_by_name orders found asked other (Some name) is = net_by_words orders found asked other (bytes_eq name (codes "serve")) (bytes_eq name (codes "sim")) (bytes_eq name (codes "run")) (bytes_eq name (codes "node")) (bytes_eq name (codes "net")) is

-- A task was run, whatever it told for the orders that the words give.
pub runs_task : {Refused Lacked : Type 0} (Decodes Serves Simulates : Type 0) (Runs : RunOrders → Type 0) (Nodes : Result NodeOrders BadWords → Type 0) (Nets : Type 0) (found task : Task) (words whole : List (List ℕ)) → found ≡ task → words ≡ whole → fault_of program words ≡ []
    → ((orders : RunOrders) × (node : Result NodeOrders BadWords) × AreAsked orders node words × (found ≡ task_in orders node words)) → ((orders : RunOrders) (node : Result NodeOrders BadWords) → task ≡ task_in orders node words → ByTask task Decodes Serves Simulates (Runs orders) (Nodes node) Nets)
    → Refused ⊎ (Lacked ⊎ ((fault_of program whole ≡ []) × ((orders : RunOrders) × (node : Result NodeOrders BadWords) × AreAsked orders node whole × ByTask (task_in orders node whole) Decodes Serves Simulates (Runs orders) (Nodes node) Nets)))
runs_task Decodes Serves Simulates Runs Nodes Nets found task words whole named same none given ran =
    let orders : RunOrders = given.0 in
    let node : Result NodeOrders BadWords = given.1 in
    let is : task ≡ task_in orders node words = subst (λ (t : Task). t ≡ task_in orders node words) named given.3 in
    let told : ByTask (task_in orders node words) Decodes Serves Simulates (Runs orders) (Nodes node) Nets = subst (λ (t : Task). ByTask t Decodes Serves Simulates (Runs orders) (Nodes node) Nets) is (ran orders node is) in
    inr (inr (subst (λ (w : List (List ℕ)). fault_of program w ≡ []) same none, (orders, node, subst (λ (w : List (List ℕ)). AreAsked orders node w) same given.2, subst (λ (w : List (List ℕ)). ByTask (task_in orders node w) Decodes Serves Simulates (Runs orders) (Nodes node) Nets) same told)))

-- what holds for the orders with which `run` was called holds for those that the words give
pub for_orders : (P : RunOrders → Type 0) (other orders : RunOrders) (node : Result NodeOrders BadWords) (words : List (List ℕ)) → P other → Run other ≡ task_in orders node words → P orders
for_orders P other orders node words holds is = subst P (by_name orders other node (net_asked words) (entered words) is) holds

-- the same of `node`
pub for_node : (P : Result NodeOrders BadWords → Type 0) (other : Result NodeOrders BadWords) (orders : RunOrders) (node : Result NodeOrders BadWords) (words : List (List ℕ)) → P other → Node other ≡ task_in orders node words → P node
for_node P other orders node words holds is = subst P (node_by_name orders node other (net_asked words) (entered words) is) holds

-- the same of `net`, and of the words that were parsed
pub for_net : (P : Result NetSettings BadNet → Type 0) (other : Result NetSettings BadNet) (orders : RunOrders) (node : Result NodeOrders BadWords) (words whole : List (List ℕ)) → words ≡ whole → P other → Net other ≡ task_in orders node words → P (net_asked whole)
for_net P other orders node words whole same holds is = subst (λ (w : List (List ℕ)). P (net_asked w)) same (subst P (net_by_name orders node (net_asked words) other (entered words) is) holds)

-- ---- how a node ended

-- why it ended early, where standard error was told of it afterwards
node_cause : (write_failed marked failed : Bool) (halt : Halt) → (halt ≡ Memory) ⊎ ((halt ≡ ReadFailed) ⊎ ((halt ≡ WriteFailed) × ((write_failed ≡ true) ⊎ (marked ≡ true)))) → (marked ≡ true → failed ≡ true) → HasNodeCause write_failed failed halt
node_cause write_failed marked failed halt why stays =
    elim why [
      | inl is ↦ subst (HasNodeCause write_failed failed) (sym is) tt
      | inr other ↦ elim other [
        | inl is ↦ subst (HasNodeCause write_failed failed) (sym is) tt
        | inr wrote ↦ subst (HasNodeCause write_failed failed) (sym wrote.0) (elim wrote.1 [
          | inl out ↦ inl out
          | inr was ↦ inr (stays was)
        ])
      ]
    ]

-- standard error had been told nothing before, or had failed
node_early : (told mid tells : Option (List ℕ)) (marked failed : Bool) (halt : Halt) (code : ℕ) → (mid ≡ told) ⊎ (marked ≡ true) → EndsEarly mid tells failed code halt → (marked ≡ true → failed ≡ true) → EndsEarly told tells failed code halt
node_early told mid tells marked failed halt code quiet ends stays =
    elim quiet [
      | inl same ↦ subst (λ (x : Option (List ℕ)). EndsEarly x tells failed code halt) same ends
      | inr was ↦ (inr (stays was), ends.1)
    ]

node_halted : (told mid tells : Option (List ℕ)) (write_failed marked failed : Bool) (halt : Halt) (code : ℕ) → (halt ≡ Memory) ⊎ ((halt ≡ ReadFailed) ⊎ ((halt ≡ WriteFailed) × ((write_failed ≡ true) ⊎ (marked ≡ true))))
    → (mid ≡ told) ⊎ (marked ≡ true) → EndsEarly mid tells failed code halt → (marked ≡ true → failed ≡ true) → EndsNode write_failed told tells failed code
node_halted told mid tells write_failed marked failed halt code why quiet ends stays =
    (halt, node_cause write_failed marked failed halt why stays, node_early told mid tells marked failed halt code quiet ends stays)

-- a standard error that is the same has been told the same
pub quiet_of : {E : Type 0} (contents : E → Option (List ℕ)) (mid told : E) (marked : Bool) (ended : Result ℕ Halt) → IfErr ended (λ halt. (mid ≡ told) ⊎ (marked ≡ true)) → IfErr ended (λ halt. (contents mid ≡ contents told) ⊎ (marked ≡ true))
quiet_of contents mid told marked (Ok status) quiet = tt
quiet_of contents mid told marked (Err halt) quiet =
    elim quiet [
      | inl same ↦ inl (ap contents same)
      | inr was ↦ inr was
    ]

-- A node ran, or told why it can't listen, or ended early; and standard error was told of that.
pub node_ran : (Prints : ℕ → Type 0) (Before After Same : Type 0) (told mid tells : Option (List ℕ)) (Deaf : Option (List ℕ) → Type 0) (write_failed marked failed : Bool) (ended : Result ℕ Halt) (code : ℕ)
    → IfOk ended (λ status. (Prints status × Before) ⊎ (Deaf mid × (status ≡ 3)))
    → IfErr ended (λ halt. (halt ≡ Memory) ⊎ ((halt ≡ ReadFailed) ⊎ ((halt ≡ WriteFailed) × ((write_failed ≡ true) ⊎ (marked ≡ true)))))
    → IfErr ended (λ halt. (mid ≡ told) ⊎ (marked ≡ true))
    → MatchResult ended (λ c. (code ≡ c) × After) (EndsEarly mid tells failed code)
    → (Before → After → Same) → (After → tells ≡ mid) → (marked ≡ true → failed ≡ true)
    → (Prints code × Same) ⊎ ((Deaf tells × (code ≡ 3)) ⊎ EndsNode write_failed told tells failed code)
node_ran Prints Before After Same told mid tells Deaf write_failed marked failed (Ok status) code ok why quiet settled both same stays =
    elim ok [
      | inl ran ↦ inl (subst Prints (sym settled.0) ran.0, both ran.1 settled.1)
      | inr deaf ↦ inr (inl (subst Deaf (sym (same settled.1)) deaf.0, settled.0 ∙ deaf.1))
    ]
node_ran Prints Before After Same told mid tells Deaf write_failed marked failed (Err halt) code ok why quiet settled both same stays =
    inr (inr (node_halted told mid tells write_failed marked failed halt code why quiet settled stays))

-- Words of `node` that can't be followed: standard error was told so, or that memory ran out.
pub node_refused : (After : Type 0) (told mid tells : Option (List ℕ)) (text : List ℕ) (write_failed marked failed : Bool) (ended : Result ℕ Halt) (code : ℕ)
    → IfOk ended (λ status. (status ≡ 3) × Appends told mid text)
    → IfErr ended (λ halt. (halt ≡ Memory) ⊎ ((halt ≡ WriteFailed) × (marked ≡ true)))
    → IfErr ended (λ halt. (mid ≡ told) ⊎ (marked ≡ true))
    → MatchResult ended (λ c. (code ≡ c) × After) (EndsEarly mid tells failed code)
    → (After → tells ≡ mid) → (marked ≡ true → failed ≡ true)
    → (Appends told tells text × (code ≡ 3)) ⊎ EndsNode write_failed told tells failed code
node_refused After told mid tells text write_failed marked failed (Ok status) code ok why quiet settled same stays =
    inl (subst (λ (x : Option (List ℕ)). Appends told x text) (sym (same settled.1)) ok.1, settled.0 ∙ ok.0)
node_refused After told mid tells text write_failed marked failed (Err halt) code ok why quiet settled same stays =
    inr (node_halted told mid tells write_failed marked failed halt code (elim why [
      | inl is ↦ inl is
      | inr wrote ↦ inr (inr (wrote.0, inr wrote.1))
    ]) quiet settled stays)

-- ---- how `net` ended

-- standard error was told of it afterwards
net_cause : (write_failed marked failed : Bool) (halt : Halt) → EndsShort write_failed marked halt → (marked ≡ true → failed ≡ true) → EndsShort write_failed failed halt
net_cause write_failed marked failed halt why stays =
    elim why [
      | inl is ↦ inl is
      | inr wrote ↦ inr (
        wrote.0,
        elim wrote.1 [
          | inl out ↦ inl out
          | inr was ↦ inr (stays was)
        ],
      )
    ]

-- It printed what it prints, or it ended early; and standard error was told of that.
pub net_ran : {E : Type 0} (contents : E → Option (List ℕ)) (Prints : E → ℕ → Type 0) (old mid new : E) (write_failed marked failed : Bool) (ended : Result ℕ Halt) (code : ℕ)
    → IfOk ended (Prints mid) → IfErr ended (EndsShort write_failed marked) → IfErr ended (λ halt. (mid ≡ old) ⊎ (marked ≡ true))
    → MatchResult ended (λ c. (code ≡ c) × (new ≡ mid)) (EndsEarly (contents mid) (contents new) failed code) → (marked ≡ true → failed ≡ true)
    → Prints new code ⊎ EndsNet write_failed (contents old) (contents new) failed code
net_ran {E} contents Prints old mid new write_failed marked failed (Ok status) code prints why quiet settled stays =
    inl (subst (λ (e : E). Prints e code) (sym settled.1) (subst (Prints mid) (sym settled.0) prints))
net_ran {E} contents Prints old mid new write_failed marked failed (Err halt) code prints why quiet settled stays =
    inr (
      halt,
      net_cause write_failed marked failed halt why stays,
      node_early (contents old) (contents mid) (contents new) marked failed halt code (elim quiet [
        | inl same ↦ inl (ap contents same)
        | inr was ↦ inr was
      ]) settled stays,
    )
