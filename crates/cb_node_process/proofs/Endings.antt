-- How a run ends.
use Rattle.std.proofs.Common.{◌≡◌, ◌⊎◌, ◌↔◌, ℕ, Bool, true, List, Option, Result, Ok, Err, IfOk, IfErr, OnOk, inl, inr, subst}
use Rattle.std.specs.Io.KnownBytes.{Appends}
use Rattle.std.specs.declared.net.socket_addr.SocketAddr.{SocketAddr}
use Rattle.cb_control.specs.declared.ending.Halt.{Halt}
use Rattle.cb_control.specs.declared.verdict.Verdict.{Verdict}
use Rattle.cb_control.specs.declared.reply.Reply.TheVariants as replies
use Rattle.cb_control.specs.Outcomes.{LacksOrFails, says_yes}
use Rattle.cb_process.specs.Starting.{IsDeaf, IsPlace, deaf_text}
use Rattle.cb_process.specs.declared.orders.NodeOrders.{NodeOrders}
use Rattle.cb_rpc_serve.specs.declared.start_fault.StartFault.{StartFault}
use Rattle.cb_node_process.specs.Telling.{StopsEarly, Tells, TellsAll, TellsOpening}
use Rattle.cb_node_process.proofs.Runs.{tells_all}

-- the audit's answer is the last line
pub told_all : {E : Type 0} (IsAudit : Verdict → Type 0) (r : Result ℕ E) (a b c : Option (List ℕ)) (verdict : Verdict) (well served reached : Bool) → IsAudit verdict → TellsOpening (served ≡ true) a b
    → (well ≡ true → (says_yes verdict ≡ true) × ((reached ≡ true) × (served ≡ true)))
    → IfOk r (λ status. Tells b c (replies.Audit verdict)) → IfOk r (λ status. (status ≡ 0) ↔ (well ≡ true)) → IfOk r (λ status. (status ≡ 0) ⊎ (status ≡ 3)) → IfOk r (TellsAll IsAudit a c)
told_all IsAudit (Ok status) a b c verdict well served reached is o says last full which =
    tells_all IsAudit (served ≡ true) a b c verdict status is (λ zero. (says (full.0 zero)).1.1) (λ zero. (says (full.0 zero)).0) o last which
told_all IsAudit (Err halt) a b c verdict well served reached is o says last full which = tt

-- where it listens was printed, and answers, if it served to its end
pub opened_in : {B : Type 0} (r : Result (B × Bool) Halt) (broken : B) (well : Bool) (a b : Option (List ℕ)) → r ≡ Ok (broken, well) → IfOk r (λ served. TellsOpening (served.1 ≡ true) a b) → TellsOpening (well ≡ true) a b
opened_in r broken well a b is told = subst (λ (s : Result (_ × Bool) Halt). IfOk s (λ served. TellsOpening (served.1 ≡ true) a b)) is told

-- by which status
pub which : (IsAudit : Verdict → Type 0) (a b : Option (List ℕ)) (r : Result ℕ Halt) → IfOk r (TellsAll IsAudit a b) → IfOk r (λ status. (status ≡ 0) ⊎ (status ≡ 3))
which IsAudit a b (Ok status) told = told.10.1
which IsAudit a b (Err halt) told = tt

-- why it ends early, where more can fail
pub run_ends : (P Q : Type 0) (r : Result ℕ Halt) → IfErr r (StopsEarly P) → IfErr r (StopsEarly (P ⊎ Q))
run_ends P Q (Ok status) h = tt
run_ends P Q (Err halt) (inl e) = inl e
run_ends P Q (Err halt) (inr (inl e)) = inr (inl e)
run_ends P Q (Err halt) (inr (inr (e, p))) = inr (inr (e, inl p))

-- the same where standard error could not be told why it can't listen
pub deaf_ends : (P : Type 0) (failed : Bool) (r : Result ℕ Halt) → IfErr r (LacksOrFails failed) → IfErr r (StopsEarly (P ⊎ (failed ≡ true)))
deaf_ends P failed (Ok status) h = tt
deaf_ends P failed (Err halt) (inl e) = inl e
deaf_ends P failed (Err halt) (inr (e, q)) = inr (inr (e, inr q))

-- it ran, and standard error was told nothing
pub ran_quietly : (Same : Type 0) (A B : ℕ → Type 0) (r : Result ℕ Halt) → Same → IfOk r A → IfOk r (λ status. (A status × Same) ⊎ B status)
ran_quietly Same A B (Ok status) same a = inl (a, same)
ran_quietly Same A B (Err halt) same a = tt

-- standard error was told where it can't listen
pub deaf_told : (orders : NodeOrders) (told tells : Option (List ℕ)) (address : SocketAddr) (fault : StartFault) (r : Result ℕ Halt) → IsPlace orders address → OnOk r (Appends told tells (deaf_text address fault)) → OnOk r (IsDeaf orders told tells)
deaf_told orders told tells address fault (Ok status) place text = (address, fault, place, text)
deaf_told orders told tells address fault (Err halt) place text = tt

-- it can't listen
pub ran_deaf : (A : ℕ → Type 0) (B : Type 0) (r : Result ℕ Halt) → OnOk r B → IfOk r (λ status. status ≡ 3) → IfOk r (λ status. A status ⊎ (B × (status ≡ 3)))
ran_deaf A B (Ok status) b three = inr (b, three)
ran_deaf A B (Err halt) b three = tt

pub three_is_one : (r : Result ℕ Halt) → IfOk r (λ status. status ≡ 3) → IfOk r (λ status. (status ≡ 0) ⊎ (status ≡ 3))
three_is_one (Ok status) three = inr three
three_is_one (Err halt) three = tt
