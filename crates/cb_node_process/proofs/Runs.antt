-- How answers follow each other.
use Rattle.std.proofs.Common.{◌≡◌, ◌⊎◌, ℕ, Bool, true, false, List, [], ◌∷◌, ◌++◌, Option, inl, inr, sym, ap, subst, ◌∙◌, append-nil, append_assoc}
use Rattle.std.specs.Prelude.{⊤}
use Rattle.std.proofs.KnownBytes.{Appends-trans}
use Rattle.std.proofs.lemmas.Grind.{flat_map-append}
use Rattle.std.proofs.lemmas.List.Elements.{All-append, All-cons, All-nil, All-weaker}
use Rattle.std.specs.Io.KnownBytes.{Appends}
use Rattle.std.specs.List.{flat_map}
use Rattle.std.specs.declared.net.socket_addr.SocketAddr.{SocketAddr}
use Rattle.cb_control.specs.declared.order.Order.{Order}
use Rattle.cb_control.specs.declared.reply.Reply.{Reply}
use Rattle.cb_control.specs.declared.reply.Reply.TheVariants as replies
use Rattle.cb_control.specs.declared.verdict.Verdict.{Verdict}
use Rattle.cb_control.specs.Outcomes.{says_yes}
use Rattle.cb_control.specs.ReplyText.{reply_text}
use Rattle.cb_node_process.specs.declared.order_answering.LineOutcome.{LineOutcome}
use Rattle.cb_node_process.specs.declared.order_answering.LineOutcome.TheVariants as responses
use Rattle.cb_node_process.specs.Telling.{Comes, IsAnswer, IsTold, Responds, Tells, TellsAll, TellsOpening}

-- what answers where more is well
pub answer_weaker : {A B : Type 0} → (B → A) → (reply : Reply) → IsAnswer A reply → IsAnswer B reply
answer_weaker f reply (inl (order, suits)) = inl (order, record { can = suits.can; well = λ b. suits.well (f b) })
answer_weaker f reply (inr other) = inr other

pub told_weaker : {A B : Type 0} → (B → A) → (told : Reply) → IsTold A told → IsTold B told
told_weaker f told (reply, is, printed) = (reply, answer_weaker f reply is, printed)

-- what comes of an order
pub order_comes : (order : Order) (response : LineOutcome) → Responds order response → Comes response
order_comes order (responses.Reply reply) suits = inl (order, suits)
order_comes order (responses.Failed reply) suits = inl (order, suits)
order_comes order responses.Silence waits = tt
order_comes order (responses.End broken) ends = tt

-- ---- a whole run

pub opened : (Well : Type 0) (a b : Option (List ℕ)) (address : SocketAddr) → Tells a b (replies.Listening address) → TellsOpening Well a b
opened Well a b address one = (address, one.0, [], one.1, All-nil (IsTold Well), subst (Appends a b) (sym (append-nil (reply_text one.0))) one.2)

-- nothing more
pub opened_still : (Well : Type 0) (a b c : Option (List ℕ)) → TellsOpening Well a b → Appends b c [] → TellsOpening Well a c
opened_still Well a b c o quiet =
    let text : List ℕ = reply_text o.1 ++ flat_map reply_text o.2 in
    (o.0, o.1, o.2, o.3, o.4, subst (Appends a c) (append-nil text) (Appends-trans a b c text [] o.5 quiet))

-- one more answer
pub opened_more : (A C : Type 0) (a b c : Option (List ℕ)) (reply : Reply) → (C → A) → TellsOpening A a b → IsAnswer C reply → Tells b c reply → TellsOpening C a c
opened_more A C a b c reply f o is (told, printed, p) =
    let first : List ℕ = reply_text o.1 in
    let so_far : List ℕ = flat_map reply_text o.2 in
    let last : so_far ++ reply_text told ≡ flat_map reply_text (o.2 ++ told ∷ []) =
    ap (λ (t : List ℕ). so_far ++ t) (sym (append-nil (reply_text told))) ∙ sym (flat_map-append reply_text o.2 (told ∷ [])) in (
      o.0,
      o.1,
      o.2 ++ told ∷ [],
      o.3,
      All-append (IsTold C) o.2 (told ∷ []) (All-weaker (IsTold A) (IsTold C) (told_weaker f) o.2 o.4) (All-cons (IsTold C) told [] (reply, is, printed) (All-nil (IsTold C))),
      subst (Appends a c) (append_assoc first so_far (reply_text told) ∙ ap (λ (t : List ℕ). first ++ t) last) (Appends-trans a b c (first ++ so_far) (reply_text told) o.5 p),
    )

-- the same behind a step that printed nothing, where all may be well, and where it isn't
pub reply_more : (well : Bool) (a b c d : Option (List ℕ)) (reply : Reply) → TellsOpening (well ≡ true) a b → Appends b c [] → IsAnswer ⊤ reply → Tells c d reply → TellsOpening (well ≡ true) a d
reply_more well a b c d reply o quiet is told =
    opened_more (well ≡ true) (well ≡ true) a c d reply (λ w. w) (opened_still (well ≡ true) a b c o quiet) (answer_weaker (λ w. tt) reply is) told

pub reply_failed : (Well : Type 0) (a b c d : Option (List ℕ)) (reply : Reply) → TellsOpening Well a b → Appends b c [] → IsAnswer ⊥ reply → Tells c d reply → TellsOpening (false ≡ true) a d
reply_failed Well a b c d reply o quiet is told =
    opened_more Well (false ≡ true) a c d reply (λ w. absurd cc) (opened_still Well a b c o quiet) (answer_weaker (λ w. absurd cc) reply is) told

pub tells_all : (IsAudit : Verdict → Type 0) (Well : Type 0) (a b c : Option (List ℕ)) (verdict : Verdict) (status : ℕ) → IsAudit verdict → (status ≡ 0 → Well) → (status ≡ 0 → says_yes verdict ≡ true) → TellsOpening Well a b
    → Tells b c (replies.Audit verdict) → (status ≡ 0) ⊎ (status ≡ 3) → TellsAll IsAudit a c status
tells_all IsAudit Well a b c verdict status is f says o l which = (
  o.0,
  verdict,
  o.1,
  l.0,
  o.2,
  is,
  o.3,
  l.1,
  All-weaker (IsTold Well) (IsTold (status ≡ 0)) (told_weaker f) o.2 o.4,
  Appends-trans a b c (reply_text o.1 ++ flat_map reply_text o.2) (reply_text l.0) o.5 l.2,
  (says, which),
)
