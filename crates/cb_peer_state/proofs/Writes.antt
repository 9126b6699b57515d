-- What went out of messages, one after another.
use Rattle.std.proofs.Common.{◌≡◌, ◌≢◌, ◌⊎◌, inl, inr, subst, ℕ, ◌+◌, ◌-◌, ◌^◌, ◌<◌, min, List, [], ◌∷◌, ◌++◌, length, take, drop, Option, Some, None, refl, sym, ap, ◌∙◌, append_assoc, arith}
use Rattle.std.proofs.lemmas.List.{append-nil, length-append, length-take, take-append-drop}
use Rattle.std.proofs.lemmas.Grind.{flat_map-append}
use Rattle.std.specs.Io.KnownBytes.{Appends}
use Rattle.cb_base.proofs.Known.{Appends-nothing, Appends-then, Keeps-same}
use Rattle.cb_wire.specs.Envelope.{text}
use Rattle.cb_wire.specs.Stream.{texts}
use Rattle.cb_wire.specs.declared.message.Message.{Message}
use Rattle.cb_peer_state.specs.declared.message_sink.WriteFault.{WriteFault}
use Rattle.cb_peer_state.specs.declared.message_sink.WriteFault.TheVariants.{Io, Zero, Memory}
use Rattle.cb_peer_state.specs.Writing.{TellsBytes, Wrote, WrotePart, WroteUntil}

-- a beginning of a text went out, and no more
pub part_front : (old new : Option (List ℕ)) (piece text : List ℕ) (n : ℕ) → piece ≡ text → length piece < 2 ^ 64 → Appends old new (take n piece) → n < length piece → WrotePart old new text n
part_front old new piece text n e small w short =
    record {
      missing = drop n piece;
      wrote = record {
        sent = take n piece;
        parts = sym e ∙ sym (take-append-drop n piece);
        appended = w;
        count = λ tells. omega (arith, length-take n piece);
      };
    }

-- nothing went out
pub part_none : (old : Option (List ℕ)) (text : List ℕ) → WrotePart old old text 0
part_none old text = record { missing = text; wrote = record { sent = []; parts = refl; appended = Appends-nothing old old (Keeps-same old); count = λ tells. refl } }

-- a sink that tells its bytes still does behind a write
pub tells_still : (old new : Option (List ℕ)) (bytes : List ℕ) → Appends old new bytes → TellsBytes old → TellsBytes new
tells_still None new bytes appended tells = absurd tells
tells_still (Some held) None bytes appended tells = absurd appended
tells_still (Some held) (Some more) bytes appended tells = tt

-- whether memory was what lacked
is_memory : (fault : WriteFault) → (fault ≡ Memory) ⊎ (fault ≢ Memory)
is_memory Io = inr (λ e. absurd cc)
is_memory Zero = inr (λ e. absurd cc)
is_memory Memory = inl refl

-- nothing of a text went out
pub wrote_nothing : (old new : Option (List ℕ)) (text : List ℕ) (written : ℕ) → written ≡ 0 → new ≡ old → Wrote old new text written text
wrote_nothing old new text written zero same = record { sent = []; parts = refl; appended = subst (λ (x : Option (List ℕ)). Appends old x []) (sym same) (Appends-nothing old old (Keeps-same old)); count = λ tells. zero }

-- a text went out whole, and then a part of another
wrote_then : (a b c : Option (List ℕ)) (first second : List ℕ) (n m both : ℕ) (missing : List ℕ) → Wrote a b first n [] → Wrote b c second m missing → both ≡ min (n + m) (2 ^ 64 - 1) → Wrote a c (first ++ second) both missing
wrote_then a b c first second n m both missing w v e =
    record {
      sent = w.sent ++ v.sent;
      parts = ap (λ (x : List ℕ). x ++ second) (w.parts ∙ append-nil w.sent) ∙ ap (λ (x : List ℕ). w.sent ++ x) v.parts ∙ sym (append_assoc w.sent v.sent missing);
      appended = Appends-then a b c w.sent v.sent w.appended v.appended;
      count = λ tells. omega (arith, e, w.count tells, v.count (tells_still a b w.sent w.appended tells), length-append w.sent v.sent);
    }

-- The first of these messages went out whole, and the rest is still to be written.
pub record Written (old new : Option (List ℕ)) (messages rest : List Message) (written : ℕ) : Type 0 where
  pub done : List Message
  pub parts : messages ≡ done ++ rest
  pub wrote : Wrote old new (texts done) written []

one_more : (done : List Message) (message : Message) → texts (done ++ message ∷ []) ≡ texts done ++ text message
one_more done message = flat_map-append text done (message ∷ []) ∙ ap (λ (x : List ℕ). texts done ++ x) (append-nil (text message))

-- no message went out yet
pub written_none : (old : Option (List ℕ)) (messages rest : List Message) → rest ≡ messages → Written old old messages rest 0
written_none old messages rest e =
    record { done = []; parts = sym e; wrote = record { sent = []; parts = refl; appended = Appends-nothing old old (Keeps-same old); count = λ tells. refl } }

-- one message more went out whole
pub written_more : (a b c : Option (List ℕ)) (messages rest left : List Message) (message : Message) (n m both : ℕ) → Written a b messages rest n → rest ≡ message ∷ left → Wrote b c (text message) m [] → both ≡ min (n + m) (2 ^ 64 - 1) → Written a c messages left both
written_more a b c messages rest left message n m both w is v e =
    record {
      done = w.done ++ message ∷ [];
      parts = w.parts ∙ ap (λ (x : List Message). w.done ++ x) is ∙ sym (append_assoc w.done (message ∷ []) left);
      wrote = subst (λ (x : List ℕ). Wrote a c x both []) (sym (one_more w.done message)) (wrote_then a b c (texts w.done) (text message) n m both [] w.wrote v e);
    }

-- all went out
pub written_all : (a b : Option (List ℕ)) (messages rest : List Message) (n : ℕ) → Written a b messages rest n → rest ≡ [] → Wrote a b (texts messages) n []
written_all a b messages rest n w none =
    let all : messages ≡ w.done = w.parts ∙ ap (λ (x : List Message). w.done ++ x) none ∙ append-nil w.done in
    subst (λ (x : List Message). Wrote a b (texts x) n []) (sym all) w.wrote

-- A message didn't go out whole, and no more was tried.
pub written_until : (a b c : Option (List ℕ)) (messages rest left : List Message) (message : Message) (n m both : ℕ) (fault : WriteFault) → Written a b messages rest n → rest ≡ message ∷ left
    → (part : WrotePart b c (text message) m) → (fault ≡ Memory → Wrote b c (text message) m (text message)) → both ≡ min (n + m) (2 ^ 64 - 1) → WroteUntil a c messages both fault
written_until a b c messages rest left message n m both fault w is part starved e =
    let all : messages ≡ w.done ++ message ∷ left = w.parts ∙ ap (λ (x : List Message). w.done ++ x) is in
    let spelled : texts messages ≡ texts w.done ++ (text message ++ texts left) = ap texts all ∙ flat_map-append text w.done (message ∷ left) in
    let whole : (missing : List ℕ) → Wrote b c (text message) m missing → Wrote a c (texts messages) both (missing ++ texts left) =
    λ missing v. (
    let behind : Wrote b c (text message ++ texts left) m (missing ++ texts left) = record { sent = v.sent; parts = ap (λ (x : List ℕ). x ++ texts left) v.parts ∙ append_assoc v.sent missing (texts left); appended = v.appended; count = v.count } in
    subst (λ (x : List ℕ). Wrote a c x both (missing ++ texts left)) (sym spelled) (wrote_then a b c (texts w.done) (text message ++ texts left) n m both (missing ++ texts left) w.wrote behind e)) in
    elim (is_memory fault) [
      | inl lacks ↦ record {
        missing = text message ++ texts left;
        wrote = whole (text message) (starved lacks);
        whole = λ _. record { front = w.done; last = message ∷ left; parts = all; some = λ none. absurd (let clash = none in cc); text_is = refl };
      }
      | inr other ↦ record { missing = part.missing ++ texts left; wrote = whole part.missing part.wrote; whole = λ lacks. absurd (other lacks) }
    ]
