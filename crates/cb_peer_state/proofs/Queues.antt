-- How many bytes the messages of a queue keep for themselves, and messages that are taken off.
use Rattle.std.proofs.Common.{◌≡◌, ◌∙◌, ap, sym, refl, ◌+◌, List, [], ◌∷◌, ◌++◌, append_assoc}
use Rattle.std.specs.Prelude.{map, sum}
use Rattle.std.proofs.lemmas.List.{map-append}
use Rattle.std.proofs.lemmas.Grind.{fold-append}
use Rattle.cb_peer_state.specs.declared.message_queue.Waiting.{Waiting}
use Rattle.cb_wire.specs.declared.message.Message.{Message}
use Rattle.cb_peer_state.specs.MessageQueue.{WereTaken, own_of}

-- with one message more
pub own_more : (waiting : List Waiting) (one : Waiting) → own_of (waiting ++ one ∷ []) ≡ own_of waiting + one.own
own_more waiting one =
    ap sum (map-append (λ (it : Waiting). it.own) waiting (one ∷ [])) ∙ fold-append ◌+◌ 0 (map (λ (it : Waiting). it.own) waiting) (one.own ∷ [])

-- the first was taken off
pub taken_one : (before : List Waiting) (first : Waiting) (after : List Waiting) → before ≡ first ∷ after → WereTaken before (first.message ∷ []) after
taken_one before first after is = record { first = first ∷ []; parts = is; taken = refl }

-- the first of those that waited still was taken off, too
pub taken_more : (before : List Waiting) (messages : List Message) (next : Waiting) (rest after : List Waiting) → WereTaken before messages rest → rest ≡ next ∷ after → WereTaken before (messages ++ next.message ∷ []) after
taken_more before messages next rest after w is =
    record {
      first = w.first ++ next ∷ [];
      parts = w.parts ∙ ap (λ (xs : List Waiting). w.first ++ xs) is ∙ sym (append_assoc w.first (next ∷ []) after);
      taken = ap (λ (ms : List Message). ms ++ next.message ∷ []) w.taken ∙ sym (map-append (λ (it : Waiting). it.message) w.first (next ∷ []));
    }
