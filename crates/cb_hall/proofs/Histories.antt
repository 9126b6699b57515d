-- Calls of a badge, one list behind another.
use Rattle.std.proofs.Common.{◌≡◌, ◌∙◌, ◌^◌, ◌≤◌, ℕ, ◌+◌, List, [], ◌∷◌, ◌++◌, length, Option, Some, refl, sym, ap, subst, append_assoc, arith, true, inl, inr}
use Rattle.std.specs.Prelude.{map}
use Rattle.std.proofs.lemmas.List.{append-nil, length-append, map-append}
use Rattle.cb_state.specs.declared.connection.Connection.{Connection}
use Rattle.cb_hall.specs.declared.answer.Answer.{Answer}
use Rattle.cb_hall.specs.declared.entry.Entry.{Entry}
use Rattle.cb_hall.specs.declared.entry.Entry.TheVariants.{Asked}
use Rattle.cb_hall.specs.declared.question.Question.{Question}
use Rattle.cb_hall.specs.Journal.{JournalState}
use Rattle.cb_hall.specs.Replica.{Leads}
use Rattle.cb_hall.proofs.Leading.{leads_length, leads_one, leads_then}
use Rattle.cb_hall.specs.Badge.{BadgeState, marked}
use Rattle.cb_hall.specs.Hall.{Grants, HasHistory, IsFull}
use Rattle.cb_hall.specs.Histories.{Asks, IsMarkedFull, Reply, asked_by, told_by}

asked_append : (connection : Connection) (xs ys : List Reply) → asked_by connection (xs ++ ys) ≡ asked_by connection xs ++ asked_by connection ys
asked_append connection xs ys = map-append (λ reply. Asked connection reply.question) xs ys

told_append : (xs ys : List Reply) → told_by (xs ++ ys) ≡ told_by xs ++ told_by ys
told_append xs ys = map-append (λ reply. reply.answer) xs ys

-- no call
pub asks_none : (hall : JournalState) (badge : BadgeState) → Asks hall hall badge badge []
asks_none hall badge =
    record {
      leads = (refl, refl);
      history = λ past answers h.
          subst (λ (es : List Entry). HasHistory hall es (answers ++ [])) (sym (append-nil past))
          (subst (λ (xs : List Answer). HasHistory hall past xs) (sym (append-nil answers)) h);
      connection = refl;
      count = omega arith;
      marked = λ h. h;
    }

-- some calls, and then others
pub asks_then : (j k l : JournalState) (a b c : BadgeState) (xs ys : List Reply) → Asks j k a b xs → Asks k l b c ys → Asks j l a c (xs ++ ys)
asks_then j k l a b c xs ys x y =
    let second : Leads k.latest (asked_by a.connection ys) (told_by ys) l.latest = subst (λ (p : Connection). Leads k.latest (asked_by p ys) (told_by ys) l.latest) x.connection y.leads in
    let first_count = x.count in
    let next_count = y.count in
    record {
      leads =
          subst (λ (es : List Entry). Leads j.latest es (told_by (xs ++ ys)) l.latest) (sym (asked_append a.connection xs ys))
          (subst (λ (ts : List Answer). Leads j.latest (asked_by a.connection xs ++ asked_by a.connection ys) ts l.latest) (sym (told_append xs ys))
          (leads_then j.latest k.latest l.latest (asked_by a.connection xs) (asked_by a.connection ys) (told_by xs) (told_by ys) x.leads second));
      history = λ past answers h.
          let both = y.history (past ++ asked_by a.connection xs) (answers ++ told_by xs) (x.history past answers h) in
          let named : HasHistory l ((past ++ asked_by a.connection xs) ++ asked_by a.connection ys) ((answers ++ told_by xs) ++ told_by ys) =
          subst (λ (p : Connection). HasHistory l ((past ++ asked_by a.connection xs) ++ asked_by p ys) ((answers ++ told_by xs) ++ told_by ys)) x.connection both in
          let calls : (past ++ asked_by a.connection xs) ++ asked_by a.connection ys ≡ past ++ asked_by a.connection (xs ++ ys) =
          append_assoc past (asked_by a.connection xs) (asked_by a.connection ys) ∙ ap (λ (es : List Entry). past ++ es) (sym (asked_append a.connection xs ys)) in
          let told : (answers ++ told_by xs) ++ told_by ys ≡ answers ++ told_by (xs ++ ys) =
          append_assoc answers (told_by xs) (told_by ys) ∙ ap (λ (ts : List Answer). answers ++ ts) (sym (told_append xs ys)) in
          subst (λ (es : List Entry). HasHistory l es (answers ++ told_by (xs ++ ys))) calls
          (subst (λ (ts : List Answer). HasHistory l ((past ++ asked_by a.connection xs) ++ asked_by a.connection ys) ts) told named);
      connection = y.connection ∙ x.connection;
      count = omega (arith, length-append xs ys);
      marked = λ h. y.marked (x.marked h);
    }

-- a call that was granted
pub asks_one : (j k : JournalState) (a b : BadgeState) (question : Question) (answer : Answer) → Grants j k a b question answer → Asks j k a b (record { question = question; answer = answer } ∷ [])
asks_one j k a b question answer g =
    record {
      leads = leads_one j.latest k.latest (Asked a.connection question) (Some answer) g.grows.notes.steps;
      history = g.grows.history;
      connection = ap (λ (x : BadgeState). x.connection) g.badge;
      count = ap (λ (x : BadgeState). x.count) g.badge;
      marked = λ h. ap (λ (x : BadgeState). x.full) g.badge ∙ h;
    }

-- a badge that was marked
pub marked_full : (hall : JournalState) (old new : BadgeState) → new ≡ marked old → IsFull hall old → IsMarkedFull hall new
marked_full hall old new e h = subst (λ (b : BadgeState). IsMarkedFull hall b) (sym e) (refl, h)

-- a call that was refused as one too many
pub asks_marked : (j k : JournalState) (a b : BadgeState) → k ≡ j → b ≡ marked a → Asks j k a b []
asks_marked j k a b e m =
    subst (λ (x : BadgeState). Asks j k a x []) (sym m) (subst (λ (js : JournalState). Asks j js a (marked a) []) (sym e)
    record {
      leads = (refl, refl);
      history = (asks_none j a).history;
      connection = refl;
      count = omega arith;
      marked = λ h. refl;
    })

-- a call that was refused for want of memory
pub asks_starved : (j k : JournalState) (a b : BadgeState) → k ≡ j → b ≡ a → Asks j k a b []
asks_starved j k a b e m = subst (λ (x : BadgeState). Asks j k a x []) (sym m) (subst (λ (js : JournalState). Asks j js a a []) (sym e) (asks_none j a))

-- what is full stays so
pub full_stays : (j k : JournalState) (a b : BadgeState) (xs : List Reply) → Asks j k a b xs → IsMarkedFull j a → IsMarkedFull k b
full_stays j k a b xs x (mark, inl long) =
    let more = leads_length j.latest k.latest (asked_by a.connection xs) (told_by xs) x.leads in
    (x.marked mark, inl (omega (arith, more, long)))
full_stays j k a b xs x (mark, inr many) = (x.marked mark, inr (let more = x.count in omega (arith, more, many)))
