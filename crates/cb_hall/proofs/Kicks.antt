-- What entries do to what is known of a connection: who was kicked, and how many questions were counted.
use Rattle.std.proofs.Common.{◌≡◌, ◌∙◌, ◌≢◌, ℕ, ◌+◌, Bool, true, false, List, [], ◌∷◌, ◌++◌, length, Option, None, Some, nat_eq, refl, sym, ap, subst, inl, inr, arith}
use Rattle.std.specs.Prelude.{◌⊎◌, filter, if◌then◌else◌}
use Rattle.std.specs.Option.{option_map_or}
use Rattle.std.proofs.lemmas.Bool.Decides.{nat_tests}
use Rattle.cb_state.specs.declared.connection.Connection.{Connection}
use Rattle.cb_state.specs.Announcers.{same_connection}
use Rattle.cb_state.specs.State.{RelayState}
use Rattle.cb_hall.specs.declared.answer.Answer.{Answer}
use Rattle.cb_hall.specs.declared.answer.Answer.TheVariants as reply
use Rattle.cb_hall.specs.declared.answer.Answer.TheVariants.{Kicked}
use Rattle.cb_hall.specs.declared.connections.Connected.{Connected}
use Rattle.cb_hall.specs.declared.entry.Entry.{Entry}
use Rattle.cb_hall.specs.declared.entry.Entry.TheVariants.{Asked, Kick, Opened, Submitted}
use Rattle.cb_chain.specs.Following.{headers_after}
use Rattle.cb_chain.specs.Locator.{locator_of}
use Rattle.cb_compact.specs.ShortIds.{key_of}
use Rattle.cb_pool.specs.Listing.{txs_of}
use Rattle.cb_compact.specs.Matching.{pairs_of}
use Rattle.cb_state.specs.Serving.{excerpt_of, pieces_of}
use Rattle.cb_hall.specs.declared.question.Question.{Question}
use Rattle.cb_hall.specs.declared.question.Question.TheVariants as ask
use Rattle.cb_hall.specs.declared.question.Request.{Request}
use Rattle.cb_hall.specs.declared.question.Request.TheVariants.{After, Items, Places}
use Rattle.cb_hall.specs.Connections.{Slots, changed_at, connected_of, counted, fresh, is_kicked, kicked, opened, put_in}
use Rattle.cb_hall.specs.Replica.{Does, Leads, ReplicaState, Steps}
use Rattle.cb_hall.specs.Replies.{Answers, IsServed, Replies}
use Rattle.cb_hall.proofs.Leading.{leads_one, leads_then}
use Rattle.cb_hall.specs.Laws.{AreTurnedAway, CountsItsQuestions, IsLetIn, WasKicked, is_question_of, questions_of}
use Rattle.cb_hall.proofs.Lookups.{comes_fresh, is_same, opened_keeps, put_either, put_nothing}

-- ---- one entry

pub same_self : (c : Connection) → same_connection c c ≡ true
same_self c =
    let peer : nat_eq c.peer c.peer ≡ true = grind (arith, nat_tests) in
    let generation : nat_eq c.generation c.generation ≡ true = grind (arith, nat_tests) in
    rw peer generation

not_true : (b : Bool) → (b ≡ true → ⊥) → b ≡ false
not_true true differ = absurd (differ refl)
not_true false differ = refl

not_same : (d c : Connection) → d ≢ c → same_connection d c ≡ false
not_same d c differ = not_true (same_connection d c) (λ e. differ (is_same d c e))

-- what becomes of a connection that is there
abbrev pub after_entry : Connection → Entry → Connected → Connected
after_entry c (Asked d question) x = if same_connection d c then counted x else x
after_entry c (Kick d) x = if same_connection d c then kicked x else x
after_entry c other x = x

put_known : (f : Connected → Connected) (slots : Slots) (d c : Connection) (x : Connected)
    → ((d ≢ c) × (connected_of (put_in f d slots) c ≡ Some x)) ⊎ ((d ≡ c) × (connected_of (put_in f d slots) c ≡ Some (f x)))
    → connected_of (put_in f d slots) c ≡ Some (if same_connection d c then f x else x)
put_known f slots d c x (inl (differ, is)) = rw (not_same d c differ) is
put_known f slots d c x (inr (same, is)) =
    let here : same_connection d c ≡ true = subst (λ (k : Connection). same_connection k c ≡ true) (sym same) (same_self c) in
    rw here is

pub does_known : (old new : RelayState) (slots after : Slots) (entry : Entry) (told : Option Answer) (c : Connection) (x : Connected) → Does old slots entry told new after
    → connected_of slots c ≡ Some x → connected_of after c ≡ Some (after_entry c entry x)
does_known old new slots after (Asked d question) told c x does is =
    subst (λ (s : Slots). connected_of s c ≡ Some (if same_connection d c then counted x else x)) (sym does.1) (put_known counted slots d c x (put_either counted slots d c x is))
does_known old new slots after (Kick d) told c x does is =
    subst (λ (s : Slots). connected_of s c ≡ Some (if same_connection d c then kicked x else x)) (sym does.1) (put_known kicked slots d c x (put_either kicked slots d c x is))
does_known old new slots after (Opened d) told c x does is = subst (λ (s : Slots). connected_of s c ≡ Some x) (sym does.1) (opened_keeps slots d.peer c x is)
does_known old new slots after (Submitted local) told c x does is = subst (λ (s : Slots). connected_of s c ≡ Some x) (sym does.1) is

-- one that isn't there is not there, or fresh
does_unknown : (old new : RelayState) (slots after : Slots) (entry : Entry) (told : Option Answer) (c : Connection) (y : Connected) → Does old slots entry told new after
    → connected_of slots c ≡ None → connected_of after c ≡ Some y → y ≡ fresh
does_unknown old new slots after (Asked d question) told c y does none is =
    absurd (let never : None ≡ Some y = sym (put_nothing counted slots d c none) ∙ ap (λ (s : Slots). connected_of s c) (sym does.1) ∙ is in cc)
does_unknown old new slots after (Kick d) told c y does none is =
    absurd (let never : None ≡ Some y = sym (put_nothing kicked slots d c none) ∙ ap (λ (s : Slots). connected_of s c) (sym does.1) ∙ is in cc)
does_unknown old new slots after (Opened d) told c y does none is = comes_fresh slots d.peer c y none (ap (λ (s : Slots). connected_of s c) (sym does.1) ∙ is)
does_unknown old new slots after (Submitted local) told c y does none is =
    absurd (let never : None ≡ Some y = sym none ∙ ap (λ (s : Slots). connected_of s c) (sym does.1) ∙ is in cc)

-- ---- questions are counted

abbrev pub one_if : Bool → ℕ
one_if b = if b then 1 else 0

count_by : (b : Bool) (x : Connected) → (if b then counted x else x).count ≡ x.count + one_if b
count_by true x = refl
count_by false x = omega arith

kept_by : (b : Bool) (x : Connected) → (if b then kicked x else x).count ≡ x.count + 0
kept_by true x = omega arith
kept_by false x = omega arith

pub count_after : (c : Connection) (entry : Entry) (x : Connected) → (after_entry c entry x).count ≡ x.count + one_if (is_question_of c entry)
count_after c (Asked d question) x = count_by (same_connection d c) x
count_after c (Kick d) x = kept_by (same_connection d c) x
count_after c (Opened d) x = omega arith
count_after c (Submitted local) x = omega arith

more_by : (b : Bool) (entry : Entry) (others : List Entry) → length (if b then entry ∷ others else others) ≡ one_if b + length others
more_by true entry others = omega arith
more_by false entry others = omega arith

questions_more : (c : Connection) (entry : Entry) (entries : List Entry) → questions_of c (entry ∷ entries) ≡ one_if (is_question_of c entry) + questions_of c entries
questions_more c entry entries = more_by (is_question_of c entry) entry (filter (is_question_of c) entries)

pub counts : (old new : ReplicaState) (calls : List Entry) (answers : List Answer) (c : Connection) → Leads old calls answers new → CountsItsQuestions old calls c new
counts old new [] answers c h had is = (had, ap (λ (s : ReplicaState). connected_of s.connections c) h.1 ∙ is, omega arith)
counts old new (entry ∷ calls) answers c h had is =
    let next = h.1 in
    let known = does_known old.relay next.relay old.connections next.connections entry h.0 c had h.3.does is in
    let rest = counts next new calls h.2 c h.5 (after_entry c entry had) known in
    let here = count_after c entry had in
    let more = questions_more c entry calls in
    let there = rest.2 in
    (rest.0, rest.1, omega (arith, here, more, there))

-- ---- kicks

known_kicked : (o : Option Connected) → option_map_or (λ x. x.kicked) o false ≡ true → (x : Connected) × (o ≡ Some x) × (x.kicked ≡ true)
known_kicked None h = absurd (let e : false ≡ true = h in cc)
known_kicked (Some x) h = (x, refl, h)

counted_on : (b : Bool) (x : Connected) → x.kicked ≡ true → (if b then counted x else x).kicked ≡ true
counted_on true x h = h
counted_on false x h = h

kicked_by : (b : Bool) (x : Connected) → x.kicked ≡ true → (if b then kicked x else x).kicked ≡ true
kicked_by true x h = refl
kicked_by false x h = h

kicked_on : (c : Connection) (entry : Entry) (x : Connected) → x.kicked ≡ true → (after_entry c entry x).kicked ≡ true
kicked_on c (Asked d question) x h = counted_on (same_connection d c) x h
kicked_on c (Kick d) x h = kicked_by (same_connection d c) x h
kicked_on c (Opened d) x h = h
kicked_on c (Submitted local) x h = h

step_kicked : (old new : ReplicaState) (entry : Entry) (told : Option Answer) (c : Connection) → Steps old entry told new → is_kicked old.connections c ≡ true → is_kicked new.connections c ≡ true
step_kicked old new entry told c step h =
    let was = known_kicked (connected_of old.connections c) h in
    let now = does_known old.relay new.relay old.connections new.connections entry told c was.0 step.does was.1 in
    ap (λ (o : Option Connected). option_map_or (λ x. x.kicked) o false) now ∙ kicked_on c entry was.0 was.2

stays_kicked : (old new : ReplicaState) (calls : List Entry) (answers : List Answer) (c : Connection) → Leads old calls answers new → is_kicked old.connections c ≡ true → is_kicked new.connections c ≡ true
stays_kicked old new [] answers c h is = ap (λ (s : ReplicaState). is_kicked s.connections c) h.1 ∙ is
stays_kicked old new (entry ∷ calls) answers c h is = stays_kicked h.1 new calls h.2 c h.5 (step_kicked old h.1 entry h.0 c h.3 is)

-- who was kicked is answered so
replies_kicked : (b : Bool) (old new : RelayState) (c : Connection) (question : Question) (answer : Answer) → b ≡ true → Replies b old c question answer new → (answer ≡ Kicked) × (new ≡ old)
replies_kicked true old new c question answer h replies = replies
replies_kicked false old new c question answer h replies = absurd (let e : false ≡ true = h in cc)

asked_kicked : (old new : ReplicaState) (c : Connection) (question : Question) (told : Option Answer) → Steps old (Asked c question) told new → is_kicked old.connections c ≡ true
    → (told ≡ Some Kicked) × (new.relay ≡ old.relay)
asked_kicked old new c question told step is =
    let tells = step.does.0 in
    let both = replies_kicked (is_kicked old.connections c) old.relay new.relay c question tells.0 is tells.2 in
    (tells.1 ∙ ap Some both.0, both.1)

pub turned_away : (old new : ReplicaState) (calls : List Entry) (answers : List Answer) (c : Connection) → Leads old calls answers new → is_kicked old.connections c ≡ true → AreTurnedAway old calls c new
turned_away old new calls answers c leads is =
    record {
      stays = stays_kicked old new calls answers c leads is;
      told = λ before after question told asked next answer whole first step. asked_kicked asked next c question answer step (stays_kicked old asked before told c first is);
    }

-- who wasn't isn't answered so
served_not : (old : RelayState) (request : Request) (answer : Answer) → IsServed old request answer → answer ≢ Kicked
served_not old (Items entries) answer served same = let e : reply.Served (pieces_of old entries) ≡ Kicked = sym served ∙ same in cc
served_not old (After locator stop) answer served same = let e : reply.Following (headers_after old.tree locator stop) ≡ Kicked = sym served ∙ same in cc
served_not old (Places hash differences) answer served same = let e : reply.Excerpt (excerpt_of old hash differences) ≡ Kicked = sym served ∙ same in cc

answers_not : (old new : RelayState) (c : Connection) (question : Question) (answer : Answer) → Answers old c question answer new → answer ≢ Kicked
answers_not old new c ask.Admit answer h same = let e : reply.Go ≡ Kicked = sym h.0 ∙ same in cc
answers_not old new c (ask.Headers headers) answer h same = let e : reply.Heads h.0 ≡ Kicked = sym h.1 ∙ same in cc
answers_not old new c ask.Locator answer h same = let e : reply.Locator (locator_of old.tree) ≡ Kicked = sym h.0 ∙ same in cc
answers_not old new c (ask.Want entries) answer h same = let e : reply.Need h.0 ≡ Kicked = sym h.1 ∙ same in cc
answers_not old new c (ask.GiveTx tx) answer h same = let e : reply.TxTaken h.0 ≡ Kicked = sym h.1 ∙ same in cc
answers_not old new c (ask.GiveBlock given) answer h same = let e : reply.Taken h.0 ≡ Kicked = sym h.1 ∙ same in cc
answers_not old new c (ask.Serve request) answer h same = served_not old request answer h.0 same
answers_not old new c (ask.News since) answer h same = let e : reply.News h.0 ≡ Kicked = sym h.1 ∙ same in cc
answers_not old new c (ask.Match sought) answer h same =
    let e : reply.Pairs (pairs_of (key_of sought.header sought.nonce) sought.ids (txs_of old.pool.list)) ≡ Kicked = sym h.0 ∙ same in cc

replies_not : (b : Bool) (old new : RelayState) (c : Connection) (question : Question) (answer : Answer) → b ≡ false → Replies b old c question answer new → answer ≢ Kicked
replies_not true old new c question answer h replies = absurd (let e : true ≡ false = h in cc)
replies_not false old new c question answer h replies = answers_not old new c question answer replies

pub let_in : (asked : ReplicaState) (c : Connection) → is_kicked asked.connections c ≡ false → IsLetIn asked c
let_in asked c differ question answer next step same =
    let tells = step.does.0 in
    replies_not (is_kicked asked.connections c) asked.relay next.relay c question tells.0 differ tells.2 (let e : Some tells.0 ≡ Some Kicked = sym tells.1 ∙ same in cc)

-- who wasn't and is was kicked by an entry
clash : (x : Connected) → x.kicked ≡ false → x.kicked ≡ true → ⊥
clash x differ is = let e : false ≡ true = sym differ ∙ is in cc

counted_not : (b : Bool) (x : Connected) → x.kicked ≡ false → (if b then counted x else x).kicked ≡ true → ⊥
counted_not true x differ is = clash x differ is
counted_not false x differ is = clash x differ is

kicked_same : (b : Bool) (x : Connected) → x.kicked ≡ false → (if b then kicked x else x).kicked ≡ true → b ≡ true
kicked_same true x differ is = refl
kicked_same false x differ is = absurd (clash x differ is)

kicked_there : (c : Connection) (entry : Entry) (x : Connected) → x.kicked ≡ false → (after_entry c entry x).kicked ≡ true → entry ≡ Kick c
kicked_there c (Asked d question) x differ is = absurd (counted_not (same_connection d c) x differ is)
kicked_there c (Kick d) x differ is = ap Kick (is_same d c (kicked_same (same_connection d c) x differ is))
kicked_there c (Opened d) x differ is = absurd (clash x differ is)
kicked_there c (Submitted local) x differ is = absurd (clash x differ is)

step_reason : (old new : ReplicaState) (entry : Entry) (told : Option Answer) (c : Connection) (o : Option Connected) → Steps old entry told new → connected_of old.connections c ≡ o
    → option_map_or (λ x. x.kicked) o false ≡ false → is_kicked new.connections c ≡ true → entry ≡ Kick c
step_reason old new entry told c None step at differ is =
    let now = known_kicked (connected_of new.connections c) is in
    let comes = does_unknown old.relay new.relay old.connections new.connections entry told c now.0 step.does at now.1 in
    absurd (let e : false ≡ true = sym (ap (λ (x : Connected). x.kicked) comes) ∙ now.2 in cc)
step_reason old new entry told c (Some x) step at differ is =
    let now = does_known old.relay new.relay old.connections new.connections entry told c x step.does at in
    kicked_there c entry x differ (sym (ap (λ (o : Option Connected). option_map_or (λ y. y.kicked) o false) now) ∙ is)

behind_entry : (entry : Entry) (calls : List Entry) (c : Connection) → WasKicked calls c → WasKicked (entry ∷ calls) c
behind_entry entry calls c was = (entry ∷ was.0, was.1, ap (λ (es : List Entry). entry ∷ es) was.2)

pick : (b : Bool) (A : Type 0) → (b ≡ true → A) → (b ≡ false → A) → A
pick true A agree differ = agree refl
pick false A agree differ = differ refl

pub for_a_reason : (old new : ReplicaState) (calls : List Entry) (answers : List Answer) (c : Connection) → Leads old calls answers new → is_kicked old.connections c ≡ false
    → is_kicked new.connections c ≡ true → WasKicked calls c
for_a_reason old new [] answers c h differ is = absurd (let e : false ≡ true = sym differ ∙ sym (ap (λ (s : ReplicaState). is_kicked s.connections c) h.1) ∙ is in cc)
for_a_reason old new (entry ∷ calls) answers c h differ is =
    pick (is_kicked h.1.connections c) (WasKicked (entry ∷ calls) c)
    (λ e. let kick = step_reason old h.1 entry h.0 c (connected_of old.connections c) h.3 refl differ e in ([], calls, ap (λ (x : Entry). x ∷ calls) kick))
    (λ e. behind_entry entry calls c (for_a_reason h.1 new calls h.2 c h.5 e is))
