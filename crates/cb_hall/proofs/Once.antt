-- One entry more has one answer and leads to one state.
use Rattle.std.proofs.Common.{◌≡◌, ◌∙◌, ℕ, Bool, true, false, List, [], ◌∷◌, ◌++◌, Option, None, Some, refl, sym, ap, subst}
use Rattle.cb_base.specs.declared.hash.Hash256.{Hash256}
use Rattle.cb_state.specs.declared.connection.Connection.{Connection}
use Rattle.cb_wire.specs.declared.inventory.Inventory.{Inventory}
use Rattle.cb_state.specs.declared.news.News.{News}
use Rattle.cb_state.specs.declared.wanting.Need.{Need}
use Rattle.cb_state.specs.News.{IsNews}
use Rattle.cb_state.specs.State.{RelayState}
use Rattle.cb_state.specs.Wanting.{IsNeed, blocks_of, is_near}
use Rattle.cb_state.proofs.OneAnswer.{one_heads, one_taken, one_tx}
use Rattle.cb_hall.specs.declared.answer.Answer.{Answer}
use Rattle.cb_hall.specs.declared.answer.Answer.TheVariants as answer
use Rattle.cb_hall.specs.declared.entry.Entry.{Entry}
use Rattle.cb_hall.specs.declared.entry.Entry.TheVariants.{Asked, Kick, Opened, Submitted}
use Rattle.cb_hall.specs.declared.entry.Local.{Local}
use Rattle.cb_hall.specs.declared.entry.Local.TheVariants as local
use Rattle.cb_hall.specs.declared.question.Question.{Question}
use Rattle.cb_hall.specs.declared.question.Question.TheVariants as question
use Rattle.cb_hall.specs.declared.question.Request.{Request}
use Rattle.cb_hall.specs.declared.question.Request.TheVariants.{After, Items, Places}
use Rattle.cb_hall.specs.Connections.{Slots, is_kicked}
use Rattle.cb_hall.specs.Replica.{Leads, ReplicaState, Steps, Tells, heard}
use Rattle.cb_hall.specs.Replies.{Answers, IsServed, Replies, Submits, giver}

-- ---- records by their fields

same_need : (a b : Need) → a.entries ≡ b.entries → a.near ≡ b.near → a.locator ≡ b.locator → a ≡ b
same_need a b e f g = λ i. record { entries = e i; near = f i; locator = g i }

same_news : (a b : News) → a.tip ≡ b.tip → a.path ≡ b.path → a.long ≡ b.long → a.block ≡ b.block → a.txids ≡ b.txids → a.next ≡ b.next → a.high ≡ b.high → a ≡ b
same_news a b d e f g h k l = λ i. record { tip = d i; path = e i; long = f i; block = g i; txids = h i; next = k i; high = l i }

same_replica : (a b : ReplicaState) → a.relay ≡ b.relay → a.connections ≡ b.connections → a.entries ≡ b.entries → a ≡ b
same_replica a b e f g = λ i. record { relay = e i; connections = f i; entries = g i }

-- ---- answers

one_need : (state : RelayState) (entries : List Inventory) (a b : Need) → IsNeed state entries a → IsNeed state entries b → a ≡ b
one_need state entries a b is are =
    let same = is.wanted ∙ sym are.wanted in
    same_need a b same (is.near ∙ ap (λ (es : List Inventory). is_near state (blocks_of es)) same ∙ sym are.near)
    (is.locator ∙ rw same refl ∙ sym are.locator)

one_news : (state : RelayState) (connection : Connection) (told : Option Hash256) (from : ℕ) (whole : Bool) (a b : News) → IsNews state connection told from whole a
    → IsNews state connection told from whole b → a ≡ b
one_news state connection told from whole a b is are =
    same_news a b (is.tip ∙ sym are.tip) (is.path ∙ sym are.path) (is.long ∙ sym are.long) (is.block ∙ sym are.block) (is.txids ∙ sym are.txids) (is.next ∙ sym are.next) (is.high ∙ sym are.high)

one_served : (state : RelayState) (request : Request) (told again : Answer) → IsServed state request told → IsServed state request again → told ≡ again
one_served state (Items entries) told again is are = is ∙ sym are
one_served state (After locator stop) told again is are = is ∙ sym are
one_served state (Places hash differences) told again is are = is ∙ sym are

one_answer : (old new other : RelayState) (connection : Connection) (asked : Question) (told again : Answer) → Answers old connection asked told new → Answers old connection asked again other
    → (told ≡ again) × (new ≡ other)
one_answer old new other connection question.Admit told again h k = (h.0 ∙ sym k.0, h.1 ∙ sym k.1)
one_answer old new other connection (question.Headers headers) told again (heads, e, is) (met, f, are) =
    let one = one_heads old new other headers heads met is are in (e ∙ ap answer.Heads one.0 ∙ sym f, one.1)
one_answer old new other connection question.Locator told again h k = (h.0 ∙ sym k.0, h.1 ∙ sym k.1)
one_answer old new other connection (question.Want entries) told again (need, e, is, same) (lack, f, are, like) =
    (e ∙ ap answer.Need (one_need old entries need lack is are) ∙ sym f, same ∙ sym like)
one_answer old new other connection (question.GiveTx tx) told again (refused, e, is) (fault, f, are) =
    let one = one_tx old new other tx refused fault is are in (e ∙ ap answer.TxTaken one.0 ∙ sym f, one.1)
one_answer old new other connection (question.GiveBlock given) told again (taken, e, is) (met, f, are) =
    let one = one_taken old new other given.block (giver connection given) taken met is are in (e ∙ ap answer.Taken one.0 ∙ sym f, one.1)
one_answer old new other connection (question.Serve request) told again h k = (one_served old request told again h.0 k.0, h.1 ∙ sym k.1)
one_answer old new other connection (question.News since) told again (news, e, is, same) (tale, f, are, like) =
    (e ∙ ap answer.News (one_news old connection since.tip since.from since.whole news tale is are) ∙ sym f, same ∙ sym like)
one_answer old new other connection (question.Match sought) told again h k = (h.0 ∙ sym k.0, h.1 ∙ sym k.1)

one_reply : (kicked : Bool) (old new other : RelayState) (connection : Connection) (asked : Question) (told again : Answer) → Replies kicked old connection asked told new
    → Replies kicked old connection asked again other → (told ≡ again) × (new ≡ other)
one_reply true old new other connection asked told again h k = (h.0 ∙ sym k.0, h.1 ∙ sym k.1)
one_reply false old new other connection asked told again h k = one_answer old new other connection asked told again h k

one_submit : (old new other : RelayState) (given : Local) (told again : Answer) → Submits old given told new → Submits old given again other → (told ≡ again) × (new ≡ other)
one_submit old new other (local.Tx tx) told again (refused, e, is) (fault, f, are) =
    let one = one_tx old new other tx refused fault is are in (e ∙ ap answer.TxTaken one.0 ∙ sym f, one.1)
one_submit old new other (local.Block block) told again (taken, e, is) (met, f, are) =
    let one = one_taken old new other block None taken met is are in (e ∙ ap answer.Taken one.0 ∙ sym f, one.1)
one_submit old new other (local.Header header) told again (heads, e, is) (met, f, are) =
    let one = one_heads old new other (header ∷ []) heads met is are in (e ∙ ap answer.Heads one.0 ∙ sym f, one.1)

-- ---- entries

one_telling : (old new other : RelayState) (connections : Slots) (entry : Entry) (told again : Option Answer) → Tells old connections entry told new → Tells old connections entry again other
    → (told ≡ again) × (new ≡ other)
one_telling old new other connections (Asked connection asked) told again (a, e, is) (b, f, are) =
    let one = one_reply (is_kicked connections connection) old new other connection asked a b is are in (e ∙ ap Some one.0 ∙ sym f, one.1)
one_telling old new other connections (Kick connection) told again h k = (h.0 ∙ sym k.0, h.1 ∙ sym k.1)
one_telling old new other connections (Opened connection) told again (e, is, same) (f, are, like) = (e ∙ sym f, same ∙ sym like)
one_telling old new other connections (Submitted given) told again (a, e, is) (b, f, are) =
    let one = one_submit old new other given a b is are in (e ∙ ap Some one.0 ∙ sym f, one.1)

pub one_step : (old new other : ReplicaState) (entry : Entry) (told again : Option Answer) → Steps old entry told new → Steps old entry again other → (told ≡ again) × (new ≡ other)
one_step old new other entry told again h k =
    let one = one_telling old.relay new.relay other.relay old.connections entry told again h.does.0 k.does.0 in
    (one.0, same_replica new other one.1 (h.does.1 ∙ sym k.does.1) (h.entries ∙ sym k.entries))

pub one_end : (old new other : ReplicaState) (entries : List Entry) (answers again : List Answer) → Leads old entries answers new → Leads old entries again other
    → (answers ≡ again) × (new ≡ other)
one_end old new other [] answers again h k = (h.0 ∙ sym k.0, h.1 ∙ sym k.1)
one_end old new other (entry ∷ entries) answers again (told, next, others, step, heard_all, rest) (said, after, more, walk, heard_too, end) =
    let first = one_step old next after entry told said step walk in
    let last = one_end next new other entries others more rest (subst (λ (s : ReplicaState). Leads s entries more other) (sym first.1) end) in
    (heard_all ∙ ap (λ (xs : List Answer). heard entry told ++ xs) last.0 ∙ ap (λ (t : Option Answer). heard entry t ++ more) first.0 ∙ sym heard_too, last.1)
