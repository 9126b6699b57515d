-- The answer to each question, and the state it leaves (Bitcoin's protocol, BIP 130, BIP 152).
use Rattle.std.specs.Prelude.{◌≡◌, Bool, true, false, if◌then◌else◌, [], ◌∷◌, Option, None, Some}
use Rattle.cb_base.specs.declared.fault.Fault.{Fault}
use Rattle.cb_chain.specs.Following.{headers_after}
use Rattle.cb_chain.specs.Locator.{locator_of}
use Rattle.cb_compact.specs.ShortIds.{key_of}
use Rattle.cb_pool.specs.Listing.{txs_of}
use Rattle.cb_compact.specs.Matching.{pairs_of}
use Rattle.cb_state.specs.declared.connection.Connection.{Connection}
use Rattle.cb_state.specs.declared.accepting.Heads.{Heads}
use Rattle.cb_state.specs.declared.accepting.Taken.{Taken}
use Rattle.cb_state.specs.declared.news.News.{News}
use Rattle.cb_state.specs.declared.wanting.Need.{Need}
use Rattle.cb_state.specs.Accepting.{TakesBlock, TakesHeads, TakesTx}
use Rattle.cb_state.specs.News.{IsNews}
use Rattle.cb_state.specs.Serving.{excerpt_of, pieces_of}
use Rattle.cb_state.specs.State.{RelayState}
use Rattle.cb_state.specs.Wanting.{IsNeed}
use Rattle.cb_hall.specs.declared.answer.Answer.{Answer}
use Rattle.cb_hall.specs.declared.answer.Answer.TheVariants as answer
use Rattle.cb_hall.specs.declared.entry.Local.{Local}
use Rattle.cb_hall.specs.declared.entry.Local.TheVariants as local
use Rattle.cb_hall.specs.declared.question.GivenBlock.{GivenBlock}
use Rattle.cb_hall.specs.declared.question.Question.{Question}
use Rattle.cb_hall.specs.declared.question.Question.TheVariants as question
use Rattle.cb_hall.specs.declared.question.Request.{Request}
use Rattle.cb_hall.specs.declared.question.Request.TheVariants.{After, Items, Places}

-- A connection that knows compact blocks becomes an announcer if its block becomes the tip.
abbrev pub giver : Connection → GivenBlock → Option Connection
giver connection given = if given.capable then Some connection else None

abbrev pub IsServed : RelayState → Request → Answer → Type 0
IsServed state (Items entries) told = told ≡ answer.Served (pieces_of state entries)
IsServed state (After locator stop) told =
    told ≡ answer.Following (headers_after state.tree locator stop)
IsServed state (Places hash differences) told =
    told ≡ answer.Excerpt (excerpt_of state hash differences)

-- A question of a connection that wasn't kicked.
abbrev pub Answers : RelayState → Connection → Question → Answer → RelayState → Type 0
Answers old connection question.Admit told new = (told ≡ answer.Go) × (new ≡ old)
Answers old connection (question.Headers headers) told new =
    (heads : Heads) × (told ≡ answer.Heads heads) × TakesHeads old headers heads new
Answers old connection question.Locator told new =
    (told ≡ answer.Locator (locator_of old.tree)) × (new ≡ old)
Answers old connection (question.Want entries) told new =
    (need : Need) × (told ≡ answer.Need need) × IsNeed old entries need × (new ≡ old)
Answers old connection (question.GiveTx tx) told new =
    (refused : Option Fault) × (told ≡ answer.TxTaken refused) × TakesTx old tx refused new
Answers old connection (question.GiveBlock given) told new =
    (taken : Taken) × (told ≡ answer.Taken taken)
    × TakesBlock old given.block (giver connection given) taken new
Answers old connection (question.Serve request) told new = IsServed old request told × (new ≡ old)
Answers old connection (question.News since) told new =
    (news : News) × (told ≡ answer.News news)
    × IsNews old connection since.tip since.from since.whole news × (new ≡ old)
Answers old connection (question.Match sought) told new =
    (told
    ≡ answer.Pairs
    (pairs_of (key_of sought.header sought.nonce) sought.ids (txs_of old.pool.list)))
    × (new ≡ old)

-- Each question of a kicked connection is answered with `Kicked` and changes nothing.
abbrev pub Replies : Bool → RelayState → Connection → Question → Answer → RelayState → Type 0
Replies true old connection question told new = (told ≡ answer.Kicked) × (new ≡ old)
Replies false old connection question told new = Answers old connection question told new

-- A transaction, a block or a header from the node's own user. No announcer changes.
abbrev pub Submits : RelayState → Local → Answer → RelayState → Type 0
Submits old (local.Tx tx) told new =
    (refused : Option Fault) × (told ≡ answer.TxTaken refused) × TakesTx old tx refused new
Submits old (local.Block block) told new =
    (taken : Taken) × (told ≡ answer.Taken taken) × TakesBlock old block None taken new
Submits old (local.Header header) told new =
    (heads : Heads) × (told ≡ answer.Heads heads) × TakesHeads old (header ∷ []) heads new
