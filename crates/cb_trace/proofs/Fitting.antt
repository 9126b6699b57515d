-- What a hall answers fits its question.
use Rattle.std.proofs.Common.{◌≡◌, ◌∙◌, Bool, true, false, Some, ap}
use Rattle.cb_hall.specs.declared.answer.Answer.{Answer}
use Rattle.cb_hall.specs.declared.question.Question.{Question}
use Rattle.cb_hall.specs.declared.question.Question.TheVariants as questions
use Rattle.cb_hall.specs.declared.question.Request.TheVariants.{Items, After, Places}
use Rattle.cb_hall.specs.Journal.{JournalState}
use Rattle.cb_hall.specs.Replies.{Replies}
use Rattle.cb_hall.specs.Badge.{BadgeState}
use Rattle.cb_hall.specs.Hall.{Grants}
use Rattle.cb_peer_state.specs.Questions.{fits}

reply_fits : (kicked : Bool) (old new : JournalState) (badge : BadgeState) (question : Question) (answer : Answer) → Replies kicked old.latest.relay badge.connection question answer new.latest.relay → fits question answer ≡ true
reply_fits true old new badge question answer r = ap (fits question) r.0
reply_fits false old new badge questions.Admit answer r = ap (fits questions.Admit) r.0
reply_fits false old new badge (questions.Headers headers) answer r = ap (fits (questions.Headers headers)) r.1
reply_fits false old new badge questions.Locator answer r = ap (fits questions.Locator) r.0
reply_fits false old new badge (questions.Want entries) answer r = ap (fits (questions.Want entries)) r.1
reply_fits false old new badge (questions.GiveTx tx) answer r = ap (fits (questions.GiveTx tx)) r.1
reply_fits false old new badge (questions.GiveBlock given) answer r = ap (fits (questions.GiveBlock given)) r.1
reply_fits false old new badge (questions.Serve (Items entries)) answer r = ap (fits (questions.Serve (Items entries))) r.0
reply_fits false old new badge (questions.Serve (After locator stop)) answer r = ap (fits (questions.Serve (After locator stop))) r.0
reply_fits false old new badge (questions.Serve (Places hash differences)) answer r = ap (fits (questions.Serve (Places hash differences))) r.0
reply_fits false old new badge (questions.Match sought) answer r = ap (fits (questions.Match sought)) r.0
reply_fits false old new badge (questions.News since) answer r = ap (fits (questions.News since)) r.1

-- what was granted was answered by its kind
pub grants_fit : (old new : JournalState) (had has : BadgeState) (question : Question) (answer : Answer) → Grants old new had has question answer → fits question answer ≡ true
grants_fit old new had has question answer g =
    let (told, same, replies) = g.grows.notes.steps.does.0 in
    let is : answer ≡ told = (let e : Some answer ≡ Some told = same in cc) in
    ap (fits question) is ∙ reply_fits _ old new had question told replies
