-- Each block that a session gives the hall is the only sound one under its header.
use Rattle.std.proofs.Common.{◌≡◌, List, [], Option, Some, None, refl, sym, subst, All}
use Rattle.std.proofs.lemmas.List.Elements.{All-append, All-cons, All-nil, filter_map-append}
use Rattle.cb_block.specs.declared.block.Block.{Block}
use Rattle.cb_block.specs.Blocks.{IsSoundBlock, texts}
use Rattle.cb_block.proofs.Only.{only_one}
use Rattle.cb_hall.specs.Histories.{Reply}
use Rattle.cb_hall.specs.declared.question.GivenBlock.{GivenBlock}
use Rattle.cb_hall.specs.declared.question.Question.{Question}
use Rattle.cb_hall.specs.declared.question.Question.TheVariants.{GiveBlock}
use Rattle.cb_peer_state.proofs.LawLemmas.{given_sound}
use Rattle.cb_peer_state.specs.Laws.{IsReached}
use Rattle.cb_peer_state.specs.Laws.IsReached.{opens}
use Rattle.cb_peer_state.specs.declared.event.Event.{Event}
use Rattle.cb_peer_state.specs.declared.event.Event.TheVariants.{Told}
use Rattle.cb_peer_state.specs.declared.settings.Settings.{Settings}
use Rattle.cb_peer_state.specs.declared.session_state.SessionState.{SessionState}
use Rattle.cb_peer_state.specs.Questions.{pending_question}
use Rattle.cb_trace.specs.Blocks.{IsOnlySound, blocks_given, blocks_in, given_in}
use Rattle.cb_trace.specs.declared.trace.TraceEntry.{TraceEntry}
use Rattle.cb_trace.specs.Fold.{Account, account_step, replies_to, session_of}
use Rattle.cb_trace.proofs.Reached.{entry_reached, is_reached, kept}

pub only_sound : (b : Block) → IsSoundBlock b → IsOnlySound b
only_sound b sound = record { sound = sound; only = λ others other apart. only_one b.header.root (texts b.txs) sound others other apart }

-- the open question of a reachable session
reached_given : (s : SessionState) (given : GivenBlock) → IsReached s → pending_question s ≡ Some (GiveBlock given) → IsOnlySound given.block
reached_given s given reached e = only_sound given.block (given_sound s given reached e)

-- the block of a question, if it gives one
abbrev GivesOnlySound : Option Question → Type 0
GivesOnlySound None = Unit {0}
GivesOnlySound (Some (GiveBlock given)) = IsOnlySound given.block
GivesOnlySound (Some other) = Unit {0}

-- what the open question gives
open_given : (s : SessionState) (question : Option Question) → IsReached s → pending_question s ≡ question → GivesOnlySound question
open_given s None reached e = tt
open_given s (Some (GiveBlock given)) reached e = reached_given s given reached e
open_given s (Some other) reached e = tt

-- the reply to it
last_given : (question : Option Question) (event : Event) → GivesOnlySound question → All IsOnlySound (blocks_in (replies_to question event))
last_given (Some (GiveBlock given)) (Told answer) is = All-cons IsOnlySound given.block [] is (All-nil IsOnlySound)
last_given (Some other) (Told answer) is = All-nil IsOnlySound
last_given question event is = All-nil IsOnlySound

-- the session is reachable, and each block that it gave was the only sound one
pub record GaveOnlySound (account : Account) : Type 0 where
  pub reached : IsReached account.session
  pub each : All IsOnlySound (blocks_in account.replies)

entry_given : (account : Account) (entry : TraceEntry) → GaveOnlySound account → GaveOnlySound (account_step account entry)
entry_given account entry gave =
    let question = pending_question account.session in
    let last = replies_to question entry.event in
    let more = last_given question entry.event (open_given account.session question gave.reached refl) in
    let both = All-append IsOnlySound (blocks_in account.replies) (blocks_in last) gave.each more in
    record {
      reached = entry_reached account.count account.session entry gave.reached;
      each = subst (All IsOnlySound) (sym (filter_map-append (λ (reply : Reply). given_in reply.question) account.replies last)) both;
    }

-- over all entries
pub each_given : (settings : Settings) (entries : List TraceEntry) → All IsOnlySound (blocks_given settings entries)
each_given settings entries = (kept GaveOnlySound entry_given settings entries (record { reached = opens settings; each = All-nil IsOnlySound })).each

pub pending_given : (settings : Settings) (entries : List TraceEntry) (given : GivenBlock) → pending_question (session_of settings entries) ≡ Some (GiveBlock given) → IsOnlySound given.block
pending_given settings entries given e = reached_given (session_of settings entries) given (is_reached settings entries) e
