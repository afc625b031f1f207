-- The turn of a client in no transaction whose request goes to the engine with its words as they lie, or as the command that they make, or is a
-- PING without a text.
use Rattle.std.proofs.Common.{◌≡◌, ◌∙◌, ◌∷◌, ℕ, List, Some, refl, sym, ap, subst, IsTrue}
use Rattle.std.specs.Prelude.{Result, Ok, IfOk}
use Rattle.words.specs.declared.command.Command.{Command}
use Rattle.words.specs.declared.command.Command.TheVariants.{Ping, Echo, Get, Set, SetGet, SetNx, GetSet, GetDel, StrLen, Exists, Del, Append, SetRange, GetRange, Add, Subtract, MGet, MSet, MSetNx, Rename, Session, Bad}
use Rattle.words.specs.declared.command.When.TheVariants.{Always}
use Rattle.words.specs.declared.reply.Refusal.{Refusal}
use Rattle.words.specs.declared.reply.Reply.{Reply}
use Rattle.words.specs.declared.reply.Line.TheVariants.{Pong}
use Rattle.words.specs.Store.{Bytes}
use Rattle.words.specs.Spelling.{IsRequest}
use Rattle.words.specs.Commands.{command_of, touches_keys}
use Rattle.words.specs.Bounds.{IsBounded}
use Rattle.words.specs.Briefs.{commanded, pairs_of, last_of, IsGet, IsMGet, IsMSet, IsOne, IsSet, IsPing}
use Rattle.words.specs.declared.command.Count.TheVariants as by
use Rattle.words.specs.declared.command.Verb.{Verb}
use Rattle.words.specs.declared.command.Verb.TheVariants as verb
use Rattle.words.specs.Session.{Idle, Says, Calls, Run, turn, turn_idle, line_reply}
use Rattle.transact.specs.declared.call.Call.TheVariants.{One}
use Rattle.transact.specs.declared.call.Answer.{Answer}
use Rattle.transact.specs.declared.call.Answer.TheVariants as answer
use Rattle.transact.specs.Calls.{reply_to}
use Rattle.transact.specs.Submits.{IfReply, IfFault}
use Rattle.session.specs.Standings.{Wait, ForAnswer, stands}
use Rattle.session.specs.Laws.{WatchesPairsOfEntry, WatchesPairsOfFault}
use Rattle.engine.specs.Passes.{Known}
use Rattle.engine.specs.Calls.{Promises, IsDone, IsUndone}
use Rattle.connection.specs.declared.client.Next.TheVariants as next
use Rattle.connection.specs.Clients.{Progress, Called, Resumes, TakesUp, IsIdle, before}
use Rattle.connection.specs.Served.{Attends, Turned}
use Rattle.connection.proofs.Called.{turned_called, turned_said}

-- what a session in no transaction waits for that watches these keys
abbrev waits : List Bytes → Wait
waits watched = ForAnswer (stands Idle watched) (stands Idle watched)

-- it hands the command on
hands_on : (words : List Bytes) (command : Command) (at : Progress) (idle : IsIdle at.stage) → IsRequest words
    → turn Idle idle.0 words ≡ Calls (Run command) Idle Idle → IsTrue (touches_keys command) × IsBounded command
    → TakesUp (before words at) (next.Calls (One command)) (record at { stage = Called (waits idle.0) })
hands_on words command at idle request asks place =
    (words, record { request = request; taken = refl }, (waits idle.0, refl, rw (idle.1, asks) (refl, refl), λ pairs. place))

-- and says the answer as it comes
says_it : (at : Progress) (idle : IsIdle at.stage) (a : Answer) → Resumes (Called (waits idle.0)) a (reply_to a) at.stage
says_it at idle (answer.Reply reply) = (stands Idle idle.0, idle.1, (refl, refl))
says_it at idle (answer.Fault fault) = (stands Idle idle.0, idle.1, (refl, refl))

-- a client watches what it watched before its request was taken off
pub attends_before : (knows : Known) (words : List Bytes) (at : Progress) → Attends knows at → Attends knows (before words at)
attends_before knows words at attends = record { ready = attends.ready; watches = attends.watches }

-- the turn
turned_brief : {promises : Promises} (was now : Known) (stripes : List ℕ) (words : List Bytes) (command : Command) (a : Answer) (reply : Reply) (at : Progress)
    → WatchesPairsOfEntry → WatchesPairsOfFault → Attends was at → (idle : IsIdle at.stage) → IsRequest words
    → turn Idle idle.0 words ≡ Calls (Run command) Idle Idle → IsTrue (touches_keys command) × IsBounded command
    → IfReply a (λ given. IsDone stripes (Some (Run command)) given was now) → IfFault a (λ f. IsUndone promises stripes (Some (Run command)) f was now)
    → reply ≡ reply_to a → Turned promises was now (before words at) at reply
turned_brief was now stripes words command a reply at entry law attends idle request asks place done undone says =
    turned_called was now stripes (One command) a reply (before words at) (record at { stage = Called (waits idle.0) }) at entry law
    (attends_before was words at attends) (hands_on words command at idle request asks place) done undone refl (rw says (says_it at idle a))

-- a session in no transaction hands a command that reads or writes keys on
handed_on : (watched : List Bytes) (command : Command) → IsTrue (touches_keys command) → turn_idle watched (Ok command) ≡ Calls (Run command) Idle Idle
handed_on watched (Ping text) touches = absurd (cc touches)
handed_on watched (Echo text) touches = absurd (cc touches)
handed_on watched (Get key) touches = refl
handed_on watched (Set key value when) touches = refl
handed_on watched (SetGet key value when) touches = refl
handed_on watched (SetNx key value) touches = refl
handed_on watched (GetSet key value) touches = refl
handed_on watched (GetDel key) touches = refl
handed_on watched (StrLen key) touches = refl
handed_on watched (Exists keys) touches = refl
handed_on watched (Del keys) touches = refl
handed_on watched (Append key value) touches = refl
handed_on watched (SetRange key offset value) touches = refl
handed_on watched (GetRange key start end) touches = refl
handed_on watched (Add key n) touches = refl
handed_on watched (Subtract key n) touches = refl
handed_on watched (MGet keys) touches = refl
handed_on watched (MSet settings) touches = refl
handed_on watched (MSetNx settings) touches = refl
handed_on watched (Rename key name) touches = refl
handed_on watched (Session command) touches = absurd (cc touches)
handed_on watched (Bad refusal) touches = absurd (cc touches)

-- of a command that reads or writes keys
pub turned_command : {promises : Promises} (was now : Known) (stripes : List ℕ) (words : List Bytes) (command : Command) (a : Answer) (reply : Reply) (at : Progress)
    → WatchesPairsOfEntry → WatchesPairsOfFault → Attends was at → IsIdle at.stage → IsRequest words
    → Ok command ≡ command_of words → IsTrue (touches_keys command) → IsBounded command
    → IfReply a (λ given. IsDone stripes (Some (Run command)) given was now) → IfFault a (λ f. IsUndone promises stripes (Some (Run command)) f was now)
    → reply ≡ reply_to a → Turned promises was now (before words at) at reply
turned_command was now stripes words command a reply at entry law attends idle request made touches bounded done undone says =
    turned_brief was now stripes words command a reply at entry law attends idle request (ap (turn_idle idle.0) (sym made) ∙ handed_on idle.0 command touches)
    (touches, bounded) done undone says

-- of a GET
pub turned_get : {promises : Promises} (was now : Known) (stripes : List ℕ) (words : List Bytes) (a : Answer) (reply : Reply) (at : Progress)
    → WatchesPairsOfEntry → WatchesPairsOfFault → Attends was at → IsIdle at.stage → IsRequest words → (get : IsGet words) → IsBounded (Get get.key)
    → IfReply a (λ given. IsDone stripes (Some (Run (Get get.key))) given was now)
    → IfFault a (λ f. IsUndone promises stripes (Some (Run (Get get.key))) f was now)
    → reply ≡ reply_to a → Turned promises was now (before words at) at reply
turned_get was now stripes words a reply at entry law attends idle request get bounded done undone says =
    turned_brief was now stripes words (Get get.key) a reply at entry law attends idle request (ap (turn_idle idle.0) get.command) (refl, bounded) done undone says

-- of a SET without an option
pub turned_set : {promises : Promises} (was now : Known) (stripes : List ℕ) (words : List Bytes) (a : Answer) (reply : Reply) (at : Progress)
    → WatchesPairsOfEntry → WatchesPairsOfFault → Attends was at → IsIdle at.stage → IsRequest words → (set : IsSet words) → IsBounded (Set set.key set.value Always)
    → IfReply a (λ given. IsDone stripes (Some (Run (Set set.key set.value Always))) given was now)
    → IfFault a (λ f. IsUndone promises stripes (Some (Run (Set set.key set.value Always))) f was now)
    → reply ≡ reply_to a → Turned promises was now (before words at) at reply
turned_set was now stripes words a reply at entry law attends idle request set bounded done undone says =
    turned_brief was now stripes words (Set set.key set.value Always) a reply at entry law attends idle request (ap (turn_idle idle.0) set.command)
    (refl, bounded) done undone says

tails : (a b : Bytes) (first second : List Bytes) → a ∷ first ≡ b ∷ second → first ≡ second
tails a b first second e = cc e

one_touches : (verb : Verb) (key value : Bytes) → IsTrue (touches_keys (commanded verb key value))
one_touches (verb.Count (by.Add n)) key value = refl
one_touches (verb.Count (by.Subtract n)) key value = refl
one_touches verb.SetNx key value = refl
one_touches verb.GetSet key value = refl
one_touches verb.Append key value = refl
one_touches verb.GetDel key value = refl
one_touches verb.StrLen key value = refl
one_touches verb.Exists key value = refl
one_touches verb.Del key value = refl

-- the command that such words are
abbrev pub made_of : (verb : Verb) (words : List Bytes) → IsOne verb words → Command
made_of verb words one = commanded verb one.key (last_of one.key one.others)

-- of another command of one key
pub turned_one : {promises : Promises} (was now : Known) (stripes : List ℕ) (words : List Bytes) (verb : Verb) (a : Answer) (reply : Reply) (at : Progress)
    → WatchesPairsOfEntry → WatchesPairsOfFault → Attends was at → IsIdle at.stage → IsRequest words → (one : IsOne verb words) → IsBounded (made_of verb words one)
    → IfReply a (λ given. IsDone stripes (Some (Run (made_of verb words one))) given was now)
    → IfFault a (λ f. IsUndone promises stripes (Some (Run (made_of verb words one))) f was now)
    → reply ≡ reply_to a → Turned promises was now (before words at) at reply
turned_one was now stripes words verb a reply at entry law attends idle request one bounded done undone says =
    turned_command was now stripes words (made_of verb words one) a reply at entry law attends idle request (sym one.command) (one_touches verb one.key (last_of one.key one.others)) bounded done undone says

-- of an MGET
pub turned_values : {promises : Promises} (was now : Known) (stripes : List ℕ) (words : List Bytes) (a : Answer) (reply : Reply) (at : Progress)
    → WatchesPairsOfEntry → WatchesPairsOfFault → Attends was at → IsIdle at.stage → IsRequest words → (mget : IsMGet words) → IsBounded (MGet mget.keys)
    → IfReply a (λ given. IsDone stripes (Some (Run (MGet mget.keys))) given was now)
    → IfFault a (λ f. IsUndone promises stripes (Some (Run (MGet mget.keys))) f was now)
    → reply ≡ reply_to a → Turned promises was now (before words at) at reply
turned_values was now stripes words a reply at entry law attends idle request mget bounded done undone says =
    turned_command was now stripes words (MGet mget.keys) a reply at entry law attends idle request (sym mget.command) refl bounded done undone says

-- the keys of an MGET
pub keys_same : (words : List Bytes) (name : Bytes) (keys : List Bytes) → words ≡ name ∷ keys → (mget : IsMGet words) → keys ≡ mget.keys
keys_same words name keys are mget = tails name mget.name keys mget.keys (sym are ∙ mget.words_are)

-- of a PING without a text
pub turned_ping : {promises : Promises} (was : Known) (words : List Bytes) (at : Progress) → Attends was at → IsIdle at.stage → IsRequest words → IsPing words
    → Turned promises was was (before words at) at (line_reply Pong)
turned_ping was words at attends idle request ping =
    let says : turn Idle idle.0 words ≡ Says (line_reply Pong) Idle = ap (turn_idle idle.0) ping.command in
    turned_said was (before words at) at (line_reply Pong) (attends_before was words at attends)
    (words, record { request = request; taken = refl }, (stands Idle idle.0, idle.1, rw (idle.1, says) (refl, refl)))

-- A GET, an MGET, a SET without an option and another command of one key, of a request within the limits, are within them.

pub get_bounded : ((words : List Bytes) → IsRequest words → IfOk (command_of words) IsBounded) → (words : List Bytes) → IsRequest words → (get : IsGet words)
    → IsBounded (Get get.key)
get_bounded bounded words request get = subst (λ (made : Result Command Refusal). IfOk made IsBounded) get.command (bounded words request)

pub set_bounded : ((words : List Bytes) → IsRequest words → IfOk (command_of words) IsBounded) → (words : List Bytes) → IsRequest words → (set : IsSet words)
    → IsBounded (Set set.key set.value Always)
set_bounded bounded words request set = subst (λ (made : Result Command Refusal). IfOk made IsBounded) set.command (bounded words request)

pub one_bounded : ((words : List Bytes) → IsRequest words → IfOk (command_of words) IsBounded) → (words : List Bytes) (verb : Verb) → IsRequest words
    → (one : IsOne verb words) → IsBounded (made_of verb words one)
one_bounded bounded words verb request one = subst (λ (made : Result Command Refusal). IfOk made IsBounded) one.command (bounded words request)

pub values_bounded : ((words : List Bytes) → IsRequest words → IfOk (command_of words) IsBounded) → (words : List Bytes) → IsRequest words → (mget : IsMGet words)
    → IsBounded (MGet mget.keys)
values_bounded bounded words request mget = subst (λ (made : Result Command Refusal). IfOk made IsBounded) mget.command (bounded words request)

-- of an MSET
pub turned_settings : {promises : Promises} (was now : Known) (stripes : List ℕ) (words : List Bytes) (a : Answer) (reply : Reply) (at : Progress)
    → WatchesPairsOfEntry → WatchesPairsOfFault → Attends was at → IsIdle at.stage → IsRequest words → (mset : IsMSet words) → IsBounded (MSet (pairs_of mset.others))
    → IfReply a (λ given. IsDone stripes (Some (Run (MSet (pairs_of mset.others)))) given was now)
    → IfFault a (λ f. IsUndone promises stripes (Some (Run (MSet (pairs_of mset.others)))) f was now)
    → reply ≡ reply_to a → Turned promises was now (before words at) at reply
turned_settings was now stripes words a reply at entry law attends idle request mset bounded done undone says =
    turned_command was now stripes words (MSet (pairs_of mset.others)) a reply at entry law attends idle request (sym mset.command) refl bounded done undone says

-- the words of an MSET after its name
pub others_same : (words : List Bytes) (name : Bytes) (others : List Bytes) → words ≡ name ∷ others → (mset : IsMSet words) → others ≡ mset.others
others_same words name others are mset = tails name mset.name others mset.others (sym are ∙ mset.words_are)

pub settings_bounded : ((words : List Bytes) → IsRequest words → IfOk (command_of words) IsBounded) → (words : List Bytes) → IsRequest words → (mset : IsMSet words)
    → IsBounded (MSet (pairs_of mset.others))
settings_bounded bounded words request mset = subst (λ (made : Result Command Refusal). IfOk made IsBounded) mset.command (bounded words request)
