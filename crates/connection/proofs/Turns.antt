-- One turn of a session, as a step of its transcript.
use Rattle.std.proofs.Common.{◌≡◌, ℕ, List, [], ◌∷◌, ◌++◌, Option, Some, None, refl, sym, ap, ◌∙◌, inl, inr}
use Rattle.words.specs.declared.reply.Reply.{Reply}
use Rattle.words.specs.declared.reply.Fault.{Fault}
use Rattle.words.specs.declared.reply.Fault.TheVariants as fault
use Rattle.words.specs.declared.reply.Line.TheVariants as line
use Rattle.words.specs.Store.{Bytes}
use Rattle.words.specs.History.{Pair, Placed, keys_of_pairs}
use Rattle.words.specs.Watches.{watched_after}
use Rattle.words.specs.Session.{Turn, Says, Forgets, Tries, Calls, Never, Asked, Run, Watch, Exec, operation_of, watched_at_fault, turn, line_reply, Rest, Follows}
use Rattle.transact.specs.declared.call.Call.{Call}
use Rattle.transact.specs.declared.call.Answer.{Answer}
use Rattle.transact.specs.declared.call.Answer.TheVariants as answer
use Rattle.transact.specs.Calls.{asked_of, call_of}
use Rattle.session.specs.Standings.{Standing, Wait, ForAnswer, ForEnd, stands, watched_done, watched_faulty}
use Rattle.session.specs.Standings as standings
use Rattle.session.specs.Steps.{IsSaid, IsAsked, IsOutOfMemory}
use Rattle.session.specs.Laws.{WatchesPairsOfEntry, WatchesPairsOfFault}
use Rattle.connection.specs.declared.client.Next.TheVariants as next
use Rattle.connection.specs.Clients.{Progress, Stage, Ready, Called, Stepping, mode_of, watched_of, turn_at, TakesOff, TakesUp, Resumes}
use Rattle.connection.specs.Conversations.{Answers}

-- pairs of no key are none
pub no_pairs : (pairs : List Pair) → keys_of_pairs pairs ≡ [] → pairs ≡ []
no_pairs [] is = refl
no_pairs (pair ∷ pairs) is = absurd (cc is)

-- a request at a stage that watches the keys of some pairs
turn_of_pairs : (stage : Stage) (pairs : List Pair) (words : List Bytes) → watched_of stage ≡ keys_of_pairs pairs
    → turn_at stage words ≡ turn (mode_of stage) (keys_of_pairs pairs) words
turn_of_pairs stage pairs words is = ap (λ (keys : List Bytes). turn (mode_of stage) keys words) is

-- what is said at once goes on as the turn says, and watches the same
follows_said : (session : ℕ) (t : Turn) (pairs : List Pair) (reply : Reply) (after : Standing) (later : List Placed) (more : List Reply) (rest : Rest)
    → IsSaid t (keys_of_pairs pairs) reply after → rest after.mode pairs later more → Follows session pairs t later (reply ∷ more) rest
follows_said session (Says said then) pairs reply after later more rest is goes = (is.0, rw (is.1) at goes)
follows_said session (Forgets said then) pairs reply after later more rest is goes =
    (is.1, rw (no_pairs pairs is.0, is.2) at goes)
follows_said session (Tries said done faulty) pairs reply after later more rest is goes = inl (is.0, rw (is.1) at goes)
follows_said session (Calls asked done faulty) pairs reply after later more rest is goes = absurd is
follows_said session Never pairs reply after later more rest is goes = absurd is

watches_said : (t : Turn) (watched : List Bytes) (reply : Reply) (after : Standing) → IsSaid t watched reply after → after.watched ≡ watched
watches_said (Says said then) watched reply after is = rw is.1 refl
watches_said (Forgets said then) watched reply after is = rw is.2 (sym is.0)
watches_said (Tries said done faulty) watched reply after is = rw is.1 refl
watches_said (Calls asked done faulty) watched reply after is = absurd is
watches_said Never watched reply after is = absurd is

-- the out-of-memory line goes on as the turn says, and watches the same
follows_want : (session : ℕ) (t : Turn) (pairs : List Pair) (after : Standing) (later : List Placed) (more : List Reply) (rest : Rest)
    → IsOutOfMemory t (keys_of_pairs pairs) after → rest after.mode pairs later more
    → Follows session pairs t later (line_reply (line.Faulty fault.OutOfMemory) ∷ more) rest
follows_want session (Says said then) pairs after later more rest is goes = absurd is
follows_want session (Forgets said then) pairs after later more rest is goes = absurd is
follows_want session (Tries said done faulty) pairs after later more rest is goes = inr (refl, rw (is.1) at goes)
follows_want session (Calls (Run command) done faulty) pairs after later more rest is goes = absurd is.0
follows_want session (Calls (Watch keys) done faulty) pairs after later more rest is goes = inr (fault.OutOfMemory, refl, rw (is.1) at goes)
follows_want session (Calls (Exec commands) done faulty) pairs after later more rest is goes = absurd is.0
follows_want session Never pairs after later more rest is goes = absurd is

watches_want : (t : Turn) (watched : List Bytes) (after : Standing) → IsOutOfMemory t watched after → after.watched ≡ watched
watches_want (Says said then) watched after is = absurd is
watches_want (Forgets said then) watched after is = absurd is
watches_want (Tries said done faulty) watched after is = rw is.1 refl
watches_want (Calls asked done faulty) watched after is = rw is.1 refl
watches_want Never watched after is = absurd is

-- what a call asks that a session makes
pub asked_of_call : (watched : List Bytes) (asked : Asked) → asked_of (call_of watched asked) ≡ Some asked
asked_of_call watched (Run command) = refl
asked_of_call watched (Watch keys) = refl
asked_of_call watched (Exec commands) = refl

pub some_is : {asked other : Asked} → Option.Some asked ≡ Some other → asked ≡ other
some_is is = cc is

-- the reply to what was asked goes on by its entry
follows_done : (session : ℕ) (t : Turn) (pairs : List Pair) (call : Call) (wait : Wait) (asked : Asked) (given reply : Reply) (after : Standing)
    (position : ℕ) (later : List Placed) (more : List Reply) (rest : Rest)
    → IsAsked t (keys_of_pairs pairs) call wait → asked_of call ≡ Some asked → standings.Resumes wait (answer.Reply given) reply after
    → rest after.mode (watched_after pairs (operation_of pairs asked) position) later more
    → Follows session pairs t ((position, record { session = session; operation = operation_of pairs asked; reply = given }) ∷ later) (reply ∷ more) rest
follows_done session (Says said then) pairs call wait asked given reply after position later more rest is asks resumes goes = absurd is
follows_done session (Tries said done faulty) pairs call wait asked given reply after position later more rest is asks resumes goes = absurd is
follows_done session Never pairs call wait asked given reply after position later more rest is asks resumes goes = absurd is
follows_done session (Forgets said then) pairs call wait asked given reply after position later more rest is asks resumes goes =
    absurd (cc (sym (ap asked_of is.1) ∙ asks))
follows_done session (Calls wanted done faulty) pairs call wait asked given reply after position later more rest is asks resumes goes =
    let same : wanted ≡ asked = some_is (sym (asked_of_call (keys_of_pairs pairs) wanted) ∙ sym (ap asked_of is.0) ∙ asks) in
    let answers = rw is.1 at resumes in
    inl (rw (same, answers.0) refl, rw same (rw answers.1 at goes))

watches_done : (t : Turn) (pairs : List Pair) (call : Call) (wait : Wait) (asked : Asked) (given reply : Reply) (after : Standing) (position : ℕ)
    → WatchesPairsOfEntry → IsAsked t (keys_of_pairs pairs) call wait → asked_of call ≡ Some asked → standings.Resumes wait (answer.Reply given) reply after
    → after.watched ≡ keys_of_pairs (watched_after pairs (operation_of pairs asked) position)
watches_done (Says said then) pairs call wait asked given reply after position law is asks resumes = absurd is
watches_done (Tries said done faulty) pairs call wait asked given reply after position law is asks resumes = absurd is
watches_done Never pairs call wait asked given reply after position law is asks resumes = absurd is
watches_done (Forgets said then) pairs call wait asked given reply after position law is asks resumes =
    absurd (cc (sym (ap asked_of is.1) ∙ asks))
watches_done (Calls wanted done faulty) pairs call wait asked given reply after position law is asks resumes =
    let same : wanted ≡ asked = some_is (sym (asked_of_call (keys_of_pairs pairs) wanted) ∙ sym (ap asked_of is.0) ∙ asks) in
    let answers = rw is.1 at resumes in
    ap (λ (s : Standing). s.watched) answers.1 ∙ ap (watched_done (keys_of_pairs pairs)) same ∙ sym (law pairs asked position)

-- a fault's line goes on by no entry
follows_undone : (session : ℕ) (t : Turn) (pairs : List Pair) (call : Call) (wait : Wait) (asked : Asked) (f : Fault) (reply : Reply) (after : Standing)
    (later : List Placed) (more : List Reply) (rest : Rest)
    → IsAsked t (keys_of_pairs pairs) call wait → asked_of call ≡ Some asked → standings.Resumes wait (answer.Fault f) reply after
    → rest after.mode (watched_at_fault pairs asked) later more
    → Follows session pairs t later (reply ∷ more) rest
follows_undone session (Says said then) pairs call wait asked f reply after later more rest is asks resumes goes = absurd is
follows_undone session (Tries said done faulty) pairs call wait asked f reply after later more rest is asks resumes goes = absurd is
follows_undone session Never pairs call wait asked f reply after later more rest is asks resumes goes = absurd is
follows_undone session (Forgets said then) pairs call wait asked f reply after later more rest is asks resumes goes =
    absurd (cc (sym (ap asked_of is.1) ∙ asks))
follows_undone session (Calls wanted done faulty) pairs call wait asked f reply after later more rest is asks resumes goes =
    let same : wanted ≡ asked = some_is (sym (asked_of_call (keys_of_pairs pairs) wanted) ∙ sym (ap asked_of is.0) ∙ asks) in
    let answers = rw is.1 at resumes in
    inr (f, answers.0, rw same (rw answers.1 at goes))

watches_undone : (t : Turn) (pairs : List Pair) (call : Call) (wait : Wait) (asked : Asked) (f : Fault) (reply : Reply) (after : Standing)
    → WatchesPairsOfFault → IsAsked t (keys_of_pairs pairs) call wait → asked_of call ≡ Some asked → standings.Resumes wait (answer.Fault f) reply after
    → after.watched ≡ keys_of_pairs (watched_at_fault pairs asked)
watches_undone (Says said then) pairs call wait asked f reply after law is asks resumes = absurd is
watches_undone (Tries said done faulty) pairs call wait asked f reply after law is asks resumes = absurd is
watches_undone Never pairs call wait asked f reply after law is asks resumes = absurd is
watches_undone (Forgets said then) pairs call wait asked f reply after law is asks resumes =
    absurd (cc (sym (ap asked_of is.1) ∙ asks))
watches_undone (Calls wanted done faulty) pairs call wait asked f reply after law is asks resumes =
    let same : wanted ≡ asked = some_is (sym (asked_of_call (keys_of_pairs pairs) wanted) ∙ sym (ap asked_of is.0) ∙ asks) in
    let answers = rw is.1 at resumes in
    ap (λ (s : Standing). s.watched) answers.1 ∙ ap (watched_faulty (keys_of_pairs pairs)) same ∙ sym (law pairs asked)

-- the end of watches goes on by no entry, and nothing is watched
follows_forgot : (session : ℕ) (t : Turn) (pairs : List Pair) (call : Call) (wait : Wait) (a : Answer) (reply : Reply) (after : Standing)
    (later : List Placed) (more : List Reply) (rest : Rest)
    → IsAsked t (keys_of_pairs pairs) call wait → asked_of call ≡ None → standings.Resumes wait a reply after
    → rest after.mode [] later more → Follows session pairs t later (reply ∷ more) rest
follows_forgot session (Says said then) pairs call wait a reply after later more rest is asks resumes goes = absurd is
follows_forgot session (Tries said done faulty) pairs call wait a reply after later more rest is asks resumes goes = absurd is
follows_forgot session Never pairs call wait a reply after later more rest is asks resumes goes = absurd is
follows_forgot session (Forgets said then) pairs call wait a reply after later more rest is asks resumes goes =
    let answers = rw is.2 at resumes in (answers.0, rw answers.1 at goes)
follows_forgot session (Calls wanted done faulty) pairs call wait a reply after later more rest is asks resumes goes =
    absurd (cc (sym (asked_of_call (keys_of_pairs pairs) wanted) ∙ sym (ap asked_of is.0) ∙ asks))

watches_forgot : (t : Turn) (pairs : List Pair) (call : Call) (wait : Wait) (a : Answer) (reply : Reply) (after : Standing)
    → IsAsked t (keys_of_pairs pairs) call wait → asked_of call ≡ None → standings.Resumes wait a reply after → after.watched ≡ []
watches_forgot (Says said then) pairs call wait a reply after is asks resumes = absurd is
watches_forgot (Tries said done faulty) pairs call wait a reply after is asks resumes = absurd is
watches_forgot Never pairs call wait a reply after is asks resumes = absurd is
watches_forgot (Forgets said then) pairs call wait a reply after is asks resumes =
    let answers = rw is.2 at resumes in ap (λ (s : Standing). s.watched) answers.1
watches_forgot (Calls wanted done faulty) pairs call wait a reply after is asks resumes =
    absurd (cc (sym (asked_of_call (keys_of_pairs pairs) wanted) ∙ sym (ap asked_of is.0) ∙ asks))

-- A request that is answered, by its turn and the stage after it.
answers_by : (session : ℕ) (entries : List Placed) (pairs after : List Pair) (old new : Progress) (reply : Reply) (words : List Bytes) (then : Standing)
    → watched_of old.stage ≡ keys_of_pairs pairs → TakesOff old.unread words new.unread → new.stage ≡ Ready then
    → then.watched ≡ keys_of_pairs after
    → ((later : List Placed) (more : List Reply) (rest : Rest)
    → rest then.mode after later more → Follows session pairs (turn (mode_of old.stage) (keys_of_pairs pairs) words) (entries ++ later) (reply ∷ more) rest)
    → Answers session entries pairs after old new reply
answers_by session entries pairs after old new reply words then watches taken stands watches_then follows = record {
  words = words;
  taken = taken;
  ready = rw stands tt;
  watches = rw stands watches_then;
  goes_on = λ others later more last watched goes. follows later more _ (rw (ap mode_of stands) at goes);
}

-- a turn, seen by the pairs that are watched
by_pairs : (P : Turn → List Bytes → Type 0) (stage : Stage) (pairs : List Pair) (words : List Bytes) → watched_of stage ≡ keys_of_pairs pairs
    → P (turn_at stage words) (watched_of stage) → P (turn (mode_of stage) (keys_of_pairs pairs) words) (keys_of_pairs pairs)
by_pairs P stage pairs words is holds = rw is at holds

pub answers_said : (session : ℕ) (pairs : List Pair) (old new : Progress) (reply : Reply) → watched_of old.stage ≡ keys_of_pairs pairs
    → TakesUp old (next.Says reply) new → Answers session [] pairs pairs old new reply
answers_said session pairs old new reply watches up =
    let is : IsSaid (turn (mode_of old.stage) (keys_of_pairs pairs) up.0) (keys_of_pairs pairs) reply up.2.0 =
    by_pairs (λ t watched. IsSaid t watched reply up.2.0) old.stage pairs up.0 watches up.2.2 in
    answers_by session [] pairs pairs old new reply up.0 up.2.0 watches up.1 up.2.1 (watches_said _ _ reply up.2.0 is)
    (λ later more rest goes. follows_said session _ pairs reply up.2.0 later more rest is goes)

pub answers_want : (session : ℕ) (pairs : List Pair) (old new : Progress) → watched_of old.stage ≡ keys_of_pairs pairs
    → TakesUp old next.SaysOutOfMemory new → Answers session [] pairs pairs old new (line_reply (line.Faulty fault.OutOfMemory))
answers_want session pairs old new watches up =
    let is : IsOutOfMemory (turn (mode_of old.stage) (keys_of_pairs pairs) up.0) (keys_of_pairs pairs) up.2.0 =
    by_pairs (λ t watched. IsOutOfMemory t watched up.2.0) old.stage pairs up.0 watches up.2.2 in
    answers_by session [] pairs pairs old new _ up.0 up.2.0 watches up.1 up.2.1 (watches_want _ _ up.2.0 is)
    (λ later more rest goes. follows_want session _ pairs up.2.0 later more rest is goes)

-- what a client that made a call waits for
called_wait : {wait other : Wait} → Called wait ≡ Called other → wait ≡ other
called_wait is = cc is

-- what it says to the answer, where it waits for this
resumes_wait : (stage new : Stage) (wait : Wait) (a : Answer) (reply : Reply) → stage ≡ Called wait → Resumes stage a reply new
    → (then : Standing) × (new ≡ Ready then) × standings.Resumes wait a reply then
resumes_wait (Ready s) new wait a reply is resumes = absurd resumes
resumes_wait (Called w) new wait a reply is resumes = (resumes.0, resumes.1, rw (called_wait is) at resumes.2)
resumes_wait Stepping new wait a reply is resumes = absurd resumes

-- a request is taken off still where as much is unread
pub taken_still : (unread : Bytes) (words : List Bytes) (mid new : Bytes) → TakesOff unread words mid → new ≡ mid → TakesOff unread words new
taken_still unread words mid new taken same = rw (sym same) at taken

pub answers_done : (session : ℕ) (pairs : List Pair) (old called new : Progress) (call : Call) (asked : Asked) (given reply : Reply) (position : ℕ)
    → WatchesPairsOfEntry → watched_of old.stage ≡ keys_of_pairs pairs → TakesUp old (next.Calls call) called → asked_of call ≡ Some asked
    → new.unread ≡ called.unread → Resumes called.stage (answer.Reply given) reply new.stage
    → Answers session ((position, record { session = session; operation = operation_of pairs asked; reply = given }) ∷ [])
    pairs (watched_after pairs (operation_of pairs asked) position) old new reply
answers_done session pairs old called new call asked given reply position law watches up asks unread resumes =
    let is : IsAsked (turn (mode_of old.stage) (keys_of_pairs pairs) up.0) (keys_of_pairs pairs) call up.2.0 =
    by_pairs (λ t watched. IsAsked t watched call up.2.0) old.stage pairs up.0 watches up.2.2 in
    let says = resumes_wait called.stage new.stage up.2.0 (answer.Reply given) reply up.2.1 resumes in
    answers_by session _ pairs _ old new reply up.0 says.0 watches (taken_still _ up.0 _ _ up.1 unread) says.1
    (watches_done _ pairs call up.2.0 asked given reply says.0 position law is asks says.2)
    (λ later more rest goes. follows_done session _ pairs call up.2.0 asked given reply says.0 position later more rest is asks says.2 goes)

pub answers_undone : (session : ℕ) (pairs : List Pair) (old called new : Progress) (call : Call) (asked : Asked) (f : Fault) (reply : Reply)
    → WatchesPairsOfFault → watched_of old.stage ≡ keys_of_pairs pairs → TakesUp old (next.Calls call) called → asked_of call ≡ Some asked
    → new.unread ≡ called.unread → Resumes called.stage (answer.Fault f) reply new.stage
    → Answers session [] pairs (watched_at_fault pairs asked) old new reply
answers_undone session pairs old called new call asked f reply law watches up asks unread resumes =
    let is : IsAsked (turn (mode_of old.stage) (keys_of_pairs pairs) up.0) (keys_of_pairs pairs) call up.2.0 =
    by_pairs (λ t watched. IsAsked t watched call up.2.0) old.stage pairs up.0 watches up.2.2 in
    let says = resumes_wait called.stage new.stage up.2.0 (answer.Fault f) reply up.2.1 resumes in
    answers_by session [] pairs _ old new reply up.0 says.0 watches (taken_still _ up.0 _ _ up.1 unread) says.1
    (watches_undone _ pairs call up.2.0 asked f reply says.0 law is asks says.2)
    (λ later more rest goes. follows_undone session _ pairs call up.2.0 asked f reply says.0 later more rest is asks says.2 goes)

pub answers_forgot : (session : ℕ) (pairs : List Pair) (old called new : Progress) (call : Call) (a : Answer) (reply : Reply)
    → watched_of old.stage ≡ keys_of_pairs pairs → TakesUp old (next.Calls call) called → asked_of call ≡ None
    → new.unread ≡ called.unread → Resumes called.stage a reply new.stage → Answers session [] pairs [] old new reply
answers_forgot session pairs old called new call a reply watches up asks unread resumes =
    let is : IsAsked (turn (mode_of old.stage) (keys_of_pairs pairs) up.0) (keys_of_pairs pairs) call up.2.0 =
    by_pairs (λ t watched. IsAsked t watched call up.2.0) old.stage pairs up.0 watches up.2.2 in
    let says = resumes_wait called.stage new.stage up.2.0 a reply up.2.1 resumes in
    answers_by session [] pairs [] old new reply up.0 says.0 watches (taken_still _ up.0 _ _ up.1 unread) says.1
    (watches_forgot _ pairs call up.2.0 a reply says.0 is asks says.2)
    (λ later more rest goes. follows_forgot session _ pairs call up.2.0 a reply says.0 later more rest is asks says.2 goes)
