-- What a client was told, from one step to the next.
use Rattle.std.proofs.Common.{◌≡◌, ℕ, Bool, true, false, List, [], ◌∷◌, ◌++◌, refl, ap, ◌∙◌, append_assoc, append-nil, inl, inr, Some, None}
use Rattle.words.specs.declared.reply.Reply.{Reply}
use Rattle.words.specs.declared.reply.ProtocolFault.{ProtocolFault}
use Rattle.words.specs.Store.{Bytes}
use Rattle.words.specs.Spelling.{spelling, spellings}
use Rattle.words.specs.Stream.{Place, Step, Goes, Ends, Fails, step, Part, Faulty, front_after, front_from, First, front}
use Rattle.words.specs.Encoding.{encoding}
use Rattle.words.specs.History.{Pair, Placed}
use Rattle.words.specs.Watches.{watched_after}
use Rattle.words.specs.declared.reply.Fault.{Fault}
use Rattle.words.specs.Session.{Mode, Asked, operation_of, watched_at_fault}
use Rattle.words.specs.declared.history.Entry.{Entry}
use Rattle.transact.specs.declared.call.Answer.{Answer}
use Rattle.transact.specs.declared.call.Answer.TheVariants as answer
use Rattle.transact.specs.Calls.{asked_of}
use Rattle.transact.specs.declared.call.Call.{Call}
use Rattle.connection.specs.declared.client.Next.TheVariants as next
use Rattle.connection.specs.Clients.{Stage, Progress, Gives, Resumes, IsOpen, mode_of}
use Rattle.connection.specs.Conversations.{Conversation}
use Rattle.connection.specs.Served.{fault_line}
use Rattle.world_model.specs.States.{Phase, Serving, Calling, Leaving, Left, Ended, ClientState}
use Rattle.world_model.specs.Advancing.{leave_for, leaving, Pauses, Waits, Finishes, Quits, Fails as Faults, Opens, Answers, Here, Says, Advances}
use Rattle.world_model.specs.Effects.{fed, heard}
use Rattle.world_model.specs.Told.{IsOver}
use Rattle.world_model.specs.Soundness.{Opened, Over, Talks, HasAdvanced}
use Rattle.world_model.specs.Laws.{TalkLaws}

-- what a client was told
abbrev pub TalksOf : (c : ℕ) → List Placed → ClientState → Type 0
TalksOf c own peer = Talks c own peer.watches peer.input peer.closed peer.phase peer.output

-- A FAULT STANDS WHERE IT STOOD

stays_after : (done : Step) (bytes more : Bytes) (fault : ProtocolFault)
    → ((next : Place) → front_from next bytes ≡ Faulty fault → front_from next (bytes ++ more) ≡ Faulty fault)
    → front_after done (λ next. front_from next bytes) bytes ≡ Faulty fault
    → front_after done (λ next. front_from next (bytes ++ more)) (bytes ++ more) ≡ Faulty fault
stays_after (Goes next) bytes more fault stays is = stays next is
stays_after Ends bytes more fault stays is = cc
stays_after (Fails other) bytes more fault stays is = is

stays_from : (place : Place) (bytes more : Bytes) (fault : ProtocolFault) → front_from place bytes ≡ Faulty fault
    → front_from place (bytes ++ more) ≡ Faulty fault
stays_from place [] more fault is = cc
stays_from place (byte ∷ bytes) more fault is =
    stays_after (step place byte) bytes more fault (λ next shown. stays_from next bytes more fault shown) is

pub fault_stays : (bytes more : Bytes) (fault : ProtocolFault) → front bytes ≡ Faulty fault → front (bytes ++ more) ≡ Faulty fault
unfolding front
fault_stays bytes more fault is = stays_from First bytes more fault is

-- A CLIENT WHOSE SESSION IS OVER

-- the end of a conversation
over_from : TalkLaws → (c : ℕ) (own : List Placed) (watches : List Pair) (input : Bytes) (closed : Bool) (here : Progress)
    (output ending : Bytes)
    → Conversation c own watches input here output → IsOver (mode_of here.stage) closed here.unread ending
    → Over c own input closed (output ++ ending)
over_from talks c own watches input closed here output ending talk over = record {
  requests = talk.requests;
  replies = talk.replies;
  rest = here.unread;
  ending = ending;
  mode = mode_of here.stage;
  pairs = watches;
  joined = talk.joined;
  within = talk.within;
  leads = talks.leads c own watches input output here talk;
  text = ap (λ (t : Bytes). t ++ ending) talk.text;
  over = over;
}

leave_talks : (c : ℕ) (own : List Placed) (watches : List Pair) (input : Bytes) (closed : Bool) (output : Bytes)
    → Over c own input closed output
    → Talks c own watches input closed (leave_for watches) output
leave_talks c own [] input closed output over = (over, refl)
leave_talks c own (pair ∷ pairs) input closed output over = (over, refl)

leave_rests : (watches : List Pair) (none : Bool) → HasAdvanced (leave_for watches) none
leave_rests [] none = tt
leave_rests (pair ∷ pairs) none = tt

-- A CLIENT THAT ADVANCES

-- what it was told, where it may go no further, and that it watches what it watched
pub record Advanced (c : ℕ) (own : List Placed) (none : Bool) (old new : ClientState) : Type 0 where
  pub talks : TalksOf c own new
  pub rests : HasAdvanced new.phase none
  pub watches : new.watches ≡ old.watches
  pub stay : new.stay ≡ old.stay
  pub due : new.due ≡ old.due

left_so : (c : ℕ) (own : List Placed) (none : Bool) (peer : ClientState) (written : Bytes)
    → Over c own peer.input peer.closed (peer.output ++ written)
    → Advanced c own none peer (leaving peer written)
left_so c own none peer written over = record {
  talks = leave_talks c own peer.watches peer.input peer.closed (peer.output ++ written) over;
  rests = leave_rests peer.watches none;
  watches = refl;
  stay = refl;
  due = refl;
}

-- a client that waits has answered all whole requests
waits_so : (c : ℕ) (own : List Placed) (none : Bool) (peer : ClientState) (here : Progress) → peer.phase ≡ Serving here
    → front here.unread ≡ Part → IsOpen (mode_of here.stage) → Conversation c own peer.watches peer.input here peer.output
    → Advanced c own none peer peer
waits_so c own none peer here is part on talk = record {
  talks = rw is talk;
  rests = rw is (serving_rests none);
  watches = refl;
  stay = refl;
  due = refl;
}
  where
    serving_rests : (none : Bool) → HasAdvanced (Serving here) none
    serving_rests true = (part, on)
    serving_rests false = tt

paused : TalkLaws → (c : ℕ) (own : List Placed) (none : Bool) (peer : ClientState) (here : Progress) (new : ClientState)
    → Pauses peer here new
    → peer.phase ≡ Serving here → Conversation c own peer.watches peer.input here peer.output → Advanced c own none peer new
paused talks c own none peer here new (Waits gives on) is talk = waits_so c own none peer here is gives.0 gives.1 talk
paused talks c own none peer here new (Finishes gives ends) is talk =
    left_so c own none peer []
    (over_from talks c own peer.watches peer.input peer.closed here peer.output [] talk (inr (inl (ends, gives.0, gives.1, refl))))
paused talks c own none peer here new (Quits gives) is talk =
    left_so c own none peer [] (over_from talks c own peer.watches peer.input peer.closed here peer.output [] talk (inl (gives.0, refl)))
paused talks c own none peer here new (Faults fault gives) is talk =
    left_so c own none peer (fault_line fault)
    (over_from talks c own peer.watches peer.input peer.closed here peer.output (fault_line fault) talk
    (inr (inr (fault, gives.0, gives.1, refl))))
paused talks c own none peer here new (Opens call called gives) is talk = record {
  talks = record { before = here; conversation = talk; gives = gives };
  rests = tt;
  watches = refl;
  stay = refl;
  due = refl;
}

answered : TalkLaws → (c : ℕ) (own : List Placed) (none : Bool) (peer : ClientState) (here : Progress) (new : ClientState)
    → Answers peer here new
    → peer.phase ≡ Serving here → Conversation c own peer.watches peer.input here peer.output → Advanced c own none peer new
answered talks c own none peer here new (Here _ _ _ pauses) is talk = paused talks c own none peer here new pauses is talk
answered talks c own none peer here new (Says _ _ reply later _ gives more) is talk =
    let next : ClientState = record peer { phase = Serving later; output = peer.output ++ encoding reply } in
    let said = talks.goes_on c own [] peer.watches peer.watches peer.input peer.output here later reply talk
    (talks.says c peer.watches here later reply talk.watches gives) in
    let done = answered talks c own none next later new more refl (rw (append-nil own) at said) in
    record { talks = done.talks; rests = done.rests; watches = done.watches; stay = done.stay; due = done.due }

-- a client that advances
pub talks_advanced : TalkLaws → (c : ℕ) (own : List Placed) (none : Bool) (peer : ClientState) (phase : Phase) (new : ClientState)
    → Advances peer phase new → peer.phase ≡ phase → TalksOf c own peer → Advanced c own none peer new
talks_advanced talks c own none peer (Serving here) new goes is talk = answered talks c own none peer here new goes is (rw is at talk)
talks_advanced talks c own none peer Left new goes is talk =
    rw goes (record { talks = rw is at talk; rests = tt; watches = refl; stay = refl; due = refl })
talks_advanced talks c own none peer (Calling here call) new goes is talk = absurd goes
talks_advanced talks c own none peer (Leaving keys) new goes is talk = absurd goes
talks_advanced talks c own none peer Ended new goes is talk = absurd goes

-- A CLIENT THAT IS FED, OR WHOSE INPUT ENDS

-- what gives a call gives it still, with more behind
pub gives_fed : (old new : Progress) (call : Call) (bytes : Bytes) → Gives old (next.Calls call) new
    → Gives (record old { unread = old.unread ++ bytes }) (next.Calls call) (record new { unread = new.unread ++ bytes })
gives_fed old new call bytes gives = (
  gives.0,
  record {
    request = gives.1.request;
    taken = ap (λ (t : Bytes). t ++ bytes) gives.1.taken ∙ append_assoc (spelling gives.0) new.unread bytes;
  },
  gives.2,
)

over_fed : (mode : Mode) (closed : Bool) (rest ending bytes : Bytes) → closed ≡ false → IsOver mode closed rest ending
    → IsOver mode closed (rest ++ bytes) ending
over_fed mode closed rest ending bytes on (inl is) = inl is
over_fed mode closed rest ending bytes on (inr (inl is)) = cc
over_fed mode closed rest ending bytes on (inr (inr is)) = inr (inr (is.0, fault_stays rest bytes is.0 is.1, is.2, is.3))

over_more : (c : ℕ) (own : List Placed) (input : Bytes) (closed : Bool) (output bytes : Bytes) → closed ≡ false
    → Over c own input closed output
    → Over c own (input ++ bytes) closed output
over_more c own input closed output bytes on over = record {
  requests = over.requests;
  replies = over.replies;
  rest = over.rest ++ bytes;
  ending = over.ending;
  mode = over.mode;
  pairs = over.pairs;
  joined = ap (λ (t : Bytes). t ++ bytes) over.joined ∙ append_assoc (spellings over.requests) over.rest bytes;
  within = over.within;
  leads = over.leads;
  text = over.text;
  over = over_fed over.mode closed over.rest over.ending bytes on over.over;
}

fed_by : TalkLaws → (c : ℕ) (own : List Placed) (watches : List Pair) (input : Bytes) (closed : Bool) (phase : Phase) (output bytes : Bytes)
    → closed ≡ false → Talks c own watches input closed phase output → Talks c own watches (input ++ bytes) closed (fed phase bytes) output
fed_by talks c own watches input closed (Serving here) output bytes on talk = talks.is_fed c own watches input output bytes here talk
fed_by talks c own watches input closed (Calling here call) output bytes on talk =
    let old : Progress = talk.before in
    record {
      before = record old { unread = old.unread ++ bytes };
      conversation = talks.is_fed c own watches input output bytes old talk.conversation;
      gives = gives_fed old here call bytes talk.gives;
    }
fed_by talks c own watches input closed (Leaving keys) output bytes on talk = (over_more c own input closed output bytes on talk.0, talk.1)
fed_by talks c own watches input closed Left output bytes on talk = (over_more c own input closed output bytes on talk.0, talk.1)
fed_by talks c own watches input closed Ended output bytes on talk = (over_more c own input closed output bytes on talk.0, talk.1)

pub talks_heard : TalkLaws → (c : ℕ) (own : List Placed) (peer : ClientState) (bytes : Bytes) → peer.closed ≡ false → TalksOf c own peer
    → TalksOf c own (heard peer bytes)
talks_heard talks c own peer bytes on talk = fed_by talks c own peer.watches peer.input peer.closed peer.phase peer.output bytes on talk

over_closed : (mode : Mode) (closed : Bool) (rest ending : Bytes) → IsOver mode closed rest ending → IsOver mode true rest ending
over_closed mode closed rest ending (inl is) = inl is
over_closed mode closed rest ending (inr (inl is)) = inr (inl (refl, is.1, is.2, is.3))
over_closed mode closed rest ending (inr (inr is)) = inr (inr is)

over_ended : (c : ℕ) (own : List Placed) (input : Bytes) (closed : Bool) (output : Bytes) → Over c own input closed output
    → Over c own input true output
over_ended c own input closed output over = record {
  requests = over.requests;
  replies = over.replies;
  rest = over.rest;
  ending = over.ending;
  mode = over.mode;
  pairs = over.pairs;
  joined = over.joined;
  within = over.within;
  leads = over.leads;
  text = over.text;
  over = over_closed over.mode closed over.rest over.ending over.over;
}

closed_by : (c : ℕ) (own : List Placed) (watches : List Pair) (input : Bytes) (closed : Bool) (phase : Phase) (output : Bytes)
    → Talks c own watches input closed phase output → Talks c own watches input true phase output
closed_by c own watches input closed (Serving here) output talk = talk
closed_by c own watches input closed (Calling here call) output talk = talk
closed_by c own watches input closed (Leaving keys) output talk = (over_ended c own input closed output talk.0, talk.1)
closed_by c own watches input closed Left output talk = (over_ended c own input closed output talk.0, talk.1)
closed_by c own watches input closed Ended output talk = (over_ended c own input closed output talk.0, talk.1)

pub talks_closed : (c : ℕ) (own : List Placed) (peer : ClientState) → TalksOf c own peer → TalksOf c own (record peer { closed = true })
talks_closed c own peer talk = closed_by c own peer.watches peer.input peer.closed peer.phase peer.output talk

-- A CALL THAT IS ANSWERED

-- a client whose call is answered by an entry at this position
pub talks_entered : TalkLaws → (c : ℕ) (own : List Placed) (peer : ClientState) (here : Progress) (call : Call) (asked : Asked)
    (reply said : Reply) (stage : Stage) (position : ℕ) → asked_of call ≡ Some asked
    → Opened c own peer.watches peer.input here call peer.output → Resumes here.stage (answer.Reply reply) said stage
    → Conversation c (own ++ (position, record { session = c; operation = operation_of peer.watches asked; reply = reply }) ∷ [])
    (watched_after peer.watches (operation_of peer.watches asked) position) peer.input (record here { stage = stage })
    (peer.output ++ encoding said)
talks_entered talks c own peer here call asked reply said stage position is talk resumes =
    let new : Progress = record here { stage = stage } in
    let entry : Entry = record { session = c; operation = operation_of peer.watches asked; reply = reply } in
    talks.goes_on c own ((position, entry) ∷ []) peer.watches (watched_after peer.watches (operation_of peer.watches asked) position)
    peer.input peer.output talk.before new said talk.conversation
    (talks.is_done c peer.watches talk.before here new call asked reply said position talk.conversation.watches talk.gives is refl resumes)

-- a client whose call was answered by a fault
pub talks_refused : TalkLaws → (c : ℕ) (own : List Placed) (peer : ClientState) (here : Progress) (call : Call) (asked : Asked)
    (fault : Fault) (said : Reply) (stage : Stage) → asked_of call ≡ Some asked
    → Opened c own peer.watches peer.input here call peer.output → Resumes here.stage (answer.Fault fault) said stage
    → Conversation c own (watched_at_fault peer.watches asked) peer.input (record here { stage = stage }) (peer.output ++ encoding said)
talks_refused talks c own peer here call asked fault said stage is talk resumes =
    let new : Progress = record here { stage = stage } in
    rw (append-nil own) at
    (talks.goes_on c own [] peer.watches (watched_at_fault peer.watches asked) peer.input peer.output talk.before new said talk.conversation
    (talks.is_undone c peer.watches talk.before here new call asked fault said talk.conversation.watches talk.gives is refl resumes))

-- a client whose call only forgot
pub talks_forgot : TalkLaws → (c : ℕ) (own : List Placed) (peer : ClientState) (here : Progress) (call : Call) (given : Answer)
    (said : Reply) (stage : Stage) → asked_of call ≡ None → Opened c own peer.watches peer.input here call peer.output
    → Resumes here.stage given said stage
    → Conversation c own [] peer.input (record here { stage = stage }) (peer.output ++ encoding said)
talks_forgot talks c own peer here call given said stage is talk resumes =
    let new : Progress = record here { stage = stage } in
    rw (append-nil own) at
    (talks.goes_on c own [] peer.watches [] peer.input peer.output talk.before new said talk.conversation
    (talks.is_forgotten c peer.watches talk.before here new call given said talk.conversation.watches talk.gives is refl resumes))
