-- A conversation, from one turn to the next.
use Rattle.std.proofs.Common.{◌≡◌, ℕ, ◌<◌, ◌≤◌, List, [], ◌∷◌, ◌++◌, length, reverse, Option, Some, None, IfNone, refl, sym, ap, subst, ◌∙◌, append_assoc, append-nil, arith, inl, inr}
use Rattle.std.specs.List.{flat_map}
use Rattle.std.proofs.lemmas.List.Concat.{flat_map-append}
use Rattle.std.proofs.lemmas.Grind.{common_steps}
use Rattle.std.proofs.lemmas.List.{reverse-append}
use Rattle.words.specs.declared.reply.Reply.{Reply}
use Rattle.words.specs.declared.reply.ProtocolFault.{ProtocolFault}
use Rattle.words.specs.Store.{Bytes}
use Rattle.words.specs.Spelling.{spelling, spellings, header, AreRequests, IsRequest}
use Rattle.words.specs.Stream.{front, Part, Faulty}
use Rattle.words.specs.Encoding.{encoding, encodings}
use Rattle.words.specs.declared.history.Operation.{Operation}
use Rattle.words.specs.History.{Pair, Placed, keys_of_pairs}
use Rattle.words.specs.Watches.{watched_after}
use Rattle.words.specs.Session.{Mode, Idle, Turn, Says, Forgets, Tries, Calls, Never, operation_of, watched_at_fault, turn, Rest, TakesEntry, Follows, Transcript}
use Rattle.gates.specs.declared.view.Note.{Note}
use Rattle.engine.specs.Passes.{Known}
use Rattle.engine.specs.Calls.{Promises}
use Rattle.connection.specs.Clients.{Progress, beginning, TakesOff, IsOpen, mode_of, WantsMemory}
use Rattle.connection.specs.Conversations.{Leads, Talk, Conversation, Answers, Went}
use Rattle.connection.specs.declared.serving.Ended.{Ended}
use Rattle.connection.specs.declared.serving.Ended.TheVariants as ended
use Rattle.connection.specs.declared.reading.TheConstants.{PIECE_BYTES}
use Rattle.connection.specs.declared.answering.Paused.{Paused}
use Rattle.connection.specs.declared.answering.Paused.TheVariants as paused
use Rattle.connection.specs.Served.{Answered, Conversing, Served, Turned, Turns, HasTaken, HasPaused, HasAnswered, ForOutput, ForPiece, ForRequest, StandsAt, LeavesAt, GoesOn, Attends, fault_line, fed_at_once}

-- spellings, requests and encodings, with one more
spellings-more : (requests : List (List Bytes)) (words : List Bytes) → spellings (requests ++ words ∷ []) ≡ spellings requests ++ spelling words
spellings-more [] words = append-nil (spelling words)
spellings-more (first ∷ requests) words =
    ap (λ (t : Bytes). spelling first ++ t) (spellings-more requests words) ∙ sym (append_assoc (spelling first) _ _)

AreRequests-more : (requests : List (List Bytes)) (words : List Bytes) → AreRequests requests → IsRequest words → AreRequests (requests ++ words ∷ [])
AreRequests-more [] words all one = (one, tt)
AreRequests-more (first ∷ requests) words all one = (all.0, AreRequests-more requests words all.1 one)

pub encodings-more : (replies : List Reply) (reply : Reply) → encodings (replies ++ reply ∷ []) ≡ encodings replies ++ encoding reply
unfolding encodings
encodings-more replies reply =
    flat_map-append encoding replies (reply ∷ []) ∙ ap (λ (t : Bytes). flat_map encoding replies ++ t) (append-nil (encoding reply))

pub encodings-none : encodings [] ≡ []
unfolding encodings
encodings-none = refl

-- a request that is taken off leaves fewer bytes
pub fewer_unread : (old new : Bytes) (words : List Bytes) → TakesOff old words new → length new < length old
unfolding spelling header
fewer_unread old new words taken = rw taken.taken (grind (arith, common_steps))

-- a conversation that begins
pub conversation_begins : (session : ℕ) → Conversation session [] [] [] beginning []
conversation_begins session = record {
  requests = [];
  replies = [];
  joined = refl;
  within = tt;
  ready = tt;
  watches = refl;
  talk = λ others entries more last watched goes. goes;
  text = sym encodings-none;
}

-- what follows a turn still follows where the rest is said otherwise
entry_map : (session : ℕ) (operation : Operation) (said : Reply) (entries : List Placed) (one other : ℕ → List Placed → Type 0)
    → ((position : ℕ) (later : List Placed) → one position later → other position later)
    → TakesEntry session operation said entries one → TakesEntry session operation said entries other
entry_map session operation said [] one other map takes = takes
entry_map session operation said (placed ∷ entries) one other map takes = (takes.0, map placed.0 entries takes.1)

follows_map : (session : ℕ) (pairs : List Pair) (t : Turn) (entries : List Placed) (replies : List Reply) (one other : Rest)
    → ((mode : Mode) (now : List Pair) (later : List Placed) (more : List Reply) → one mode now later more → other mode now later more)
    → Follows session pairs t entries replies one → Follows session pairs t entries replies other
follows_map session pairs t entries [] one other map follows = follows
follows_map session pairs (Says said next) entries (reply ∷ replies) one other map follows = (follows.0, map next pairs entries replies follows.1)
follows_map session pairs (Forgets said next) entries (reply ∷ replies) one other map follows = (follows.0, map next [] entries replies follows.1)
follows_map session pairs (Tries said done faulty) entries (reply ∷ replies) one other map (inl follows) =
    inl (follows.0, map done pairs entries replies follows.1)
follows_map session pairs (Tries said done faulty) entries (reply ∷ replies) one other map (inr follows) =
    inr (follows.0, map faulty pairs entries replies follows.1)
follows_map session pairs (Calls asked done faulty) entries (reply ∷ replies) one other map (inl takes) =
    inl (entry_map session (operation_of pairs asked) reply entries _ _
    (λ position later goes. map done (watched_after pairs (operation_of pairs asked) position) later replies goes) takes)
follows_map session pairs (Calls asked done faulty) entries (reply ∷ replies) one other map (inr follows) =
    inr (follows.0, follows.1, map faulty (watched_at_fault pairs asked) entries replies follows.2)
follows_map session pairs Never entries (reply ∷ replies) one other map follows = absurd follows

-- a transcript with its end is one
pub leads_transcript : (session : ℕ) (mode : Mode) (pairs : List Pair) (requests : List (List Bytes)) (entries : List Placed) (replies : List Reply)
    (last : Mode) (watched : List Pair) → Leads session mode pairs requests entries replies last watched → Transcript session mode pairs requests entries replies
leads_transcript session mode pairs [] entries replies last watched leads = (leads.0, leads.1)
leads_transcript session mode pairs (words ∷ requests) entries replies last watched leads =
    follows_map session pairs (turn mode (keys_of_pairs pairs) words) entries replies _ _
    (λ next now later more goes. leads_transcript session next now requests later more last watched goes) leads

-- a talk that ends here
pub closed_leads : (session : ℕ) (requests : List (List Bytes)) (own : List Placed) (replies : List Reply) (mode : Mode) (pairs : List Pair)
    → Talk session requests own replies mode pairs → Leads session Idle [] requests own replies mode pairs
closed_leads session requests own replies mode pairs talk =
    rw (append-nil requests, append-nil own, append-nil replies) at (talk [] [] [] mode pairs (refl, refl, refl, refl))

pub closed_transcript : (session : ℕ) (requests : List (List Bytes)) (own : List Placed) (replies : List Reply) (mode : Mode) (pairs : List Pair)
    → Talk session requests own replies mode pairs → Transcript session Idle [] requests own replies
closed_transcript session requests own replies mode pairs talk =
    leads_transcript session Idle [] requests own replies mode pairs (closed_leads session requests own replies mode pairs talk)

-- a conversation whose client is fed a piece
pub conversation_fed : (session : ℕ) (own : List Placed) (pairs : List Pair) (fed said piece : Bytes) (at : Progress)
    → Conversation session own pairs fed at said
    → Conversation session own pairs (fed ++ piece) (record at { unread = at.unread ++ piece }) said
conversation_fed session own pairs fed said piece at talk = record {
  requests = talk.requests;
  replies = talk.replies;
  joined = ap (λ (t : Bytes). t ++ piece) talk.joined ∙ append_assoc (spellings talk.requests) at.unread piece;
  within = talk.within;
  ready = talk.ready;
  watches = talk.watches;
  talk = talk.talk;
  text = talk.text;
}

-- a conversation that has answered one more request
pub conversation_next : (session : ℕ) (own entries : List Placed) (pairs after : List Pair) (fed said : Bytes) (old new : Progress) (reply : Reply)
    → Conversation session own pairs fed old said → Answers session entries pairs after old new reply
    → Conversation session (own ++ entries) after fed new (said ++ encoding reply)
conversation_next session own entries pairs after fed said old new reply talk one = record {
  requests = talk.requests ++ one.words ∷ [];
  replies = talk.replies ++ reply ∷ [];
  joined =
      talk.joined
      ∙ ap (λ (t : Bytes). spellings talk.requests ++ t) one.taken.taken
      ∙ sym (append_assoc (spellings talk.requests) (spelling one.words) new.unread)
      ∙ ap (λ (t : Bytes). t ++ new.unread) (sym (spellings-more talk.requests one.words));
  within = AreRequests-more talk.requests one.words talk.within one.taken.request;
  ready = one.ready;
  watches = one.watches;
  talk = λ others later more last watched goes.
      rw (
        append_assoc talk.requests (one.words ∷ []) others,
        append_assoc talk.replies (reply ∷ []) more,
        append_assoc own entries later,
      )
      (talk.talk (one.words ∷ others) (entries ++ later) (reply ∷ more) last watched (one.goes_on others later more last watched goes));
  text = ap (λ (t : Bytes). t ++ encoding reply) talk.text ∙ sym (encodings-more talk.replies reply);
}

-- a pass that has made no entry
abbrev pub went_none : (was : Known) → Went was was []
went_none was = record { number = refl; more = []; seen = refl; mine = refl; told = []; notes = refl; failures = omega arith }

-- a pass that goes on
pub went_then : (was mid now : Known) (own entries : List Placed) → Went was mid own → Went mid now entries → Went was now (own ++ entries)
went_then was mid now own entries one two = record {
  number = two.number ∙ one.number;
  more = two.more ++ one.more;
  seen = two.seen ∙ ap (λ (t : List _). two.more ++ t) one.seen ∙ sym (append_assoc two.more one.more was.seen);
  mine =
      two.mine
      ∙ ap (λ (t : List Placed). reverse entries ++ t) one.mine
      ∙ sym (append_assoc (reverse entries) (reverse own) was.mine)
      ∙ ap (λ (t : List Placed). t ++ was.mine) (sym (reverse-append own entries));
  told = two.told ++ one.told;
  notes = two.notes ∙ ap (λ (t : List Note). two.told ++ t) one.notes ∙ sym (append_assoc two.told one.told was.notes);
  failures = omega (arith, one.failures, two.failures);
}

-- bytes at the end of what is unread change no turn
abbrev more_unread : Bytes → Progress → Progress
more_unread piece at = record at { unread = at.unread ++ piece }

taken_longer : (piece old new : Bytes) (words : List Bytes) → TakesOff old words new → TakesOff (old ++ piece) words (new ++ piece)
taken_longer piece old new words taken = record {
  request = taken.request;
  taken = ap (λ (t : Bytes). t ++ piece) taken.taken ∙ append_assoc (spelling words) new piece;
}

turned_longer : {promises : Promises} (piece : Bytes) (was now : Known) (old new : Progress) (reply : Reply) → Turned promises was now old new reply
    → Turned promises was now (more_unread piece old) (more_unread piece new) reply
turned_longer piece was now old new reply turned = record {
  own = turned.own;
  went = turned.went;
  answers = record {
    words = turned.answers.words;
    taken = taken_longer piece old.unread new.unread turned.answers.words turned.answers.taken;
    ready = turned.answers.ready;
    watches = turned.answers.watches;
    goes_on = turned.answers.goes_on;
  };
  spared = (turned.spared.0, taken_longer piece old.unread new.unread turned.spared.0 turned.spared.1, turned.spared.2);
}

turns_longer : (promises : Promises) (piece : Bytes) (was now : Known) (old new : Progress) (replies : List Reply) → Turns promises was now old new replies
    → Turns promises was now (more_unread piece old) (more_unread piece new) replies
turns_longer promises piece was now old new [] turns = (turns.0, ap (more_unread piece) turns.1)
turns_longer promises piece was now old new (reply ∷ replies) turns = (
  turns.0,
  more_unread piece turns.1,
  turned_longer piece was turns.0 old turns.1 reply turns.2,
  turns_longer promises piece turns.0 now turns.1 new replies turns.3,
)

-- one turn more
turns_then : {promises : Promises} (was mid now : Known) (old at new : Progress) (replies : List Reply) (reply : Reply) → Turns promises was mid old at replies → Turned promises mid now at new reply
    → Turns promises was now old new (replies ++ reply ∷ [])
turns_then was mid now old at new [] reply turns one = (now, new, rw (turns.0, turns.1) at one, (refl, refl))
turns_then was mid now old at new (first ∷ replies) reply turns one =
    (turns.0, turns.1, turns.2, turns_then turns.0 mid now turns.1 at new replies reply turns.3 one)

-- the conversation of a pass that watches nothing begins
pub conversing_begins : {promises : Promises} (was : Known) (at : Progress) → was.watched ≡ [] → at ≡ beginning → Conversing promises was was [] at []
conversing_begins was at none begins = record {
  own = [];
  went = went_none was;
  conversation = record {
    requests = [];
    replies = [];
    joined = rw begins refl;
    within = tt;
    ready = rw begins tt;
    watches = rw (none, begins) refl;
    talk = λ others entries more last watched goes. rw (none, begins) at goes;
    text = sym encodings-none;
  };
  turns = (refl, begins);
}

-- it goes on with a piece, of a client that stands as before but for that
pub conversing_with : {promises : Promises} (was now : Known) (fed said piece : Bytes) (at : Progress) → Conversing promises was now fed at said
    → Conversing promises was now (fed ++ piece) (record at { unread = at.unread ++ piece }) said
unfolding conversation_fed
conversing_with was now fed said piece at talk = record {
  own = talk.own;
  went = talk.went;
  conversation = conversation_fed was.number talk.own now.watched fed said piece at talk.conversation;
  turns = turns_longer _ piece was now (fed_at_once fed) at talk.conversation.replies talk.turns;
}

-- it goes on with a piece
pub conversing_fed : {promises : Promises} (was now : Known) (fed said piece : Bytes) (at after : Progress) → Conversing promises was now fed at said
    → after ≡ record at { unread = at.unread ++ piece } → Conversing promises was now (fed ++ piece) after said
conversing_fed was now fed said piece at after talk is = rw is (conversing_with was now fed said piece at talk)

-- it goes on with one answered request
pub conversing_next : {promises : Promises} (was mid now : Known) (fed said : Bytes) (old new : Progress) (reply : Reply)
    → Conversing promises was mid fed old said → Turned promises mid now old new reply → Conversing promises was now fed new (said ++ encoding reply)
unfolding conversation_next
conversing_next was mid now fed said old new reply talk one = record {
  own = talk.own ++ one.own;
  went = went_then was mid now talk.own one.own talk.went one.went;
  conversation =
      conversation_next was.number talk.own one.own mid.watched now.watched fed said old new reply talk.conversation
      (rw talk.went.number at one.answers);
  turns = turns_then was mid now (fed_at_once fed) old new talk.conversation.replies reply talk.turns one;
}

-- the same of an equal text
pub conversing_says : {promises : Promises} (was now : Known) (fed : Bytes) (at : Progress) {said text : Bytes} → Conversing promises was now fed at said → said ≡ text
    → Conversing promises was now fed at text
conversing_says was now fed at talk is = rw is at talk

-- the same of a pass that knows the same
pub conversing_same : {promises : Promises} (was mid now : Known) (fed said : Bytes) (at : Progress) → Conversing promises was mid fed at said → now ≡ mid
    → Conversing promises was now fed at said
conversing_same was mid now fed said at talk is = rw is talk

-- a conversation, closed
abbrev pub closed : {promises : Promises} {was now : Known} {fed : Bytes} {at : Progress} {said : Bytes} → Conversing promises was now fed at said → Answered promises was now fed
closed {promises} {was} {now} {fed} {at} {said} talk = record {
  requests = talk.conversation.requests;
  rest = at.unread;
  own = talk.own;
  replies = talk.conversation.replies;
  mode = mode_of at.stage;
  pairs = now.watched;
  joined = talk.conversation.joined;
  within = talk.conversation.within;
  went = talk.went;
  transcript = closed_transcript was.number talk.conversation.requests talk.own talk.conversation.replies (mode_of at.stage) now.watched talk.conversation.talk;
  leads = closed_leads was.number talk.conversation.requests talk.own talk.conversation.replies (mode_of at.stage) now.watched talk.conversation.talk;
  last = now;
  stands = at;
  turns = talk.turns;
  forgets = went_none now;
  no_failure = refl;
}

-- a connection whose pass has gone on by no entry of its own since it ended, and by no failed call of its device
pub served_later : {promises : Promises} (was now then : Known) (e : Ended) (bytes text : Bytes) → Served promises was now e bytes text → Went now then []
    → then.failures ≡ now.failures → Served promises was then e bytes text
served_later was now then e bytes text served later same = record {
  talk = record {
    requests = served.talk.requests;
    rest = served.talk.rest;
    own = served.talk.own;
    replies = served.talk.replies;
    mode = served.talk.mode;
    pairs = served.talk.pairs;
    joined = served.talk.joined;
    within = served.talk.within;
    went = rw (append-nil served.talk.own) at (went_then was now then served.talk.own [] served.talk.went later);
    transcript = served.talk.transcript;
    leads = served.talk.leads;
    last = served.talk.last;
    stands = served.talk.stands;
    turns = served.talk.turns;
    forgets = went_then served.talk.last now then [] [] served.talk.forgets later;
    no_failure = same ∙ served.talk.no_failure;
  };
  ends = served.ends;
}

-- a conversation whose text was cut
pub served_cut : {promises : Promises} {was now : Known} {fed : Bytes} {at : Progress} {whole : Bytes} (text more : Bytes)
    → Conversing promises was now fed at whole → whole ≡ text ++ more → Served promises was now ended.WriteFailed fed text
served_cut {whole = whole} text more talk is = record { talk = closed talk; ends = (whole, more, inl talk.conversation.text, is) }

-- a connection whose writer had failed before it began
pub served_unheard : {promises : Promises} (was : Known) → was.watched ≡ [] → Served promises was was ended.WriteFailed [] []
served_unheard was none = served_cut [] [] (conversing_begins was beginning none refl) refl

-- a text that was cut, of a connection whose client was not fed the piece that was read last
pub served_cut_unfed : {promises : Promises} {was now : Known} {fed : Bytes} {at : Progress} {whole : Bytes} (bytes piece text more : Bytes)
    → Conversing promises was now fed at whole → bytes ≡ fed ++ piece → whole ≡ text ++ more → Served promises was now ended.WriteFailed bytes text
unfolding conversing_with conversation_fed
served_cut_unfed {promises} {was} {now} {fed} {at} {whole} bytes piece text more talk joined is = rw joined (record {
  talk = closed (conversing_with was now fed whole piece at talk);
  ends = (whole, more, inl talk.conversation.text, is);
})

-- the same of a text that a fault's line ends
pub served_cut_fault : {promises : Promises} {was now : Known} {fed : Bytes} {at : Progress} {said : Bytes} (fault : ProtocolFault) (text more : Bytes)
    → Conversing promises was now fed at said → front at.unread ≡ Faulty fault → said ++ fault_line fault ≡ text ++ more
    → Served promises was now ended.WriteFailed fed text
served_cut_fault {said = said} fault text more talk stands is = record {
  talk = closed talk;
  ends = (said ++ fault_line fault, more, inr (fault, stands, ap (λ (t : Bytes). t ++ fault_line fault) talk.conversation.text), is);
}

-- a conversation that a fault's line ended
pub served_fault : {promises : Promises} {was now : Known} {fed : Bytes} {at : Progress} {said : Bytes} (fault : ProtocolFault) (text : Bytes)
    → Conversing promises was now fed at said → front at.unread ≡ Faulty fault → IsOpen (mode_of at.stage) → said ++ fault_line fault ≡ text
    → Served promises was now ended.ProtocolFault fed text
served_fault fault text talk stands is_open is = record {
  talk = closed talk;
  ends = (fault, stands, is_open, sym is ∙ ap (λ (t : Bytes). t ++ fault_line fault) talk.conversation.text);
}

-- a conversation that QUIT ended
pub served_quit : {promises : Promises} {was now : Known} {fed : Bytes} {at : Progress} {said : Bytes} (text : Bytes)
    → Conversing promises was now fed at said → mode_of at.stage ≡ Mode.Closed → said ≡ text → Served promises was now ended.Quit fed text
served_quit text talk is_closed is = record { talk = closed talk; ends = (is_closed, sym is ∙ talk.conversation.text) }

-- a connection that found no memory before it began
pub served_nothing : {promises : Promises} (was : Known) → was.watched ≡ [] → Served promises was was ended.NoMemory [] []
served_nothing was none =
    let talk = conversing_begins was beginning none refl in
    record { talk = closed talk; ends = (ForOutput refl, tt, talk.conversation.text) }

-- a connection that found no memory for a request
pub served_no_memory : {promises : Promises} {was now : Known} {fed : Bytes} {at : Progress} {said : Bytes} (text : Bytes)
    → Conversing promises was now fed at said → WantsMemory at.unread → IsOpen (mode_of at.stage) → said ≡ text → Served promises was now ended.NoMemory fed text
served_no_memory text talk wants is_open is = record {
  talk = closed talk;
  ends = (ForRequest wants, is_open, sym is ∙ talk.conversation.text);
}

-- a connection that found no memory to feed what was read last
pub served_unfed : {promises : Promises} {was now : Known} {fed : Bytes} {at : Progress} {said : Bytes} (bytes piece text : Bytes)
    → Conversing promises was now fed at said → bytes ≡ fed ++ piece → 0 < length piece → length piece ≤ PIECE_BYTES → front at.unread ≡ Part
    → IsOpen (mode_of at.stage) → said ≡ text → Served promises was now ended.NoMemory bytes text
unfolding conversing_with conversation_fed
served_unfed {promises} {was} {now} {fed} {at} {said} bytes piece text talk joined some short waits is_open is = rw joined (record {
  talk = closed (conversing_with was now fed said piece at talk);
  ends = (
    ForPiece (record { fed = at.unread; piece = piece; joined = refl; waits = waits; some = some; short = short }),
    is_open,
    sym is ∙ talk.conversation.text,
  );
})

-- nothing is a part of a request
pub front-none : front [] ≡ Part
unfolding front
front-none = refl

-- a connection that ends where it took a piece
pub served_taken : {promises : Promises} (was now : Known) (fed piece said : Bytes) (at after : Progress) (e : Ended)
    → Conversing promises was now fed at said → front at.unread ≡ Part → IsOpen (mode_of at.stage) → length piece ≤ PIECE_BYTES
    → HasTaken (Some e) at piece after → Served promises was now e (fed ++ piece) said
unfolding conversing_with conversation_fed
served_taken was now fed piece said at after ended.EndOfInput talk waits is_open short taken = record {
  talk = closed (conversing_with was now fed said piece at talk);
  ends = (rw (taken.0, append-nil at.unread) waits, is_open, talk.conversation.text);
}
served_taken was now fed piece said at after ended.Quit talk waits is_open short taken = absurd taken
served_taken was now fed piece said at after ended.ProtocolFault talk waits is_open short taken = absurd taken
served_taken was now fed piece said at after ended.ReadFailed talk waits is_open short taken = record {
  talk = closed (conversing_with was now fed said piece at talk);
  ends = (rw (taken.0, append-nil at.unread) waits, is_open, talk.conversation.text);
}
served_taken was now fed piece said at after ended.WriteFailed talk waits is_open short taken = absurd taken
served_taken was now fed piece said at after ended.NoMemory talk waits is_open short taken = record {
  talk = closed (conversing_with was now fed said piece at talk);
  ends = (
    ForPiece (record { fed = at.unread; piece = piece; joined = refl; waits = waits; some = taken.0; short = short }),
    is_open,
    talk.conversation.text,
  );
}

-- a client that took a piece, or none, watches what it watched
pub attends_taken : (knows : Known) (e : Option Ended) (piece : Bytes) (at after : Progress) → Attends knows at → HasTaken e at piece after
    → Attends knows after
attends_taken knows None piece at after attends taken = rw taken (record { ready = attends.ready; watches = attends.watches })
attends_taken knows (Some ended.EndOfInput) piece at after attends taken = rw taken.1 attends
attends_taken knows (Some ended.Quit) piece at after attends taken = absurd taken
attends_taken knows (Some ended.ProtocolFault) piece at after attends taken = absurd taken
attends_taken knows (Some ended.ReadFailed) piece at after attends taken = rw taken.1 attends
attends_taken knows (Some ended.WriteFailed) piece at after attends taken = absurd taken
attends_taken knows (Some ended.NoMemory) piece at after attends taken = rw taken.1 attends

-- a client at the beginning watches what its pass does, which is nothing
pub attends_begins : (knows : Known) (at : Progress) → knows.watched ≡ [] → at ≡ beginning → Attends knows at
attends_begins knows at none begins = rw begins (record { ready = tt; watches = ap keys_of_pairs (sym none) })

-- it goes on where no piece was read
pub conversing_none : {promises : Promises} (was now : Known) (fed said piece : Bytes) (at after : Progress) → Conversing promises was now fed at said
    → piece ≡ [] → after ≡ at → Conversing promises was now (fed ++ piece) after said
conversing_none was now fed said piece at after talk none is = rw (none, is, append-nil fed) talk

-- the same of bytes and a text that are grouped another way
pub conversing_grouped : {promises : Promises} (was now : Known) (at : Progress) (a b c d e f held : Bytes)
    → Conversing promises was now ((a ++ b) ++ c) at (((d ++ e) ++ f) ++ held) → Conversing promises was now (a ++ (b ++ c)) at ((d ++ (e ++ f)) ++ held)
conversing_grouped was now at a b c d e f held talk = rw (append_assoc a b c, append_assoc d e f) at talk

-- the same of a pause
pub paused_says : (promises : Promises) (was now : Known) (fed : Bytes) (pause : Paused) (at : Progress) (held : Bytes) {written text : Bytes}
    → HasPaused promises was now fed pause at written held → written ≡ text → HasPaused promises was now fed pause at text held
paused_says promises was now fed pause at held {written} {text} talk is =
    let P : Bytes → Type 0 = λ t. HasPaused promises was now fed pause at t held in subst P is talk

-- a room in which nothing is
pub leaves_at : (pause : Paused) (held : Bytes) → held ≡ [] → LeavesAt pause held
leaves_at paused.Input held none = none
leaves_at (paused.Malformed fault) held none = tt
leaves_at paused.NoMemory held none = tt
leaves_at paused.Unfed held none = tt
leaves_at paused.WriteFailed held none = tt
leaves_at paused.Closed held none = tt

-- a conversation with an empty buffer
pub conversing_empty : {promises : Promises} (was now : Known) (fed before held : Bytes) (at : Progress) → held ≡ []
    → Conversing promises was now fed at before → Conversing promises was now fed at (before ++ held)
conversing_empty was now fed before held at none talk = rw (none, append-nil before) talk

-- the same of what an answering came to
pub answered_says : (promises : Promises) (was now : Known) (fed : Bytes) (ends : Option Ended) (at : Progress) {written text : Bytes}
    → HasAnswered promises was now fed ends at written → written ≡ text → HasAnswered promises was now fed ends at text
answered_says promises was now fed ends at {written} {text} talk is =
    let P : Bytes → Type 0 = λ t. HasAnswered promises was now fed ends at t in subst P is talk

-- a connection goes on where the answering paused for input
pub goes_on_at : (pause : Paused) (ends : Option Ended) (at : Progress) (held : Bytes)
    → IfNone ends ((pause ≡ paused.Input) × (held ≡ [])) → StandsAt pause at → GoesOn ends at held
goes_on_at pause None at held goes stands = let stood = rw goes.0 at stands in (stood.0, stood.1, goes.1)
goes_on_at pause (Some ended) at held goes stands = tt

-- nothing is in the room then
pub room_at : (pause : Paused) (ends : Option Ended) (held room : Bytes)
    → IfNone ends ((pause ≡ paused.Input) × (held ≡ [])) → LeavesAt pause room → IfNone ends (room ≡ [])
room_at pause None held room goes leaves = rw goes.0 at leaves
room_at pause (Some ended) held room goes leaves = tt
