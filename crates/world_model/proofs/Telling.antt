-- What a sound world's clients were told.
use Rattle.std.proofs.Common.{◌≡◌, ℕ, ◌<◌, Bool, true, false, List, [], ◌∷◌, length, refl, sym, subst, ◌∙◌, append-nil, inl, inr}
use Rattle.words.specs.declared.reply.Reply.{Reply}
use Rattle.words.specs.Store.{Bytes}
use Rattle.words.specs.History.{History, Pair, Placed, keys_of_pairs}
use Rattle.words.specs.Encoding.{encodings}
use Rattle.words.specs.Session.{Idle, Mode, Turn, Says, Forgets, Tries, Calls, Never, Rest, Follows, TakesEntry, Transcript, turn, operation_of}
use Rattle.words.specs.declared.history.Operation.{Operation}
use Rattle.connection.specs.Clients.{Progress, mode_of}
use Rattle.connection.specs.Conversations.{Leads}
use Rattle.world_model.specs.States.{Phase, Serving, Calling, Leaving, Left, Ended, ClientState, State, client}
use Rattle.world_model.specs.Enabled.{holds_none}
use Rattle.world_model.specs.Told.{mine, IsLeft, IsTold, Headline}
use Rattle.world_model.specs.Soundness.{Talks, Over, HasAdvanced, IsSound}
use Rattle.world_model.specs.Laws.{TalkLaws}
use Rattle.world_model.specs.Resting.{IsAtRest, rests}
use Rattle.world_model.proofs.Holding.{both, none_is}

-- where an entry is taken and the rest follows, what the rest leads to follows
takes_map : (c : ℕ) (operation : Operation) (reply : Reply) (entries : List Placed) (P Q : ℕ → List Placed → Type 0)
    → ((position : ℕ) (others : List Placed) → P position others → Q position others) → TakesEntry c operation reply entries P
    → TakesEntry c operation reply entries Q
takes_map c operation reply [] P Q goes takes = takes
takes_map c operation reply (placed ∷ entries) P Q goes takes = (takes.0, goes placed.0 entries takes.1)

follows_map : (c : ℕ) (pairs : List Pair) (turned : Turn) (entries : List Placed) (replies : List Reply) (P Q : Rest)
    → ((next : Mode) (now : List Pair) (others : List Placed) (more : List Reply) → P next now others more → Q next now others more)
    → Follows c pairs turned entries replies P → Follows c pairs turned entries replies Q
follows_map c pairs turned entries [] P Q goes follows = follows
follows_map c pairs (Says said next) entries (reply ∷ replies) P Q goes follows = (follows.0, goes _ _ _ _ follows.1)
follows_map c pairs (Forgets said next) entries (reply ∷ replies) P Q goes follows = (follows.0, goes _ _ _ _ follows.1)
follows_map c pairs (Tries said done faulty) entries (reply ∷ replies) P Q goes (inl follows) = inl (follows.0, goes _ _ _ _ follows.1)
follows_map c pairs (Tries said done faulty) entries (reply ∷ replies) P Q goes (inr follows) = inr (follows.0, goes _ _ _ _ follows.1)
follows_map c pairs (Calls asked done faulty) entries (reply ∷ replies) P Q goes (inl follows) =
    inl (takes_map c (operation_of pairs asked) reply entries _ _ (λ position others is. goes _ _ _ _ is) follows)
follows_map c pairs (Calls asked done faulty) entries (reply ∷ replies) P Q goes (inr follows) =
    inr (follows.0, follows.1, goes _ _ _ _ follows.2)
follows_map c pairs Never entries (reply ∷ replies) P Q goes follows = follows

-- a transcript with its end is one
pub leads_transcript : (c : ℕ) (mode : Mode) (pairs : List Pair) (requests : List (List Bytes)) (entries : List Placed)
    (replies : List Reply) (last : Mode) (watched : List Pair) → Leads c mode pairs requests entries replies last watched
    → Transcript c mode pairs requests entries replies
leads_transcript c mode pairs [] entries replies last watched leads = (leads.0, leads.1)
leads_transcript c mode pairs (words ∷ requests) entries replies last watched leads =
    follows_map c pairs (turn mode (keys_of_pairs pairs) words) entries replies _ _
    (λ next now others more goes. leads_transcript c next now requests others more last watched goes) leads

-- a client whose session is over
over_told : (c : ℕ) (history : History) (none : Bool) (peer : ClientState)
    (over : Over c (mine history c) peer.input peer.closed peer.output)
    → IsLeft peer.phase none over.mode peer.closed over.rest over.ending → IsTold c history none peer
over_told c history none peer over left = record {
  requests = over.requests;
  replies = over.replies;
  rest = over.rest;
  ending = over.ending;
  mode = over.mode;
  pairs = over.pairs;
  joined = over.joined;
  within = over.within;
  transcript = leads_transcript c Idle [] over.requests (mine history c) over.replies over.mode over.pairs over.leads;
  leads = over.leads;
  text = over.text;
  left = left;
}

serving_left : (here : Progress) (none closed : Bool) → HasAdvanced (Serving here) none
    → IsLeft (Serving here) none (mode_of here.stage) closed here.unread []
serving_left here true closed advanced = (refl, advanced.0, advanced.1, refl)
serving_left here false closed advanced = (refl, refl)

told_by : TalkLaws → (c : ℕ) (history : History) (none : Bool) (peer : ClientState) (phase : Phase) → peer.phase ≡ phase
    → Talks c (mine history c) peer.watches peer.input peer.closed phase peer.output → HasAdvanced phase none
    → IsTold c history none peer
told_by talks c history none peer (Serving here) is talk advanced = record {
  requests = talk.requests;
  replies = talk.replies;
  rest = here.unread;
  ending = [];
  mode = mode_of here.stage;
  pairs = peer.watches;
  joined = talk.joined;
  within = talk.within;
  transcript = talks.transcript c (mine history c) peer.watches peer.input peer.output here talk;
  leads = talks.leads c (mine history c) peer.watches peer.input peer.output here talk;
  text = talk.text ∙ sym (append-nil (encodings talk.replies));
  left = rw is (serving_left here none peer.closed advanced);
}
told_by talks c history none peer (Calling here call) is talk advanced =
    let done = talk.conversation in record {
      requests = done.requests;
      replies = done.replies;
      rest = talk.before.unread;
      ending = [];
      mode = mode_of talk.before.stage;
      pairs = peer.watches;
      joined = done.joined;
      within = done.within;
      transcript = talks.transcript c (mine history c) peer.watches peer.input peer.output talk.before done;
      leads = talks.leads c (mine history c) peer.watches peer.input peer.output talk.before done;
      text = done.text ∙ sym (append-nil (encodings done.replies));
      left = rw is (talk.before, refl, refl, talk.gives, refl);
    }
told_by talks c history none peer (Leaving keys) is talk advanced = over_told c history none peer talk.0 (rw is talk.0.over)
told_by talks c history none peer Left is talk advanced = over_told c history none peer talk.0 (rw is talk.0.over)
told_by talks c history none peer Ended is talk advanced = over_told c history none peer talk.0 (rw is talk.0.over)

-- a sound world has the headline
pub headline_is : TalkLaws → (state : State) → IsSound state → Headline state
headline_is talks state sound = record {
  legal = sound.legal;
  told = λ c below.
      told_by talks c state.history (holds_none c state.holders) (client state c) (client state c).phase refl
      (sound.clients c below).talks (sound.rest c below);
  parts = λ i below free. sound.parts i;
}

-- a client that rests was told all that is due
pub rest_is : (state : State) (c : ℕ) → Headline state → c < length state.clients → rests state c ≡ true → IsAtRest state c
rest_is state c headline below is =
    let test = both _ _ is in
    record {
      no_call = none_is _ test.0;
      no_stripe = test.1;
      told = subst (λ (none : Bool). IsTold c state.history none (client state c)) test.1 (headline.told c below);
    }
