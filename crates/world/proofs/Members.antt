-- A client's session goes its way whatever it has beside it.
use Rattle.std.proofs.Common.{◌≡◌, ℕ, zero, suc, List, [], ◌∷◌, ◌++◌, map, get_or, set, Option, Some, refl, ap, ◌∙◌}
use Rattle.std.specs.Prelude.{slice_get}
use Rattle.std.proofs.lemmas.List.{map-set}
use Rattle.words.specs.Encoding.{encoding}
use Rattle.words.specs.History.{Pair}
use Rattle.transact.specs.declared.call.Answer.{Answer}
use Rattle.connection.specs.Clients.{Progress}
use Rattle.world_model.specs.States.{Phase, Serving, Calling, Leaving, Left, Ended, ClientState, fresh}
use Rattle.world_model.specs.Advancing.{Pauses, Waits, Finishes, Quits, Fails, Opens, Answers, Here, Says, Advances}
use Rattle.world_model.specs.Commits.{Resumed}
use Rattle.world.specs.Peers.{Took}
use Rattle.world.specs.Desks.{IsDone, beside, client_of, due_of}
use Rattle.world.specs.declared.desk.Desk.{Desk}
use Rattle.world.specs.declared.member.Member.{Member}

pauses_beside : (desk : Desk) (peer : ClientState) (at : Progress) (after : ClientState) → Pauses peer at after → Pauses (beside desk peer) at (beside desk after)
pauses_beside desk peer at _ (Waits gives on) = Waits gives on
pauses_beside desk peer at _ (Finishes gives closed) = Finishes gives closed
pauses_beside desk peer at _ (Quits gives) = Quits gives
pauses_beside desk peer at _ (Fails fault gives) = Fails fault gives
pauses_beside desk peer at _ (Opens call called gives) = Opens call called gives

answers_beside : (desk : Desk) (peer : ClientState) (at : Progress) (after : ClientState) → Answers peer at after → Answers (beside desk peer) at (beside desk after)
answers_beside desk _ _ _ (Here peer at after pauses) = Here (beside desk peer) at (beside desk after) (pauses_beside desk peer at after pauses)
answers_beside desk _ _ _ (Says peer at reply later after gives more) =
    Says (beside desk peer) at reply later (beside desk after) gives (answers_beside desk _ later after more)

pub advances_beside : (desk : Desk) (peer : ClientState) (phase : Phase) (after : ClientState) → Advances peer phase after
    → Advances (beside desk peer) phase (beside desk after)
advances_beside desk peer (Serving at) after goes = answers_beside desk peer at after goes
advances_beside desk peer (Calling at call) after goes = absurd goes
advances_beside desk peer (Leaving keys) after goes = absurd goes
advances_beside desk peer Left after goes = ap (beside desk) goes
advances_beside desk peer Ended after goes = absurd goes

pub resumed_beside : (old new : Desk) (peer : ClientState) (at : Progress) (given : Answer) (watches : List Pair) (after : ClientState)
    → IsDone old new → Took peer at given watches after → Resumed (beside old peer) at given watches (beside new after)
resumed_beside old new peer at given watches after done took = record {
  said = took.said;
  stage = took.stage;
  resumes = took.resumes;
  else_same =
      ap (beside new) took.else_same
      ∙ (λ j. let one : ClientState = record peer {
        phase = Serving (record at { stage = took.stage });
        watches = watches;
        output = peer.output ++ encoding took.said;
        due = map due_of (done.due j).items;
        fetched = done.fetched j;
        full = done.full j;
        stay = done.stay j;
      } in one);
}

-- ONE CLIENT OF ALL

pub client_there : (members : List Member) (c : ℕ) (one : Member) → slice_get members c ≡ Some one → get_or (map client_of members) c fresh ≡ client_of one
client_there [] c one is = absurd (cc is)
client_there (first ∷ members) zero one is = ap client_of (some_same is)
  where
    some_same : {a b : Member} → Option.Some a ≡ Some b → a ≡ b
    some_same is = cc is
client_there (first ∷ members) (suc c) one is = client_there members c one is

pub clients_with : (members : List Member) (c : ℕ) (one : Member) → map client_of (set members c one) ≡ set (map client_of members) c (client_of one)
clients_with members c one = map-set client_of members c one

-- the stays of all
pub stays_are : (members : List Member) → map (λ (one : Member). one.desk.stay) members ≡ map (λ (k : ClientState). k.stay) (map client_of members)
stays_are [] = refl
stays_are (one ∷ members) = ap (λ l. one.desk.stay ∷ l) (stays_are members)
