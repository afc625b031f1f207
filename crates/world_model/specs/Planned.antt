-- A plan that is kept from a call's last take until its commit.
use Rattle.std.specs.Prelude.{ℕ, ◌≡◌, ◌≢◌, List, [], ◌++◌, Some, None}
use Rattle.words.specs.declared.reply.Reply.{Reply}
use Rattle.words.specs.declared.history.Operation.{Operation}
use Rattle.words.specs.Store.{Bytes, Store, Write}
use Rattle.words.specs.History.{History, after, due, outcome, keys_named}
use Rattle.words.specs.Locality.{AreSameAt, NoEntryNames, NamesNone}
use Rattle.words.specs.Session.{Asked, operation_of}
use Rattle.transact.specs.declared.call.Call.{Call}
use Rattle.transact.specs.Calls.{asked_of, call_keys}
use Rattle.transact.specs.Plans.{IsPlan}
use Rattle.connection.specs.Clients.{Progress}
use Rattle.world_model.specs.States.{Phase, Calling, State, client}
use Rattle.world_model.specs.Enabled.{next_stripe}
use Rattle.world_model.specs.declared.event.Event.{Event}
use Rattle.world_model.specs.declared.event.Event.TheVariants as event

-- What an operation depends on, as `words` states its laws.
pub record LocalLaws : Type 0 where
  pub stays_due : (operation : Operation) (more before : History) → NamesNone more (keys_named operation)
      → due (more ++ before) operation ≡ due before operation
  pub depends : (operation : Operation) (one other : Store) → AreSameAt (keys_named operation) one other
      → outcome one operation ≡ outcome other operation
  pub leaves : (more before : History) (key : Bytes) → NoEntryNames more key → after (more ++ before) key ≡ after before key

-- the call is open
abbrev pub IsCall : Phase → Call → Type 0
IsCall phase call = (at : Progress) × (phase ≡ Calling at call)

-- A client's open call was planned to have this reply and to write this: it holds all stripes of the call, nothing is to be read for it, and
-- the plan is the one that is due where the history stands before it.
pub record IsPlanned (state : State) (c : ℕ) (call : Call) (asked : Asked) (reply : Reply) (writes : List Write) : Type 0 where
  pub calling : IsCall (client state c).phase call
  pub asks : asked_of call ≡ Some asked
  pub keys : keys_named (operation_of (client state c).watches asked) ≡ call_keys call
  pub held : next_stripe state c (Some call) ≡ None
  pub none : (client state c).due ≡ []
  pub plan : IsPlan state.history (operation_of (client state c).watches asked) reply writes

-- it is no commit of the client
abbrev pub IsNoCommitOf : ℕ → Event → Type 0
IsNoCommitOf c (event.Commit d) = d ≢ c
IsNoCommitOf c _ = Unit {0}
