-- Which call a client's session gives, and that it has its place in the history.
use Rattle.std.proofs.Common.{◌≡◌, List, ◌++◌, Some, None, refl, sym, ap, ◌∙◌, append_assoc}
use Rattle.words.specs.Store.{Bytes}
use Rattle.words.specs.Spelling.{spelling}
use Rattle.words.specs.History.{Pair, keys_of_pairs, HasPlace}
use Rattle.words.specs.Session.{Asked, Run, Watch, Exec, Turn, Says, Forgets, Tries, Calls, Never, operation_of}
use Rattle.transact.specs.declared.call.Call.{Call}
use Rattle.transact.specs.declared.call.Call.TheVariants as of_call
use Rattle.transact.specs.Calls.{asked_of, call_of}
use Rattle.session.specs.Standings.{Wait}
use Rattle.session.specs.Steps.{IsAsked, HasItsPlace}
use Rattle.connection.specs.declared.client.Next.TheVariants as next
use Rattle.connection.specs.Clients.{Progress, Gives, watched_of, turn_at}

asked_again : (watched : List Bytes) (asked : Asked) → asked_of (call_of watched asked) ≡ Some asked
asked_again watched (Run command) = refl
asked_again watched (Watch keys) = refl
asked_again watched (Exec commands) = refl

asked_is : (t : Turn) (watched : List Bytes) (call : Call) (wait : Wait) (asked : Asked) → IsAsked t watched call wait
    → asked_of call ≡ Some asked
    → call ≡ call_of watched asked
asked_is (Calls other done faulty) watched call wait asked is asks =
    let same : Some other ≡ Some asked = sym (asked_again watched other) ∙ sym (ap asked_of is.0) ∙ asks in
    let one : other ≡ asked = cc in
    is.0 ∙ ap (call_of watched) one
asked_is (Forgets said next) watched call wait asked is asks =
    let none : asked_of call ≡ None = ap asked_of is.1 in cc
asked_is (Says said next) watched call wait asked is asks = absurd is
asked_is (Tries said done faulty) watched call wait asked is asks = absurd is
asked_is Never watched call wait asked is asks = absurd is

forgets_is : (t : Turn) (watched : List Bytes) (call : Call) (wait : Wait) → IsAsked t watched call wait → asked_of call ≡ None
    → call ≡ of_call.Forget watched
forgets_is (Calls other done faulty) watched call wait is none =
    let some : asked_of call ≡ Some other = ap asked_of is.0 ∙ asked_again watched other in cc
forgets_is (Forgets said next) watched call wait is none = is.1
forgets_is (Says said next) watched call wait is none = absurd is
forgets_is (Tries said done faulty) watched call wait is none = absurd is
forgets_is Never watched call wait is none = absurd is

-- the call that a client gives is the one of what is asked, of a session that watches what it watches
pub call_given : (old new : Progress) (call : Call) (asked : Asked) (watches : List Pair) → watched_of old.stage ≡ keys_of_pairs watches
    → Gives old (next.Calls call) new → asked_of call ≡ Some asked → call ≡ call_of (keys_of_pairs watches) asked
call_given old new call asked watches watched gives asks =
    asked_is (turn_at old.stage gives.0) (watched_of old.stage) call gives.2.0 asked gives.2.2 asks
    ∙ ap (λ (keys : List Bytes). call_of keys asked) watched

-- one that asks for nothing forgets all that it watches
pub forget_given : (old new : Progress) (call : Call) (watches : List Pair) → watched_of old.stage ≡ keys_of_pairs watches
    → Gives old (next.Calls call) new → asked_of call ≡ None → call ≡ of_call.Forget (keys_of_pairs watches)
forget_given old new call watches watched gives none =
    forgets_is (turn_at old.stage gives.0) (watched_of old.stage) call gives.2.0 gives.2.2 none
    ∙ ap (λ (keys : List Bytes). of_call.Forget keys) watched

-- what a client's call asks for has its place in the history
pub place_given : (old new : Progress) (call : Call) (asked : Asked) (pairs : List Pair) → Gives old (next.Calls call) new
    → asked_of call ≡ Some asked
    → HasPlace (operation_of pairs asked)
place_given old new call asked pairs gives asks =
    let has : HasItsPlace (Some asked) = rw asks at gives.2.3 in has pairs

-- bytes that come later stay unread
pub gives_fed : (old new : Progress) (call : Call) (bytes : Bytes) → Gives old (next.Calls call) new
    → Gives (record old { unread = old.unread ++ bytes }) (next.Calls call) (record new { unread = new.unread ++ bytes })
gives_fed old new call bytes gives = (
  gives.0,
  record {
    request = gives.1.request;
    taken = ap (λ (t : Bytes). t ++ bytes) gives.1.taken ∙ append_assoc (spelling gives.0) new.unread bytes;
  },
  gives.2,
)
