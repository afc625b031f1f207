-- What a call does to marks, and what an entry does to those that are due.
use Rattle.std.proofs.Common.{◌≡◌, ◌≢◌, ℕ, Bool, true, false, ◌||◌, List, [], ◌∷◌, Option, Some, None, refl, sym, ap, ◌∙◌, if◌then◌else◌, eq-eqb, nat_eq, bytes_eq}
use Rattle.words.specs.Store.{Bytes, Write, writes_key}
use Rattle.words.specs.History.{History, Pair, keys_of_pairs, is_among, was_not_done, HasPlace}
use Rattle.words.specs.declared.history.Operation.TheVariants as operation
use Rattle.words.specs.Watches.{watched_at, mark_of, mark_at, mark_after, touched, begun}
use Rattle.words.specs.Session.{Asked, Run, Watch, Exec, Turn, Says, Forgets, Tries, Calls, Never, operation_of, watched_at_fault}
use Rattle.transact.specs.declared.call.Call.{Call}
use Rattle.transact.specs.declared.call.Call.TheVariants as of_call
use Rattle.transact.specs.Calls.{asked_of, call_of}
use Rattle.transact.specs.Plans.{keys_begun, keys_ended}
use Rattle.transact.specs.Tables.{clears}
use Rattle.session.specs.Standings.{Wait}
use Rattle.session.specs.Steps.{IsAsked, HasItsPlace}
use Rattle.connection.specs.declared.client.Next.TheVariants as next
use Rattle.connection.specs.Clients.{Progress, Gives, watched_of, turn_at}
use Rattle.world_model.specs.States.{State}
use Rattle.world_model.specs.Planning.{reply_now, writes_now}
use Rattle.world_model.specs.Commits.{marks_changed}
use Rattle.world_model.proofs.Holding.{apart_eqb}

-- WHICH CALL IT IS

asked_again : (watched : List Bytes) (asked : Asked) → asked_of (call_of watched asked) ≡ Some asked
asked_again watched (Run command) = refl
asked_again watched (Watch keys) = refl
asked_again watched (Exec commands) = refl

asked_is : (t : Turn) (watched : List Bytes) (call : Call) (wait : Wait) (asked : Asked) → IsAsked t watched call wait
    → asked_of call ≡ Some asked
    → call ≡ call_of watched asked
asked_is (Calls other done faulty) watched call wait asked is asks =
    let same : Some other ≡ Some asked = sym (asked_again watched other) ∙ sym (ap asked_of is.0) ∙ asks in
    let one : other ≡ asked = cc in
    is.0 ∙ ap (call_of watched) one
asked_is (Forgets said next) watched call wait asked is asks =
    let none : asked_of call ≡ None = ap asked_of is.1 in cc
asked_is (Says said next) watched call wait asked is asks = absurd is
asked_is (Tries said done faulty) watched call wait asked is asks = absurd is
asked_is Never watched call wait asked is asks = absurd is

forgets_is : (t : Turn) (watched : List Bytes) (call : Call) (wait : Wait) → IsAsked t watched call wait → asked_of call ≡ None
    → call ≡ of_call.Forget watched
forgets_is (Calls other done faulty) watched call wait is none =
    let some : asked_of call ≡ Some other = ap asked_of is.0 ∙ asked_again watched other in cc
forgets_is (Forgets said next) watched call wait is none = is.1
forgets_is (Says said next) watched call wait is none = absurd is
forgets_is (Tries said done faulty) watched call wait is none = absurd is
forgets_is Never watched call wait is none = absurd is

-- the call that a client gives is the one of what is asked, of a session that watches what it watches
pub call_given : (old new : Progress) (call : Call) (asked : Asked) (watches : List Pair) → watched_of old.stage ≡ keys_of_pairs watches
    → Gives old (next.Calls call) new → asked_of call ≡ Some asked → call ≡ call_of (keys_of_pairs watches) asked
call_given old new call asked watches watched gives asks =
    asked_is (turn_at old.stage gives.0) (watched_of old.stage) call gives.2.0 asked gives.2.2 asks
    ∙ ap (λ (keys : List Bytes). call_of keys asked) watched

-- one that asks for nothing forgets all that it watches
pub forget_given : (old new : Progress) (call : Call) (watches : List Pair) → watched_of old.stage ≡ keys_of_pairs watches
    → Gives old (next.Calls call) new → asked_of call ≡ None → call ≡ of_call.Forget (keys_of_pairs watches)
forget_given old new call watches watched gives none =
    forgets_is (turn_at old.stage gives.0) (watched_of old.stage) call gives.2.0 gives.2.2 none
    ∙ ap (λ (keys : List Bytes). of_call.Forget keys) watched

-- what a client's call asks for has its place in the history
pub place_given : (old new : Progress) (call : Call) (asked : Asked) (pairs : List Pair) → Gives old (next.Calls call) new
    → asked_of call ≡ Some asked
    → HasPlace (operation_of pairs asked)
place_given old new call asked pairs gives asks =
    let has : HasItsPlace (Some asked) = rw asks at gives.2.3 in has pairs

-- WHAT BECOMES OF MARKS

pub touched_not : (mark : Option Bool) → touched false mark ≡ mark
touched_not None = refl
touched_not (Some mark) = refl

unwatched : (pairs : List Pair) (key : Bytes) → is_among (keys_of_pairs pairs) key ≡ false → watched_at pairs key ≡ None
unwatched [] key is = refl
unwatched (pair ∷ pairs) key is =
    elim (bytes_eq pair.0 key) as (λ t. (t || is_among (keys_of_pairs pairs) key) ≡ false
    → (if t then Some pair.1 else watched_at pairs key) ≡ None) [
      | true ↦ λ among. cc
      | false ↦ λ among. unwatched pairs key among
    ] is

-- where all that is watched is cleared, no mark is left
none_left : (history : History) (pairs : List Pair) (key : Bytes) (wrote : Bool)
    → (if is_among (keys_of_pairs pairs) key then None else touched wrote (mark_at history pairs key)) ≡ None
none_left history pairs key wrote =
    elim (is_among (keys_of_pairs pairs) key)
    as (λ t. is_among (keys_of_pairs pairs) key ≡ t → (if t then None else touched wrote (mark_at history pairs key)) ≡ None) [
      | true ↦ λ is. refl
      | false ↦ λ is. ap (λ (at : Option ℕ). touched wrote (mark_of history key at)) (unwatched pairs key is)
    ] refl

changed_own : (c : ℕ) (call : Call) (writes : List Write) (key : Bytes) (mark : Option Bool)
    → marks_changed c call writes key c mark
    ≡ (if is_among (keys_ended call) key then None else touched (writes_key writes key)
    (if is_among (keys_begun call) key then begun mark else mark))
changed_own c call writes key mark = rw (eq-eqb c c refl) refl

-- the marks of other sessions are touched
pub changed_other : (c d : ℕ) (call : Call) (writes : List Write) (key : Bytes) (mark : Option Bool) → d ≢ c
    → marks_changed c call writes key d mark ≡ touched (writes_key writes key) mark
changed_other c d call writes key mark differ = rw (apart_eqb c d (λ e. differ (sym e))) refl

-- a watch writes nothing
abbrev IsSilent : Asked → List Write → Type 0
IsSilent (Run command) writes = Unit {0}
IsSilent (Watch keys) writes = writes ≡ []
IsSilent (Exec commands) writes = Unit {0}

nothing : (t : Bool) → (let none : List Write = [] in if t then none else none) ≡ []
nothing true = refl
nothing false = refl

silent : (state : State) (c : ℕ) (watches : List Pair) (asked : Asked) → IsSilent asked (writes_now state c (operation_of watches asked))
silent state c watches (Run command) = tt
silent state c watches (Watch keys) = nothing (was_not_done (reply_now state c (operation.Watch keys)))
silent state c watches (Exec commands) = tt

marked_by : (c : ℕ) (history : History) (watches : List Pair) (asked : Asked) (call : Call) (writes : List Write) (key : Bytes)
    → call ≡ call_of (keys_of_pairs watches) asked → IsSilent asked writes
    → marks_changed c call writes key c (mark_at history watches key)
    ≡ mark_after (operation_of watches asked) (writes_key writes key) key (mark_at history watches key)
marked_by c history watches (Run command) call writes key is none = rw is
    (changed_own c (of_call.One command) writes key (mark_at history watches key))
marked_by c history watches (Watch keys) call writes key is none =
    rw is (changed_own c (of_call.Watch keys) writes key (mark_at history watches key)
    ∙ ap (λ (made : List Write). touched (writes_key made key)
    (if is_among keys key then begun (mark_at history watches key) else mark_at history watches key)) none
    ∙ touched_not _)
marked_by c history watches (Exec commands) call writes key is none =
    rw is (changed_own c (of_call.Exec commands (keys_of_pairs watches)) writes key (mark_at history watches key)
    ∙ none_left history watches key (writes_key writes key))

-- the marks of the session whose call it is are as its entry leaves them
pub marked_own : (state : State) (c : ℕ) (history : History) (watches : List Pair) (asked : Asked) (call : Call) (key : Bytes)
    → call ≡ call_of (keys_of_pairs watches) asked
    → marks_changed c call (writes_now state c (operation_of watches asked)) key c (mark_at history watches key)
    ≡ mark_after (operation_of watches asked) (writes_key (writes_now state c (operation_of watches asked)) key) key
    (mark_at history watches key)
marked_own state c history watches asked call key is =
    marked_by c history watches asked call (writes_now state c (operation_of watches asked)) key is (silent state c watches asked)

-- after a call that forgets what is watched, its session has no mark
pub forgotten_own : (c : ℕ) (history : History) (watches : List Pair) (call : Call) (key : Bytes)
    → call ≡ of_call.Forget (keys_of_pairs watches)
    → marks_changed c call [] key c (mark_at history watches key) ≡ None
forgotten_own c history watches call key is =
    rw is (changed_own c (of_call.Forget (keys_of_pairs watches)) [] key (mark_at history watches key)
    ∙ none_left history watches key false)

pub cleared_own : (c : ℕ) (history : History) (watches : List Pair) (keys : List Bytes) (key : Bytes) → keys ≡ keys_of_pairs watches
    → clears c keys key c (mark_at history watches key) ≡ None
cleared_own c history watches keys key is =
    rw (is, eq-eqb c c refl)
    (ap (λ (mark : Option Bool). if is_among (keys_of_pairs watches) key then None else mark)
    (sym (touched_not (mark_at history watches key)))
    ∙ none_left history watches key false)

pub cleared_other : (c d : ℕ) (keys : List Bytes) (key : Bytes) (mark : Option Bool) → d ≢ c → clears c keys key d mark ≡ mark
cleared_other c d keys key mark differ = rw (apart_eqb c d (λ e. differ (sym e))) refl

-- where nothing is cleared, marks stay
cleared_none : (c : ℕ) (key : Bytes) (session : ℕ) (mark : Option Bool) → clears c [] key session mark ≡ mark
cleared_none c key session mark = same (nat_eq c session)
  where
    same : (t : Bool) → (if t then mark else mark) ≡ mark
    same true = refl
    same false = refl

-- after a call that was refused, the marks of its session say what was written of what it watches then
pub refused_own : (c : ℕ) (history : History) (watches : List Pair) (asked : Asked) (call : Call) (key : Bytes)
    → call ≡ call_of (keys_of_pairs watches) asked
    → clears c (keys_ended call) key c (mark_at history watches key) ≡ mark_at history (watched_at_fault watches asked) key
refused_own c history watches (Run command) call key is = rw is (cleared_none c key c (mark_at history watches key))
refused_own c history watches (Watch keys) call key is = rw is (cleared_none c key c (mark_at history watches key))
refused_own c history watches (Exec commands) call key is = rw is (cleared_own c history watches (keys_of_pairs watches) key refl)
