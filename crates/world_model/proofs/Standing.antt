-- What is due now, in a sound world: what the stripes hold and their marks say.
use Rattle.std.proofs.Common.{◌≡◌, ℕ, ◌<◌, Bool, false, ◌||◌, List, [], ◌∷◌, length, Option, Some, refl, sym, ap, ap₂, ◌∙◌, unwrap_or, nat_lt, if◌then◌else◌, eq-eqb}
use mathlib.Core.Path.{fun_ext}
use Rattle.words.specs.declared.limits.TheConstants.{WEIGHT_MAX}
use Rattle.words.specs.declared.reply.Reply.{Reply}
use Rattle.words.specs.declared.reply.Reply.TheVariants.{NullArray}
use Rattle.words.specs.declared.history.Operation.{Operation}
use Rattle.words.specs.Store.{Bytes, Store, Write, weight}
use Rattle.words.specs.History.{History, Pair, after, due, outcome, was_not_done, too_much, pairs_of, keys_of_pairs, is_dirty}
use Rattle.words.specs.Watches.{Marks, mark_of, mark_at}
use Rattle.words.specs.Stripes.{stripe_of}
use Rattle.words.specs.Session.{Asked, Run, Watch, Exec, operation_of}
use Rattle.gates.specs.Rule.{Meaning}
use Rattle.gates.specs.Passes.{AreWatched}
use Rattle.transact.specs.Plans.{made}
use Rattle.transact.specs.Tables.{any_marked, Stand}
use Rattle.world_model.specs.States.{State, client, stripe_count, whole}
use Rattle.world_model.specs.Planning.{reply_now, writes_now}
use Rattle.world_model.specs.Soundness.{IsSound}

-- the stripes together read as the store that the history leaves
pub whole_is : (state : State) → IsSound state → whole state ≡ after state.history
whole_is state sound = fun_ext (λ key.
    let stripe : ℕ = stripe_of (stripe_count state) key in
    rw (eq-eqb stripe stripe refl) at (sound.parts stripe key))

-- of keys that a session watches, the marks say which were written since
pub marked_dirty : (marks : Marks) (c : ℕ) (history : History) (all pairs : List Pair)
    → ((key : Bytes) → marks key c ≡ mark_at history all key)
    → AreWatched all pairs → any_marked marks c (keys_of_pairs pairs) ≡ is_dirty history pairs
marked_dirty marks c history all [] say are = refl
marked_dirty marks c history all (pair ∷ pairs) say are =
    ap₂ (λ (one others : Bool). one || others)
    (ap (λ (mark : Option Bool). unwrap_or mark false) (say pair.0 ∙ ap (mark_of history pair.0) are.0))
    (marked_dirty marks c history all pairs say are.1)

-- the same of what an operation goes by
pub asked_dirty : (marks : Marks) (c : ℕ) (history : History) (watches : List Pair) (asked : Asked)
    → ((key : Bytes) → marks key c ≡ mark_at history watches key)
    → AreWatched watches watches
    → any_marked marks c (keys_of_pairs (pairs_of (operation_of watches asked))) ≡ is_dirty history (pairs_of (operation_of watches asked))
asked_dirty marks c history watches (Run command) say are = refl
asked_dirty marks c history watches (Watch keys) say are = refl
asked_dirty marks c history watches (Exec commands) say are = marked_dirty marks c history watches watches say are

-- what an operation is answered on a store, where it is dirty or not
abbrev answered : Store → Bool → Operation → Reply
answered store dirty operation =
    let all = outcome store operation in
    if dirty then NullArray else (if nat_lt WEIGHT_MAX (weight all.1) then too_much else all.0)

-- what it writes there, where it is answered so
abbrev pub writes_answered : Reply → Store → Operation → List Write
writes_answered reply store operation = if was_not_done reply then [] else (outcome store operation).1

-- what is answered and written now is what is due
pub due_now : (state : State) (c : ℕ) (asked : Asked) → c < length state.clients → IsSound state
    → let operation = operation_of (client state c).watches asked in
    (due state.history operation ≡ reply_now state c operation) × (made state.history operation ≡ writes_now state c operation)
due_now state c asked below sound =
    let operation : Operation = operation_of (client state c).watches asked in
    let all : whole state ≡ after state.history = whole_is state sound in
    let one = sound.clients c below in
    let dirty = asked_dirty state.marks c state.history (client state c).watches asked one.marks one.once in
    let replies : due state.history operation ≡ reply_now state c operation =
    ap₂ (λ (store : Store) (test : Bool). answered store test operation) (sym all) (sym dirty) in
    (replies, ap₂ (λ (reply : Reply) (store : Store). writes_answered reply store operation) replies (sym all))

-- Parts that are those of their stripes stand in a sound world.
pub stand_held : {T : Type 0} (contents : Meaning T) (parts : ℕ → Option T) (state : State) (c : ℕ)
    → ((i : ℕ) (part : T) → parts i ≡ Some part
    → ((key : Bytes) → contents.store part key ≡ state.stores i key)
    × ((key : Bytes) (session : ℕ) → stripe_of (stripe_count state) key ≡ i → contents.marks part key session ≡ state.marks key session))
    → c < length state.clients → IsSound state
    → Stand contents (stripe_count state) parts state.history c (client state c).watches
stand_held contents parts state c held below sound = record {
  read = λ i part there key. (held i part there).0 key ∙ sound.parts i key;
  marked = λ i part there key is. (held i part there).1 key c is ∙ (sound.clients c below).marks key;
}
