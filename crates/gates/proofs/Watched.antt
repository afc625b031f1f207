-- What watches and marks are after more entries.
use Rattle.std.proofs.Common.{◌≡◌, ◌≢◌, ℕ, ◌+◌, ◌<◌, ◌≤◌, Bool, true, false, ◌||◌, ◌&&◌, List, [], ◌∷◌, ◌++◌, Option, Some, None, cond, if◌then◌else◌, nat_eq, length, sym, refl, ap, subst, ◌∙◌, arith, eq-eqb, ne_eqb, lt-ltb, le-ltb, ⊎_elim}
use Rattle.std.specs.Bool.{Decides}
use Rattle.std.specs.Str.{bytes_eq}
use Rattle.std.proofs.lemmas.Bool.{cases_eq, false≢true}
use Rattle.std.proofs.lemmas.Slice.Eq.{bytes_eq-Decides}
use Rattle.words.specs.declared.history.Operation.{Operation}
use Rattle.words.specs.declared.history.Operation.TheVariants.{Run, Watch, Exec}
use Rattle.words.specs.declared.history.Entry.{Entry}
use Rattle.words.specs.Store.{Bytes, writes_key}
use Rattle.words.specs.History.{History, Pair, after, is_written, was_not_done, keys_named, keys_of_pairs, begins_watch, is_watch, is_among, AreWatches}
use Rattle.words.specs.Watches.{touched, begun, watched_at, with_key, with_keys, watched_after, GoesBy, mark_of, mark_at, mark_after}
use Rattle.words.specs.Commands.{keys_of_all}
use Rattle.words.specs.Locality.{IsNoneOf}
use Rattle.gates.specs.Laws.{Laws}
use Rattle.gates.specs.declared.view.Note.{Note}
use Rattle.gates.specs.declared.view.Knowledge.{Knowledge}
use Rattle.gates.specs.Rule.{writes}
use Rattle.gates.specs.Plays.{kept}
use Rattle.gates.specs.Passes.{AreWatched}

pub touched_false : (mark : Option Bool) → touched false mark ≡ mark
touched_false None = refl
touched_false (Some mark) = refl

or_assoc : (a b c : Bool) → ((a || b) || c) ≡ (a || (b || c))
or_assoc true b c = refl
or_assoc false b c = refl

pub touched_both : (a b : Bool) (mark : Option Bool) → touched (a || b) mark ≡ touched a (touched b mark)
touched_both a b None = refl
touched_both a b (Some mark) = ap Some (or_assoc a b mark)

-- nothing is written from the end on
pub written_none : (history : History) (start : ℕ) (key : Bytes) → length history ≤ start → is_written history start key ≡ false
written_none [] start key h = refl
written_none (entry ∷ before) start key h =
    let below : length before < start = omega arith in
    ap (λ b. cond b false (writes (after before) entry key) || is_written before start key) (lt-ltb (length before) start below)
    ∙ written_none before start key (omega arith)

-- what an entry adds
pub written_entry : (entry : Entry) (before : History) (start : ℕ) (key : Bytes) → start ≤ length before
    → is_written (entry ∷ before) start key ≡ (writes (after before) entry key || is_written before start key)
written_entry entry before start key h =
    ap (λ b. cond b false (writes (after before) entry key) || is_written before start key) (le-ltb (length before) start h)

pub touched_entry : (entry : Entry) (before : History) (start : ℕ) (key : Bytes) (mark : Option Bool) → start ≤ length before
    → touched (is_written (entry ∷ before) start key) mark
    ≡ touched (writes (after before) entry key) (touched (is_written before start key) mark)
touched_entry entry before start key mark h =
    ap (λ w. touched w mark) (written_entry entry before start key h)
    ∙ touched_both (writes (after before) entry key) (is_written before start key) mark

-- a watch stands below the history's end
pub watch_below : (history : History) (session : ℕ) (pair : Pair) → is_watch history session pair ≡ true → pair.1 < length history
watch_below [] session pair e = absurd cc
watch_below (entry ∷ before) session pair e = ⊎_elim
    (λ here. omega arith)
    (λ other.
    let below = watch_below before session pair
    (sym (ap (λ b. cond b (nat_eq entry.session session && begins_watch entry.operation pair.0) (is_watch before session pair)) (ne_eqb (length before) pair.1 other)) ∙ e) in
    omega arith)
    (cases_eq (length before) pair.1)

-- and stays one
pub watches_more : (laws : Laws) (more before : History) (session : ℕ) (pairs : List Pair) → AreWatches before session pairs → AreWatches (more ++ before) session pairs
watches_more laws more before session pairs are = laws.watches session pairs more before are

-- the marks after an entry
mark_pairs : (entry : Entry) (before : History) (session : ℕ) (pairs : List Pair) (key : Bytes) → AreWatches before session pairs
    → mark_of (entry ∷ before) key (watched_at pairs key) ≡ touched (writes (after before) entry key) (mark_of before key (watched_at pairs key))
mark_pairs entry before session [] key are = refl
mark_pairs entry before session (pair ∷ pairs) key are =
    elim (bytes_eq pair.0 key)
    as (λ test. mark_of (entry ∷ before) key (cond test (Some pair.1) (watched_at pairs key)) ≡ touched (writes (after before) entry key) (mark_of before key (cond test (Some pair.1) (watched_at pairs key)))) [
      | true ↦ let below = watch_below before session pair are.0 in ap Some (written_entry entry before (pair.1 + 1) key (omega arith))
      | false ↦ mark_pairs entry before session pairs key are.1
    ]

pub mark_entry : (entry : Entry) (before : History) (session : ℕ) (pairs : List Pair) (key : Bytes) → AreWatches before session pairs
    → mark_at (entry ∷ before) pairs key ≡ touched (writes (after before) entry key) (mark_at before pairs key)
mark_entry entry before session pairs key are = mark_pairs entry before session pairs key are

-- two keys that differ are not equal by the test, and a key is equal to itself
apart : (a b : Bytes) → a ≢ b → bytes_eq a b ≡ false
apart a b differ =
    elim (bytes_eq a b) as (λ test. Decides test (a ≡ b) → test ≡ false) [
      | true ↦ λ decides. absurd (differ (decides.0 refl))
      | false ↦ λ decides. refl
    ] (bytes_eq-Decides a b)

pub same_key : (key : Bytes) → bytes_eq key key ≡ true
same_key key = elim (bytes_eq key key) as (λ test. Decides test (key ≡ key) → test ≡ true) [
  | true ↦ λ decides. refl
  | false ↦ λ decides. decides.1 refl
] (bytes_eq-Decides key key)

-- an entry leaves which of the keys are watched that it does not name
with_key_else : (pairs : List Pair) (first key : Bytes) (position : ℕ) (old : Option ℕ) → first ≢ key → watched_at (with_key pairs first position old) key ≡ watched_at pairs key
with_key_else pairs first key position None ne = ap (λ b. cond b (Some position) (watched_at pairs key)) (apart first key ne)
with_key_else pairs first key position (Some old) ne = refl

with_keys_else : (keys : List Bytes) (pairs : List Pair) (key : Bytes) (position : ℕ) → IsNoneOf keys key → watched_at (with_keys pairs keys position) key ≡ watched_at pairs key
with_keys_else [] pairs key position none = refl
with_keys_else (first ∷ keys) pairs key position none =
    with_keys_else keys (with_key pairs first position (watched_at pairs first)) key position none.1
    ∙ with_key_else pairs first key position (watched_at pairs first) none.0

pub not_watched : (pairs : List Pair) (key : Bytes) → IsNoneOf (keys_of_pairs pairs) key → watched_at pairs key ≡ None
not_watched [] key none = refl
not_watched (pair ∷ pairs) key none =
    ap (λ b. cond b (Some pair.1) (watched_at pairs key)) (apart pair.0 key none.0) ∙ not_watched pairs key none.1

none_of_second : (keys more : List Bytes) (key : Bytes) → IsNoneOf (keys ++ more) key → IsNoneOf more key
none_of_second [] more key none = none
none_of_second (first ∷ keys) more key none = none_of_second keys more key none.1

pub watched_leaves : (operation : Operation) (pairs : List Pair) (key : Bytes) (position : ℕ) → GoesBy pairs operation → IsNoneOf (keys_named operation) key
    → watched_at (watched_after pairs operation position) key ≡ watched_at pairs key
watched_leaves (Run command) pairs key position goes none = refl
watched_leaves (Watch keys) pairs key position goes none = with_keys_else keys pairs key position none
watched_leaves (Exec commands own) pairs key position goes none =
    sym (not_watched pairs key (subst (λ (l : List Pair). IsNoneOf (keys_of_pairs l) key) goes (none_of_second (keys_of_all commands) (keys_of_pairs own) key none)))

-- what a session watches after its entry are watches of it
watches_with_key : (entry : Entry) (before : History) (pairs : List Pair) (key : Bytes) (old : Option ℕ)
    → is_watch (entry ∷ before) entry.session (key, length before) ≡ true
    → AreWatches (entry ∷ before) entry.session pairs → AreWatches (entry ∷ before) entry.session (with_key pairs key (length before) old)
watches_with_key entry before pairs key None is all = (is, all)
watches_with_key entry before pairs key (Some old) is all = all

-- each of the keys is among these
abbrev AllAmong : (keys all : List Bytes) → Type 0
AllAmong [] all = Unit {0}
AllAmong (key ∷ keys) all = (is_among all key ≡ true) × AllAmong keys all

or_true : (a : Bool) → (a || true) ≡ true
or_true true = refl
or_true false = refl

among_more : (keys all : List Bytes) (key : Bytes) → AllAmong keys all → AllAmong keys (key ∷ all)
among_more [] all key among = tt
among_more (first ∷ keys) all key among = (ap (λ b. bytes_eq key first || b) among.0 ∙ or_true (bytes_eq key first), among_more keys all key among.1)

among_all : (keys : List Bytes) → AllAmong keys keys
among_all [] = tt
among_all (key ∷ keys) = (ap (λ b. b || is_among keys key) (same_key key), among_more keys keys key (among_all keys))

begins : (entry : Entry) (before : History) (key : Bytes) → begins_watch entry.operation key ≡ true → is_watch (entry ∷ before) entry.session (key, length before) ≡ true
begins entry before key e =
    ap (λ b. cond b (nat_eq entry.session entry.session && begins_watch entry.operation key) (is_watch before entry.session (key, length before))) (eq-eqb (length before) (length before) refl)
    ∙ ap (λ b. b && begins_watch entry.operation key) (eq-eqb entry.session entry.session refl) ∙ e

watches_with : (entry : Entry) (before : History) (keys all : List Bytes) (pairs : List Pair) → entry.operation ≡ Watch all → AllAmong keys all
    → AreWatches (entry ∷ before) entry.session pairs → AreWatches (entry ∷ before) entry.session (with_keys pairs keys (length before))
watches_with entry before [] all pairs is among are = are
watches_with entry before (key ∷ keys) all pairs is among are =
    watches_with entry before keys all (with_key pairs key (length before) (watched_at pairs key)) is among.1
    (watches_with_key entry before pairs key (watched_at pairs key) (begins entry before key (ap (λ o. begins_watch o key) is ∙ among.0)) are)

watches_operation : (entry : Entry) (before : History) (operation : Operation) (pairs : List Pair) → entry.operation ≡ operation
    → AreWatches (entry ∷ before) entry.session pairs → AreWatches (entry ∷ before) entry.session (watched_after pairs operation (length before))
watches_operation entry before (Run command) pairs is are = are
watches_operation entry before (Watch keys) pairs is are = watches_with entry before keys keys pairs is (among_all keys) are
watches_operation entry before (Exec commands own) pairs is are = tt

pub watches_after : (laws : Laws) (entry : Entry) (before : History) (pairs : List Pair) → AreWatches before entry.session pairs
    → AreWatches (entry ∷ before) entry.session (watched_after pairs entry.operation (length before))
watches_after laws entry before pairs are =
    watches_operation entry before entry.operation pairs refl (watches_more laws (entry ∷ []) before entry.session pairs are)

-- a key that is watched from a position, in place of none
abbrev from_here : (among : Bool) → ℕ → Option ℕ → Option ℕ
from_here among position None = if among then Some position else None
from_here among position (Some old) = Some old

here_false : (position : ℕ) (old : Option ℕ) → from_here false position old ≡ old
here_false position None = refl
here_false position (Some old) = refl

here_here : (b : Bool) (position : ℕ) (old : Option ℕ) → from_here b position (from_here true position old) ≡ from_here true position old
here_here b position None = refl
here_here b position (Some old) = refl

with_key_here : (pairs : List Pair) (first : Bytes) (position : ℕ) (old : Option ℕ) → watched_at pairs first ≡ old
    → watched_at (with_key pairs first position old) first ≡ from_here true position old
with_key_here pairs first position None is = ap (λ b. cond b (Some position) (watched_at pairs first)) (same_key first)
with_key_here pairs first position (Some old) is = is

with_keys_at : (keys : List Bytes) (pairs : List Pair) (key : Bytes) (position : ℕ)
    → watched_at (with_keys pairs keys position) key ≡ from_here (is_among keys key) position (watched_at pairs key)
with_keys_at [] pairs key position = sym (here_false position (watched_at pairs key))
with_keys_at (first ∷ keys) pairs key position =
    with_keys_at keys (with_key pairs first position (watched_at pairs first)) key position
    ∙ elim (bytes_eq first key)
    as (λ test. Decides test (first ≡ key)
    → from_here (is_among keys key) position (watched_at (with_key pairs first position (watched_at pairs first)) key)
    ≡ from_here (test || is_among keys key) position (watched_at pairs key)) [
      | true ↦ λ decides.
          let same : first ≡ key = decides.0 refl in
          ap (from_here (is_among keys key) position)
          (subst (λ (k : Bytes). watched_at (with_key pairs first position (watched_at pairs first)) k ≡ from_here true position (watched_at pairs k)) same
          (with_key_here pairs first position (watched_at pairs first) refl))
          ∙ here_here (is_among keys key) position (watched_at pairs key)
      | false ↦ λ decides. ap (from_here (is_among keys key) position) (with_key_else pairs first key position (watched_at pairs first) (λ same. false≢true (decides.1 same)))
    ] (bytes_eq-Decides first key)

watched_mark : (history : History) (among : Bool) (key : Bytes) (position : ℕ) (old : Option ℕ) → is_written history (position + 1) key ≡ false
    → mark_of history key (from_here among position old) ≡ (if among then begun (mark_of history key old) else mark_of history key old)
watched_mark history true key position None none = ap Some none
watched_mark history true key position (Some old) none = refl
watched_mark history false key position None none = refl
watched_mark history false key position (Some old) none = refl

nothing_written : (done : Bool) (key : Bytes) → writes_key (cond done [] []) key ≡ false
nothing_written true key = refl
nothing_written false key = refl

-- the session's own marks after its entry
mark_operation : (entry : Entry) (before : History) (operation : Operation) (session : ℕ) (pairs : List Pair) (key : Bytes) → entry.operation ≡ operation
    → AreWatches before session pairs
    → mark_at (entry ∷ before) (watched_after pairs operation (length before)) key
    ≡ mark_after operation (writes (after before) entry key) key (mark_at before pairs key)
mark_operation entry before (Run command) session pairs key is are = mark_entry entry before session pairs key are
mark_operation entry before (Watch keys) session pairs key is are =
    let none : writes (after before) entry key ≡ false =
    ap (λ o. writes (after before) record { session = entry.session; operation = o; reply = entry.reply } key) is ∙ nothing_written (was_not_done entry.reply) key in
    let same : mark_at (entry ∷ before) pairs key ≡ mark_at before pairs key =
    mark_entry entry before session pairs key are ∙ ap (λ w. touched w (mark_at before pairs key)) none ∙ touched_false (mark_at before pairs key) in
    ap (mark_of (entry ∷ before) key) (with_keys_at keys pairs key (length before))
    ∙ watched_mark (entry ∷ before) (is_among keys key) key (length before) (watched_at pairs key) (written_none (entry ∷ before) (length before + 1) key (omega arith))
    ∙ ap (λ m. cond (is_among keys key) (begun m) m) same
mark_operation entry before (Exec commands own) session pairs key is are = refl

pub mark_commits : (entry : Entry) (before : History) (session : ℕ) (pairs : List Pair) (key : Bytes) → AreWatches before session pairs
    → mark_at (entry ∷ before) (watched_after pairs entry.operation (length before)) key
    ≡ mark_after entry.operation (writes (after before) entry key) key (mark_at before pairs key)
mark_commits entry before session pairs key are = mark_operation entry before entry.operation session pairs key refl are

-- no key is watched twice
not_both : (found : Option ℕ) (position : ℕ) → found ≡ None → found ≡ Some position → ⊥
not_both found position none some = cc

watched_more : (all pairs : List Pair) (key : Bytes) (position : ℕ) → watched_at all key ≡ None → AreWatched all pairs → AreWatched ((key, position) ∷ all) pairs
watched_more all [] key position none are = tt
watched_more all (pair ∷ pairs) key position none are = (
  elim (bytes_eq key pair.0) as (λ test. Decides test (key ≡ pair.0) → cond test (Some position) (watched_at all pair.0) ≡ Some pair.1) [
    | true ↦ λ decides. absurd (not_both (watched_at all pair.0) pair.1 (subst (λ (k : Bytes). watched_at all k ≡ None) (decides.0 refl) none) are.0)
    | false ↦ λ decides. are.0
  ] (bytes_eq-Decides key pair.0),
  watched_more all pairs key position none are.1,
)

with_key_once : (pairs : List Pair) (key : Bytes) (position : ℕ) (old : Option ℕ) → watched_at pairs key ≡ old → AreWatched pairs pairs
    → AreWatched (with_key pairs key position old) (with_key pairs key position old)
with_key_once pairs key position None is are =
    (ap (λ b. cond b (Some position) (watched_at pairs key)) (same_key key), watched_more pairs pairs key position is are)
with_key_once pairs key position (Some old) is are = are

with_keys_once : (keys : List Bytes) (pairs : List Pair) (position : ℕ) → AreWatched pairs pairs → AreWatched (with_keys pairs keys position) (with_keys pairs keys position)
with_keys_once [] pairs position are = are
with_keys_once (key ∷ keys) pairs position are =
    with_keys_once keys (with_key pairs key position (watched_at pairs key)) position (with_key_once pairs key position (watched_at pairs key) refl are)

pub watched_once : (operation : Operation) (pairs : List Pair) (position : ℕ) → AreWatched pairs pairs
    → AreWatched (watched_after pairs operation position) (watched_after pairs operation position)
watched_once (Run command) pairs position are = are
watched_once (Watch keys) pairs position are = with_keys_once keys pairs position are
watched_once (Exec commands own) pairs position are = tt

pub kept_once : (ends : Bool) (told : List Note) (knows : Knowledge) → AreWatched knows.watched knows.watched → AreWatched (kept ends told knows).watched (kept ends told knows).watched
kept_once true told knows are = tt
kept_once false told knows are = are
