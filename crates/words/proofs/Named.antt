-- What operations leave as it is, and what their answers depend on: the keys that they name.
use Rattle.std.proofs.Common.{sym, ◌∙◌, ap, subst, arith, ◌<◌, IsTrue, ◌&&◌}
use Rattle.std.specs.Prelude.{ℕ, ℤ, ◌≡◌, ◌≢◌, ◌+◌, Bool, true, false, ◌||◌, cond, List, [], ◌∷◌, ◌++◌, length, ◌+ℤ◌, ◌-ℤ◌, Option, Some, None, refl, nat_eq, nat_lt, if◌then◌else◌}
use Rattle.std.specs.Bool.{Decides}
use Rattle.std.specs.Str.{bytes_eq}
use Rattle.std.specs.Map.{update}
use Rattle.std.proofs.lemmas.Bool.Decides.{Decides-eqb}
use Rattle.std.proofs.lemmas.Slice.Eq.{bytes_eq-Decides}
use Rattle.words.specs.declared.limits.TheConstants.{WEIGHT_MAX, VALUE_BYTES_MAX}
use Rattle.words.specs.declared.command.Command.{Command}
use Rattle.words.specs.declared.command.Command.TheVariants.{Ping, Echo, Get, Set, SetGet, SetNx, GetSet, GetDel, StrLen, Exists, Del, Append, SetRange, GetRange, Add, Subtract, MGet, MSet, MSetNx, Rename, Session, Bad}
use Rattle.words.specs.declared.reply.CommandReply.TheVariants.{One, Array}
use Rattle.words.specs.declared.reply.Item.TheVariants as item
use Rattle.words.specs.declared.reply.Line.TheVariants.{Done}
use Rattle.words.specs.declared.reply.Refusal.TheVariants.{StringTooLong, Overflow, NoSuchKey}
use Rattle.std.specs.Fmt.{signed_decimal}
use Rattle.words.specs.declared.reply.Reply.TheVariants as reply
use Rattle.words.specs.declared.history.Operation.{Operation}
use Rattle.words.specs.declared.history.Operation.TheVariants.{Run, Watch, Exec}
use Rattle.words.specs.declared.history.Entry.{Entry}
use Rattle.words.specs.Store.{Bytes, Store, Write, written, writes_key, weight}
use Rattle.words.specs.Commands.{keys_of, keys_of_all, keys_set}
use Rattle.words.specs.Numbers.{in_range}
use Rattle.words.specs.Answers.{Answer, answer, answers, line, bulk, refused, number, is_some, any_there, count_there, deletions, items_of, item_of, writes_set, grown, set_range_answer, overlaid, changed, number_at, value_of, allows, renamed}
use Rattle.words.specs.History.{History, Pair, outcome, was_not_done, writes_of, after, due, too_much, keys_named, keys_of_pairs, pairs_of, is_written, is_dirty, is_watch, begins_watch, AreWatches, Extends}
use Rattle.words.specs.Stripes.{stripe_of, IsPart, AreElsewhere, LeavesStripe}
use Rattle.words.specs.Locality.{AreSameAt, IsNoneOf, NoEntryNames, NamesNone}

-- two keys that differ are not equal by the test
pub apart : (a b : Bytes) → a ≢ b → bytes_eq a b ≡ false
apart a b differ =
    elim (bytes_eq a b) as (λ test. Decides test (a ≡ b) → test ≡ false) [
      | true ↦ λ decides. absurd (differ (decides.0 refl))
      | false ↦ λ decides. refl
    ] (bytes_eq-Decides a b)

pub written-append : (writes more : List Write) (store : Store) → written store (writes ++ more) ≡ written (written store writes) more
written-append [] more store = refl
written-append (write ∷ writes) more store = written-append writes more (update bytes_eq store write.0 write.1)

-- writes leave two stores the same at a key at which they were
pub written_same : (writes : List Write) (one other : Store) (key : Bytes)
    → one key ≡ other key → written one writes key ≡ written other writes key
written_same [] one other key same = same
written_same (write ∷ writes) one other key same =
    written_same writes (update bytes_eq one write.0 write.1) (update bytes_eq other write.0 write.1) key
    (ap (λ value. cond (bytes_eq write.0 key) write.1 value) same)

pub AreSameAt-written : (keys : List Bytes) (writes : List Write) (one other : Store)
    → AreSameAt keys one other → AreSameAt keys (written one writes) (written other writes)
AreSameAt-written [] writes one other same = tt
AreSameAt-written (key ∷ keys) writes one other same =
    (written_same writes one other key same.0, AreSameAt-written keys writes one other same.1)

pub AreSameAt-append : (keys more : List Bytes) (one other : Store)
    → AreSameAt (keys ++ more) one other → AreSameAt keys one other × AreSameAt more one other
AreSameAt-append [] more one other same = (tt, same)
AreSameAt-append (key ∷ keys) more one other same =
    let rest = AreSameAt-append keys more one other same.1 in ((same.0, rest.0), rest.1)

pub IsNoneOf-append : (keys more : List Bytes) (key : Bytes) → IsNoneOf (keys ++ more) key → IsNoneOf keys key × IsNoneOf more key
IsNoneOf-append [] more key none = (tt, none)
IsNoneOf-append (first ∷ keys) more key none =
    let rest = IsNoneOf-append keys more key none.1 in ((none.0, rest.0), rest.1)

-- A command's answer depends on the values of its own keys alone.

count_same : (keys : List Bytes) (one other : Store) → AreSameAt keys one other → count_there one keys ≡ count_there other keys
count_same [] one other same = refl
count_same (key ∷ keys) one other same =
    ap (λ value. (if is_some value then 1 else 0) + count_there one keys) same.0
    ∙ ap (λ n. (if is_some (other key) then 1 else 0) + n) (count_same keys one other same.1)

items_same : (keys : List Bytes) (one other : Store) → AreSameAt keys one other → items_of one keys ≡ items_of other keys
items_same [] one other same = refl
items_same (key ∷ keys) one other same =
    ap (λ value. item_of value ∷ items_of one keys) same.0 ∙ ap (λ items. item_of (other key) ∷ items) (items_same keys one other same.1)

deletions_same : (keys : List Bytes) (one other : Store) → AreSameAt keys one other → deletions one keys ≡ deletions other keys
deletions_same [] one other same = refl
deletions_same (key ∷ keys) one other same =
    ap (λ value. if is_some value then (key, None) ∷ deletions (update bytes_eq one key None) keys else deletions one keys) same.0
    ∙ ap (λ writes. if is_some (other key) then (key, None) ∷ writes else deletions one keys)
    (deletions_same keys (update bytes_eq one key None) (update bytes_eq other key None)
    (AreSameAt-written keys ((key, None) ∷ []) one other same.1))
    ∙ ap (λ writes. if is_some (other key) then (key, None) ∷ deletions (update bytes_eq other key None) keys else writes)
    (deletions_same keys one other same.1)

any_same : (settings : List (Bytes × Bytes)) (one other : Store) → AreSameAt (keys_set settings) one other → any_there one settings ≡ any_there other settings
any_same [] one other same = refl
any_same (setting ∷ settings) one other same =
    ap (λ value. is_some value || any_there one settings) same.0
    ∙ ap (λ there. is_some (other setting.0) || there) (any_same settings one other same.1)

answer_same : (command : Command) (one other : Store) → AreSameAt (keys_of command) one other → answer one command ≡ answer other command
answer_same (Ping None) one other same = refl
answer_same (Ping (Some text)) one other same = refl
answer_same (Echo text) one other same = refl
answer_same (Get key) one other same = ap (λ value. answer (λ k. value) (Get key)) same.0
answer_same (Set key value when) one other same = ap (λ found. answer (λ k. found) (Set key value when)) same.0
answer_same (SetGet key value when) one other same = ap (λ found. answer (λ k. found) (SetGet key value when)) same.0
answer_same (SetNx key value) one other same = ap (λ found. answer (λ k. found) (SetNx key value)) same.0
answer_same (GetSet key value) one other same = ap (λ found. answer (λ k. found) (GetSet key value)) same.0
answer_same (GetDel key) one other same = ap (λ found. answer (λ k. found) (GetDel key)) same.0
answer_same (StrLen key) one other same = ap (λ found. answer (λ k. found) (StrLen key)) same.0
answer_same (Exists keys) one other same = ap (λ n. (number n, [])) (count_same keys one other same)
answer_same (Del keys) one other same = ap (λ writes. (number (length writes), writes)) (deletions_same keys one other same)
answer_same (Append key value) one other same = ap (λ found. answer (λ k. found) (Append key value)) same.0
answer_same (SetRange key offset value) one other same = ap (λ found. answer (λ k. found) (SetRange key offset value)) same.0
answer_same (GetRange key start end) one other same = ap (λ found. answer (λ k. found) (GetRange key start end)) same.0
answer_same (Add key n) one other same = ap (λ found. answer (λ k. found) (Add key n)) same.0
answer_same (Subtract key n) one other same = ap (λ found. answer (λ k. found) (Subtract key n)) same.0
answer_same (MGet keys) one other same = ap (λ items. (Array items, [])) (items_same keys one other same)
answer_same (MSet settings) one other same = refl
answer_same (MSetNx settings) one other same =
    ap (λ there. if there then (number 0, []) else (number 1, writes_set settings)) (any_same settings one other same)
answer_same (Rename key name) one other same = ap (λ found. renamed key name found) same.0
answer_same (Session command) one other same = refl
answer_same (Bad refusal) one other same = refl

answers_same : (commands : List Command) (one other : Store)
    → AreSameAt (keys_of_all commands) one other → answers one commands ≡ answers other commands
answers_same [] one other same = refl
answers_same (command ∷ commands) one other same =
    let parts = AreSameAt-append (keys_of command) (keys_of_all commands) one other same in
    let writes : List Write = (answer one command).1 in
    let rest =
    answers_same commands (written one writes) (written other writes)
    (AreSameAt-written (keys_of_all commands) writes one other parts.1) in
    subst
    (λ first. answers one (command ∷ commands)
    ≡ (first.0 ∷ (answers (written other first.1) commands).0, first.1 ++ (answers (written other first.1) commands).1))
    (answer_same command one other parts.0)
    (ap (λ others. ((answer one command).0 ∷ others.0, writes ++ others.1)) rest)

pub outcome_same : (operation : Operation) (one other : Store)
    → AreSameAt (keys_named operation) one other → outcome one operation ≡ outcome other operation
outcome_same (Run command) one other same = ap (λ a. (reply.Single a.0, a.1)) (answer_same command one other same)
outcome_same (Watch keys) one other same = refl
outcome_same (Exec commands pairs) one other same =
    ap (λ a. (reply.Array a.0, a.1)) (answers_same commands one other (AreSameAt-append (keys_of_all commands) (keys_of_pairs pairs) one other same).0)

-- A command writes its own keys alone: no list of writes of it has another.

none_append : (writes more : List Write) (key : Bytes) → writes_key writes key ≡ false → writes_key more key ≡ false → writes_key (writes ++ more) key ≡ false
none_append [] more key one two = two
none_append (write ∷ writes) more key one two =
    elim (bytes_eq write.0 key) as (λ test. (test || writes_key writes key) ≡ false → (test || writes_key (writes ++ more) key) ≡ false) [
      | true ↦ λ e. e
      | false ↦ λ e. none_append writes more key e two
    ] one

-- the second of two tests of which neither holds
rest_none : (one two : Bool) → (one || two) ≡ false → two ≡ false
rest_none true two e = absurd (cc e)
rest_none false two e = e

-- writes that have none to a key leave it
pub unwritten : (writes : List Write) (store : Store) (key : Bytes) → writes_key writes key ≡ false → written store writes key ≡ store key
unwritten [] store key none = refl
unwritten (write ∷ writes) store key none =
    unwritten writes (update bytes_eq store write.0 write.1) key (rest_none (bytes_eq write.0 key) (writes_key writes key) none)
    ∙ elim (bytes_eq write.0 key)
    as (λ test. (test || writes_key writes key) ≡ false → cond test write.1 (store key) ≡ store key) [
      | true ↦ λ e. absurd (cc e)
      | false ↦ λ e. refl
    ] none

write_none : (own key : Bytes) (value : Option Bytes) → IsNoneOf (own ∷ []) key → writes_key ((own, value) ∷ []) key ≡ false
write_none own key value none = ap (λ test. test || false) (apart own key none.0)

either_none : (test : Bool) (one two : Answer) (key : Bytes) → writes_key one.1 key ≡ false → writes_key two.1 key ≡ false
    → writes_key (if test then one else two).1 key ≡ false
either_none true one two key is_one is_two = is_one
either_none false one two key is_one is_two = is_two

set_writes : (settings : List (Bytes × Bytes)) (key : Bytes) → IsNoneOf (keys_set settings) key → writes_key (writes_set settings) key ≡ false
set_writes [] key none = refl
set_writes (setting ∷ settings) key none =
    ap (λ test. test || writes_key (writes_set settings) key) (apart setting.0 key none.0) ∙ set_writes settings key none.1

deletions_write : (keys : List Bytes) (store : Store) (key : Bytes) → IsNoneOf keys key → writes_key (deletions store keys) key ≡ false
deletions_write [] store key none = refl
deletions_write (own ∷ keys) store key none =
    elim (is_some (store own))
    as (λ test. writes_key (if test then (own, None) ∷ deletions (update bytes_eq store own None) keys else deletions store keys) key ≡ false) [
      | true ↦ ap (λ test. test || writes_key (deletions (update bytes_eq store own None) keys) key) (apart own key none.0)
          ∙ deletions_write keys (update bytes_eq store own None) key none.1
      | false ↦ deletions_write keys store key none.1
    ]

grown_writes : (own value key : Bytes) → IsNoneOf (own ∷ []) key → writes_key (grown own value).1 key ≡ false
grown_writes own value key none =
    either_none (nat_lt VALUE_BYTES_MAX (length value)) (refused StringTooLong) (number (length value), (own, Some value) ∷ []) key refl
    (write_none own key (Some value) none)

set_range_writes : (own old : Bytes) (offset : ℕ) (value key : Bytes) → IsNoneOf (own ∷ []) key
    → writes_key (set_range_answer own old offset value).1 key ≡ false
set_range_writes own old offset [] key none = refl
set_range_writes own old offset (byte ∷ bytes) key none =
    let value : Bytes = overlaid old offset (byte ∷ bytes) in
    either_none (nat_lt VALUE_BYTES_MAX (offset + length (byte ∷ bytes))) (refused StringTooLong) (number (length value), (own, Some value) ∷ []) key
    refl (write_none own key (Some value) none)

changed_writes : (own : Bytes) (found : Option ℤ) (change : ℤ → ℤ) (key : Bytes) → IsNoneOf (own ∷ []) key
    → writes_key (changed own found change).1 key ≡ false
changed_writes own None change key none = refl
changed_writes own (Some n) change key none =
    either_none (in_range (change n)) (One (item.Integer (change n)), (own, Some (signed_decimal (change n))) ∷ []) (refused Overflow) key
    (write_none own key (Some (signed_decimal (change n))) none) refl

moved_writes : (own name : Bytes) (value : Option Bytes) (key : Bytes) → IsNoneOf (own ∷ name ∷ []) key
    → writes_key (if bytes_eq own name then [] else (own, None) ∷ (name, value) ∷ []) key ≡ false
moved_writes own name value key none =
    elim (bytes_eq own name) as (λ test. writes_key (if test then [] else (own, None) ∷ (name, value) ∷ []) key ≡ false) [
      | true ↦ refl
      | false ↦ ap (λ test. test || (bytes_eq name key || false)) (apart own key none.0) ∙ write_none name key value none.1
    ]

answer_writes : (command : Command) (found : Store) (key : Bytes) → IsNoneOf (keys_of command) key → writes_key (answer found command).1 key ≡ false
answer_writes (Ping None) found key none = refl
answer_writes (Ping (Some text)) found key none = refl
answer_writes (Echo text) found key none = refl
answer_writes (Get own) found key none = refl
answer_writes (Set own value when) found key none =
    either_none (allows when (found own)) (line Done, (own, Some value) ∷ []) (bulk None, []) key (write_none own key (Some value) none) refl
answer_writes (SetGet own value when) found key none =
    elim (allows when (found own)) as (λ test. writes_key (if test then (own, Some value) ∷ [] else []) key ≡ false) [
      | true ↦ write_none own key (Some value) none
      | false ↦ refl
    ]
answer_writes (SetNx own value) found key none =
    either_none (is_some (found own)) (number 0, []) (number 1, (own, Some value) ∷ []) key refl (write_none own key (Some value) none)
answer_writes (GetSet own value) found key none = write_none own key (Some value) none
answer_writes (GetDel own) found key none =
    elim (is_some (found own)) as (λ test. writes_key (if test then (own, None) ∷ [] else []) key ≡ false) [
      | true ↦ write_none own key None none
      | false ↦ refl
    ]
answer_writes (StrLen own) found key none = refl
answer_writes (Exists keys) found key none = refl
answer_writes (Del keys) found key none = deletions_write keys found key none
answer_writes (Append own value) found key none = grown_writes own (value_of (found own) ++ value) key none
answer_writes (SetRange own offset value) found key none = set_range_writes own (value_of (found own)) offset value key none
answer_writes (GetRange own start end) found key none = refl
answer_writes (Add own n) found key none = changed_writes own (number_at (found own)) (λ old. old +ℤ n) key none
answer_writes (Subtract own n) found key none = changed_writes own (number_at (found own)) (λ old. old -ℤ n) key none
answer_writes (MGet keys) found key none = refl
answer_writes (MSet settings) found key none = set_writes settings key none
answer_writes (MSetNx settings) found key none =
    either_none (any_there found settings) (number 0, []) (number 1, writes_set settings) key refl (set_writes settings key none)
answer_writes (Rename own name) found key none =
    either_none (is_some (found own)) (line Done, if bytes_eq own name then [] else (own, None) ∷ (name, found own) ∷ []) (refused NoSuchKey) key
    (moved_writes own name (found own) key none) refl
answer_writes (Session command) found key none = refl
answer_writes (Bad refusal) found key none = refl

answers_write : (commands : List Command) (found : Store) (key : Bytes) → IsNoneOf (keys_of_all commands) key → writes_key (answers found commands).1 key ≡ false
answers_write [] found key none = refl
answers_write (command ∷ commands) found key none =
    let parts = IsNoneOf-append (keys_of command) (keys_of_all commands) key none in
    let first : List Write = (answer found command).1 in
    none_append first (answers (written found first) commands).1 key
    (answer_writes command found key parts.0) (answers_write commands (written found first) key parts.1)

pub outcome_writes : (operation : Operation) (found : Store) (key : Bytes) → IsNoneOf (keys_named operation) key → writes_key (outcome found operation).1 key ≡ false
outcome_writes (Run command) found key none = answer_writes command found key none
outcome_writes (Watch keys) found key none = refl
outcome_writes (Exec commands pairs) found key none =
    answers_write commands found key (IsNoneOf-append (keys_of_all commands) (keys_of_pairs pairs) key none).0

-- an entry writes no key that it does not name
pub writes_none : (store : Store) (entry : Entry) (key : Bytes) → IsNoneOf (keys_named entry.operation) key → writes_key (writes_of store entry) key ≡ false
writes_none store entry key none =
    elim (was_not_done entry.reply) as (λ test. writes_key (if test then [] else (outcome store entry.operation).1) key ≡ false) [
      | true ↦ refl
      | false ↦ outcome_writes entry.operation store key none
    ]

pub either_false : (b : Bool) → cond b false false ≡ false
either_false true = refl
either_false false = refl

-- an entry leaves each key that it does not name
pub after_leaves : (entry : Entry) (before : History) (key : Bytes)
    → IsNoneOf (keys_named entry.operation) key → after (entry ∷ before) key ≡ after before key
after_leaves entry before key none =
    unwritten (writes_of (after before) entry) (after before) key (writes_none (after before) entry key none)

-- more entries that do not name a key leave it
pub after_leaves_all : (more before : History) (key : Bytes)
    → NoEntryNames more key → after (more ++ before) key ≡ after before key
after_leaves_all [] before key none = refl
after_leaves_all (entry ∷ more) before key none =
    after_leaves entry (more ++ before) key none.0 ∙ after_leaves_all more before key none.1

-- after an entry a key that it does not name is written exactly where it was
pub written_leaves : (entry : Entry) (before : History) (start : ℕ) (key : Bytes)
    → IsNoneOf (keys_named entry.operation) key → is_written (entry ∷ before) start key ≡ is_written before start key
written_leaves entry before start key none =
    ap (λ w. (if nat_lt (length before) start then false else w) || is_written before start key) (writes_none (after before) entry key none)
    ∙ ap (λ w. w || is_written before start key) (either_false (nat_lt (length before) start))

pub written_leaves_all : (more before : History) (start : ℕ) (key : Bytes)
    → NoEntryNames more key → is_written (more ++ before) start key ≡ is_written before start key
written_leaves_all [] before start key none = refl
written_leaves_all (entry ∷ more) before start key none =
    written_leaves entry (more ++ before) start key none.0 ∙ written_leaves_all more before start key none.1

pub dirty_later : (pairs : List Pair) (more before : History)
    → NamesNone more (keys_of_pairs pairs) → is_dirty (more ++ before) pairs ≡ is_dirty before pairs
dirty_later [] more before none = refl
dirty_later (pair ∷ pairs) more before none =
    ap (λ w. w || is_dirty (more ++ before) pairs) (written_leaves_all more before (pair.1 + 1) pair.0 none.0)
    ∙ ap (λ w. is_written before (pair.1 + 1) pair.0 || w) (dirty_later pairs more before none.1)

NamesNone-append : (history : History) (keys more : List Bytes) → NamesNone history (keys ++ more) → NamesNone history more
NamesNone-append history [] more none = none
NamesNone-append history (key ∷ keys) more none = NamesNone-append history keys more none.1

null_later : (operation : Operation) (more before : History)
    → NamesNone more (keys_named operation) → is_dirty (more ++ before) (pairs_of operation) ≡ is_dirty before (pairs_of operation)
null_later (Run command) more before none = refl
null_later (Watch keys) more before none = refl
null_later (Exec commands pairs) more before none =
    dirty_later pairs more before (NamesNone-append more (keys_of_all commands) (keys_of_pairs pairs) none)

pub AreSameAt-after : (keys : List Bytes) (more before : History)
    → NamesNone more keys → AreSameAt keys (after (more ++ before)) (after before)
AreSameAt-after [] more before none = tt
AreSameAt-after (key ∷ keys) more before none =
    (after_leaves_all more before key none.0, AreSameAt-after keys more before none.1)

due_same : (operation : Operation) (before past : History)
    → AreSameAt (keys_named operation) (after before) (after past)
    → is_dirty before (pairs_of operation) ≡ is_dirty past (pairs_of operation)
    → due before operation ≡ due past operation
due_same operation before past same dirty =
    ap (λ null. if null then reply.NullArray else (if nat_lt WEIGHT_MAX (weight (outcome (after before) operation).1) then too_much else (outcome (after before) operation).0)) dirty
    ∙ ap (λ all. if is_dirty past (pairs_of operation) then reply.NullArray else (if nat_lt WEIGHT_MAX (weight all.1) then too_much else all.0))
    (outcome_same operation (after before) (after past) same)

-- what was due to an operation is due to it still after entries that name none of its keys
pub due_later : (operation : Operation) (more before : History)
    → NamesNone more (keys_named operation) → due (more ++ before) operation ≡ due before operation
due_later operation more before none =
    due_same operation (more ++ before) before (AreSameAt-after (keys_named operation) more before none)
    (null_later operation more before none)

-- a key of a stripe is none of those that belong to other stripes
pub IsNoneOf-elsewhere : (stripes stripe : ℕ) (keys : List Bytes) (key : Bytes)
    → AreElsewhere stripes stripe keys → stripe_of stripes key ≡ stripe → IsNoneOf keys key
IsNoneOf-elsewhere stripes stripe [] key away here = tt
IsNoneOf-elsewhere stripes stripe (first ∷ keys) key away here =
    (λ same. away.0 (ap (stripe_of stripes) same ∙ here), IsNoneOf-elsewhere stripes stripe keys key away.1 here)

-- an entry that names no key of a stripe leaves that stripe's part
pub IsPart-leaves : (stripes stripe : ℕ) (part : Store) (entry : Entry) (before : History)
    → LeavesStripe stripes stripe entry.operation
    → IsPart stripes stripe part (after before) → IsPart stripes stripe part (after (entry ∷ before))
IsPart-leaves stripes stripe part entry before leaves is_part key =
    elim (nat_eq (stripe_of stripes key) stripe)
    as (λ test. Decides test (stripe_of stripes key ≡ stripe)
    → part key ≡ (if test then after before key else None)
    → part key ≡ (if test then after (entry ∷ before) key else None)) [
      | true ↦ λ decides is. is ∙ sym (after_leaves entry before key (IsNoneOf-elsewhere stripes stripe (keys_named entry.operation) key leaves (decides.0 refl)))
      | false ↦ λ decides is. is
    ] (Decides-eqb (stripe_of stripes key) stripe) (is_part key)

-- and which of the stripe's keys were written
pub written_leaves_stripe : (stripes stripe : ℕ) (entry : Entry) (before : History) (start : ℕ) (key : Bytes)
    → LeavesStripe stripes stripe entry.operation → stripe_of stripes key ≡ stripe
    → is_written (entry ∷ before) start key ≡ is_written before start key
written_leaves_stripe stripes stripe entry before start key leaves here =
    written_leaves entry before start key (IsNoneOf-elsewhere stripes stripe (keys_named entry.operation) key leaves here)

-- A position of an entry of a history is below its length, so more entries leave what stands there.
is_watch_below : (before : History) (session : ℕ) (pair : Pair) → IsTrue (is_watch before session pair) → pair.1 < length before
is_watch_below [] session pair is = absurd (cc is)
is_watch_below (entry ∷ before) session pair is =
    elim (nat_eq (length before) pair.1)
    as (λ test. Decides test (length before ≡ pair.1)
    → IsTrue (if test then nat_eq entry.session session && begins_watch entry.operation pair.0 else is_watch before session pair)
    → pair.1 < length (entry ∷ before)) [
      | true ↦ λ decides here. omega (arith, decides.0 refl)
      | false ↦ λ decides here. omega (arith, is_watch_below before session pair here)
    ] (Decides-eqb (length before) pair.1) is

is_watch_later : (more before : History) (session : ℕ) (pair : Pair) → IsTrue (is_watch before session pair) → IsTrue (is_watch (more ++ before) session pair)
is_watch_later [] before session pair is = is
is_watch_later (entry ∷ more) before session pair is =
    let later = is_watch_later more before session pair is in
    elim (nat_eq (length (more ++ before)) pair.1)
    as (λ test. Decides test (length (more ++ before) ≡ pair.1)
    → IsTrue (if test then nat_eq entry.session session && begins_watch entry.operation pair.0 else is_watch (more ++ before) session pair)) [
      | true ↦ λ decides. absurd (omega (arith, decides.0 refl, is_watch_below (more ++ before) session pair later))
      | false ↦ λ decides. later
    ] (Decides-eqb (length (more ++ before)) pair.1)

pub watches_later : (session : ℕ) (pairs : List Pair) (more before : History)
    → AreWatches before session pairs → AreWatches (more ++ before) session pairs
watches_later session [] more before are = tt
watches_later session (pair ∷ pairs) more before are =
    (is_watch_later more before session pair are.0, watches_later session pairs more before are.1)

-- what may stand after a history may stand after it later, where nothing that it names was named since
pub extends_later : (entry : Entry) (more before : History)
    → NamesNone more (keys_named entry.operation) → Extends before entry → Extends (more ++ before) entry
extends_later entry more before none extends = record {
  place = extends.place;
  reply_due = extends.reply_due ∙ sym (due_later entry.operation more before none);
  watches = watches_later entry.session (pairs_of entry.operation) more before extends.watches;
}
