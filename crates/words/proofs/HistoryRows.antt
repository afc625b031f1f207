-- Computed rows of histories: what they leave, what is due, what is dirty, which entries may stand, and which are a session's.
use Rattle.std.specs.Prelude.{◌≡◌, ℕ, true, false, List, [], ◌∷◌, ◌++◌, Some, None, refl, codes, replicate}
use Rattle.std.specs.Fmt.{digits}
use Rattle.words.specs.declared.command.Command.{Command}
use Rattle.words.specs.declared.command.Command.TheVariants.{MSet, Del, Exists, SetRange, Session}
use Rattle.words.specs.declared.command.SessionCommand.TheVariants as session
use Rattle.words.specs.declared.reply.Refusal.TheVariants.{NoSuchKey}
use Rattle.words.specs.declared.reply.Line.TheVariants.{Done, Pong}
use Rattle.words.specs.declared.reply.Reply.TheVariants.{Single, NullArray, Array}
use Rattle.words.specs.declared.history.Operation.TheVariants.{Run, Exec}
use Rattle.words.specs.Store.{Bytes}
use Rattle.words.specs.Answers.{line, number}
use Rattle.words.specs.History.{History, Pair, after, due, is_dirty, HasPlace, AreWatches, Extends, Legal, subhistory, too_much}
use Rattle.words.proofs.Rows.{commands, text, null, error, ran, watched, transaction, ok, stands}
use Rattle.words.proofs.PlaceTests.{place_by}

-- session 0 sets `a`, session 1 reads it, and session 0 runs a transaction of a SET and a GET
abbrev three : History
three =
    transaction 0 ("SET a 2" ∷ "GET a" ∷ []) [] (Array (line Done ∷ text "2" ∷ []))
    ∷ ran 1 "GET a" (text "1") ∷ ran 0 "SET a 1" (line Done) ∷ []

a_after_three : after three (codes "a") ≡ Some (codes "2")
a_after_three = refl

b_after_three : after three (codes "b") ≡ None
b_after_three = refl

three_are_legal : Legal three
three_are_legal = (((tt, stands refl refl tt), stands refl refl tt), stands refl refl tt)

entries_of_each :
    subhistory three 0 ≡ (2, transaction 0 ("SET a 2" ∷ "GET a" ∷ []) [] (Array (line Done ∷ text "2" ∷ []))) ∷ (0, ran 0 "SET a 1" (line Done)) ∷ []
entries_of_each = refl

entries_of_the_reader : subhistory three 1 ≡ (1, ran 1 "GET a" (text "1")) ∷ []
entries_of_the_reader = refl

entries_of_nobody : subhistory three 2 ≡ []
entries_of_nobody = refl

-- Writes that weigh the most that one call's may, and one more.

abbrev five : List (Bytes × Bytes)
five =
    (codes "a", replicate 32768 120) ∷ (codes "b", replicate 32768 120) ∷ (codes "c", replicate 32768 120) ∷ (codes "d", replicate 32768 120)
    ∷ (codes "e", replicate 32768 120) ∷ []

abbrev heaviest : Command
heaviest = MSet (five ++ (codes "f", replicate 32474 120) ∷ [])

abbrev too_heavy : Command
too_heavy = MSet (five ++ (codes "f", replicate 32475 120) ∷ [])

the_most_is_done : due [] (Run heaviest) ≡ ok
the_most_is_done = refl

one_more_is_not : due [] (Run too_heavy) ≡ too_much
one_more_is_not = refl

-- the same by values that grow: five keys to the most bytes, and a sixth
abbrev grown_with : ℕ → List Command
grown_with offset =
    SetRange (codes "a") 32767 (codes "x") ∷ SetRange (codes "b") 32767 (codes "x") ∷ SetRange (codes "c") 32767 (codes "x")
    ∷ SetRange (codes "d") 32767 (codes "x") ∷ SetRange (codes "e") 32767 (codes "x") ∷ SetRange (codes "f") offset (codes "x") ∷ []

grown_to_the_most : due [] (Exec (grown_with 32473) []) ≡ Array (number 32768 ∷ number 32768 ∷ number 32768 ∷ number 32768 ∷ number 32768 ∷ number 32474 ∷ [])
grown_to_the_most = refl

grown_past_it : due [] (Exec (grown_with 32474) []) ≡ too_much
grown_past_it = refl

-- such an entry changes nothing
abbrev after_too_much : History
after_too_much = record { session = 0; operation = Run too_heavy; reply = too_much } ∷ []

nothing_is_there : due after_too_much (Run (Exists (codes "a" ∷ codes "f" ∷ []))) ≡ Single (number 0)
nothing_is_there = refl

transaction_too_heavy : due [] (Exec (too_heavy ∷ []) []) ≡ too_much
transaction_too_heavy = refl

-- a transaction is weighed as a whole: what a later command takes away weighs no more, and what two write comes together
weighed_as_a_whole : due [] (Exec (too_heavy ∷ Del (codes "f" ∷ []) ∷ []) []) ≡ Array (line Done ∷ number 1 ∷ [])
weighed_as_a_whole = refl

heavy_together : due [] (Exec (heaviest ∷ commands ("SET g v" ∷ [])) []) ≡ too_much
heavy_together = refl

-- a transaction that is dirty and would weigh too much is not run
dirty_before_heavy : due (ran 1 "SET k v" (line Done) ∷ watched 0 "k" ∷ []) (Exec (too_heavy ∷ []) ((codes "k", 0) ∷ [])) ≡ NullArray
dirty_before_heavy = refl

-- Dirtiness. Session 0 watches `k` first, at position 0.

abbrev k_watched : List Pair
k_watched = (codes "k", 0) ∷ []

own_write : is_dirty (ran 0 "SET k v" (line Done) ∷ watched 0 "k" ∷ []) k_watched ≡ true
own_write = refl

write_of_another : is_dirty (ran 1 "SET k v" (line Done) ∷ watched 0 "k" ∷ []) k_watched ≡ true
write_of_another = refl

write_by_a_transaction :
    is_dirty (transaction 1 ("PING" ∷ "INCR k" ∷ []) [] (Array (line Pong ∷ number 1 ∷ [])) ∷ watched 0 "k" ∷ []) k_watched ≡ true
unfolding digits
write_by_a_transaction = refl

-- what comes after the write does not hide it
write_then_more : is_dirty (ran 1 "GET k" null ∷ ran 1 "DEL k" (number 1) ∷ ran 1 "SET k v" (line Done) ∷ watched 0 "k" ∷ []) k_watched ≡ true
write_then_more = refl

write_before_the_watch : is_dirty (watched 0 "k" ∷ ran 0 "SET k v" (line Done) ∷ []) ((codes "k", 1) ∷ []) ≡ false
write_before_the_watch = refl

-- the entry at the pair's own position is none after it
write_at_the_position : is_dirty (ran 0 "SET k v" (line Done) ∷ []) k_watched ≡ false
write_at_the_position = refl

write_of_an_equal_value :
    is_dirty (ran 1 "SET k v" (line Done) ∷ watched 0 "k" ∷ ran 1 "SET k v" (line Done) ∷ []) ((codes "k", 1) ∷ []) ≡ true
write_of_an_equal_value = refl

write_of_another_key : is_dirty (ran 1 "SET j v" (line Done) ∷ watched 0 "k" ∷ []) k_watched ≡ false
write_of_another_key = refl

-- a RENAME writes both its keys
renamed_from_it : is_dirty (ran 1 "RENAME k j" (line Done) ∷ watched 0 "k" ∷ ran 1 "SET k v" (line Done) ∷ []) ((codes "k", 1) ∷ []) ≡ true
renamed_from_it = refl

renamed_to_it : is_dirty (ran 1 "RENAME j k" (line Done) ∷ watched 0 "k" ∷ ran 1 "SET j v" (line Done) ∷ []) ((codes "k", 1) ∷ []) ≡ true
renamed_to_it = refl

-- one of several watched keys is enough, and nothing watched is never dirty
one_of_two : is_dirty (ran 1 "SET j v" (line Done) ∷ watched 0 "k j" ∷ []) ((codes "j", 0) ∷ (codes "k", 0) ∷ []) ≡ true
one_of_two = refl

the_other_of_two : is_dirty (ran 1 "SET k v" (line Done) ∷ watched 0 "k j" ∷ []) ((codes "j", 0) ∷ (codes "k", 0) ∷ []) ≡ true
the_other_of_two = refl

nothing_watched : is_dirty (ran 1 "SET k v" (line Done) ∷ []) [] ≡ false
nothing_watched = refl

-- What writes nothing: readers, what is not done or refused, the deletion of a missing key, a transaction that was not run, and writes that
-- weigh too much.

missing_key_deleted : is_dirty (ran 1 "DEL k" (number 0) ∷ watched 0 "k" ∷ []) k_watched ≡ false
missing_key_deleted = refl

read_or_not_done :
    is_dirty
    (ran 1 "GET k" null ∷ ran 1 "SET k v XX" null ∷ ran 1 "GETDEL k" null ∷ ran 1 "SETRANGE k 3 " (number 0) ∷ watched 0 "k" ∷ []) k_watched
    ≡ false
unfolding digits
read_or_not_done = refl

set_and_get_not_done : is_dirty (ran 1 "SET k v GET XX" null ∷ watched 0 "k" ∷ []) k_watched ≡ false
set_and_get_not_done = refl

missing_key_renamed :
    is_dirty (ran 1 "RENAME j k" (error NoSuchKey) ∷ ran 1 "RENAME k j" (error NoSuchKey) ∷ ran 1 "RENAME k k" (error NoSuchKey) ∷ watched 0 "k" ∷ []) k_watched
    ≡ false
missing_key_renamed = refl

renamed_to_itself : is_dirty (ran 1 "RENAME k k" (line Done) ∷ watched 0 "k" ∷ ran 1 "SET k v" (line Done) ∷ []) ((codes "k", 1) ∷ []) ≡ false
renamed_to_itself = refl

null_transaction :
    is_dirty
    (transaction 1 ("SET k v" ∷ []) ((codes "j", 1) ∷ []) NullArray ∷ ran 0 "SET j v" (line Done) ∷ watched 1 "j" ∷ watched 0 "k" ∷ []) k_watched
    ≡ false
null_transaction = refl

writes_too_much :
    is_dirty (record { session = 1; operation = Run too_heavy; reply = too_much } ∷ watched 0 "a" ∷ []) ((codes "a", 0) ∷ []) ≡ false
writes_too_much = refl

-- A transaction is null exactly where it is dirty.

abbrev dirty : History
dirty = ran 1 "SET k v" (line Done) ∷ watched 0 "k" ∷ []

abbrev clean : History
clean = ran 1 "DEL k" (number 0) ∷ watched 0 "k" ∷ []

null_where_dirty : Extends dirty (transaction 0 ("GET k" ∷ []) k_watched NullArray)
null_where_dirty = stands refl refl (refl, tt)

run_where_clean : Extends clean (transaction 0 ("GET k" ∷ []) k_watched (Array (null ∷ [])))
run_where_clean = stands refl refl (refl, tt)

not_run_where_dirty : ¬ Extends dirty (transaction 0 ("GET k" ∷ []) k_watched (Array (text "v" ∷ [])))
not_run_where_dirty extends = let due = extends.reply_due in absurd (cc due)

not_null_where_clean : ¬ Extends clean (transaction 0 ("GET k" ∷ []) k_watched NullArray)
not_null_where_clean extends = let due = extends.reply_due in absurd (cc due)

-- what it does not go by does not stop it: a transaction of the same session that watches nothing
run_where_nothing_is_watched : Extends dirty (transaction 0 ("GET k" ∷ []) [] (Array (text "v" ∷ [])))
run_where_nothing_is_watched = stands refl refl tt

-- an empty queue, where it is clean and where it is dirty
empty_queue : due clean (Exec [] k_watched) ∷ due dirty (Exec [] k_watched) ∷ [] ≡ Array [] ∷ NullArray ∷ []
empty_queue = refl

-- Pairs that are no watches: another session's, of another key, of a position that is no watch's, or of one to come.

watch_of_another_session : ¬ AreWatches dirty 1 k_watched
watch_of_another_session watches = let watch = watches.0 in absurd (cc watch)

watch_of_another_key : ¬ AreWatches dirty 0 ((codes "j", 0) ∷ [])
watch_of_another_key watches = let watch = watches.0 in absurd (cc watch)

no_watch_at_the_position : ¬ AreWatches (ran 0 "SET k v" (line Done) ∷ watched 0 "k" ∷ []) 0 ((codes "k", 1) ∷ [])
no_watch_at_the_position watches = let watch = watches.0 in absurd (cc watch)

position_to_come : ¬ AreWatches dirty 0 ((codes "k", 2) ∷ [])
position_to_come watches = let watch = watches.0 in absurd (cc watch)

-- What has no place in a history: a single command that touches no key, one that its words refuse, and a transaction in a transaction.

no_place_for_ping : ¬ Extends [] (ran 0 "PING" (line Pong))
no_place_for_ping extends = let place = extends.place.0 in absurd (cc place)

no_place_for_refused : ¬ Extends [] (ran 0 "GET" (line Done))
no_place_for_refused extends = let place = extends.place.0 in absurd (cc place)

no_exec_in_a_transaction : ¬ HasPlace (Exec (Session session.Exec ∷ []) [])
no_exec_in_a_transaction place = place.0.0

unwatch_in_a_transaction : HasPlace (Exec (commands ("UNWATCH" ∷ "PING" ∷ "GET" ∷ [])) [])
unwatch_in_a_transaction = place_by (Exec (commands ("UNWATCH" ∷ "PING" ∷ "GET" ∷ [])) []) refl

-- an answer that the store does not give
another_value : ¬ Extends (ran 0 "SET a 1" (line Done) ∷ []) (ran 1 "GET a" null)
another_value extends = let due = extends.reply_due in absurd (cc due)
