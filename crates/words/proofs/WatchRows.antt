-- Computed rows of watches: since when a key is watched, how many are, and the marks of what was written since.
use Rattle.std.specs.Prelude.{ℕ, zero, suc, ◌≡◌, true, false, ◌+◌, List, [], ◌∷◌, Some, None, refl, codes, replicate}
use Rattle.words.specs.declared.reply.Refusal.TheVariants.{KeyTooLong}
use Rattle.words.specs.declared.reply.TransactionError.TheVariants.{TooManyWatchedKeys}
use Rattle.words.specs.declared.reply.Line.TheVariants.{Done, Refused, Misplaced}
use Rattle.words.specs.declared.reply.Reply.TheVariants.{NullArray}
use Rattle.words.specs.Store.{Bytes}
use Rattle.words.specs.Answers.{line}
use Rattle.words.specs.History.{Pair, History}
use Rattle.words.specs.Watches.{watched_at, with_keys, watched_after, count_watched, mark_at, mark_after}
use Rattle.words.specs.Session.{Idle, Watch, Calls, says, watch_turn}
use Rattle.words.proofs.Rows.{words, ran, watched, transaction}

-- `a` is watched from position 3 on, and `b` from position 5 on
abbrev pairs : List Pair
pairs = with_keys (with_keys [] (words "a") 3) (words "b a b") 5

first_moment_is_kept : watched_at pairs (codes "a") ∷ watched_at pairs (codes "b") ∷ watched_at pairs (codes "c") ∷ [] ≡ Some 3 ∷ Some 5 ∷ None ∷ []
first_moment_is_kept = refl

each_key_once : pairs ≡ (codes "b", 5) ∷ (codes "a", 3) ∷ []
each_key_once = refl

-- What is watched after an entry: as before after a command, more after a WATCH, nothing after a transaction.

after_a_command : watched_after pairs (ran 0 "SET a 1" (line Done)).operation 7 ≡ pairs
after_a_command = refl

after_a_watch : watched_after pairs (watched 0 "c a").operation 7 ≡ (codes "c", 7) ∷ pairs
after_a_watch = refl

after_a_transaction : watched_after pairs (transaction 0 ("GET a" ∷ []) pairs NullArray).operation 7 ≡ []
after_a_transaction = refl

-- How many keys are watched: a repeated key counts once, and one that is watched already does not count again.

counted_once : count_watched [] (words "a b a") ∷ count_watched (words "a b") (words "b c b a") ∷ count_watched (words "a b") [] ∷ [] ≡ 2 ∷ 3 ∷ 2 ∷ []
counted_once = refl

-- so many keys of one byte each, from a byte on
abbrev keys : ℕ → (from : ℕ) → List Bytes
keys zero from = []
keys (suc n) from = (from ∷ []) ∷ keys n (from + 1)

-- Where 127 keys are watched, one of them and a new one may be, and not two new ones; where 128 are, any of them again, and no new one.

the_last_one : watch_turn (keys 127 0) (keys 2 126) ≡ Calls (Watch (keys 2 126)) Idle Idle
the_last_one = refl

watched_ones_again : watch_turn (keys 128 0) (keys 3 5) ≡ Calls (Watch (keys 3 5)) Idle Idle
watched_ones_again = refl

new_one_twice : watch_turn (keys 127 0) (replicate 2 (200 ∷ [])) ≡ Calls (Watch (replicate 2 (200 ∷ []))) Idle Idle
new_one_twice = refl

one_too_many_later : watch_turn (keys 128 0) (keys 1 128) ≡ says (Misplaced TooManyWatchedKeys) Idle
one_too_many_later = refl

two_too_many_later : watch_turn (keys 127 0) (keys 2 127) ≡ says (Misplaced TooManyWatchedKeys) Idle
two_too_many_later = refl

-- 128 keys at once, and 129
all_at_once : watch_turn [] (keys 128 0) ≡ Calls (Watch (keys 128 0)) Idle Idle
all_at_once = refl

one_too_many_at_once : watch_turn [] (keys 129 0) ≡ says (Misplaced TooManyWatchedKeys) Idle
one_too_many_at_once = refl

-- a key that is too long is told first
long_key_before_too_many : watch_turn (keys 128 0) (replicate 513 97 ∷ []) ≡ says (Refused KeyTooLong) Idle
long_key_before_too_many = refl

longest_key : watch_turn [] (replicate 512 97 ∷ []) ≡ Calls (Watch (replicate 512 97 ∷ [])) Idle Idle
longest_key = refl

-- Marks. Session 0 watches `a` and then `b`; `a` was written between, and `c`, which it does not watch, after.

abbrev history : History
history = ran 1 "SET c v" (line Done) ∷ watched 0 "b" ∷ ran 1 "SET a v" (line Done) ∷ watched 0 "a" ∷ []

abbrev both : List Pair
both = (codes "b", 2) ∷ (codes "a", 0) ∷ []

marks : mark_at history both (codes "a") ∷ mark_at history both (codes "b") ∷ mark_at history both (codes "c") ∷ [] ≡ Some true ∷ Some false ∷ None ∷ []
marks = refl

-- a command touches the mark of a key that it writes, and leaves one that it does not write
marks_after_a_command :
    mark_after (ran 0 "SET a 1" (line Done)).operation true (codes "a") (Some false) ∷ mark_after (ran 0 "SET a 1" (line Done)).operation false (codes "b") (Some false)
    ∷ mark_after (ran 0 "SET a 1" (line Done)).operation false (codes "a") (Some true) ∷ mark_after (ran 0 "SET a 1" (line Done)).operation true (codes "a") None ∷ []
    ≡ Some true ∷ Some false ∷ Some true ∷ None ∷ []
marks_after_a_command = refl

-- a WATCH begins marks, keeps those that are there, and leaves other keys
marks_after_a_watch :
    mark_after (watched 0 "a").operation false (codes "a") None ∷ mark_after (watched 0 "a").operation false (codes "a") (Some true)
    ∷ mark_after (watched 0 "a").operation false (codes "b") None ∷ []
    ≡ Some false ∷ Some true ∷ None ∷ []
marks_after_a_watch = refl

marks_after_a_transaction : mark_after (transaction 0 ("SET a 1" ∷ []) both NullArray).operation true (codes "a") (Some true) ≡ None
marks_after_a_transaction = refl
