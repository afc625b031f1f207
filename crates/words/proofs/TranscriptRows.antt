-- Whole transcripts: the requests of a session, its entries in a legal history, and its replies.
use Rattle.std.specs.Prelude.{[], ◌∷◌, reverse, refl, codes, replicate}
use Rattle.std.specs.Fmt.{digits}
use Rattle.std.proofs.Common.{inl, inr}
use Rattle.words.specs.declared.command.Command.TheVariants.{Bad}
use Rattle.words.specs.declared.reply.Refusal.TheVariants.{UnknownCommand, WrongArity, NotAnInteger, KeyTooLong}
use Rattle.words.specs.declared.reply.TransactionError.TheVariants.{NestedMulti, WatchInsideMulti, ExecWithoutMulti, DiscardWithoutMulti, TransactionAborted}
use Rattle.words.specs.declared.reply.Fault.TheVariants.{OutOfMemory, DeviceFault, StoreFull, CommitsWornOut}
use Rattle.words.specs.declared.reply.Line.TheVariants.{Done, Pong, Refused, Faulty}
use Rattle.words.specs.declared.reply.Reply.TheVariants.{Single, NullArray, Array}
use Rattle.words.specs.declared.history.Operation.TheVariants.{Exec}
use Rattle.words.specs.Answers.{line, number}
use Rattle.words.specs.History.{History, Legal, subhistory}
use Rattle.words.specs.Session.{Idle, Transcript, line_reply}
use Rattle.words.proofs.Rows.{words, requests, text, null, error, ok, queued, misplaced, ran, watched, transaction, stands}

-- a transaction of a SET, an INCR and a GET
abbrev transaction_of_three_history : History
transaction_of_three_history =
    transaction 1 ("SET a 1" ∷ "INCR a" ∷ "GET a" ∷ []) [] (Array (line Done ∷ number 2 ∷ text "2" ∷ [])) ∷ []

transaction_of_three_is_legal : Legal transaction_of_three_history
unfolding digits
transaction_of_three_is_legal = (tt, stands refl refl tt)

transaction_of_three :
    Transcript 1 Idle [] (requests ("MULTI" ∷ "SET a 1" ∷ "INCR a" ∷ "GET a" ∷ "EXEC" ∷ []))
    (reverse (subhistory transaction_of_three_history 1))
    (ok ∷ queued ∷ queued ∷ queued ∷ Array (line Done ∷ number 2 ∷ text "2" ∷ []) ∷ [])
unfolding digits
transaction_of_three = (refl, inl (refl, inl (refl, inl (refl, inl (refl, (refl, refl))))))

-- a request of too few words spoils it, and nothing is run
abbrev spoiled_by_too_few_words_history : History
spoiled_by_too_few_words_history =
    ran 1 "GET a" null ∷ []

spoiled_by_too_few_words_is_legal : Legal spoiled_by_too_few_words_history
spoiled_by_too_few_words_is_legal = (tt, stands refl refl tt)

spoiled_by_too_few_words :
    Transcript 1 Idle [] (requests ("MULTI" ∷ "GET" ∷ "SET a 1" ∷ "EXEC" ∷ "GET a" ∷ []))
    (reverse (subhistory spoiled_by_too_few_words_history 1))
    (ok ∷ line_reply (Refused WrongArity) ∷ queued ∷ misplaced TransactionAborted ∷ Single null ∷ [])
spoiled_by_too_few_words = (refl, (refl, (refl, (refl, inl (refl, (refl, refl))))))

-- a command that fails leaves the others as they are
abbrev failing_command_history : History
failing_command_history =
    ran 1 "GET a" (text "x") ∷ transaction 1 ("SET a x" ∷ "INCR a" ∷ []) [] (Array (line Done ∷ error NotAnInteger ∷ [])) ∷ []

failing_command_is_legal : Legal failing_command_history
unfolding digits
failing_command_is_legal = ((tt, stands refl refl tt), stands refl refl tt)

failing_command :
    Transcript 1 Idle [] (requests ("MULTI" ∷ "SET a x" ∷ "INCR a" ∷ "EXEC" ∷ "GET a" ∷ []))
    (reverse (subhistory failing_command_history 1))
    (ok ∷ queued ∷ queued ∷ Array (line Done ∷ error NotAnInteger ∷ []) ∷ Single (text "x") ∷ [])
unfolding digits
failing_command = (refl, inl (refl, inl (refl, inl (refl, inl (refl, (refl, refl))))))

-- an own write with an equal value makes it null, and the next transaction goes by nothing
abbrev own_write_after_watch_history : History
own_write_after_watch_history =
    transaction 1 ("PING" ∷ []) [] (Array (line Pong ∷ [])) ∷ transaction 1 ("PING" ∷ []) ((codes "k", 1) ∷ []) NullArray
    ∷ ran 1 "SET k v" (line Done) ∷ watched 1 "k" ∷ ran 1 "SET k v" (line Done) ∷ []

own_write_after_watch_is_legal : Legal own_write_after_watch_history
own_write_after_watch_is_legal = (((((tt, stands refl refl tt), stands refl refl tt), stands refl refl tt), stands refl refl (refl, tt)), stands refl refl tt)

own_write_after_watch :
    Transcript 1 Idle [] (requests ("SET k v" ∷ "WATCH k" ∷ "SET k v" ∷ "MULTI" ∷ "PING" ∷ "EXEC" ∷ "MULTI" ∷ "PING" ∷ "EXEC" ∷ []))
    (reverse (subhistory own_write_after_watch_history 1))
    (ok ∷ ok ∷ ok ∷ ok ∷ queued ∷ NullArray ∷ ok ∷ queued ∷ Array (line Pong ∷ []) ∷ [])
own_write_after_watch = inl (refl, inl (refl, inl (refl, (refl, inl (refl, inl (refl, (refl, inl (refl, inl (refl, (refl, refl))))))))))

-- the deletion of a missing key by another session is no write
abbrev missing_key_deleted_history : History
missing_key_deleted_history =
    transaction 1 [] ((codes "k", 0) ∷ []) (Array []) ∷ ran 2 "DEL k" (number 0) ∷ watched 1 "k" ∷ []

missing_key_deleted_is_legal : Legal missing_key_deleted_history
missing_key_deleted_is_legal = (((tt, stands refl refl tt), stands refl refl tt), stands refl refl (refl, tt))

missing_key_deleted_by_another :
    Transcript 1 Idle [] (requests ("WATCH k" ∷ "MULTI" ∷ "EXEC" ∷ []))
    (reverse (subhistory missing_key_deleted_history 1))
    (ok ∷ ok ∷ Array [] ∷ [])
missing_key_deleted_by_another = inl (refl, (refl, inl (refl, (refl, refl))))

missing_key_deleted_by_itself :
    Transcript 2 Idle [] (requests ("DEL k" ∷ []))
    (reverse (subhistory missing_key_deleted_history 2))
    (Single (number 0) ∷ [])
missing_key_deleted_by_itself = inl (refl, (refl, refl))

-- a write by another session, of a key that was missing
abbrev written_by_another_history : History
written_by_another_history =
    ran 1 "GET k" (text "v") ∷ transaction 1 ("SET k w" ∷ "GET k" ∷ []) ((codes "k", 0) ∷ []) NullArray
    ∷ ran 2 "SETNX k v" (number 1) ∷ watched 1 "k" ∷ []

written_by_another_is_legal : Legal written_by_another_history
written_by_another_is_legal = ((((tt, stands refl refl tt), stands refl refl tt), stands refl refl (refl, tt)), stands refl refl tt)

written_by_another :
    Transcript 1 Idle [] (requests ("WATCH k" ∷ "MULTI" ∷ "SET k w" ∷ "GET k" ∷ "EXEC" ∷ "GET k" ∷ []))
    (reverse (subhistory written_by_another_history 1))
    (ok ∷ ok ∷ queued ∷ queued ∷ NullArray ∷ Single (text "v") ∷ [])
written_by_another = inl (refl, (refl, inl (refl, inl (refl, inl (refl, inl (refl, (refl, refl)))))))

-- a key that is too long is answered where the command runs
abbrev long_key_in_a_transaction_history : History
long_key_in_a_transaction_history =
    record { session = 1; operation = Exec (Bad KeyTooLong ∷ []) []; reply = Array (error KeyTooLong ∷ []) } ∷ []

long_key_in_a_transaction_is_legal : Legal long_key_in_a_transaction_history
long_key_in_a_transaction_is_legal = (tt, stands refl refl tt)

long_key_in_a_transaction :
    Transcript 1 Idle [] ((codes "GET" ∷ replicate 513 97 ∷ []) ∷ words "MULTI" ∷ (codes "GET" ∷ replicate 513 97 ∷ []) ∷ words "EXEC" ∷ [])
    (reverse (subhistory long_key_in_a_transaction_history 1))
    (line_reply (Refused KeyTooLong) ∷ ok ∷ queued ∷ Array (error KeyTooLong ∷ []) ∷ [])
long_key_in_a_transaction = (refl, (refl, inl (refl, inl (refl, (refl, refl)))))

-- what is answered by a line of its own leaves the transaction as it is
abbrev misplaced_requests_history : History
misplaced_requests_history =
    transaction 1 [] [] (Array []) ∷ []

misplaced_requests_is_legal : Legal misplaced_requests_history
misplaced_requests_is_legal = (tt, stands refl refl tt)

misplaced_requests :
    Transcript 1 Idle [] (requests ("MULTI" ∷ "MULTI" ∷ "WATCH k" ∷ "EXEC" ∷ "EXEC" ∷ "DISCARD" ∷ []))
    (reverse (subhistory misplaced_requests_history 1))
    (ok ∷ misplaced NestedMulti ∷ misplaced WatchInsideMulti ∷ Array [] ∷ misplaced ExecWithoutMulti
    ∷ misplaced DiscardWithoutMulti ∷ [])
misplaced_requests = (refl, (refl, (refl, inl (refl, (refl, (refl, (refl, refl)))))))

-- QUIT runs nothing of it, and another session sees nothing
abbrev quit_in_a_transaction_history : History
quit_in_a_transaction_history =
    ran 2 "GET a" null ∷ []

quit_in_a_transaction_is_legal : Legal quit_in_a_transaction_history
quit_in_a_transaction_is_legal = (tt, stands refl refl tt)

quit_in_a_transaction :
    Transcript 1 Idle [] (requests ("MULTI" ∷ "SET a 1" ∷ "QUIT" ∷ []))
    (reverse (subhistory quit_in_a_transaction_history 1))
    (ok ∷ queued ∷ ok ∷ [])
quit_in_a_transaction = (refl, inl (refl, (refl, (refl, refl))))

quit_in_a_transaction_seen_by_another :
    Transcript 2 Idle [] (requests ("GET a" ∷ []))
    (reverse (subhistory quit_in_a_transaction_history 2))
    (Single null ∷ [])
quit_in_a_transaction_seen_by_another = inl (refl, (refl, refl))

-- a transaction that is discarded
abbrev discarded_history : History
discarded_history =
    ran 1 "GET a" null ∷ []

discarded_is_legal : Legal discarded_history
discarded_is_legal = (tt, stands refl refl tt)

discarded :
    Transcript 1 Idle [] (requests ("MULTI" ∷ "SET a 1" ∷ "DISCARD" ∷ "GET a" ∷ "EXEC" ∷ []))
    (reverse (subhistory discarded_history 1))
    (ok ∷ queued ∷ ok ∷ Single null ∷ misplaced ExecWithoutMulti ∷ [])
discarded = (refl, inl (refl, (refl, inl (refl, (refl, (refl, refl))))))

-- a write inside the transaction is none before it
abbrev own_write_inside_history : History
own_write_inside_history =
    ran 1 "GET k" (text "v") ∷ transaction 1 ("SET k v" ∷ []) ((codes "k", 0) ∷ []) (Array (line Done ∷ [])) ∷ watched 1 "k" ∷ []

own_write_inside_is_legal : Legal own_write_inside_history
own_write_inside_is_legal = (((tt, stands refl refl tt), stands refl refl (refl, tt)), stands refl refl tt)

own_write_inside :
    Transcript 1 Idle [] (requests ("WATCH k" ∷ "MULTI" ∷ "SET k v" ∷ "EXEC" ∷ "GET k" ∷ []))
    (reverse (subhistory own_write_inside_history 1))
    (ok ∷ ok ∷ queued ∷ Array (line Done ∷ []) ∷ Single (text "v") ∷ [])
own_write_inside = inl (refl, (refl, inl (refl, inl (refl, inl (refl, (refl, refl))))))

-- UNWATCH forgets, and is answered in its place where it was queued
abbrev unwatched_history : History
unwatched_history =
    transaction 1 ("UNWATCH" ∷ []) [] (Array (line Done ∷ [])) ∷ ran 1 "SET k v" (line Done) ∷ ran 1 "DEL k" (number 1)
    ∷ watched 1 "k" ∷ ran 1 "SET k v" (line Done) ∷ []

unwatched_is_legal : Legal unwatched_history
unwatched_is_legal = (((((tt, stands refl refl tt), stands refl refl tt), stands refl refl tt), stands refl refl tt), stands refl refl tt)

unwatched :
    Transcript 1 Idle [] (requests ("SET k v" ∷ "WATCH k" ∷ "DEL k" ∷ "SET k v" ∷ "UNWATCH" ∷ "MULTI" ∷ "UNWATCH" ∷ "EXEC" ∷ []))
    (reverse (subhistory unwatched_history 1))
    (ok ∷ ok ∷ Single (number 1) ∷ ok ∷ ok ∷ ok ∷ queued ∷ Array (line Done ∷ []) ∷ [])
unwatched = inl (refl, inl (refl, inl (refl, inl (refl, (refl, (refl, inl (refl, inl (refl, (refl, refl)))))))))

-- a queued UNWATCH comes too late for its own transaction
abbrev queued_unwatch_history : History
queued_unwatch_history =
    transaction 1 ("UNWATCH" ∷ []) ((codes "k", 0) ∷ []) NullArray ∷ ran 1 "SET k v" (line Done) ∷ watched 1 "k" ∷ []

queued_unwatch_is_legal : Legal queued_unwatch_history
queued_unwatch_is_legal = (((tt, stands refl refl tt), stands refl refl tt), stands refl refl (refl, tt))

queued_unwatch :
    Transcript 1 Idle [] (requests ("WATCH k" ∷ "SET k v" ∷ "MULTI" ∷ "UNWATCH" ∷ "EXEC" ∷ []))
    (reverse (subhistory queued_unwatch_history 1))
    (ok ∷ ok ∷ ok ∷ queued ∷ NullArray ∷ [])
queued_unwatch = inl (refl, inl (refl, (refl, inl (refl, inl (refl, (refl, refl))))))

-- a key that is watched twice keeps its first moment
abbrev watched_twice_history : History
watched_twice_history =
    transaction 1 ("GET k" ∷ []) ((codes "j", 2) ∷ (codes "k", 0) ∷ []) NullArray ∷ watched 1 "k j" ∷ ran 1 "SET k v" (line Done)
    ∷ watched 1 "k" ∷ []

watched_twice_is_legal : Legal watched_twice_history
watched_twice_is_legal = ((((tt, stands refl refl tt), stands refl refl tt), stands refl refl tt), stands refl refl (refl, (refl, tt)))

watched_twice :
    Transcript 1 Idle [] (requests ("WATCH k" ∷ "SET k v" ∷ "WATCH k j" ∷ "MULTI" ∷ "GET k" ∷ "EXEC" ∷ []))
    (reverse (subhistory watched_twice_history 1))
    (ok ∷ ok ∷ ok ∷ ok ∷ queued ∷ NullArray ∷ [])
watched_twice = inl (refl, inl (refl, inl (refl, (refl, inl (refl, inl (refl, (refl, refl)))))))

-- DISCARD, and EXEC of a spoiled transaction, forget what is watched
abbrev forgotten_by_discard_history : History
forgotten_by_discard_history =
    transaction 1 [] [] (Array []) ∷ ran 1 "SET k v" (line Done) ∷ watched 1 "k" ∷ transaction 1 [] [] (Array [])
    ∷ ran 1 "SET k v" (line Done) ∷ watched 1 "k" ∷ []

forgotten_by_discard_is_legal : Legal forgotten_by_discard_history
forgotten_by_discard_is_legal = ((((((tt, stands refl refl tt), stands refl refl tt), stands refl refl tt), stands refl refl tt), stands refl refl tt), stands refl refl tt)

forgotten_by_discard_and_abort :
    Transcript 1 Idle [] (requests ("WATCH k" ∷ "SET k v" ∷ "MULTI" ∷ "DISCARD" ∷ "MULTI" ∷ "EXEC" ∷ "WATCH k" ∷ "SET k v" ∷ "MULTI" ∷ "FOO" ∷ "EXEC" ∷ "MULTI" ∷ "EXEC" ∷ []))
    (reverse (subhistory forgotten_by_discard_history 1))
    (ok ∷ ok ∷ ok ∷ ok ∷ ok ∷ Array [] ∷ ok ∷ ok ∷ ok ∷ line_reply (Refused UnknownCommand) ∷ misplaced TransactionAborted ∷ ok
    ∷ Array [] ∷ [])
forgotten_by_discard_and_abort = inl (refl, inl (refl, (refl, (refl, (refl, inl (refl, inl (refl, inl (refl, (refl, (refl, (refl, (refl, inl (refl, (refl, refl))))))))))))))

-- a WATCH that meets a fault watches nothing
abbrev fault_at_watch_history : History
fault_at_watch_history =
    transaction 1 ("GET k" ∷ []) [] (Array (text "v" ∷ [])) ∷ ran 1 "SET k v" (line Done) ∷ []

fault_at_watch_is_legal : Legal fault_at_watch_history
fault_at_watch_is_legal = ((tt, stands refl refl tt), stands refl refl tt)

fault_at_watch :
    Transcript 1 Idle [] (requests ("WATCH k" ∷ "SET k v" ∷ "MULTI" ∷ "GET k" ∷ "EXEC" ∷ []))
    (reverse (subhistory fault_at_watch_history 1))
    (line_reply (Faulty CommitsWornOut) ∷ ok ∷ ok ∷ queued ∷ Array (text "v" ∷ []) ∷ [])
fault_at_watch = inr (CommitsWornOut, refl, inl (refl, (refl, inl (refl, inl (refl, (refl, refl))))))

-- an EXEC that meets a fault has no entry, and ends the transaction and its watches
abbrev fault_at_exec_history : History
fault_at_exec_history =
    transaction 1 ("GET k" ∷ []) [] (Array (text "v" ∷ [])) ∷ ran 1 "SET k v" (line Done) ∷ watched 1 "k" ∷ []

fault_at_exec_is_legal : Legal fault_at_exec_history
fault_at_exec_is_legal = (((tt, stands refl refl tt), stands refl refl tt), stands refl refl tt)

fault_at_exec :
    Transcript 1 Idle [] (requests ("WATCH k" ∷ "SET k v" ∷ "MULTI" ∷ "GET k" ∷ "EXEC" ∷ "EXEC" ∷ "MULTI" ∷ "GET k" ∷ "EXEC" ∷ []))
    (reverse (subhistory fault_at_exec_history 1))
    (ok ∷ ok ∷ ok ∷ queued ∷ line_reply (Faulty StoreFull) ∷ misplaced ExecWithoutMulti ∷ ok ∷ queued ∷ Array (text "v" ∷ []) ∷ [])
fault_at_exec = inl (refl, inl (refl, (refl, inl (refl, inr (StoreFull, refl, (refl, (refl, inl (refl, inl (refl, (refl, refl))))))))))

-- out of memory where a command is to be queued spoils the transaction; where a text is to be answered it changes nothing
abbrev no_memory_to_queue_history : History
no_memory_to_queue_history =
    ran 1 "GET a" null ∷ []

no_memory_to_queue_is_legal : Legal no_memory_to_queue_history
no_memory_to_queue_is_legal = (tt, stands refl refl tt)

no_memory_to_queue :
    Transcript 1 Idle [] (requests ("PING hi" ∷ "MULTI" ∷ "SET a 1" ∷ "GET a" ∷ "EXEC" ∷ "GET a" ∷ []))
    (reverse (subhistory no_memory_to_queue_history 1))
    (line_reply (Faulty OutOfMemory) ∷ ok ∷ line_reply (Faulty OutOfMemory) ∷ queued ∷ misplaced TransactionAborted ∷ Single null ∷ [])
no_memory_to_queue = inr (refl, (refl, inr (refl, (refl, (refl, inl (refl, (refl, refl)))))))

-- a command that meets a fault has no entry
abbrev fault_of_a_command_history : History
fault_of_a_command_history =
    ran 1 "GET a" null ∷ []

fault_of_a_command_is_legal : Legal fault_of_a_command_history
fault_of_a_command_is_legal = (tt, stands refl refl tt)

fault_of_a_command :
    Transcript 1 Idle [] (requests ("SET a 1" ∷ "PING" ∷ "GET a" ∷ []))
    (reverse (subhistory fault_of_a_command_history 1))
    (line_reply (Faulty DeviceFault) ∷ line_reply Pong ∷ Single null ∷ [])
fault_of_a_command = inr (DeviceFault, refl, (refl, inl (refl, (refl, refl))))

-- no request is answered after QUIT
nothing_after_quit : ¬ Transcript 1 Idle [] (requests ("QUIT" ∷ "PING" ∷ [])) [] (ok ∷ line_reply Pong ∷ [])
nothing_after_quit goes = goes.1

-- a reply for each request, and none more
no_reply_too_few : ¬ Transcript 1 Idle [] (requests ("PING" ∷ "PING" ∷ [])) [] (line_reply Pong ∷ [])
no_reply_too_few goes = goes.1
