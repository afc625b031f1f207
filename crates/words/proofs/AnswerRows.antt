-- Computed rows of what commands answer, run one after another on the empty store, and of what they write.
use Rattle.std.specs.Prelude.{◌≡◌, List, [], ◌∷◌, ◌++◌, Some, None, refl, codes, replicate}
use Rattle.std.specs.Fmt.{digits}
use Rattle.words.specs.declared.command.Command.{Command}
use Rattle.words.specs.declared.command.Command.TheVariants.{Set, Append, SetRange}
use Rattle.words.specs.declared.command.When.TheVariants.{Always}
use Rattle.words.specs.Store.{Store, Write, weight}
use Rattle.words.specs.Spelling.{header, bulk_string}
use Rattle.words.specs.Encoding.{item_encoding, command_reply_encoding, encoding, encodings}
use Rattle.words.specs.Commands.{command_of}
use Rattle.words.specs.Answers.{answer}
use Rattle.words.proofs.Rows.{commands, wrote, said, left, kept}

-- PING and ECHO

ping : said ("PING" ∷ "PING hi" ∷ "ECHO hi" ∷ "ECHO " ∷ []) ≡ codes "+PONG\r\n$2\r\nhi\r\n$2\r\nhi\r\n$0\r\n\r\n"
unfolding encodings encoding command_reply_encoding item_encoding bulk_string header digits
ping = refl

-- GET, SET, SETNX, GETSET, GETDEL

set_then_get : said ("GET a" ∷ "SET a 1" ∷ "GET a" ∷ "GET b" ∷ []) ≡ codes "$-1\r\n+OK\r\n$1\r\n1\r\n$-1\r\n"
unfolding encodings encoding command_reply_encoding item_encoding bulk_string header digits
set_then_get = refl

options_at_a_missing_key : said ("GET m" ∷ "SET m v XX" ∷ "SET m v NX XX" ∷ "GET m" ∷ []) ≡ codes "$-1\r\n$-1\r\n-ERR syntax error\r\n$-1\r\n"
unfolding encodings encoding command_reply_encoding item_encoding bulk_string header digits
options_at_a_missing_key = refl

options_at_a_present_key : said ("SET k v" ∷ "SET k w NX" ∷ "GET k" ∷ "SET k x XX" ∷ "GET k" ∷ []) ≡ codes "+OK\r\n$-1\r\n$1\r\nv\r\n+OK\r\n$1\r\nx\r\n"
unfolding encodings encoding command_reply_encoding item_encoding bulk_string header digits
options_at_a_present_key = refl

names_and_options_in_any_case : said ("gEt k" ∷ "SET k v nx" ∷ "SET k w Xx" ∷ "GETDEL k" ∷ "GETSET k u" ∷ []) ≡ codes "$-1\r\n+OK\r\n+OK\r\n$1\r\nw\r\n$-1\r\n"
unfolding encodings encoding command_reply_encoding item_encoding bulk_string header digits
names_and_options_in_any_case = refl

set_nx : said ("SETNX k v" ∷ "SETNX k w" ∷ "GET k" ∷ []) ≡ codes ":1\r\n:0\r\n$1\r\nv\r\n"
unfolding encodings encoding command_reply_encoding item_encoding bulk_string header digits
set_nx = refl

get_set_and_get_del : said ("GETSET k v" ∷ "GETSET k w" ∷ "GETDEL k" ∷ "GETDEL k" ∷ "GET k" ∷ []) ≡ codes "$-1\r\n$1\r\nv\r\n$1\r\nw\r\n$-1\r\n$-1\r\n"
unfolding encodings encoding command_reply_encoding item_encoding bulk_string header digits
get_set_and_get_del = refl

-- SET with GET: the old value is answered, whether the new one is set or not.

set_and_get :
    said ("SET a 1 GET" ∷ "SET a 2 get" ∷ "SET a 3 GET NX" ∷ "GET a" ∷ "SET a 4 GET GET" ∷ [])
    ≡ codes "$-1\r\n$1\r\n1\r\n$1\r\n2\r\n$1\r\n2\r\n-ERR syntax error\r\n"
unfolding encodings encoding command_reply_encoding item_encoding bulk_string header digits
set_and_get = refl

set_and_get_at_a_missing_key :
    said ("SET m v XX GET" ∷ "GET m" ∷ "SET m v GET nx" ∷ "GET m" ∷ "SET m w gEt xX" ∷ "GET m" ∷ [])
    ≡ codes "$-1\r\n$-1\r\n$-1\r\n$1\r\nv\r\n$1\r\nv\r\n$1\r\nw\r\n"
unfolding encodings encoding command_reply_encoding item_encoding bulk_string header digits
set_and_get_at_a_missing_key = refl

-- EXISTS, DEL: a key that is named twice

repeated_keys : said ("SET a 1" ∷ "DEL a a" ∷ "SET b 1" ∷ "EXISTS b b" ∷ []) ≡ codes "+OK\r\n:1\r\n+OK\r\n:2\r\n"
unfolding encodings encoding command_reply_encoding item_encoding bulk_string header digits
repeated_keys = refl

some_of_several_keys : said ("MSET a 1 b 2 c 3" ∷ "EXISTS z a z c a" ∷ "DEL z a c a" ∷ "EXISTS a b c" ∷ "GET b" ∷ []) ≡ codes "+OK\r\n:3\r\n:2\r\n:1\r\n$1\r\n2\r\n"
unfolding encodings encoding command_reply_encoding item_encoding bulk_string header digits
some_of_several_keys = refl

-- STRLEN, APPEND

lengths : said ("STRLEN k" ∷ "APPEND k ab" ∷ "APPEND k cde" ∷ "STRLEN k" ∷ "GET k" ∷ "APPEND j " ∷ "EXISTS j" ∷ []) ≡ codes ":0\r\n:2\r\n:5\r\n:5\r\n$5\r\nabcde\r\n:0\r\n:1\r\n"
unfolding encodings encoding command_reply_encoding item_encoding bulk_string header digits
lengths = refl

-- a value of the most bytes, and one more
longest_value :
    wrote (Set (codes "k") (replicate 32767 97) Always ∷ commands ("APPEND k x" ∷ "APPEND k y" ∷ "STRLEN k" ∷ []))
    ≡ codes "+OK\r\n:32768\r\n-ERR string is too long\r\n:32768\r\n"
unfolding encodings encoding command_reply_encoding item_encoding bulk_string header digits
longest_value = refl

longest_value_appended :
    wrote (Append (codes "k") (replicate 32768 97) ∷ commands ("APPEND k " ∷ "APPEND k y" ∷ "STRLEN k" ∷ []))
    ≡ codes ":32768\r\n:32768\r\n-ERR string is too long\r\n:32768\r\n"
unfolding encodings encoding command_reply_encoding item_encoding bulk_string header digits
longest_value_appended = refl

-- SETRANGE

set_range_past_the_end :
    said ("SETRANGE k 5 Hi" ∷ "GET k" ∷ "SETRANGE j 3 " ∷ "EXISTS j" ∷ [])
    ≡ codes ":7\r\n$7\r\n" ++ replicate 5 0 ++ codes "Hi\r\n:0\r\n:0\r\n"
unfolding encodings encoding command_reply_encoding item_encoding bulk_string header digits
set_range_past_the_end = refl

set_range_within : said ("SET k Hello" ∷ "SETRANGE k 1 a" ∷ "GET k" ∷ "SETRANGE k 0 J" ∷ "GET k" ∷ []) ≡ codes "+OK\r\n:5\r\n$5\r\nHallo\r\n:5\r\n$5\r\nJallo\r\n"
unfolding encodings encoding command_reply_encoding item_encoding bulk_string header digits
set_range_within = refl

set_range_over_the_end : said ("SET k Hello" ∷ "SETRANGE k 4 xyz" ∷ "GET k" ∷ "SETRANGE k 7 !" ∷ "GET k" ∷ []) ≡ codes "+OK\r\n:7\r\n$7\r\nHellxyz\r\n:8\r\n$8\r\nHellxyz!\r\n"
unfolding encodings encoding command_reply_encoding item_encoding bulk_string header digits
set_range_over_the_end = refl

set_range_one_past_the_end : said ("SET k ab" ∷ "SETRANGE k 3 c" ∷ "GET k" ∷ []) ≡ codes "+OK\r\n:4\r\n$4\r\nab" ++ (0 ∷ codes "c\r\n")
unfolding encodings encoding command_reply_encoding item_encoding bulk_string header digits
set_range_one_past_the_end = refl

-- no bytes write nothing, whatever the offset
set_range_of_nothing : said ("SET k Hello" ∷ "SETRANGE k 9 " ∷ "SETRANGE k 9223372036854775807 " ∷ "GET k" ∷ []) ≡ codes "+OK\r\n:5\r\n:5\r\n$5\r\nHello\r\n"
unfolding encodings encoding command_reply_encoding item_encoding bulk_string header digits
set_range_of_nothing = refl

set_range_refused :
    said ("SETRANGE k -1 x" ∷ "SETRANGE k z x" ∷ "SETRANGE k 32768 x" ∷ "SETRANGE k 32767 x" ∷ "STRLEN k" ∷ [])
    ≡ codes "-ERR offset is out of range\r\n-ERR value is not an integer or out of range\r\n-ERR string is too long\r\n:32768\r\n:32768\r\n"
unfolding encodings encoding command_reply_encoding item_encoding bulk_string header digits
set_range_refused = refl

set_range_of_two_at_the_end : said ("SETRANGE k 32766 xy" ∷ "SETRANGE k 32767 xy" ∷ "STRLEN k" ∷ "GETRANGE k 32765 32767" ∷ [])
    ≡ codes ":32768\r\n-ERR string is too long\r\n:32768\r\n$3\r\n" ++ (0 ∷ codes "xy\r\n")
unfolding encodings encoding command_reply_encoding item_encoding bulk_string header digits
set_range_of_two_at_the_end = refl

set_range_of_the_most_bytes :
    wrote (SetRange (codes "k") 0 (replicate 32768 97) ∷ SetRange (codes "k") 1 (replicate 32768 98) ∷ commands ("GETRANGE k 32767 32767" ∷ []))
    ≡ codes ":32768\r\n-ERR string is too long\r\n$1\r\na\r\n"
unfolding encodings encoding command_reply_encoding item_encoding bulk_string header digits
set_range_of_the_most_bytes = refl

set_range_at_the_greatest_offset : said ("SETRANGE k 9223372036854775807 x" ∷ "EXISTS k" ∷ []) ≡ codes "-ERR string is too long\r\n:0\r\n"
unfolding encodings encoding command_reply_encoding item_encoding bulk_string header digits
set_range_at_the_greatest_offset = refl

-- GETRANGE

get_range : said ("SET k Hello" ∷ "GETRANGE k 1 -2" ∷ "GETRANGE k 0 -6" ∷ "GETRANGE k -100 100" ∷ []) ≡ codes "+OK\r\n$3\r\nell\r\n$0\r\n\r\n$5\r\nHello\r\n"
unfolding encodings encoding command_reply_encoding item_encoding bulk_string header digits
get_range = refl

-- a start at the first and the last byte, one past the last, and past the end of the range
get_range_by_start :
    said ("SET k Hello" ∷ "GETRANGE k 0 9" ∷ "GETRANGE k 4 9" ∷ "GETRANGE k 5 9" ∷ "GETRANGE k 6 9" ∷ "GETRANGE k 3 2" ∷ [])
    ≡ codes "+OK\r\n$5\r\nHello\r\n$1\r\no\r\n$0\r\n\r\n$0\r\n\r\n$0\r\n\r\n"
unfolding encodings encoding command_reply_encoding item_encoding bulk_string header digits
get_range_by_start = refl

get_range_by_end :
    said ("SET k Hello" ∷ "GETRANGE k 0 0" ∷ "GETRANGE k 0 3" ∷ "GETRANGE k 0 4" ∷ "GETRANGE k 0 5" ∷ "GETRANGE k 2 2" ∷ [])
    ≡ codes "+OK\r\n$1\r\nH\r\n$4\r\nHell\r\n$5\r\nHello\r\n$5\r\nHello\r\n$1\r\nl\r\n"
unfolding encodings encoding command_reply_encoding item_encoding bulk_string header digits
get_range_by_end = refl

get_range_from_the_end :
    said ("SET k Hello" ∷ "GETRANGE k -1 -1" ∷ "GETRANGE k -5 -5" ∷ "GETRANGE k -6 -5" ∷ "GETRANGE k -5 -6" ∷ "GETRANGE k -6 -6" ∷ "GETRANGE k -2 -3" ∷ [])
    ≡ codes "+OK\r\n$1\r\no\r\n$1\r\nH\r\n$1\r\nH\r\n$0\r\n\r\n$0\r\n\r\n$0\r\n\r\n"
unfolding encodings encoding command_reply_encoding item_encoding bulk_string header digits
get_range_from_the_end = refl

get_range_at_the_ends_of_numbers :
    said
    ("SET k Hello" ∷ "GETRANGE k -9223372036854775808 9223372036854775807" ∷ "GETRANGE k 9223372036854775807 9223372036854775807"
    ∷ "GETRANGE k 0 -9223372036854775808" ∷ [])
    ≡ codes "+OK\r\n$5\r\nHello\r\n$0\r\n\r\n$0\r\n\r\n"
unfolding encodings encoding command_reply_encoding item_encoding bulk_string header digits
get_range_at_the_ends_of_numbers = refl

get_range_of_nothing : said ("GETRANGE m 0 -1" ∷ "SET e " ∷ "GETRANGE e 0 0" ∷ "GETRANGE e -1 -1" ∷ []) ≡ codes "$0\r\n\r\n+OK\r\n$0\r\n\r\n$0\r\n\r\n"
unfolding encodings encoding command_reply_encoding item_encoding bulk_string header digits
get_range_of_nothing = refl

-- INCR, DECR, INCRBY, DECRBY

count_up_and_down : said ("INCR n" ∷ "INCRBY n 41" ∷ "DECR n" ∷ "DECRBY n 50" ∷ "GET n" ∷ "DECR m" ∷ []) ≡ codes ":1\r\n:42\r\n:41\r\n:-9\r\n$2\r\n-9\r\n:-1\r\n"
unfolding encodings encoding command_reply_encoding item_encoding bulk_string header digits
count_up_and_down = refl

past_the_greatest :
    said ("SET n 9223372036854775807" ∷ "INCR n" ∷ "GET n" ∷ []) ≡ codes "+OK\r\n-ERR increment or decrement would overflow\r\n$19\r\n9223372036854775807\r\n"
unfolding encodings encoding command_reply_encoding item_encoding bulk_string header digits
past_the_greatest = refl

up_to_the_greatest : said ("SET n 9223372036854775806" ∷ "INCR n" ∷ "INCRBY n 0" ∷ "DECRBY n -1" ∷ "INCRBY n -9223372036854775808" ∷ [])
    ≡ codes "+OK\r\n:9223372036854775807\r\n:9223372036854775807\r\n-ERR increment or decrement would overflow\r\n:-1\r\n"
unfolding encodings encoding command_reply_encoding item_encoding bulk_string header digits
up_to_the_greatest = refl

past_the_least :
    said ("SET n -9223372036854775808" ∷ "DECR n" ∷ "INCRBY n -1" ∷ "GET n" ∷ "INCRBY n 9223372036854775807" ∷ [])
    ≡ codes "+OK\r\n-ERR increment or decrement would overflow\r\n-ERR increment or decrement would overflow\r\n$20\r\n-9223372036854775808\r\n:-1\r\n"
unfolding encodings encoding command_reply_encoding item_encoding bulk_string header digits
past_the_least = refl

down_to_the_least :
    said ("DECRBY n 9223372036854775807" ∷ "DECR n" ∷ "DECR n" ∷ "DECRBY n -9223372036854775808" ∷ [])
    ≡ codes ":-9223372036854775807\r\n:-9223372036854775808\r\n-ERR increment or decrement would overflow\r\n:0\r\n"
unfolding encodings encoding command_reply_encoding item_encoding bulk_string header digits
down_to_the_least = refl

-- DECRBY by the least number, at 0 and at -1
decr_by_the_least :
    said ("DECRBY n -9223372036854775808" ∷ "EXISTS n" ∷ "SET n -1" ∷ "DECRBY n -9223372036854775808" ∷ "INCRBY n 1" ∷ [])
    ≡ codes "-ERR increment or decrement would overflow\r\n:0\r\n+OK\r\n:9223372036854775807\r\n-ERR increment or decrement would overflow\r\n"
unfolding encodings encoding command_reply_encoding item_encoding bulk_string header digits
decr_by_the_least = refl

value_that_is_no_number :
    said ("SET a -0" ∷ "INCR a" ∷ "SET a -1" ∷ "DECRBY a -9223372036854775808" ∷ "GET a" ∷ [])
    ≡ codes "+OK\r\n-ERR value is not an integer or out of range\r\n+OK\r\n:9223372036854775807\r\n$19\r\n9223372036854775807\r\n"
unfolding encodings encoding command_reply_encoding item_encoding bulk_string header digits
value_that_is_no_number = refl

value_out_of_range : said ("SET a 9223372036854775808" ∷ "DECR a" ∷ "GET a" ∷ "SET b " ∷ "INCR b" ∷ [])
    ≡ codes "+OK\r\n-ERR value is not an integer or out of range\r\n$19\r\n9223372036854775808\r\n+OK\r\n-ERR value is not an integer or out of range\r\n"
unfolding encodings encoding command_reply_encoding item_encoding bulk_string header digits
value_out_of_range = refl

-- MGET, MSET, MSETNX

several_keys : said ("MSET a 1 a 2" ∷ "MGET a z" ∷ "MSETNX a 3 y 4" ∷ "EXISTS y" ∷ []) ≡ codes "+OK\r\n*2\r\n$1\r\n2\r\n$-1\r\n:0\r\n:0\r\n"
unfolding encodings encoding command_reply_encoding item_encoding bulk_string header digits
several_keys = refl

m_set_nx_repeated : said ("MSETNX a 1 b 2 a 3" ∷ "MGET a b a" ∷ "MSETNX y 1 y 2 b 3" ∷ "MGET y b" ∷ [])
    ≡ codes ":1\r\n*3\r\n$1\r\n3\r\n$1\r\n2\r\n$1\r\n3\r\n:0\r\n*2\r\n$-1\r\n$1\r\n2\r\n"
unfolding encodings encoding command_reply_encoding item_encoding bulk_string header digits
m_set_nx_repeated = refl

-- RENAME

rename :
    said ("SET a 1" ∷ "RENAME a b" ∷ "MGET a b" ∷ "RENAME a b" ∷ [])
    ≡ codes "+OK\r\n+OK\r\n*2\r\n$-1\r\n$1\r\n1\r\n-ERR no such key\r\n"
unfolding encodings encoding command_reply_encoding item_encoding bulk_string header digits
rename = refl

-- the new name's old value is lost, and a missing key leaves it
rename_over_another :
    said ("MSET a 1 b 2" ∷ "RENAME c b" ∷ "GET b" ∷ "RENAME a b" ∷ "MGET a b" ∷ "EXISTS a b" ∷ [])
    ≡ codes "+OK\r\n-ERR no such key\r\n$1\r\n2\r\n+OK\r\n*2\r\n$-1\r\n$1\r\n1\r\n:1\r\n"
unfolding encodings encoding command_reply_encoding item_encoding bulk_string header digits
rename_over_another = refl

rename_to_itself :
    said ("RENAME a a" ∷ "SET a 1" ∷ "RENAME a a" ∷ "GET a" ∷ "SET e " ∷ "RENAME e a" ∷ "GET a" ∷ [])
    ≡ codes "-ERR no such key\r\n+OK\r\n+OK\r\n$1\r\n1\r\n+OK\r\n+OK\r\n$0\r\n\r\n"
unfolding encodings encoding command_reply_encoding item_encoding bulk_string header digits
rename_to_itself = refl

-- What is refused by its words, and a queued UNWATCH.

refused_by_words : said ("FOO" ∷ "GET" ∷ "SET k v EX" ∷ "INCRBY k x" ∷ "SETRANGE k -1 x" ∷ "UNWATCH" ∷ "EXISTS k" ∷ [])
    ≡ codes "-ERR unknown command\r\n-ERR wrong number of arguments\r\n-ERR syntax error\r\n-ERR value is not an integer or out of range\r\n"
    ++ codes "-ERR offset is out of range\r\n+OK\r\n:0\r\n"
unfolding encodings encoding command_reply_encoding item_encoding bulk_string header digits
refused_by_words = refl

key_too_long : wrote (kept (command_of (codes "GET" ∷ replicate 513 97 ∷ [])) ∷ []) ≡ codes "-ERR key is too long\r\n"
unfolding encodings encoding command_reply_encoding item_encoding bulk_string header digits
key_too_long = refl

-- What commands write: `k` is there with the value 5, and `m` is missing.

abbrev with_k : Store
with_k = left ("SET k 5" ∷ [])

abbrev writes_each : List Command → List (List Write)
writes_each [] = []
writes_each (command ∷ commands) = (answer with_k command).1 ∷ writes_each commands

-- a write with an equal value is a write
equal_values :
    writes_each (commands ("SET k 5" ∷ "GETSET k 5" ∷ "APPEND k " ∷ "SETRANGE k 0 5" ∷ "INCRBY k 0" ∷ "MSET k 5" ∷ []))
    ≡ replicate 6 ((codes "k", Some (codes "5")) ∷ [])
unfolding digits
equal_values = refl

-- readers, what is not done, what is refused, and the deletion of a missing key write nothing
nothing_written :
    writes_each
    (commands
    ("GET k" ∷ "STRLEN k" ∷ "EXISTS k" ∷ "GETRANGE k 0 1" ∷ "MGET k m" ∷ "SET k v NX" ∷ "SET m v XX" ∷ "SETNX k v" ∷ "GETDEL m" ∷ "DEL m"
    ∷ "MSETNX m 1 k 2" ∷ "SETRANGE k 3 " ∷ "SETRANGE k 32768 x" ∷ "INCRBY k 9223372036854775807" ∷ "INCRBY k x" ∷ "PING" ∷ "ECHO k" ∷ "FOO"
    ∷ "SET k v EX" ∷ "UNWATCH" ∷ "SET k v NX GET" ∷ "SET m v GET XX" ∷ "RENAME m k" ∷ "RENAME m m" ∷ "RENAME k k" ∷ []))
    ≡ replicate 25 []
unfolding digits
nothing_written = refl

-- each key that is there is deleted once
deletions_written : writes_each (commands ("DEL m k k" ∷ "GETDEL k" ∷ [])) ≡ replicate 2 ((codes "k", None) ∷ [])
deletions_written = refl

-- a renamed key is deleted, and its new name written
renamed_written : writes_each (commands ("RENAME k m" ∷ [])) ≡ ((codes "k", None) ∷ (codes "m", Some (codes "5")) ∷ []) ∷ []
renamed_written = refl

set_and_get_written : writes_each (commands ("SET k v GET" ∷ "SET k v XX GET" ∷ [])) ≡ replicate 2 ((codes "k", Some (codes "v")) ∷ [])
set_and_get_written = refl

-- settings are written in order
settings_written :
    writes_each (commands ("MSET k 1 m 2 k 3" ∷ "MSETNX m 1 m 2" ∷ []))
    ≡ ((codes "k", Some (codes "1")) ∷ (codes "m", Some (codes "2")) ∷ (codes "k", Some (codes "3")) ∷ [])
    ∷ ((codes "m", Some (codes "1")) ∷ (codes "m", Some (codes "2")) ∷ []) ∷ []
settings_written = refl

created : writes_each (commands ("APPEND m " ∷ "INCR m" ∷ "SETNX m v" ∷ "SET m v NX" ∷ "GETSET m v" ∷ "SETRANGE m 1 v" ∷ []))
    ≡ ((codes "m", Some []) ∷ []) ∷ ((codes "m", Some (codes "1")) ∷ []) ∷ ((codes "m", Some (codes "v")) ∷ [])
    ∷ ((codes "m", Some (codes "v")) ∷ []) ∷ ((codes "m", Some (codes "v")) ∷ []) ∷ ((codes "m", Some (0 ∷ codes "v")) ∷ []) ∷ []
unfolding digits
created = refl

-- The weight of writes: 48, the key and the value for each key; of several writes to one key the last counts, and a deletion has no value.

weight_of_one : weight ((codes "ab", Some (codes "xyz")) ∷ []) ≡ 53
weight_of_one = refl

weight_of_repeated : weight ((codes "a", Some (codes "xyz")) ∷ (codes "b", None) ∷ (codes "a", Some (codes "x")) ∷ []) ≡ 99
weight_of_repeated = refl

weight_of_deleted : weight ((codes "a", Some (codes "xyz")) ∷ (codes "a", None) ∷ []) ≡ 49
weight_of_deleted = refl

weight_of_nothing : weight [] ≡ 0
weight_of_nothing = refl
