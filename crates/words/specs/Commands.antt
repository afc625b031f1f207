-- Which command the words of a request are. (Redis command pages; which words are refused, and in which order, is this project's own.)
use Rattle.std.specs.Prelude.{ℤ, pos, negsuc, ◌≤◌, Bool, true, false, ◌||◌, List, [], ◌∷◌, length, ◌++◌, nat_lt, Option, Some, None, option_map, Result, Ok, Err, if◌then◌else◌, codes}
use Rattle.std.specs.Str.{str_eq_ignore_ascii_case}
use Rattle.words.specs.declared.limits.TheConstants.{KEY_BYTES_MAX}
use Rattle.words.specs.declared.word.TheConstants.{WORD_INLINE}
use Rattle.words.specs.declared.command.Command.{Command}
use Rattle.words.specs.declared.command.Command.TheVariants.{Ping, Echo, Get, Set, SetGet, SetNx, GetSet, GetDel, StrLen, Exists, Del, Append, SetRange, GetRange, Add, Subtract, MGet, MSet, MSetNx, Rename, Session, Bad}
use Rattle.words.specs.declared.command.When.{When}
use Rattle.words.specs.declared.command.When.TheVariants.{Always, IfMissing, IfPresent}
use Rattle.words.specs.declared.command.SessionCommand.{SessionCommand}
use Rattle.words.specs.declared.command.SessionCommand.TheVariants.{Multi, Exec, Discard, Watch, Unwatch, Quit}
use Rattle.words.specs.declared.reply.Refusal.{Refusal}
use Rattle.words.specs.declared.reply.Refusal.TheVariants.{UnknownCommand, WrongArity, Syntax, NotAnInteger, OffsetOutOfRange, KeyTooLong}
use Rattle.words.specs.Store.{Bytes}
use Rattle.words.specs.Numbers.{number_of}

-- whether a word is a name, without regard to ASCII case
abbrev pub is_name : Bytes → Bytes → Bool
is_name name word = str_eq_ignore_ascii_case name word

-- whether a key has more bytes than a key may have
abbrev pub is_long : Bytes → Bool
is_long key = nat_lt KEY_BYTES_MAX (length key)

-- whether one of these keys has
abbrev pub any_long : List Bytes → Bool
any_long [] = false
any_long (key ∷ keys) = is_long key || any_long keys

-- A command of a key: a key that is too long is refused before all else that the words show, but for their number.
abbrev pub of_key : Bytes → Command → Result Command Refusal
of_key key command = Ok (if is_long key then Bad KeyTooLong else command)

-- a command of several keys, in the same way
abbrev pub of_keys : List Bytes → Command → Result Command Refusal
of_keys keys command = Ok (if any_long keys then Bad KeyTooLong else command)

-- a command of a number that its words have
abbrev pub with_number : Option ℤ → (ℤ → Command) → Command
with_number None make = Bad NotAnInteger
with_number (Some n) make = make n

-- The shapes of the words after a command's name. One of another length is refused at once. What else the words show is kept as `Bad`:
-- first a key that is too long, then option words, then a number that is none, then an offset below 0.

-- nothing
abbrev pub alone : SessionCommand → List Bytes → Result Command Refusal
alone command [] = Ok (Session command)
alone command (word ∷ words) = Err WrongArity

-- [text]
abbrev pub optional_text : (Option Bytes → Command) → List Bytes → Result Command Refusal
optional_text make [] = Ok (make None)
optional_text make (text ∷ []) = Ok (make (Some text))
optional_text make (text ∷ word ∷ words) = Err WrongArity

-- text
abbrev pub one_text : (Bytes → Command) → List Bytes → Result Command Refusal
one_text make [] = Err WrongArity
one_text make (text ∷ []) = Ok (make text)
one_text make (text ∷ word ∷ words) = Err WrongArity

-- key
abbrev pub one_key : (Bytes → Command) → List Bytes → Result Command Refusal
one_key make [] = Err WrongArity
one_key make (key ∷ []) = of_key key (make key)
one_key make (key ∷ word ∷ words) = Err WrongArity

-- key value
abbrev pub key_and_value : (Bytes → Bytes → Command) → List Bytes → Result Command Refusal
key_and_value make [] = Err WrongArity
key_and_value make (key ∷ []) = Err WrongArity
key_and_value make (key ∷ value ∷ []) = of_key key (make key value)
key_and_value make (key ∷ value ∷ word ∷ words) = Err WrongArity

-- when a SET is done that one of NX and XX says, where no other word says it
abbrev pub once : When → When → Option When
once when Always = Some when
once when IfMissing = None
once when IfPresent = None

-- one option word more: GET, where the old value is not asked for yet, and NX or XX, where neither stands among the others
abbrev pub with_option : Bytes → When × Bool → Option (When × Bool)
with_option option others =
    if is_name (codes "GET") option then (if others.1 then None else Some (others.0, true))
    else (
    if is_name (codes "NX") option then option_map (λ when. (when, others.1)) (once IfMissing others.0)
    else (if is_name (codes "XX") option then option_map (λ when. (when, others.1)) (once IfPresent others.0) else None)
    )

abbrev pub with_first : Bytes → Option (When × Bool) → Option (When × Bool)
with_first option None = None
with_first option (Some others) = with_option option others

-- What the option words of a SET ask for: when it is done, and whether it answers the old value. They are GET and at most one of NX and XX,
-- in any order, and none of them stands twice.
abbrev pub options_of : List Bytes → Option (When × Bool)
options_of [] = Some (Always, false)
options_of (option ∷ options) = with_first option (options_of options)

-- a SET with these options, if they are ones that it takes
abbrev pub set_with : Bytes → Bytes → Option (When × Bool) → Command
set_with key value None = Bad Syntax
set_with key value (Some options) = if options.1 then SetGet key value options.0 else Set key value options.0

-- key value [option ..]
abbrev pub key_value_options : List Bytes → Result Command Refusal
key_value_options [] = Err WrongArity
key_value_options (key ∷ []) = Err WrongArity
key_value_options (key ∷ value ∷ options) = of_key key (set_with key value (options_of options))

-- key number
abbrev pub key_and_number : (Bytes → ℤ → Command) → List Bytes → Result Command Refusal
key_and_number make [] = Err WrongArity
key_and_number make (key ∷ []) = Err WrongArity
key_and_number make (key ∷ number ∷ []) = of_key key (with_number (number_of number) (make key))
key_and_number make (key ∷ number ∷ word ∷ words) = Err WrongArity

-- a SETRANGE at this offset
abbrev pub set_range : Bytes → Bytes → ℤ → Command
set_range key value (pos offset) = SetRange key offset value
set_range key value (negsuc n) = Bad OffsetOutOfRange

-- key offset value
abbrev pub key_offset_value : List Bytes → Result Command Refusal
key_offset_value [] = Err WrongArity
key_offset_value (key ∷ []) = Err WrongArity
key_offset_value (key ∷ offset ∷ []) = Err WrongArity
key_offset_value (key ∷ offset ∷ value ∷ []) = of_key key (with_number (number_of offset) (set_range key value))
key_offset_value (key ∷ offset ∷ value ∷ word ∷ words) = Err WrongArity

-- key start end
abbrev pub key_start_end : List Bytes → Result Command Refusal
key_start_end [] = Err WrongArity
key_start_end (key ∷ []) = Err WrongArity
key_start_end (key ∷ start ∷ []) = Err WrongArity
key_start_end (key ∷ start ∷ end ∷ []) =
    of_key key (with_number (number_of start) (λ from. with_number (number_of end) (λ to. GetRange key from to)))
key_start_end (key ∷ start ∷ end ∷ word ∷ words) = Err WrongArity

-- key newkey
abbrev pub two_keys : (Bytes → Bytes → Command) → List Bytes → Result Command Refusal
two_keys make [] = Err WrongArity
two_keys make (key ∷ []) = Err WrongArity
two_keys make (key ∷ name ∷ []) = of_keys (key ∷ name ∷ []) (make key name)
two_keys make (key ∷ name ∷ word ∷ words) = Err WrongArity

-- key [key ..]
abbrev pub some_keys : (List Bytes → Command) → List Bytes → Result Command Refusal
some_keys make [] = Err WrongArity
some_keys make (key ∷ keys) = of_keys (key ∷ keys) (make (key ∷ keys))

-- key [key ..] of WATCH, which the session refuses where a key is too long
abbrev pub watched_keys : List Bytes → Result Command Refusal
watched_keys [] = Err WrongArity
watched_keys (key ∷ keys) = Ok (Session (Watch (key ∷ keys)))

-- words in pairs, if their number is even
abbrev pub in_pairs : List Bytes → Option (List (Bytes × Bytes))
in_pairs [] = Some []
in_pairs (key ∷ []) = None
in_pairs (key ∷ value ∷ words) = option_map (λ settings. (key, value) ∷ settings) (in_pairs words)

-- the keys of settings
abbrev pub keys_set : List (Bytes × Bytes) → List Bytes
keys_set [] = []
keys_set (setting ∷ settings) = setting.0 ∷ keys_set settings

abbrev pub of_settings : (List (Bytes × Bytes) → Command) → Option (List (Bytes × Bytes)) → Result Command Refusal
of_settings make None = Err WrongArity
of_settings make (Some settings) = of_keys (keys_set settings) (make settings)

-- key value [key value ..]
abbrev pub some_settings : (List (Bytes × Bytes) → Command) → List Bytes → Result Command Refusal
some_settings make [] = Err WrongArity
some_settings make (key ∷ words) = of_settings make (in_pairs (key ∷ words))

-- a row of the command table: the command's name, and what the words after it make
abbrev pub Row : Type 0
Row = Bytes × (List Bytes → Result Command Refusal)

-- INCR and DECR go by one
abbrev pub by_one : (Bytes → ℤ → Command) → Bytes → Command
by_one make key = make key (pos 1)

-- The command table: commands of one key, commands of numbers and of several keys, commands that name no key, and those of the session.
abbrev pub readers : List Row → List Row
readers rows =
    (codes "GET", one_key Get) ∷ (codes "SET", key_value_options) ∷ (codes "SETNX", key_and_value SetNx) ∷ (codes "GETSET", key_and_value GetSet)
    ∷ (codes "GETDEL", one_key GetDel) ∷ (codes "STRLEN", one_key StrLen) ∷ (codes "EXISTS", some_keys Exists) ∷ (codes "DEL", some_keys Del)
    ∷ (codes "APPEND", key_and_value Append) ∷ (codes "SETRANGE", key_offset_value) ∷ (codes "GETRANGE", key_start_end) ∷ rows

abbrev pub session_commands : List Row
session_commands =
    (codes "PING", optional_text Ping) ∷ (codes "ECHO", one_text Echo)
    ∷ (codes "MULTI", alone Multi) ∷ (codes "EXEC", alone Exec) ∷ (codes "DISCARD", alone Discard) ∷ (codes "WATCH", watched_keys)
    ∷ (codes "UNWATCH", alone Unwatch) ∷ (codes "QUIT", alone Quit) ∷ []

abbrev pub counters : List Row
counters =
    (codes "INCR", one_key (by_one Add)) ∷ (codes "DECR", one_key (by_one Subtract)) ∷ (codes "INCRBY", key_and_number Add)
    ∷ (codes "DECRBY", key_and_number Subtract) ∷ (codes "MGET", some_keys MGet) ∷ (codes "MSET", some_settings MSet)
    ∷ (codes "MSETNX", some_settings MSetNx) ∷ (codes "RENAME", two_keys Rename) ∷ session_commands

abbrev pub table : List Row
table = readers counters

-- the command of the first of these rows with this name
abbrev pub command_in : List Row → Bytes → List Bytes → Result Command Refusal
command_in [] name words = Err UnknownCommand
command_in (row ∷ rows) name words = if is_name row.0 name then row.1 words else command_in rows name words

-- the command that a request is, or why it is none
abbrev pub command_of : List Bytes → Result Command Refusal
command_of [] = Err UnknownCommand
command_of (name ∷ words) = command_in table name words

-- whether the command reads or writes keys, and so has a place in the history where it runs alone
abbrev pub touches_keys : Command → Bool
touches_keys (Ping text) = false
touches_keys (Echo text) = false
touches_keys (Session command) = false
touches_keys (Bad refusal) = false
touches_keys _ = true

-- whether the reply of a command that touches no key holds a text of the request, and so may want memory
abbrev pub holds_text : Command → Bool
holds_text (Ping (Some text)) = true
holds_text (Echo text) = true
holds_text _ = false

-- the keys that a command names
abbrev pub keys_of : Command → List Bytes
keys_of (Ping text) = []
keys_of (Echo text) = []
keys_of (Get key) = key ∷ []
keys_of (Set key value when) = key ∷ []
keys_of (SetGet key value when) = key ∷ []
keys_of (SetNx key value) = key ∷ []
keys_of (GetSet key value) = key ∷ []
keys_of (GetDel key) = key ∷ []
keys_of (StrLen key) = key ∷ []
keys_of (Exists keys) = keys
keys_of (Del keys) = keys
keys_of (Append key value) = key ∷ []
keys_of (SetRange key offset value) = key ∷ []
keys_of (GetRange key start end) = key ∷ []
keys_of (Add key n) = key ∷ []
keys_of (Subtract key n) = key ∷ []
keys_of (MGet keys) = keys
keys_of (MSet settings) = keys_set settings
keys_of (MSetNx settings) = keys_set settings
keys_of (Rename key name) = key ∷ name ∷ []
keys_of (Session command) = []
keys_of (Bad refusal) = []

-- the keys that commands name
abbrev pub keys_of_all : List Command → List Bytes
keys_of_all [] = []
keys_of_all (command ∷ commands) = keys_of command ++ keys_of_all commands

-- a command that may stand in a transaction: of those of the session UNWATCH alone
abbrev pub MayBeQueued : Command → Type 0
MayBeQueued (Session Unwatch) = Unit {0}
MayBeQueued (Session _) = ⊥
MayBeQueued _ = Unit {0}

-- a word that is held without an allocation
abbrev pub IsInline : Bytes → Type 0
IsInline word = length word ≤ WORD_INLINE

-- What is made of the words of a request asks for no memory: it keeps no word of them that is longer than is held without an allocation,
-- and no list of words.
abbrev pub AsksNoMemory : Result Command Refusal → Type 0
AsksNoMemory (Err refusal) = Unit {0}
AsksNoMemory (Ok (Ping None)) = Unit {0}
AsksNoMemory (Ok (Ping (Some text))) = IsInline text
AsksNoMemory (Ok (Echo text)) = IsInline text
AsksNoMemory (Ok (Get key)) = IsInline key
AsksNoMemory (Ok (Set key value when)) = IsInline key × IsInline value
AsksNoMemory (Ok (SetGet key value when)) = IsInline key × IsInline value
AsksNoMemory (Ok (SetNx key value)) = IsInline key × IsInline value
AsksNoMemory (Ok (GetSet key value)) = IsInline key × IsInline value
AsksNoMemory (Ok (GetDel key)) = IsInline key
AsksNoMemory (Ok (StrLen key)) = IsInline key
AsksNoMemory (Ok (Exists keys)) = ⊥
AsksNoMemory (Ok (Del keys)) = ⊥
AsksNoMemory (Ok (Append key value)) = IsInline key × IsInline value
AsksNoMemory (Ok (SetRange key offset value)) = IsInline key × IsInline value
AsksNoMemory (Ok (GetRange key start end)) = IsInline key
AsksNoMemory (Ok (Add key n)) = IsInline key
AsksNoMemory (Ok (Subtract key n)) = IsInline key
AsksNoMemory (Ok (MGet keys)) = ⊥
AsksNoMemory (Ok (MSet settings)) = ⊥
AsksNoMemory (Ok (MSetNx settings)) = ⊥
AsksNoMemory (Ok (Rename key name)) = IsInline key × IsInline name
AsksNoMemory (Ok (Session (Watch keys))) = ⊥
AsksNoMemory (Ok (Session _)) = Unit {0}
AsksNoMemory (Ok (Bad refusal)) = Unit {0}
