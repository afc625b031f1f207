-- What a command answers on a store, and what it writes. (Redis command pages.)
use Rattle.std.specs.Prelude.{ℕ, suc, ℤ, pos, negsuc, ◌+ℤ◌, ◌-ℤ◌, ◌+◌, ◌-◌, Bool, true, false, ◌||◌, List, [], ◌∷◌, length, ◌++◌, take, drop, replicate, nat_lt, Option, Some, None, unwrap_or, if◌then◌else◌}
use Rattle.std.specs.Fmt.{signed_decimal}
use Rattle.std.specs.Map.{update}
use Rattle.std.specs.Str.{bytes_eq}
use Rattle.words.specs.declared.limits.TheConstants.{VALUE_BYTES_MAX}
use Rattle.words.specs.declared.command.Command.{Command}
use Rattle.words.specs.declared.command.Command.TheVariants.{Ping, Echo, Get, Set, SetGet, SetNx, GetSet, GetDel, StrLen, Exists, Del, Append, SetRange, GetRange, Add, Subtract, MGet, MSet, MSetNx, Rename, Session, Bad}
use Rattle.words.specs.declared.command.When.{When}
use Rattle.words.specs.declared.command.When.TheVariants.{Always, IfMissing, IfPresent}
use Rattle.words.specs.declared.reply.Refusal.{Refusal}
use Rattle.words.specs.declared.reply.Refusal.TheVariants.{NotAnInteger, Overflow, StringTooLong, NoSuchKey}
use Rattle.words.specs.declared.reply.Line.{Line}
use Rattle.words.specs.declared.reply.Line.TheVariants.{Done, Pong, Refused}
use Rattle.words.specs.declared.reply.Item.{Item}
use Rattle.words.specs.declared.reply.Item.TheVariants as item
use Rattle.words.specs.declared.reply.CommandReply.{CommandReply}
use Rattle.words.specs.declared.reply.CommandReply.TheVariants.{One, Array}
use Rattle.words.specs.Store.{Bytes, Store, Write, written}
use Rattle.words.specs.Numbers.{number_of, in_range}

-- The answer of a command: its reply, and what it writes. A write is one also where the value is the one that the key has.
abbrev pub Answer : Type 0
Answer = CommandReply × List Write

-- the reply of a line
abbrev pub line : Line → CommandReply
line l = One (item.Line l)

-- the reply of a natural number
abbrev pub number : ℕ → CommandReply
number n = One (item.Integer (pos n))

-- a value as an item: a bulk string, or the null bulk string where there is none
abbrev pub item_of : Option Bytes → Item
item_of None = item.Null
item_of (Some value) = item.Bulk value

-- the same as a reply
abbrev pub bulk : Option Bytes → CommandReply
bulk value = One (item_of value)

-- a command that is refused, and writes nothing
abbrev pub refused : Refusal → Answer
refused refusal = (line (Refused refusal), [])

-- whether there is a value
abbrev pub is_some : Option Bytes → Bool
is_some None = false
is_some (Some value) = true

-- whether a SET is done where its key has this value
abbrev pub allows : When → Option Bytes → Bool
allows Always value = true
allows IfMissing None = true
allows IfMissing (Some value) = false
allows IfPresent None = false
allows IfPresent (Some value) = true

-- settings, as writes
abbrev pub writes_set : List (Bytes × Bytes) → List Write
writes_set [] = []
writes_set (setting ∷ settings) = (setting.0, Some setting.1) ∷ writes_set settings

-- whether one of the settings' keys is there
abbrev pub any_there : Store → List (Bytes × Bytes) → Bool
any_there store [] = false
any_there store (setting ∷ settings) = is_some (store setting.0) || any_there store settings

-- how many of the keys are there, one that is named twice counting twice
abbrev pub count_there : Store → List Bytes → ℕ
count_there store [] = 0
count_there store (key ∷ keys) = (if is_some (store key) then 1 else 0) + count_there store keys

-- the deletions of the keys that are there, each once
abbrev pub deletions : Store → List Bytes → List Write
deletions store [] = []
deletions store (key ∷ keys) =
    if is_some (store key) then (key, None) ∷ deletions (update bytes_eq store key None) keys else deletions store keys

-- the values of keys, as items
abbrev pub items_of : Store → List Bytes → List Item
items_of store [] = []
items_of store (key ∷ keys) = item_of (store key) ∷ items_of store keys

-- the value of a key, where a missing one counts as empty
abbrev pub value_of : Option Bytes → Bytes
value_of value = unwrap_or value []

-- a new value for the key, whose length is answered; refused where it is longer than a value may be
abbrev pub grown : Bytes → Bytes → Answer
grown key value =
    if nat_lt VALUE_BYTES_MAX (length value) then refused StringTooLong else (number (length value), (key, Some value) ∷ [])

-- a value with these bytes from an offset on, zero bytes between its end and the offset
abbrev pub overlaid : Bytes → ℕ → Bytes → Bytes
overlaid old offset bytes =
    take offset old ++ (replicate (offset - length old) 0 ++ (bytes ++ drop (offset + length bytes) old))

-- SETRANGE: no bytes write nothing, whatever the offset
abbrev pub set_range_answer : Bytes → Bytes → ℕ → Bytes → Answer
set_range_answer key old offset [] = (number (length old), [])
set_range_answer key old offset (byte ∷ bytes) =
    if nat_lt VALUE_BYTES_MAX (offset + length (byte ∷ bytes)) then refused StringTooLong
    else (let value = overlaid old offset (byte ∷ bytes) in (number (length value), (key, Some value) ∷ []))

-- the place of a range's first byte in so many bytes: from the end on where it is negative, and never below 0
abbrev pub first_of : ℕ → ℤ → ℕ
first_of size (pos n) = n
first_of size (negsuc n) = size - suc n

-- the place after a range's last byte in so many bytes, in the same way
abbrev pub past_of : ℤ → ℕ → ℕ
past_of (pos n) size = suc n
past_of (negsuc n) size = size - n

-- the bytes of a value from a start to an end, both within; none where the start is past the end
abbrev pub range_of : Bytes → (start end : ℤ) → Bytes
range_of value start end = drop (first_of (length value) start) (take (past_of end (length value)) value)

-- the number that a key's value is, 0 where it is missing
abbrev pub number_at : Option Bytes → Option ℤ
number_at None = Some (pos 0)
number_at (Some text) = number_of text

-- the key gets this number; refused where it is out of range
abbrev pub counted : Bytes → ℤ → Answer
counted key n = if in_range n then (One (item.Integer n), (key, Some (signed_decimal n)) ∷ []) else refused Overflow

-- the number of a key is changed; refused where its value is no number
abbrev pub changed : Bytes → Option ℤ → (ℤ → ℤ) → Answer
changed key None change = refused NotAnInteger
changed key (Some n) change = counted key (change n)

-- RENAME of a key that has this value: the value moves to the new name, whose old value is lost. A missing key is refused; a key that has the
-- new name already stays as it is.
abbrev pub renamed : (key name : Bytes) → Option Bytes → Answer
renamed key name value =
    if is_some value then (line Done, if bytes_eq key name then [] else (key, None) ∷ (name, value) ∷ []) else refused NoSuchKey

-- What a command answers on a store, and what it writes. A queued UNWATCH is done; the other commands of the session are not run.
abbrev pub answer : Store → Command → Answer
answer store (Ping None) = (line Pong, [])
answer store (Ping (Some text)) = (One (item.Bulk text), [])
answer store (Echo text) = (One (item.Bulk text), [])
answer store (Get key) = (bulk (store key), [])
answer store (Set key value when) = if allows when (store key) then (line Done, (key, Some value) ∷ []) else (bulk None, [])
answer store (SetGet key value when) = (bulk (store key), if allows when (store key) then (key, Some value) ∷ [] else [])
answer store (SetNx key value) = if is_some (store key) then (number 0, []) else (number 1, (key, Some value) ∷ [])
answer store (GetSet key value) = (bulk (store key), (key, Some value) ∷ [])
answer store (GetDel key) = (bulk (store key), if is_some (store key) then (key, None) ∷ [] else [])
answer store (StrLen key) = (number (length (value_of (store key))), [])
answer store (Exists keys) = (number (count_there store keys), [])
answer store (Del keys) = let writes = deletions store keys in (number (length writes), writes)
answer store (Append key value) = grown key (value_of (store key) ++ value)
answer store (SetRange key offset value) = set_range_answer key (value_of (store key)) offset value
answer store (GetRange key start end) = (One (item.Bulk (range_of (value_of (store key)) start end)), [])
answer store (Add key n) = changed key (number_at (store key)) (λ old. old +ℤ n)
answer store (Subtract key n) = changed key (number_at (store key)) (λ old. old -ℤ n)
answer store (MGet keys) = (Array (items_of store keys), [])
answer store (MSet settings) = (line Done, writes_set settings)
answer store (MSetNx settings) = if any_there store settings then (number 0, []) else (number 1, writes_set settings)
answer store (Rename key name) = renamed key name (store key)
answer store (Session command) = (line Done, [])
answer store (Bad refusal) = refused refusal

-- what commands answer that run one after another, and all that they write
abbrev pub answers : Store → List Command → List CommandReply × List Write
answers store [] = ([], [])
answers store (command ∷ commands) =
    let first = answer store command in
    let others = answers (written store first.1) commands in
    (first.0 ∷ others.0, first.1 ++ others.1)
