-- The requests that are asked most, by their words: a GET, an MGET, a SET without an option, an MSET, other commands of one key, and a
-- PING without a text.
use Rattle.std.specs.Prelude.{ℤ, pos, ◌≡◌, ◌≤◌, Bool, true, false, not, ◌&&◌, List, [], ◌∷◌, length, Option, None, Some, Ok, if◌then◌else◌, codes}
use Rattle.words.specs.declared.command.Brief.{Brief}
use Rattle.words.specs.declared.command.Brief.TheVariants as brief
use Rattle.words.specs.declared.command.Count.{Count}
use Rattle.words.specs.declared.command.Count.TheVariants as count
use Rattle.words.specs.declared.command.Verb.{Verb}
use Rattle.words.specs.declared.command.Verb.TheVariants as verb
use Rattle.words.specs.declared.command.Command.{Command}
use Rattle.words.specs.declared.command.Command.TheVariants.{Get, GetDel, StrLen, Exists, Del, MGet, MSet, Set, SetNx, GetSet, Append, Ping, Add, Subtract}
use Rattle.words.specs.declared.command.When.TheVariants.{Always}
use Rattle.words.specs.Store.{Bytes}
use Rattle.words.specs.Commands.{any_long, command_of, is_name, is_long}
use Rattle.words.specs.Numbers.{number_of}

-- the command that changes the number of a key by so much
abbrev pub counting : Count → Bytes → Command
counting (count.Add n) key = Add key n
counting (count.Subtract n) key = Subtract key n

-- the command that does so to a key; it looks at the value only where it takes one
abbrev pub commanded : Verb → (key value : Bytes) → Command
commanded (verb.Count by) key value = counting by key
commanded verb.SetNx key value = SetNx key value
commanded verb.GetSet key value = GetSet key value
commanded verb.Append key value = Append key value
commanded verb.GetDel key value = GetDel key
commanded verb.StrLen key value = StrLen key
commanded verb.Exists key value = Exists (key ∷ [])
commanded verb.Del key value = Del (key ∷ [])

-- the last of a word and these
abbrev pub last_of : Bytes → List Bytes → Bytes
last_of word [] = word
last_of word (next ∷ words) = last_of next words

-- words as keys, each with the value behind it; a last one that has none is left out
abbrev pub pairs_of : List Bytes → List (Bytes × Bytes)
pairs_of [] = []
pairs_of (key ∷ []) = []
pairs_of (key ∷ value ∷ words) = (key, value) ∷ pairs_of words

-- whether words are keys that are not too long, each with its value behind it
abbrev pub are_settings : List Bytes → Bool
are_settings [] = true
are_settings (key ∷ []) = false
are_settings (key ∷ value ∷ words) = not (is_long key) && are_settings words

-- which of them the words of a request are that has this name and a key, and is no GET
abbrev pub verb_of_key : Bytes → Brief
verb_of_key name =
    if is_name (codes "INCR") name then brief.One (verb.Count (count.Add (pos 1)))
    else (
    if is_name (codes "DECR") name then brief.One (verb.Count (count.Subtract (pos 1)))
    else (
    if is_name (codes "DEL") name then brief.One verb.Del
    else (
    if is_name (codes "EXISTS") name then brief.One verb.Exists
    else (
    if is_name (codes "STRLEN") name then brief.One verb.StrLen
    else (if is_name (codes "GETDEL") name then brief.One verb.GetDel else (if is_name (codes "MGET") name then brief.Values else brief.Other))
    )
    )
    )
    )

-- the same of any name and a key
abbrev pub brief_of_key : Bytes → Brief
brief_of_key name = if is_name (codes "GET") name then brief.Get else verb_of_key name

-- one that counts, if its last word is a number
abbrev pub counts_by : (ℤ → Count) → Option ℤ → Brief
counts_by make None = brief.Other
counts_by make (Some n) = brief.One (verb.Count (make n))

-- the same of a name, a key and another word, where it is no SET
abbrev pub verb_of_value : Bytes → Bytes → Brief
verb_of_value name value =
    if is_name (codes "INCRBY") name then counts_by count.Add (number_of value)
    else (
    if is_name (codes "DECRBY") name then counts_by count.Subtract (number_of value)
    else (
    if is_name (codes "SETNX") name then brief.One verb.SetNx
    else (
    if is_name (codes "GETSET") name then brief.One verb.GetSet
    else (
    if is_name (codes "APPEND") name then brief.One verb.Append
    else (
    if is_name (codes "MSET") name then brief.Settings
    else (if is_name (codes "MGET") name && not (is_long value) then brief.Values else brief.Other)
    )
    )
    )
    )
    )

-- the same of any name, a key and another word
abbrev pub brief_of_setting : Bytes → Bytes → Brief
brief_of_setting name value = if is_name (codes "SET") name then brief.Set else verb_of_value name value

-- the same of a name and more words
abbrev pub brief_of_many : Bytes → List Bytes → Brief
brief_of_many name words =
    if is_name (codes "MGET") name && not (any_long words) then brief.Values
    else (if is_name (codes "MSET") name && are_settings words then brief.Settings else brief.Other)

-- which of them the words are: none where their key is too long
abbrev pub brief_of : List Bytes → Brief
brief_of [] = brief.Other
brief_of (name ∷ []) = if is_name (codes "PING") name then brief.Ping else brief.Other
brief_of (name ∷ key ∷ []) = if is_long key then brief.Other else brief_of_key name
brief_of (name ∷ key ∷ value ∷ []) = if is_long key then brief.Other else brief_of_setting name value
brief_of (name ∷ key ∷ value ∷ another ∷ others) = brief_of_many name (key ∷ value ∷ another ∷ others)

-- the words are a GET of the second
pub record IsGet (words : List Bytes) : Type 0 where
  pub name : Bytes
  pub key : Bytes
  pub words_are : words ≡ name ∷ key ∷ []
  pub command : command_of words ≡ Ok (Get key)

-- the words are a SET of the second, without an option, to the third
pub record IsSet (words : List Bytes) : Type 0 where
  pub name : Bytes
  pub key : Bytes
  pub value : Bytes
  pub words_are : words ≡ name ∷ key ∷ value ∷ []
  pub command : command_of words ≡ Ok (Set key value Always)

-- the words are a command that does so to the second, with the last, which is the second or the one behind it
pub record IsOne (verb : Verb) (words : List Bytes) : Type 0 where
  pub name : Bytes
  pub key : Bytes
  pub others : List Bytes
  pub words_are : words ≡ name ∷ key ∷ others
  pub few : length others ≤ 1
  pub command : command_of words ≡ Ok (commanded verb key (last_of key others))

-- the words are an MGET of those after the first
pub record IsMGet (words : List Bytes) : Type 0 where
  pub name : Bytes
  pub keys : List Bytes
  pub words_are : words ≡ name ∷ keys
  pub command : command_of words ≡ Ok (MGet keys)

-- the words are an MSET of those after the first, two by two
pub record IsMSet (words : List Bytes) : Type 0 where
  pub name : Bytes
  pub others : List Bytes
  pub words_are : words ≡ name ∷ others
  pub command : command_of words ≡ Ok (MSet (pairs_of others))

-- the words are a PING without a text
pub record IsPing (words : List Bytes) : Type 0 where
  pub name : Bytes
  pub words_are : words ≡ name ∷ []
  pub command : command_of words ≡ Ok (Ping None)
