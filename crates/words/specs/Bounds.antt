-- Keys and values within their limits: what has a place in a page of a log. `Command::of` makes no other commands of a request.
use Rattle.std.specs.Prelude.{◌≡◌, ◌≤◌, List, [], ◌∷◌, length, Some, unwrap_or}
use Rattle.words.specs.declared.limits.TheConstants.{KEY_BYTES_MAX, VALUE_BYTES_MAX}
use Rattle.words.specs.declared.command.Command.{Command}
use Rattle.words.specs.declared.command.Command.TheVariants.{Set, SetGet, SetNx, GetSet, MSet, MSetNx}
use Rattle.words.specs.Store.{Bytes, Store, Write}
use Rattle.words.specs.Commands.{keys_of}

-- each of these keys has at most so many bytes as a key may have
abbrev pub AreKeysBounded : List Bytes → Type 0
AreKeysBounded [] = Unit {0}
AreKeysBounded (key ∷ keys) = (length key ≤ KEY_BYTES_MAX) × AreKeysBounded keys

-- each of these values has at most so many bytes as a value may have
abbrev pub AreValuesBounded : List Bytes → Type 0
AreValuesBounded [] = Unit {0}
AreValuesBounded (value ∷ values) = (length value ≤ VALUE_BYTES_MAX) × AreValuesBounded values

-- the values of settings
abbrev pub values_set : List (Bytes × Bytes) → List Bytes
values_set [] = []
values_set (setting ∷ settings) = setting.1 ∷ values_set settings

-- The values that a command stores as its words have them. What APPEND and SETRANGE make of a value is refused where it is too long.
abbrev pub values_of : Command → List Bytes
values_of (Set key value when) = value ∷ []
values_of (SetGet key value when) = value ∷ []
values_of (SetNx key value) = value ∷ []
values_of (GetSet key value) = value ∷ []
values_of (MSet settings) = values_set settings
values_of (MSetNx settings) = values_set settings
values_of _ = []

-- the keys that a command names and the values that it stores are within the limits
pub record IsBounded (command : Command) : Type 0 where
  pub keys : AreKeysBounded (keys_of command)
  pub values : AreValuesBounded (values_of command)

-- those of each of these commands are
abbrev pub AreBounded : List Command → Type 0
AreBounded [] = Unit {0}
AreBounded (command ∷ commands) = IsBounded command × AreBounded commands

-- no value of the store is longer than a value may be
abbrev pub IsStoreBounded : Store → Type 0
IsStoreBounded store = (key value : Bytes) → store key ≡ Some value → length value ≤ VALUE_BYTES_MAX

-- each of these writes is of a key and a new value within the limits
abbrev pub AreWritesBounded : List Write → Type 0
AreWritesBounded [] = Unit {0}
AreWritesBounded (write ∷ writes) =
    (length write.0 ≤ KEY_BYTES_MAX) × (length (unwrap_or write.1 []) ≤ VALUE_BYTES_MAX) × AreWritesBounded writes
