-- Calls that need no memory.
use Rattle.words.specs.declared.command.Command.{Command}
use Rattle.words.specs.declared.command.Command.TheVariants.{Set}
use Rattle.words.specs.declared.command.When.TheVariants.{Always}
use Rattle.words.specs.declared.command.Verb.{Verb}
use Rattle.words.specs.Briefs.{commanded, pairs_of}
use Rattle.words.specs.Store.{Bytes, Store}
use Rattle.words.specs.Session.{Asked, Run, Watch, Exec}
use Rattle.transact.specs.declared.call.Call.{Call}
use Rattle.transact.specs.declared.call.Call.TheVariants.{One}
use Rattle.plans.specs.Memory.{IsPlannedInPlace}
use Rattle.words.specs.declared.command.Command.TheVariants.{Get, MGet, MSet}
use Rattle.std.specs.Prelude.{List}

-- A command that needs no memory on a store: one that gives a key a value, without an option; and, where no page has to be read, one that is
-- planned without a growth.
abbrev pub NeedsNoMemory : (near : Type 0) → Store → Command → Type 0
NeedsNoMemory near store (Set key value Always) = Unit {0}
NeedsNoMemory near store command = near × IsPlannedInPlace store command

-- the same of what a session asks
abbrev pub AsksNoMemory : (near : Type 0) → Store → Asked → Type 0
AsksNoMemory near store (Run command) = NeedsNoMemory near store command
AsksNoMemory near store (Watch keys) = ⊥
AsksNoMemory near store (Exec commands) = ⊥

-- a call that gives a key a value, without an option
abbrev pub set_call : Bytes → Bytes → Call
set_call key value = One (Set key value Always)

-- a call that reads a key
abbrev pub get_call : Bytes → Call
get_call key = One (Get key)

-- a call of a command of one key, and of a value at most
abbrev pub one_call : Verb → (key value : Bytes) → Call
one_call verb key value = One (commanded verb key value)

-- a call that reads these keys
abbrev pub values_call : List Bytes → Call
values_call keys = One (MGet keys)

-- a call that gives keys values, by its words: each key with its value behind it
abbrev pub settings_call : List Bytes → Call
settings_call words = One (MSet (pairs_of words))
