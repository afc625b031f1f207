-- Commands whose writes have a place in a page.
use Rattle.std.specs.Prelude.{List, [], ◌∷◌, Option, length, unwrap_or, ◌≤◌}
use Rattle.words.specs.declared.limits.TheConstants.{VALUE_BYTES_MAX}
use Rattle.words.specs.declared.command.Command.{Command}
use Rattle.words.specs.Store.{Bytes, Store, Write}
use Rattle.words.specs.declared.history.Operation.TheVariants.{Run, Exec}
use Rattle.words.specs.History.{HasPlace}
use Rattle.words.specs.Answers.{answer}
use Rattle.hybrid.specs.Writing.{AreFit}
use Rattle.transact.specs.declared.call.Call.{Call}
use Rattle.transact.specs.declared.call.Call.TheVariants as call

-- what a key has is not longer than a value may be
abbrev pub IsShort : Option Bytes → Type 0
IsShort value = length (unwrap_or value []) ≤ VALUE_BYTES_MAX

-- no value of the store is longer than a value may be
abbrev pub AllShort : Store → Type 0
AllShort store = (key : Bytes) → IsShort (store key)

-- nor one of these
abbrev pub AreShort : List Write → Type 0
AreShort [] = Unit {0}
AreShort (write ∷ writes) = IsShort write.1 × AreShort writes

-- on a store without values that are too long, a page takes each key and value that the command writes
abbrev pub IsSized : Command → Type 0
IsSized command = (store : Store) → AllShort store → AreFit (answer store command).1

-- the same of each of these commands
abbrev pub AreSized : List Command → Type 0
AreSized [] = Unit {0}
AreSized (command ∷ commands) = IsSized command × AreSized commands

-- A call has its place in a history, whatever its session watches: what it stores is within the limits.
abbrev pub IsPlaced : Call → Type 0
IsPlaced (call.One command) = HasPlace (Run command)
IsPlaced (call.Watch keys) = Unit {0}
IsPlaced (call.Exec commands watching) = HasPlace (Exec commands [])
IsPlaced (call.Forget watching) = Unit {0}
