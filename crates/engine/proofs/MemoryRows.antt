-- Computed rows of which commands need no memory on a store where the key "c" has the value 41 and no other key is there.
use Rattle.std.proofs.Common.{[], ◌∷◌, Some, arith}
use Rattle.std.specs.Prelude.{codes}
use Rattle.words.specs.declared.command.Command.TheVariants.{Get, Set}
use Rattle.words.specs.declared.command.When.TheVariants.{Always}
use Rattle.words.specs.Store.{Bytes, Store, empty, written}
use Rattle.engine.specs.Memory.{NeedsNoMemory}

abbrev c : Bytes
c = codes "c"

abbrev k : Bytes
k = codes "k"

abbrev store : Store
store = written empty ((c, Some (codes "41")) ∷ [])

-- a GET where no page has to be read, of a key that is there and of one that is not
gets : NeedsNoMemory (Unit {0}) store (Get c) × NeedsNoMemory (Unit {0}) store (Get k)
gets = ((tt, omega arith), (tt, omega arith))

-- a SET without an option, whatever the device promises
sets : NeedsNoMemory ⊥ store (Set k c Always)
sets = tt
