-- What calls of a pass to an engine come to.
use Rattle.std.specs.Prelude.{ℕ, ◌≡◌, ◌+◌, ◌<◌, List, [], ◌∷◌, ◌++◌, length, Option, Some, None}
use Rattle.words.specs.declared.reply.Reply.{Reply}
use Rattle.words.specs.declared.reply.Fault.{Fault}
use Rattle.words.specs.declared.reply.Fault.TheVariants as fault
use Rattle.words.specs.declared.history.Entry.{Entry}
use Rattle.words.specs.History.{History, Pair, HasPlace, after}
use Rattle.words.specs.Watches.{watched_after}
use Rattle.words.specs.Session.{Asked, operation_of, watched_at_fault}
use Rattle.gates.specs.declared.view.Note.{Note}
use Rattle.gates.specs.declared.view.Refused.{Refused}
use Rattle.gates.specs.declared.view.Note.TheVariants.{Full, Worn}
use Rattle.gates.specs.Passes.{AreBusy}
use Rattle.transact.specs.Plans.{made}
use Rattle.shards.specs.Rooms.{share}
use Rattle.engine.specs.Memory.{AsksNoMemory}
use Rattle.engine.specs.Passes.{Known}

-- What an engine promises by its device and its size. The receipts of its device promise that what was written is read, for good; and that
-- a receipt holds its page, so that no page has to be read. The keys are shared out to so many stripes.
pub record Promises : Type 1 where
  pub steady : Type 0
  pub lends : Type 0
  pub stripes : ℕ

-- the same, of receipts and of a number of stripes
abbrev pub promises_of : (steady lends : Type 0) (stripes : ℕ) → Promises
promises_of steady lends stripes = record { steady = steady; lends = lends; stripes = stripes }

-- what is asked by a session that watches these has its place in the history
abbrev pub HasItsPlace : List Pair → Option Asked → Type 0
HasItsPlace pairs None = Unit {0}
HasItsPlace pairs (Some asked) = HasPlace (operation_of pairs asked)

-- the entry that a pass makes where what it asked is answered with this reply
abbrev pub entry_of : Known → Asked → Reply → Entry
entry_of knows asked reply = record { session = knows.number; operation = operation_of knows.watched asked; reply = reply }

-- What was asked was done: the history went on, and then by the pass's entry; and the pass watches what that leaves. It was told of
-- stripes of these alone that others had them. No call of its device has failed.
pub record Did (stripes : List ℕ) (asked : Asked) (reply : Reply) (was now : Known) : Type 0 where
  pub others : History
  pub number : now.number ≡ was.number
  pub seen : now.seen ≡ entry_of was asked reply ∷ (others ++ was.seen)
  pub mine : now.mine ≡ (length (others ++ was.seen), entry_of was asked reply) ∷ was.mine
  pub watched : now.watched ≡ watched_after was.watched (operation_of was.watched asked) (length (others ++ was.seen))
  pub told : List Note
  pub notes : now.notes ≡ told ++ was.notes
  pub busy : AreBusy stripes told
  pub failures : now.failures ≡ was.failures

-- The pass was told that a stripe is full, and that none of its places could be released but for what the epochs refused; this was told last.
-- Of so many stripes it is one that what was asked would write, where the history stood that it has seen.
pub record MetFull (steady : Type 0) (count : ℕ) (stripes : List ℕ) (asked : Asked) (was now : Known) (told : List Note) : Type 0 where
  pub stripe : ℕ
  pub earlier : List Note
  pub refused : Refused
  pub full : told ≡ Full stripe refused ∷ earlier
  pub busy : AreBusy stripes earlier
  pub writes : steady → 0 < share count stripe (made now.seen (operation_of was.watched asked))
  pub failures : now.failures ≡ was.failures

-- Why what was asked is answered by a fault, by a pass that knew the one, then knows the other and was told this meanwhile: there was no
-- memory for what may want some; a call of the device failed; a stripe is full that it would write; or commits are worn out, which was told
-- last. Only with a device fault has a call of the device failed.
abbrev pub IsCause : Promises → Fault → List ℕ → Asked → (was now : Known) → List Note → Type 0
IsCause promises fault.OutOfMemory stripes asked was now told =
    (¬ AsksNoMemory (promises.steady × promises.lends) (after now.seen) asked) × (now.failures ≡ was.failures) × AreBusy stripes told
IsCause promises fault.DeviceFault stripes asked was now told = (now.failures ≡ was.failures + 1) × AreBusy stripes told
IsCause promises fault.StoreFull stripes asked was now told = MetFull promises.steady promises.stripes stripes asked was now told
IsCause promises fault.CommitsWornOut stripes asked was now told =
    (earlier : List Note) × (told ≡ Worn ∷ earlier) × (now.failures ≡ was.failures) × AreBusy stripes earlier

-- What was asked was not done: the history went on by others' entries alone. A transaction ends its watches all the same.
pub record DidNot (promises : Promises) (stripes : List ℕ) (asked : Asked) (fault : Fault) (was now : Known) : Type 0 where
  pub others : History
  pub number : now.number ≡ was.number
  pub seen : now.seen ≡ others ++ was.seen
  pub mine : now.mine ≡ was.mine
  pub watched : now.watched ≡ watched_at_fault was.watched asked
  pub told : List Note
  pub notes : now.notes ≡ told ++ was.notes
  pub cause : IsCause promises fault stripes asked was now told

-- Nothing is watched any more. The history went on by others' entries alone.
pub record Forgot (stripes : List ℕ) (was now : Known) : Type 0 where
  pub others : History
  pub number : now.number ≡ was.number
  pub seen : now.seen ≡ others ++ was.seen
  pub mine : now.mine ≡ was.mine
  pub watched : now.watched ≡ []
  pub told : List Note
  pub notes : now.notes ≡ told ++ was.notes
  pub busy : AreBusy stripes told
  pub failures : now.failures ≡ was.failures

-- what a call comes to that is answered with a reply: what it asks was done, or its session's watches ended
abbrev pub IsDone : List ℕ → Option Asked → Reply → (was now : Known) → Type 0
IsDone stripes None reply was now = Forgot stripes was now
IsDone stripes (Some asked) reply was now = Did stripes asked reply was now

-- what a call comes to that is answered with a fault; one that ends watches is not
abbrev pub IsUndone : Promises → List ℕ → Option Asked → Fault → (was now : Known) → Type 0
IsUndone promises stripes None fault was now = ⊥
IsUndone promises stripes (Some asked) fault was now = DidNot promises stripes asked fault was now

-- The pass tried a stripe that another held. What it has seen may have grown, and its own entries are the same.
pub record FoundBusy (stripe : ℕ) (was now : Known) : Type 0 where
  pub number : now.number ≡ was.number
  pub mine : now.mine ≡ was.mine
  pub seen : (more : History) × (now.seen ≡ more ++ was.seen)
  pub notes : now.notes ≡ Rattle.gates.specs.declared.view.Note.TheVariants.Busy stripe ∷ was.notes
  pub watched : now.watched ≡ was.watched
  pub failures : now.failures ≡ was.failures

-- What a pass knows only grew, and its own entries and what it watches are the same.
pub record HasLearned (was now : Known) : Type 0 where
  pub number : now.number ≡ was.number
  pub mine : now.mine ≡ was.mine
  pub seen : (more : History) × (now.seen ≡ more ++ was.seen)
  pub notes : now.notes ≡ was.notes
  pub watched : now.watched ≡ was.watched
  pub failures : now.failures ≡ was.failures
