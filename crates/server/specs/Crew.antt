-- The threads of a server beside the one that accepts.
use Rattle.std.specs.Prelude.{ℕ, ◌≡◌, ◌+◌, ◌⊎◌}
use Rattle.upkeep.specs.declared.stripes.Duty.{Duty}
use Rattle.upkeep.specs.declared.stripes.Duty.TheVariants.{Flush, Evict, Clean}
use Rattle.upkeep.specs.Rounds.{duty_of}
use Rattle.server.specs.declared.crew.Started.{Started, Nobody, Closer', Worker', Background'}

-- how many there are of each kind
pub record Numbers : Type 0 where
  pub closers : ℕ
  pub workers : ℕ
  pub flushers : ℕ
  pub evictors : ℕ
  pub cleaners : ℕ

abbrev pub nobody : Numbers
nobody = record { closers = 0; workers = 0; flushers = 0; evictors = 0; cleaners = 0 }

-- one more of a kind
abbrev pub with_closer : Numbers → Numbers
with_closer crew = record crew { closers = crew.closers + 1 }

abbrev pub with_worker : Numbers → Numbers
with_worker crew = record crew { workers = crew.workers + 1 }

abbrev pub with_background : Duty → Numbers → Numbers
with_background Flush crew = record crew { flushers = crew.flushers + 1 }
with_background Evict crew = record crew { evictors = crew.evictors + 1 }
with_background Clean crew = record crew { cleaners = crew.cleaners + 1 }

abbrev pub numbers_in : Started → Numbers
numbers_in Nobody = nobody
numbers_in (Closer' snapshot earlier) = with_closer (numbers_in earlier)
numbers_in (Worker' snapshot earlier) = with_worker (numbers_in earlier)
numbers_in (Background' chores snapshot earlier) = with_background (duty_of chores.value) (numbers_in earlier)

-- so many more workers, and nobody else
abbrev pub with_workers : ℕ → Numbers → Numbers
with_workers count crew = record crew { workers = crew.workers + count }

-- A cleaner works in the background, and where receipts do not hold their pages a flusher and an evictor too.
abbrev pub HasBackground : (lends : Type 0) → (was now : Numbers) → Type 0
HasBackground lends was now = (lends × (now ≡ with_background Clean was))
    ⊎ ((lends → ⊥) × (now ≡ with_background Flush (with_background Evict (with_background Clean was))))

-- There are so many workers, a closer, and who works in the background; nobody else.
abbrev pub IsManned : (workers : ℕ) → (lends : Type 0) → Numbers → Type 0
IsManned workers lends crew =
    (background : Numbers) × HasBackground lends (with_closer nobody) background × (crew ≡ with_workers workers background)
