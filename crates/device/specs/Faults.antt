-- A device that fails on demand.
use Rattle.std.specs.Prelude.{ℕ, List, Bool, nat_eq, ◌+◌}
use Rattle.std.specs.List.{list_any}
use Rattle.device.specs.declared.faulty.Faulty.{Faulty}

module _ {D : Type 0} where
  -- the device that it asks
  abbrev pub device_of : Faulty D → D
  device_of faulty = faulty.device

  -- the numbers of the calls that fail
  abbrev pub failing_of : Faulty D → List ℕ
  failing_of faulty = faulty.failing.items

  -- how many calls there were
  abbrev pub calls_of : Faulty D → ℕ
  calls_of faulty = faulty.calls

  -- how many writes there were in which the device was not asked
  abbrev pub refused_writes_of : Faulty D → ℕ
  refused_writes_of faulty = faulty.refused_writes

  -- how many reads there were in which the device was not asked
  abbrev pub refused_reads_of : Faulty D → ℕ
  refused_reads_of faulty = faulty.refused_reads

  -- how many calls there were in which it was not asked: they failed
  abbrev pub refused_of : Faulty D → ℕ
  refused_of faulty = faulty.refused_writes + faulty.refused_reads

  -- the next call is one that fails
  abbrev pub fails_next : Faulty D → Bool
  fails_next faulty = list_any (λ (n : ℕ). nat_eq n faulty.calls) faulty.failing.items

  -- how many calls have failed, those in which the device was not asked among them, by how many it counts
  abbrev pub all_failures : (failures : D → ℕ) → Faulty D → ℕ
  all_failures failures faulty = failures faulty.device + refused_of faulty

  -- how many reads there were, and how many writes, likewise
  abbrev pub all_reads : (reads : D → ℕ) → Faulty D → ℕ
  all_reads reads faulty = reads faulty.device + faulty.refused_reads

  abbrev pub all_writes : (writes : D → ℕ) → Faulty D → ℕ
  all_writes writes faulty = writes faulty.device + faulty.refused_writes
