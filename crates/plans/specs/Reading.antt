-- Pages that are read for a plan.
use Rattle.std.specs.Prelude.{ℕ, zero, suc, ◌≡◌, ◌⊎◌, ◌+◌, ◌<◌, List, [], ◌∷◌, ◌++◌, Option, Some, None, Result, IfErr, OnOk}
use Rattle.hybrid.specs.HybridLog.{HybridLog, Kept, receipt_at}
use Rattle.hybrid.specs.Reading.{unread_at, unread_of}
use Rattle.hybrid.specs.Staging.{AreRight, StagedPage}
use Rattle.shards.specs.declared.shard.Shard.{Shard}
use Rattle.shards.specs.Devices.{IsReadAlone}
use Rattle.shards.specs.Shards.{logs_of}
use Rattle.plans.specs.declared.reading.WhenCold.{WhenCold}
use Rattle.plans.specs.declared.reading.WhenCold.TheVariants.{Stops}
use Rattle.plans.specs.declared.stop.Stop.{Stop}
use Rattle.plans.specs.Stops.{IfCold, IfFull, faults}

-- how often the pages of its receipts can still be read
abbrev pub unread_log : Option HybridLog → List StagedPage → ℕ
unread_log None staged = 0
unread_log (Some log) staged = unread_of log.kept staged

-- how often the pages of the receipts of so many logs can still be read
abbrev pub unread : ℕ → (ℕ → Option HybridLog) → List StagedPage → ℕ
unread zero logs staged = 0
unread (suc n) logs staged = unread n logs staged + unread_log (logs n) staged

-- the page of each of these receipts can be read less often since, or no more
abbrev pub AreFewer : (before later : List StagedPage) → List Kept → Type 0
AreFewer before later [] = Unit {0}
AreFewer before later (kept ∷ others) =
    ((unread_at later kept.identity < unread_at before kept.identity) ⊎ (unread_at later kept.identity ≡ 0)) × AreFewer before later others

-- pages were staged, whole or a piece of each, and those of these receipts can be read less often since
pub record AreRead (receipts : List Kept) (before later : List StagedPage) : Type 0 where
  pub more : List StagedPage
  pub still : later ≡ before ++ more
  pub fewer : AreFewer before later receipts

-- `serves` is the device's: it gives, as it is, for this receipt the page that it shows. `identity` is what a receipt has in common with its copies.
module _ {D R : Type 0} (serves : D → R → Type 0) (identity : R → List ℕ) where
  -- the device serves the receipts of this identity
  abbrev pub IsServed : D → Kept → Type 0
  IsServed device kept = (r : R) → identity r ≡ kept.identity → serves device r

  -- the device serves each of these receipts
  abbrev pub ServesEach : D → List Kept → Type 0
  ServesEach device [] = Unit {0}
  ServesEach device (kept ∷ others) = IsServed device kept × ServesEach device others

  -- the device serves each receipt that is kept of a page of these logs
  abbrev pub AreServed : D → (ℕ → Option HybridLog) → Type 0
  AreServed device logs = (stripe : ℕ) (log : HybridLog) (number : ℕ) (kept : Kept) → logs stripe ≡ Some log → receipt_at log number ≡ Some kept → IsServed device kept

  -- the device is honest, what is staged is right, and the device serves each receipt that is kept of a page of these parts
  abbrev pub ReadsRight : {T : Type 0} → (honest : Type 0) → List StagedPage → D → (parts : ℕ → Option (Shard T)) → Type 0
  ReadsRight honest staged device parts = honest × AreRight staged × AreServed device (logs_of parts)

  -- where the device serves each receipt that is kept of a page of these parts, what is staged stays right
  abbrev pub StaysRight : {T : Type 0} → D → (parts : ℕ → Option (Shard T)) → (before later : List StagedPage) → Type 0
  StaysRight device parts before later = AreRight before → AreServed device (logs_of parts) → AreRight later

-- `serves`, `releases` and `writes` are the device's: this holds of what some reads alone made of it
abbrev pub AfterReads : {D R : Type 0} → (serves : D → R → Type 0) (releases writes : D → ℕ) → D → (D → Type 0) → Type 0
AfterReads {D} serves releases writes device Then = (read : D) × IsReadAlone serves releases writes device read × Then read

-- What came of reads: they stop for no page that is wanted, and for no stripe that is full; and as many calls of the device failed as that
-- says.
pub record CameOfReads {A R : Type 0} (result : Result A (Stop R)) (failed_before failed : ℕ) : Type 0 where
  pub never_cold : IfErr result (λ stop. IfCold stop (λ receipts. ⊥))
  pub never_full : IfErr result (λ stop. IfFull stop (λ stripe. ⊥))
  pub faults : IfErr result (λ stop. failed ≡ failed_before + faults stop)
  pub no_fault : OnOk result (failed ≡ failed_before)

-- A plan wants pages, which may not be read meanwhile, and receipts do not lend them. Nothing has changed at all.
pub record StopsUnread {D R : Type 0} (cold : WhenCold) (lends : Type 0) (before later : (ℕ → Option (Shard R)) × D) : Type 0 where
  pub unread : cold ≡ Stops
  pub unlent : lends → ⊥
  pub untouched : later.0 ≡ before.0
  pub device : later.1 ≡ before.1

-- A lookup wants pages, which may not be read meanwhile, and receipts do not lend them. The device has not changed.
pub record MissesUnread {D : Type 0} (cold : WhenCold) (lends : Type 0) (before later : D) : Type 0 where
  pub unread : cold ≡ Stops
  pub unlent : lends → ⊥
  pub device : later ≡ before

-- pages came to those that were staged
abbrev pub HasMore : (before later : List StagedPage) → Type 0
HasMore before later = (more : List StagedPage) × (later ≡ before ++ more)
