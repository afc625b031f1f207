-- Why a plan was not made, and what was found for it.
use Rattle.std.specs.Prelude.{ℕ, ◌≡◌, ◌<◌, List, [], ◌∷◌, ◌++◌, Option, Some, true}
use Rattle.words.specs.Store.{Bytes, Store, Write}
use Rattle.words.specs.Commands.{keys_of, keys_of_all}
use Rattle.words.specs.History.{is_among}
use Rattle.words.specs.Stripes.{stripe_of}
use Rattle.hybrid.specs.HybridLog.{HybridLog, Kept, receipt_at}
use Rattle.hybrid.specs.Lookups.{Leads}
use Rattle.hybrid.specs.Staging.{StagedPage, IsMissing}
use Rattle.transact.specs.declared.call.Call.{Call}
use Rattle.transact.specs.declared.call.Call.TheVariants as call
use Rattle.transact.specs.Tables.{values_of}
use Rattle.plans.specs.Sizes.{AreShort}
use Rattle.plans.specs.declared.stop.Stop.{Stop}
use Rattle.plans.specs.declared.stop.Stop.TheVariants as stop

-- each of these receipts
abbrev pub Each : (Kept → Type 0) → List Kept → Type 0
Each P [] = Unit {0}
Each P (kept ∷ others) = P kept × Each P others

-- there is one at least
abbrev pub IsNotEmpty : List Kept → Type 0
IsNotEmpty [] = ⊥
IsNotEmpty (kept ∷ others) = Unit {0}

-- the receipt is kept of a page of the log that is neither resident nor staged
pub record IsWanted (log : HybridLog) (staged : List StagedPage) (kept : Kept) : Type 0 where
  pub number : ℕ
  pub missing : IsMissing log staged number
  pub receipt : receipt_at log number ≡ Some kept
  -- the page has left its frame
  pub left : number < log.resident.oldest

-- the lookup of a key comes to such a page, where what is staged is right
pub record IsWantedFor (Right : Type 0) (log : HybridLog) (key : Bytes) (staged : List StagedPage) (kept : Kept) : Type 0 where
  pub wanted : IsWanted log staged kept
  pub leads : Right → Leads log key wanted.number

-- a page is wanted of the log of the stripe of one of these keys
pub record IsCold (n : ℕ) (logs : ℕ → Option HybridLog) (keys : List Bytes) (staged : List StagedPage) (kept : Kept) : Type 0 where
  pub key : Bytes
  pub named : is_among keys key ≡ true
  pub log : HybridLog
  pub there : logs (stripe_of n key) ≡ Some log
  pub wanted : IsWanted log staged kept

-- the same of a page to which the lookup of the key comes, where what is staged is right
pub record IsNeeded (Right : Type 0) (n : ℕ) (logs : ℕ → Option HybridLog) (keys : List Bytes) (staged : List StagedPage) (kept : Kept) : Type 0 where
  pub cold : IsCold n logs keys staged kept
  pub leads : Right → Leads cold.log cold.key cold.wanted.number

-- receipts of pages that lookups of these keys want: one at least
abbrev pub AreCold : (n : ℕ) → (ℕ → Option HybridLog) → (keys : List Bytes) → List StagedPage → List Kept → Type 0
AreCold n logs keys staged receipts = IsNotEmpty receipts × Each (IsCold n logs keys staged) receipts

-- the keys that a call looks up
abbrev pub keys_looked_up : Call → List Bytes
keys_looked_up (call.One command) = keys_of command
keys_looked_up (call.Watch keys) = []
keys_looked_up (call.Exec commands watching) = keys_of_all commands
keys_looked_up (call.Forget watching) = []

-- What was looked up of keys: receipts of pages that are wanted for it joined the cold ones; where there are none, and what was staged is right, the
-- values of the keys were found. None is longer than a value may be.
pub record HasFound (Wants : Kept → Type 0) (Right : Type 0) (store : Store) (keys : List Bytes) (cold_before cold : List Kept) (found_before found : List Write) : Type 0 where
  pub more : List Kept
  pub joins : cold ≡ cold_before ++ more
  pub wanted : Each Wants more
  pub finds : Right → more ≡ [] → found ≡ found_before ++ values_of store keys
  pub short : AreShort found_before → AreShort found

module _ {R : Type 0} where
  -- where pages are wanted, this of their receipts
  abbrev pub IfCold : Stop R → (List Kept → Type 0) → Type 0
  IfCold (stop.Cold receipts) P = P receipts
  IfCold stop.OutOfMemory P = Unit {0}
  IfCold stop.DeviceFault P = Unit {0}
  IfCold (stop.StoreFull stripe) P = Unit {0}

  -- where a stripe is full, this of it
  abbrev pub IfFull : Stop R → (ℕ → Type 0) → Type 0
  IfFull (stop.Cold receipts) P = Unit {0}
  IfFull stop.OutOfMemory P = Unit {0}
  IfFull stop.DeviceFault P = Unit {0}
  IfFull (stop.StoreFull stripe) P = P stripe

  -- where memory was refused, this
  abbrev pub IfNoMemory : Stop R → Type 0 → Type 0
  IfNoMemory (stop.Cold receipts) P = Unit {0}
  IfNoMemory stop.OutOfMemory P = P
  IfNoMemory stop.DeviceFault P = Unit {0}
  IfNoMemory (stop.StoreFull stripe) P = Unit {0}

  -- how many calls of the device failed for it
  abbrev pub faults : Stop R → ℕ
  faults (stop.Cold receipts) = 0
  faults stop.OutOfMemory = 0
  faults stop.DeviceFault = 1
  faults (stop.StoreFull stripe) = 0
