-- Calls that are planned without memory, on pages that are resident, lent by their receipts, or staged.
use Rattle.std.specs.Prelude.{ℕ, ◌≡◌, ◌<◌, ◌≤◌, ◌⊎◌, List, [], ◌∷◌, Option, Some, true, length, unwrap_or}
use Rattle.words.specs.declared.word.TheConstants.{WORD_INLINE}
use Rattle.words.specs.declared.command.Command.{Command}
use Rattle.words.specs.declared.command.Command.TheVariants.{Get}
use Rattle.words.specs.Answers.{value_of}
use Rattle.words.specs.Commands.{IsInline, keys_of}
use Rattle.words.specs.History.{is_among}
use Rattle.words.specs.Store.{Bytes, Store, Write}
use Rattle.words.specs.Stripes.{stripe_of}
use Rattle.strings.specs.Overlays.{NeedsNoMemory}
use Rattle.hybrid.specs.HybridLog.{HybridLog, Kept, receipt_at}
use Rattle.hybrid.specs.Staging.{StagedPage, IsStaged}
use Rattle.transact.specs.Memory.{of_one_key}
use Rattle.transact.specs.declared.call.Call.{Call}
use Rattle.transact.specs.declared.call.Call.TheVariants as call

-- no page of the log wants a read: the receipts lend their pages, or each page that has left its frame is staged
abbrev pub IsAtHand : Type 0 → HybridLog → List StagedPage → Type 0
IsAtHand lends log staged = lends ⊎ ((number : ℕ) (kept : Kept) → log.oldest ≤ number → number < log.resident.oldest → receipt_at log number ≡ Some kept → IsStaged staged kept.identity)

-- the same of the logs of the stripes of these keys
abbrev pub AreAtHand : Type 0 → (n : ℕ) → (ℕ → Option HybridLog) → (keys : List Bytes) → List StagedPage → Type 0
AreAtHand lends n logs keys staged = (key : Bytes) (log : HybridLog) → is_among keys key ≡ true → logs (stripe_of n key) ≡ Some log → IsAtHand lends log staged

-- this, where one key was found, and the command needs no memory on what it has
abbrev pub IfOneInPlace : (found : List Write) → Command → Type 0 → Type 0
IfOneInPlace found command says =
    (key : Bytes) (value : Option Bytes) → found ≡ (key, value) ∷ [] → NeedsNoMemory (of_one_key key value) command → says

-- A command of one key that is planned without a growth where the key has this value: the key, its value, and each text that the command answers
-- or writes are held without an allocation. The key may be missing.
pub record IsBrief (named : Bytes) (found : Option Bytes) (command : Command) : Type 0 where
  pub keys : keys_of command ≡ named ∷ []
  pub key : IsInline named
  pub value : IsInline (value_of found)
  pub texts : NeedsNoMemory (of_one_key named found) command

-- the same on a store
abbrev pub IsBriefOn : Store → Command → Type 0
IsBriefOn store command = (key : Bytes) × IsBrief key (store key) command

-- A command that is planned without a growth: it reads a key that is missing or whose value is held without an allocation, or it is brief.
abbrev pub IsPlannedInPlace : Store → Command → Type 0
IsPlannedInPlace store (Get key) = length (unwrap_or (store key) []) ≤ WORD_INLINE
IsPlannedInPlace store command = IsBriefOn store command

-- the same of a call
abbrev pub NeedsNoMemoryOn : Store → Call → Type 0
NeedsNoMemoryOn store (call.One command) = IsPlannedInPlace store command
NeedsNoMemoryOn store (call.Watch keys) = ⊥
NeedsNoMemoryOn store (call.Exec commands watching) = ⊥
NeedsNoMemoryOn store (call.Forget watching) = ⊥
