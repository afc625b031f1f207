-- What one step of the reader takes off the front.
use Rattle.std.specs.Prelude.{◌≡◌, ◌<◌, List, ◌++◌, Bool, true, false, Result, Ok, Err, length}
use Rattle.words.specs.Store.{Bytes}
use Rattle.words.specs.Spelling.{spelling, IsRequest}
use Rattle.words.specs.Stream as stream
use Rattle.resp_read.specs.Pieces.{joined}
use Rattle.resp_read.specs.Unread.{Held, unread, HasTakenOff, KeepsWords, IsLeftOver, IsTakenUp, IsBetween}
use Rattle.resp_read.specs.Faults.{TellsFault, IsTakenUpTo}
use Rattle.resp_read.specs.declared.reader.ReadFault.{ReadFault}
use Rattle.resp_read.specs.declared.reader.Step.{Step}
use Rattle.resp_read.specs.declared.reader.Step.TheVariants.{Goes, Gives, Waits, Fails}

-- a count or a word has been taken off, and is kept
pub record GoesOn (old new : Held) : Type 0 where
  pub same : unread new ≡ unread old
  pub taken : HasTakenOff old new
  pub kept : KeepsWords old new

-- what a step takes
abbrev pub Takes : Held → Step → Held → Type 0
Takes old Goes new = GoesOn old new × (length (joined new.pieces) < length (joined old.pieces))
Takes old (Gives words) new = IsRequest words × (unread old ≡ spelling words ++ unread new) × HasTakenOff old new × IsBetween new
Takes old (Waits refused) new = (stream.front (unread old) ≡ stream.Part) × (new ≡ old) × IsLeftOver refused new.count new.words (joined new.pieces)
Takes old (Fails fault) new = TellsFault (unread old) fault × (new ≡ old) × IsTakenUpTo fault new

-- a request that stood whole at the front is taken off and its words given, or nothing is
abbrev pub TakesWhole : Held → Bool → List Bytes → Held → Type 0
TakesWhole old false words new = new ≡ old
TakesWhole old true words new = Takes old (Gives words) new

-- what the steps up to an answer take
abbrev pub TakesNext : Held → Result Bool ReadFault → List Bytes → Held → Type 0
TakesNext old (Ok true) words new = Takes old (Gives words) new
TakesNext old (Ok false) words new = GoesOn old new × (stream.front (unread old) ≡ stream.Part) × IsTakenUp new
TakesNext old (Err fault) words new = GoesOn old new × TellsFault (unread old) fault × (new.lacks_memory ≡ false) × IsTakenUpTo fault new
