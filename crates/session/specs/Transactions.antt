-- Open transactions.
use Rattle.std.specs.Prelude.{◌≡◌, ℕ, List, length, false}
use Rattle.words.specs.declared.command.Command.{Command}
use Rattle.words.specs.Bounds.{AreBounded}
use Rattle.words.specs.History.{MayAllBeQueued}
use Rattle.words.specs.Session.{is_too_large}

-- A transaction: its commands, and how many words and bytes their requests had together.
pub record Transaction : Type 0 where
  pub queue : List Command
  pub words : ℕ
  pub bytes : ℕ

-- it is not too large, and each of its commands may stand in a transaction and is within the limits
pub record IsOpen (transaction : Transaction) : Type 0 where
  pub fits : is_too_large (length transaction.queue) transaction.words transaction.bytes ≡ false
  pub may_run : MayAllBeQueued transaction.queue
  pub bounded : AreBounded transaction.queue
