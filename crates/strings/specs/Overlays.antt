-- What an overlay shows, and which commands it runs without asking for memory.
use Rattle.std.specs.Prelude.{◌-◌, ◌≤◌, ◌<◌, List, [], ◌∷◌, length}
use Rattle.words.specs.declared.command.Command.{Command}
use Rattle.words.specs.declared.reply.Item.TheVariants.{Bulk}
use Rattle.words.specs.declared.reply.CommandReply.{CommandReply}
use Rattle.words.specs.declared.reply.CommandReply.TheVariants.{One, Array}
use Rattle.words.specs.Store.{Store, Write, empty, written}
use Rattle.words.specs.Commands.{IsInline}
use Rattle.words.specs.Answers.{Answer, answer, value_of}
use Rattle.strings.specs.declared.overlay.Overlay.{Overlay}
use Rattle.strings.specs.declared.writes.TheConstants.{WRITES_INLINE}

-- The store that an overlay shows: what was found of each key, and over it the writes made since. A key that was not found is missing.
abbrev pub shown : Overlay → Store
shown overlay = written (written empty overlay.found) overlay.writes

-- one more write is held without an allocation
abbrev pub HasRoom : Overlay → Type 0
HasRoom overlay = length overlay.writes < WRITES_INLINE

-- The reply is held without an allocation: its text is, if it has one. A list of items takes one.
abbrev pub IsInlineReply : CommandReply → Type 0
IsInlineReply (One (Bulk text)) = IsInline text
IsInlineReply (One item) = Unit {0}
IsInlineReply (Array items) = ⊥

-- the texts of the writes are held without an allocation
abbrev pub AreInline : List Write → Type 0
AreInline [] = Unit {0}
AreInline (write ∷ writes) = (IsInline write.0 × IsInline (value_of write.1)) × AreInline writes

-- The answer takes no memory where these writes were made before: its reply is held without an allocation, and so are the texts of its writes,
-- of which there are no more than have room left.
pub record IsInlineAnswer (made : List Write) (answered : Answer) : Type 0 where
  pub reply : IsInlineReply answered.0
  pub writes : AreInline answered.1
  pub room : length answered.1 ≤ WRITES_INLINE - length made

-- a command that asks for no memory where it runs on this overlay
abbrev pub NeedsNoMemory : Overlay → Command → Type 0
NeedsNoMemory overlay command = IsInlineAnswer overlay.writes (answer (shown overlay) command)
