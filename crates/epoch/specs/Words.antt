-- The words that threads share, and handles of them.
use Rattle.std.specs.Arc.{arc_value}
use Rattle.std.specs.Box.{box_value}
pub use Rattle.atomic_table.specs.Seated.{TableId}
use Rattle.epoch.specs.declared.words.EpochWords.{EpochWords}
use Rattle.epoch.specs.declared.handle.Handle.{Handle}
use Rattle.epoch.specs.declared.handle.Handle.TheVariants as handle
use Rattle.epoch.specs.declared.handle.Handles.{Handles}
use Rattle.epoch.specs.declared.handle.Handles.TheVariants as handles

-- which words they are
abbrev pub id_in : EpochWords → TableId
id_in words = words.table.shared.table_id

-- the words that a handle is of
abbrev pub words_by : Handle → EpochWords
words_by (handle.Counted words) = arc_value words
words_by (handle.Kept words) = words.now

-- the words that handles are made of
abbrev pub words_from : Handles → EpochWords
words_from (handles.Counted own) = arc_value (box_value own)
words_from (handles.Kept words) = words.now
