-- When the reader answers which fault.
use Rattle.std.specs.Prelude.{◌≡◌, true}
use Rattle.words.specs.Store.{Bytes}
use Rattle.words.specs.Stream as stream
use Rattle.resp_read.specs.Memory.{NeedsMemory}
use Rattle.resp_read.specs.Pieces.{joined}
use Rattle.resp_read.specs.Unread.{Held, IsLeftOver}
use Rattle.resp_read.specs.declared.reader.ReadFault.{ReadFault}
use Rattle.resp_read.specs.declared.reader.ReadFault.TheVariants.{Protocol, OutOfMemory}

-- a protocol fault only where it stands at the front of the bytes, and out of memory only where a whole request stands there that
-- needs some
abbrev pub TellsFault : Bytes → ReadFault → Type 0
TellsFault bytes (Protocol fault) = stream.front bytes ≡ stream.Faulty fault
TellsFault bytes OutOfMemory = NeedsMemory bytes

-- where memory was refused for a word of a whole request, all that stands before the word has been taken off
abbrev pub IsTakenUpTo : ReadFault → Held → Type 0
IsTakenUpTo (Protocol fault) held = Unit {0}
IsTakenUpTo OutOfMemory held = IsLeftOver true held.count held.words (joined held.pieces)
