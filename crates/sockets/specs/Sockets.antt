-- What contracts see of who reads from a socket and who writes to it.
use Rattle.std.specs.Prelude.{List, Option}
use Rattle.std.specs.declared.io.ErrorKind.{ErrorKind}
use Rattle.sockets.specs.Pausing.{Pauses, pauses}
use Rattle.sockets.specs.SystemCalls.{SystemCall, calls_in}
use Rattle.sockets.specs.declared.socket.Reading.{Reading}
use Rattle.sockets.specs.declared.socket.Writing.{Writing}
use Rattle.sockets.specs.declared.ends.SocketReader.{SocketReader}
use Rattle.sockets.specs.declared.ends.SocketWriter.{SocketWriter}

-- from what it reads
abbrev pub source_of : {C S : Type 0} → Reading C S → S
source_of reading = reading.line.stream

-- what the system was asked for it, the newest call first
abbrev pub asked_of : {C S : Type 0} → Reading C S → List SystemCall
asked_of reading = calls_in reading.line.last

abbrev pub reads_of : {C : Type 0} → SocketReader C → List SystemCall
reads_of reader = asked_of reader.reading

-- the failure that is kept for the next read to tell
abbrev pub kept_in : {C S : Type 0} → Reading C S → Option ErrorKind
kept_in reading = reading.failed

abbrev pub kept_by : {C : Type 0} → SocketReader C → Option ErrorKind
kept_by reader = kept_in reader.reading

-- how the cleaner was waited for
abbrev pub pauses_in : {C S : Type 0} → Reading C S → Pauses
pauses_in reading = pauses reading.cleaner.asked reading.cleaner.told reading.cleaner.waited

abbrev pub pauses_of : {C : Type 0} → SocketReader C → Pauses
pauses_of reader = pauses_in reader.reading

-- to what it writes
abbrev pub sink_of : {S : Type 0} → Writing S → S
sink_of writing = writing.line.stream

-- what the system was asked for it, the newest call first
abbrev pub handed_of : {S : Type 0} → Writing S → List SystemCall
handed_of writing = calls_in writing.line.last

abbrev pub writes_of : SocketWriter → List SystemCall
writes_of writer = handed_of writer.writing
