-- What a contract says of a stream with a note of what it has told.
use Rattle.std.specs.Prelude.{ℕ, ◌≡◌, ◌<◌, ◌≤◌, Bool, true, false, ⊤, List, ◌++◌, length, take, Option, Some, None, Result, Ok, Err}
use Rattle.std.specs.Io.KnownBytes.{Keeps, Appends, Consumes, IsAtEnd}
use Rattle.streams.specs.declared.noted.Noted.{Noted}
use Rattle.streams.specs.declared.observed.Told.{Told}
use Rattle.streams.specs.declared.observed.Told.TheVariants as told
use Rattle.streams.specs.declared.observed.Input.{Input}
use Rattle.streams.specs.declared.observed.Input.TheVariants.{Bytes, End, Failure}

-- the stream itself
abbrev pub stream_of : {S : Type 0} → Noted S → S
stream_of noted = noted.observed.asked.stream

-- what it has told
abbrev pub told_of : {S : Type 0} → Noted S → Told
told_of noted = noted.observed.told

-- how often it may still give bytes
abbrev pub reads_of : {S : Type 0} → Noted S → ℕ
reads_of noted = noted.observed.reads

-- how many calls of the stream have failed
abbrev pub failures_of : {S : Type 0} → Noted S → ℕ
failures_of noted = noted.observed.asked.failures

-- how often it may still be interrupted
abbrev pub interruptions_of : {S : Type 0} → Noted S → ℕ
interruptions_of noted = noted.observed.interruptions

-- The stream has failed, unless it counts as failed since it gave bytes or was interrupted as often as it may.
abbrev pub HasFailed : {S : Type 0} → Noted S → Type 0
HasFailed noted = 0 < reads_of noted → 0 < interruptions_of noted → 0 < failures_of noted

-- What a read gave, where the bytes that the stream has left are known before and after it: those at the start of the buffer, or none.
abbrev pub IsRead : Option (List ℕ) → Option (List ℕ) → List ℕ → Input → Type 0
IsRead old new buffer (Bytes count) = (0 < count) × (count ≤ length buffer) × Consumes old new (take count buffer)
IsRead old new buffer End = Keeps old new × IsAtEnd new
IsRead old new buffer Failure = Keeps old new

-- What a read of what is there already gave, where the bytes that the stream has left are known before and after it: those at the start of
-- the buffer, or nothing.
abbrev pub IsReadReady : Option (List ℕ) → Option (List ℕ) → List ℕ → Option ℕ → Type 0
IsReadReady old new buffer (Some count) = (0 < count) × (count ≤ length buffer) × Consumes old new (take count buffer)
IsReadReady old new buffer None = Keeps old new

-- how often such a read gave bytes: once, or not
abbrev pub ready_count : Option ℕ → ℕ
ready_count (Some count) = 1
ready_count None = 0

-- how often a read gave bytes: once, or not
abbrev pub bytes_count : Input → ℕ
bytes_count (Bytes count) = 1
bytes_count End = 0
bytes_count Failure = 0

-- what a stream has told after a read
abbrev pub told_after : Input → Told → Told
told_after (Bytes count) old = old
told_after End old = told.End
told_after Failure old = told.Failure

-- what a stream has told after a write that succeeded or failed
abbrev pub told_when : Bool → Told → Told
told_when true old = old
told_when false old = told.Failure

-- What a write that took some bytes appended, where what the stream holds is known; nothing where it took none.
abbrev pub IsWritten : {E : Type 0} → Option (List ℕ) → Option (List ℕ) → List ℕ → Result ℕ E → Type 0
IsWritten old new bytes (Err fault) = Keeps old new
IsWritten old new bytes (Ok count) = (0 < count) × (count ≤ length bytes) × Appends old new (take count bytes)

-- a beginning of the text was appended, where what the stream holds is known
abbrev pub AppendsBeginning : Option (List ℕ) → Option (List ℕ) → List ℕ → Type 0
AppendsBeginning old new text = (begins more : List ℕ) × (text ≡ begins ++ more) × Appends old new begins

-- what a text's sending appended: all of it, or a beginning of it after a failure
abbrev pub IsSent : {E : Type 0} → Option (List ℕ) → Option (List ℕ) → Result ⊤ E → List ℕ → Type 0
IsSent old new (Ok done) text = Appends old new text
IsSent old new (Err fault) text = AppendsBeginning old new text

-- What a text's sending through a buffer did: what was appended and what the buffer holds is what it held and the text; after a failure a
-- beginning of that was appended.
abbrev pub IsPut : {E : Type 0} → Option (List ℕ) → Option (List ℕ) → (held holds : List ℕ) → Result ⊤ E → List ℕ → Type 0
IsPut old new held holds (Ok done) text = (sent : List ℕ) × Appends old new sent × (held ++ text ≡ sent ++ holds)
IsPut old new held holds (Err fault) text = AppendsBeginning old new (held ++ text)
