-- What the scanners of lines tell: the bytes begin with the whole line, or what stands at their front from the line's place. (Redis
-- serialization protocol, version 2.)
use Rattle.std.specs.Prelude.{ℕ, ◌≡◌, ◌≢◌, ◌+◌, ◌≤◌, [], ◌∷◌, ◌++◌, length, take, drop}
use Rattle.words.specs.declared.limits.TheConstants.{WORDS_MAX, WORD_BYTES_MAX, REQUEST_BYTES_MAX}
use Rattle.words.specs.declared.reply.ProtocolFault.TheVariants.{MissingLineEnd}
use Rattle.words.specs.Store.{Bytes}
use Rattle.words.specs.Spelling.{header, crlf}
use Rattle.words.specs.Stream as stream
use Rattle.resp_read.specs.declared.lines.Line.{Line}
use Rattle.resp_read.specs.declared.lines.Line.TheVariants.{Number, Part, Faulty}
use Rattle.resp_read.specs.declared.lines.DataEnd.{DataEnd}
use Rattle.resp_read.specs.declared.lines.DataEnd.TheVariants as end

-- where the LF of a line is due
abbrev pub TellsNumber : (value width : ℕ) → Bytes → Line → Type 0
TellsNumber value width rest (Number v w) = (v ≡ value) × (w ≡ width) × (rest ≡ 10 ∷ drop 1 rest)
TellsNumber value width rest Part = rest ≡ []
TellsNumber value width rest (Faulty fault) = (fault ≡ MissingLineEnd) × ((byte : ℕ) × (byte ≢ 10) × (rest ≡ byte ∷ drop 1 rest))

-- the bytes begin with a line of this many bytes, of this sign and number
pub record BeginsWithLine (sign value width : ℕ) (bytes : Bytes) : Type 0 where
  pub within : width ≤ length bytes
  pub some : 1 ≤ width
  pub begins : bytes ≡ header sign value ++ drop width bytes

-- where the line of a count is due; a part of a line has at most 6 bytes
abbrev pub TellsCount : Bytes → Line → Type 0
TellsCount bytes (Number value width) = BeginsWithLine 42 value width bytes × (1 ≤ value) × (value ≤ WORDS_MAX)
TellsCount bytes Part = (length bytes ≤ 6) × (stream.front bytes ≡ stream.Part)
TellsCount bytes (Faulty fault) = stream.front bytes ≡ stream.Faulty fault

-- where the line of a word's length is due, and the words before it have this many bytes; a part of a line has at most 7 bytes
abbrev pub TellsLength : ℕ → Bytes → Line → Type 0
TellsLength size bytes (Number value width) = BeginsWithLine 36 value width bytes × (value ≤ WORD_BYTES_MAX) × (size + value ≤ REQUEST_BYTES_MAX)
TellsLength size bytes Part = (length bytes ≤ 7) × ((left : ℕ) → stream.front_from (stream.Word left size) bytes ≡ stream.Part)
TellsLength size bytes (Faulty fault) = (left : ℕ) → stream.front_from (stream.Word left size) bytes ≡ stream.Faulty fault

-- where this many bytes of a word and their line end are due
abbrev pub TellsDataEnd : ℕ → Bytes → DataEnd → Type 0
TellsDataEnd due bytes end.Whole = (due + 2 ≤ length bytes) × (bytes ≡ take due bytes ++ (crlf ++ drop (due + 2) bytes))
TellsDataEnd due bytes end.Part = (length bytes ≤ due + 1) × ((left size : ℕ) → stream.front_from (stream.Data left size due) bytes ≡ stream.Part)
TellsDataEnd due bytes end.Missing = (left size : ℕ) → stream.front_from (stream.Data left size due) bytes ≡ stream.Faulty MissingLineEnd
