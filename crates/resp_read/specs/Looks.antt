-- What stands where words are due.
use Rattle.std.specs.Prelude.{ℕ, suc, ◌≡◌, ◌+◌, ◌≤◌, List, ◌++◌, length, take, drop}
use Rattle.std.specs.List.{flat_map}
use Rattle.words.specs.declared.limits.TheConstants.{WORD_BYTES_MAX, REQUEST_BYTES_MAX}
use Rattle.words.specs.Store.{Bytes}
use Rattle.words.specs.Spelling.{header, bulk_string, spelling, bytes_of, AreShort, IsRequest}
use Rattle.words.specs.Stream as stream
use Rattle.resp_read.specs.declared.look.Look.{Look}
use Rattle.resp_read.specs.declared.look.Look.TheVariants.{Whole, Part, Faulty}
use Rattle.resp_read.specs.declared.look.Rest.{Rest}
use Rattle.resp_read.specs.declared.look.Rest.TheVariants as rest

-- the bytes begin with a word as a bulk string: after a line of `start` bytes it has `long` bytes, and the words before it `size`
pub record HasWord (bytes : Bytes) (size start long : ℕ) : Type 0 where
  pub line : start ≤ 8
  pub within : start + long + 2 ≤ length bytes
  pub short : long ≤ WORD_BYTES_MAX
  pub room : size + long ≤ REQUEST_BYTES_MAX
  pub begins : bytes ≡ bulk_string (take long (drop start bytes)) ++ drop (start + long + 2) bytes

-- the bytes begin with the line of this count and these words as bulk strings, of `at` bytes together; the words have `size`
pub record BeginsWithWords (bytes : Bytes) (count : ℕ) (words : List Bytes) (at size : ℕ) : Type 0 where
  pub within : at ≤ length bytes
  pub short : AreShort words
  pub together : bytes_of words ≡ size
  pub room : size ≤ REQUEST_BYTES_MAX
  pub begins : bytes ≡ (header 42 count ++ flat_map bulk_string words) ++ drop at bytes

-- the bytes begin with the spelling of this request, of so many bytes
pub record BeginsWithRequest (bytes : Bytes) (words : List Bytes) (width : ℕ) : Type 0 where
  pub request : IsRequest words
  pub within : width ≤ length bytes
  pub begins : bytes ≡ spelling words ++ drop width bytes

-- what stands at the front of the bytes where a word is due and those before it have so many bytes
abbrev pub TellsWord : ℕ → Bytes → Look → Type 0
TellsWord size bytes (Whole start long) = HasWord bytes size start long
TellsWord size bytes Part = (left : ℕ) → stream.front_from (stream.Word left size) bytes ≡ stream.Part
TellsWord size bytes (Faulty fault) = (left : ℕ) → stream.front_from (stream.Word left size) bytes ≡ stream.Faulty fault

-- the bytes begin with so many words as bulk strings, and those before them have so many bytes
pub record HasWords (bytes : Bytes) (due size : ℕ) : Type 0 where
  pub words : List Bytes
  pub more : Bytes
  pub count : length words ≡ due
  pub short : AreShort words
  pub room : size + bytes_of words ≤ REQUEST_BYTES_MAX
  pub begins : bytes ≡ flat_map bulk_string words ++ more

-- what stands at the front of the bytes where so many words are due, and those before them have so many bytes
abbrev pub TellsRest : (due size : ℕ) → Bytes → Rest → Type 0
TellsRest due size bytes rest.Whole = HasWords bytes due size
TellsRest due size bytes rest.Part = (left : ℕ) × (due ≡ suc left) × (stream.front_from (stream.Word left size) bytes ≡ stream.Part)
TellsRest due size bytes (rest.Faulty fault) = (left : ℕ) × (due ≡ suc left) × (stream.front_from (stream.Word left size) bytes ≡ stream.Faulty fault)
