-- What a reader holds of the bytes that it was fed and has not given.
use Rattle.std.specs.Prelude.{ℕ, zero, suc, ◌≡◌, ◌+◌, ◌<◌, ◌≤◌, ◌⊎◌, Bool, true, false, List, [], ◌++◌, Option, Some, None, length}
use Rattle.std.specs.List.{flat_map}
use Rattle.words.specs.declared.limits.TheConstants.{WORDS_MAX, REQUEST_BYTES_MAX}
use Rattle.words.specs.declared.word.TheConstants.{WORD_INLINE, WORDS_INLINE}
use Rattle.words.specs.Store.{Bytes}
use Rattle.words.specs.Spelling.{header, bulk_string, bytes_of, AreShort}
use Rattle.words.specs.Stream.{Word, Part, front_from}
use Rattle.resp_read.specs.Pieces.{joined, without}

-- The count of the request at the front, 0 where it has not been taken off the pieces; the words of it that have been taken off; the
-- pieces that are left, oldest first; and whether the reader waits with a whole word at their front, since memory was refused for it.
pub record Held : Type 0 where
  pub count : ℕ
  pub words : List Bytes
  pub pieces : List Bytes
  pub lacks_memory : Bool

-- the bytes of what has been taken off: the line of the count and the words, as spelled
abbrev pub taken_off : ℕ → List Bytes → Bytes
taken_off zero words = []
taken_off (suc n) words = header 42 (suc n) ++ flat_map bulk_string words

-- the bytes that were fed and are not given
unfoldable pub unread : Held → Bytes
unread held = taken_off held.count held.words ++ joined held.pieces

-- only whole bytes of the front were taken off the pieces, and none of those that are left was changed or joined to another
pub record HasTakenOff (old new : Held) : Type 0 where
  pub many : ℕ
  pub left : new.pieces ≡ without many old.pieces

-- the words that had been taken off are still kept, and the count
pub record KeepsWords (old new : Held) : Type 0 where
  pub more : List Bytes
  pub words : new.words ≡ old.words ++ more
  pub count : (old.count ≡ 0) ⊎ (new.count ≡ old.count)

-- A part of one line where a count is due, which has at most 6 bytes; a part of one word where a word is due after these.
abbrev pub IsPartOfOne : (count : ℕ) → List Bytes → Bytes → Type 0
IsPartOfOne zero words bytes = length bytes ≤ 6
IsPartOfOne (suc n) words bytes = front_from (Word 0 (bytes_of words)) bytes ≡ Part

-- a word stands whole at the front, and with it the words are not held without an allocation
abbrev pub StartsWithLarge : List Bytes → Bytes → Type 0
StartsWithLarge words bytes =
    (word more : Bytes) × (bytes ≡ bulk_string word ++ more) × ((WORD_INLINE < length word) ⊎ (WORDS_INLINE ≤ length words))

-- What is left in the pieces of a request that has not come whole. Where no memory was refused that is a part of one line or of one word.
-- Where some was, it is the whole word for which it was refused, one that takes memory, and what stands after it.
abbrev pub IsLeftOver : (refused : Bool) → (count : ℕ) → List Bytes → Bytes → Type 0
IsLeftOver false count words bytes = IsPartOfOne count words bytes
IsLeftOver true count words bytes = (0 < count) × StartsWithLarge words bytes

-- all that stood whole at the front of the pieces has been taken off, but for a word that found no memory and what stands after it
abbrev pub IsTakenUp : Held → Type 0
IsTakenUp held = IsLeftOver held.lacks_memory held.count held.words (joined held.pieces)

-- nothing of a request has been taken off
abbrev pub IsBetween : Held → Type 0
IsBetween held = (held.count ≡ 0) × (held.words ≡ []) × (held.lacks_memory ≡ false)

-- the words that are kept, if there are some
abbrev pub kept : Option (List Bytes) → List Bytes
kept None = []
kept (Some words) = words

-- these words have been taken off of a request of which so many are due, and have so many bytes
pub record IsBegun (due size : ℕ) (words : List Bytes) : Type 0 where
  pub none : due ≡ 0 → words ≡ []
  pub most : due + length words ≤ WORDS_MAX
  pub short : AreShort words
  pub together : bytes_of words ≡ size
  pub room : size ≤ REQUEST_BYTES_MAX
