-- Which requests are held without an allocation.
use Rattle.std.specs.Prelude.{◌≡◌, ◌≤◌, List, [], ◌∷◌, ◌++◌, length}
use Rattle.words.specs.declared.word.TheConstants.{WORD_INLINE, WORDS_INLINE}
use Rattle.words.specs.Store.{Bytes}
use Rattle.words.specs.Spelling.{spelling, IsRequest}

-- each of the words is held without an allocation
abbrev pub AreInline : List Bytes → Type 0
AreInline [] = Unit {0}
AreInline (word ∷ words) = (length word ≤ WORD_INLINE) × AreInline words

-- the words are held without an allocation
abbrev pub FitInline : List Bytes → Type 0
FitInline words = (length words ≤ WORDS_INLINE) × AreInline words

-- a whole request stands at the front of the bytes, and its words are not held without an allocation
pub record NeedsMemory (bytes : Bytes) : Type 0 where
  pub words : List Bytes
  pub more : Bytes
  pub request : IsRequest words
  pub begins : bytes ≡ spelling words ++ more
  pub large : ¬ FitInline words
