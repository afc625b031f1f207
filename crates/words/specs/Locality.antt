-- Words for what an operation depends on and what it leaves.
use Rattle.std.specs.Prelude.{◌≡◌, ◌≢◌, List, [], ◌∷◌}
use Rattle.words.specs.Store.{Bytes, Store}
use Rattle.words.specs.History.{History, keys_named}

-- two stores have the same at each of these keys
abbrev pub AreSameAt : List Bytes → Store → Store → Type 0
AreSameAt [] one other = Unit {0}
AreSameAt (key ∷ keys) one other = (one key ≡ other key) × AreSameAt keys one other

-- the key is none of these
abbrev pub IsNoneOf : List Bytes → Bytes → Type 0
IsNoneOf [] key = Unit {0}
IsNoneOf (first ∷ keys) key = (first ≢ key) × IsNoneOf keys key

-- no entry of this history names the key
abbrev pub NoEntryNames : History → Bytes → Type 0
NoEntryNames [] key = Unit {0}
NoEntryNames (entry ∷ before) key = IsNoneOf (keys_named entry.operation) key × NoEntryNames before key

-- no entry of this history names one of the keys
abbrev pub NamesNone : History → List Bytes → Type 0
NamesNone history [] = Unit {0}
NamesNone history (key ∷ keys) = NoEntryNames history key × NamesNone history keys
