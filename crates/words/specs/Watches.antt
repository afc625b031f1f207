-- What a session watches, and the marks that tell it what was written since.
use Rattle.std.specs.Prelude.{ℕ, ◌≡◌, ◌+◌, Bool, true, false, ◌||◌, List, [], ◌∷◌, length, Option, Some, None, if◌then◌else◌}
use Rattle.std.specs.Str.{bytes_eq}
use Rattle.words.specs.declared.history.Operation.{Operation}
use Rattle.words.specs.declared.history.Operation.TheVariants.{Run, Watch, Exec}
use Rattle.words.specs.Store.{Bytes}
use Rattle.words.specs.History.{History, Pair, is_written, is_among}

-- the position from which on a key is watched, if it is
abbrev pub watched_at : List Pair → Bytes → Option ℕ
watched_at [] key = None
watched_at (pair ∷ pairs) key = if bytes_eq pair.0 key then Some pair.1 else watched_at pairs key

-- the pairs with this key, which keeps the position that it has
abbrev pub with_key : List Pair → Bytes → ℕ → Option ℕ → List Pair
with_key pairs key position None = (key, position) ∷ pairs
with_key pairs key position (Some old) = pairs

-- the pairs with these keys, watched from a position on where they are not watched yet
abbrev pub with_keys : List Pair → List Bytes → ℕ → List Pair
with_keys pairs [] position = pairs
with_keys pairs (key ∷ keys) position = with_keys (with_key pairs key position (watched_at pairs key)) keys position

-- what a session watches after its entry at this position
abbrev pub watched_after : List Pair → Operation → ℕ → List Pair
watched_after pairs (Run command) position = pairs
watched_after pairs (Watch keys) position = with_keys pairs keys position
watched_after pairs (Exec commands own) position = []

-- these keys with one more, where it is none of them
abbrev pub with_new : Bool → Bytes → List Bytes → List Bytes
with_new true key watched = watched
with_new false key watched = key ∷ watched

-- how many keys are watched where these are watched and those come to it, each key counted once
abbrev pub count_watched : List Bytes → List Bytes → ℕ
count_watched watched [] = length watched
count_watched watched (key ∷ keys) = count_watched (with_new (is_among watched key) key watched) keys

-- a transaction goes by all keys that its session watches
abbrev pub GoesBy : List Pair → Operation → Type 0
GoesBy pairs (Run command) = Unit {0}
GoesBy pairs (Watch keys) = Unit {0}
GoesBy pairs (Exec commands own) = own ≡ pairs

-- Marks: for a key and a session, none where the session does not watch the key, else whether the key was written since.
abbrev pub Marks : Type 0
Marks = Bytes → ℕ → Option Bool

-- a mark, once its key is written or not
abbrev pub touched : Bool → Option Bool → Option Bool
touched wrote None = None
touched wrote (Some mark) = Some (wrote || mark)

-- whether a key was written after its position, if it has one
abbrev pub mark_of : History → Bytes → Option ℕ → Option Bool
mark_of history key None = None
mark_of history key (Some position) = Some (is_written history (position + 1) key)

-- the mark of a key that is due to a session which watches these
abbrev pub mark_at : History → List Pair → Bytes → Option Bool
mark_at history pairs key = mark_of history key (watched_at pairs key)

-- a mark, once its key is watched
abbrev pub begun : Option Bool → Option Bool
begun None = Some false
begun (Some mark) = Some mark

-- the session's own mark of a key after its entry, which wrote the key or not
abbrev pub mark_after : Operation → (wrote : Bool) → Bytes → Option Bool → Option Bool
mark_after (Run command) wrote key mark = touched wrote mark
mark_after (Watch keys) wrote key mark = if is_among keys key then begun mark else mark
mark_after (Exec commands own) wrote key mark = None
