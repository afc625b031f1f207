-- What marks say of each key and seat.
use Rattle.std.specs.Prelude.{◌≡◌, ℕ, Bool, true, false, ◌&&◌, List, [], ◌∷◌, Option, Some, None, nat_eq, if◌then◌else◌}
use Rattle.std.specs.BTreeMap.{get}
use Rattle.std.specs.Cmp.Lexicographic.{slice_cmp}
use Rattle.std.specs.Ordering.{nat_cmp}
use Rattle.std.specs.Str.{bytes_eq}
use Rattle.words.specs.Store.{Bytes}
use Rattle.words.specs.Watches as watches
use Rattle.words.specs.Watches.{begun}
use Rattle.watch.specs.declared.Marks.{Marks}
use Rattle.watch.specs.declared.seats.Mark.{Mark}
use Rattle.watch.specs.declared.seats.Seats.{Seats}

-- the mark of a seat among these, if it has one
abbrev pub mark_among : List Mark → ℕ → Option Bool
mark_among [] seat = None
mark_among (mark ∷ marks) seat = if nat_eq mark.seat seat then Some mark.written else mark_among marks seat

-- the mark of a seat among those of one key
abbrev pub mark_of_seat : Seats → ℕ → Option Bool
mark_of_seat seats = mark_among (seats.first ∷ seats.others.items)

-- the mark of a seat among those of a key, if the key has any
abbrev pub mark_there : Option Seats → ℕ → Option Bool
mark_there None seat = None
mark_there (Some seats) seat = mark_of_seat seats seat

-- whether a mark is there, and written
abbrev pub says_written : Option Bool → Bool
says_written None = false
says_written (Some written) = written

-- The marks as a function: for a key and a seat, none where the seat does not watch the key, else whether the key was written since.
unfoldable pub marks_of : Marks → watches.Marks
marks_of marks key = mark_there (get (slice_cmp nat_cmp) marks.keys key)

-- whether a key and a seat are these
abbrev pub are_these : (key : Bytes) (seat : ℕ) → Bytes → ℕ → Bool
are_these key seat k s = bytes_eq key k && nat_eq seat s

-- a mark, once its key is watched or not
abbrev pub begun_if : Bool → Option Bool → Option Bool
begun_if watched mark = if watched then begun mark else mark

-- a mark, once it is taken out or not
abbrev pub cleared : Bool → Option Bool → Option Bool
cleared true mark = None
cleared false mark = mark

-- no key has a mark
abbrev pub AreNone : watches.Marks → Type 0
AreNone marks = (key : Bytes) (seat : ℕ) → marks key seat ≡ None

-- one of the seat's marks is written
abbrev pub HasWritten : watches.Marks → ℕ → Type 0
HasWritten marks seat = (key : Bytes) × (marks key seat ≡ Some true)
