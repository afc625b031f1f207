-- Schedules: texts that say what happens in the world, in order, one event a line.
use Rattle.std.specs.Prelude.{ℕ, ◌≡◌, ◌≢◌, ◌+◌, ◌<◌, ◌≤◌, List, [], ◌∷◌, ◌++◌, length, take, codes}
use Rattle.std.specs.Fmt.{decimal}
use Rattle.hex.specs.Hex.{encode_lower, IsBytes}
use Rattle.words.specs.declared.limits.TheConstants.{BUCKETS_DEFAULT, PLACES_DEFAULT}
use Rattle.words.specs.declared.limits.Limits.{Limits}
use Rattle.words.specs.Store.{Bytes}
use Rattle.words.specs.Sizes.{AreInRange, HasNumbers}
use Rattle.world_model.specs.ShownPages.{page_of}
use Rattle.world_model.specs.declared.event.Event.{Event}
use Rattle.world_model.specs.declared.event.Event.TheVariants as event
use Rattle.schedules.specs.declared.lines.TheConstants.{PIECE_BYTES_MAX}

-- HOW A LINE IS SPELLED

-- words, separated by one space
abbrev pub spaced : List Bytes → Bytes
spaced [] = []
spaced (word ∷ []) = word
spaced (word ∷ next ∷ words) = word ++ (32 ∷ spaced (next ∷ words))

-- a line: words, separated by one space, and a line feed
abbrev pub line : List Bytes → Bytes
line words = spaced words ++ (10 ∷ [])

-- The words of the first line. A number is spelled in decimal, with no sign and no leading zero.
abbrev pub first_words : (clients stripes frames : ℕ) → List Bytes
first_words clients stripes frames = codes "world" ∷ decimal clients ∷ decimal stripes ∷ decimal frames ∷ []

-- The words of an event: its name, and the client, the stripe and the bytes that it names. Bytes are spelled in hexadecimal, in lower case,
-- with two digits a byte; of a page that is shown, the first stands for all.
abbrev pub words_of : Event → List Bytes
words_of (event.Piece c bytes) = codes "piece" ∷ decimal c ∷ encode_lower bytes ∷ []
words_of (event.Close c) = codes "close" ∷ decimal c ∷ []
words_of (event.Take c i) = codes "take" ∷ decimal c ∷ decimal i ∷ []
words_of (event.Fetch c) = codes "fetch" ∷ decimal c ∷ []
words_of (event.Commit c) = codes "commit" ∷ decimal c ∷ []
words_of (event.Give c i) = codes "give" ∷ decimal c ∷ decimal i ∷ []
words_of (event.Copy i) = codes "copy" ∷ decimal i ∷ []
words_of (event.Write i) = codes "write" ∷ decimal i ∷ []
words_of (event.Install i) = codes "install" ∷ decimal i ∷ []
words_of (event.Drop i) = codes "drop" ∷ decimal i ∷ []
words_of (event.Unlink i) = codes "unlink" ∷ decimal i ∷ []
words_of (event.Retire i) = codes "retire" ∷ decimal i ∷ []
words_of (event.Drain i) = codes "drain" ∷ decimal i ∷ []
words_of (event.Release i page) = codes "release" ∷ decimal i ∷ encode_lower (take 1 page) ∷ []

-- the lines of events, in order
abbrev pub lines : List Event → Bytes
lines [] = []
lines (e ∷ events) = line (words_of e) ++ lines events

-- WHICH NUMBERS ARE IN RANGE

-- the first line's numbers are in range, with the buckets and the places that a store has where nothing else is asked for
abbrev pub IsFirst : (clients stripes frames : ℕ) → Type 0
IsFirst clients stripes frames = AreInRange stripes BUCKETS_DEFAULT frames PLACES_DEFAULT clients

-- An event names a client and a stripe that there are, gives one to PIECE_BYTES_MAX bytes, and shows a page of one byte.
abbrev pub IsWithin : Limits → Event → Type 0
IsWithin limits (event.Piece c bytes) = (c < limits.clients) × IsBytes bytes × (1 ≤ length bytes) × (length bytes ≤ PIECE_BYTES_MAX)
IsWithin limits (event.Close c) = c < limits.clients
IsWithin limits (event.Take c i) = (c < limits.clients) × (i < limits.stripes)
IsWithin limits (event.Fetch c) = c < limits.clients
IsWithin limits (event.Commit c) = c < limits.clients
IsWithin limits (event.Give c i) = (c < limits.clients) × (i < limits.stripes)
IsWithin limits (event.Copy i) = i < limits.stripes
IsWithin limits (event.Write i) = i < limits.stripes
IsWithin limits (event.Install i) = i < limits.stripes
IsWithin limits (event.Drop i) = i < limits.stripes
IsWithin limits (event.Unlink i) = i < limits.stripes
IsWithin limits (event.Retire i) = i < limits.stripes
IsWithin limits (event.Drain i) = i < limits.stripes
IsWithin limits (event.Release i page) = (i < limits.stripes) × (byte : ℕ) × (byte < 256) × (page ≡ page_of byte)

-- each of these events is within the limits
abbrev pub AreWithin : Limits → List Event → Type 0
AreWithin limits [] = Unit {0}
AreWithin limits (e ∷ events) = IsWithin limits e × AreWithin limits events

-- WHICH TEXTS ARE SCHEDULES

-- Nothing but the first line and the lines of these events, which are within its limits, and then this rest.
pub record BeginsWith (text : Bytes) (limits : Limits) (events : List Event) (rest : Bytes) : Type 0 where
  pub first : IsFirst limits.clients limits.stripes limits.frames
  pub buckets : limits.buckets ≡ BUCKETS_DEFAULT
  pub places : limits.places ≡ PLACES_DEFAULT
  pub spelled : text ≡ line (first_words limits.clients limits.stripes limits.frames) ++ (lines events ++ rest)
  pub within : AreWithin limits events

-- The text is the schedule of these events, in a world of these limits: there is nothing after their lines.
abbrev pub IsSchedule : Bytes → Limits → List Event → Type 0
IsSchedule text limits events = BeginsWith text limits events []

-- The first line is bad: the text does not begin with one that is spelled as a first line is, with numbers in range.
abbrev pub HasNoFirst : Bytes → Type 0
HasNoFirst text = (clients stripes frames : ℕ) (rest : Bytes) → IsFirst clients stripes frames
    → text ≡ line (first_words clients stripes frames) ++ rest → ⊥

-- The text does not go on with the line of an event within the limits.
abbrev pub HasNoEvent : Limits → Bytes → Type 0
HasNoEvent limits rest = (e : Event) (more : Bytes) → IsWithin limits e → rest ≡ line (words_of e) ++ more → ⊥

-- The text begins with a first line and the lines of these events; then it goes on, and not with the line of an event within the limits.
pub record GoesWrongAfter (text : Bytes) (limits : Limits) (events : List Event) : Type 0 where
  pub rest : Bytes
  pub begins : BeginsWith text limits events rest
  pub goes_on : rest ≢ []
  pub wrong : HasNoEvent limits rest

-- The first bad line of the text is that of this number. Lines are numbered from 1.
pub data IsBadLine (text : Bytes) (number : ℕ) : Type 0 where
  First : number ≡ 1 → HasNoFirst text → IsBadLine text number
  Later : (limits : Limits) (events : List Event) → number ≡ length events + 2 → GoesWrongAfter text limits events → IsBadLine text number
