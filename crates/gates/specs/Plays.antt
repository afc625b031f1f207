-- What each step tells the pass that makes it.
use Rattle.std.specs.Prelude.{◌≡◌, ◌≢◌, ℕ, zero, suc, ◌+◌, ◌^◌, ◌<◌, List, [], ◌∷◌, ◌++◌, length, Bool, true, false, cond, MatchBool, nat_lt, nat_eq, None}
use Rattle.atomic_table.specs.Table.{Me, Step, rest}
use Rattle.words.specs.declared.history.Entry.{Entry}
use Rattle.words.specs.declared.history.Operation.TheVariants.{Exec}
use Rattle.words.specs.declared.reply.Reply.TheVariants.{NullArray}
use Rattle.words.specs.Store.{Bytes}
use Rattle.words.specs.History.{History, Legal, after, subhistory}
use Rattle.words.specs.Watches.{watched_after}
use Rattle.words.specs.Stripes.{IsPart}
use Rattle.gates.specs.declared.view.Note.{Note}
use Rattle.gates.specs.declared.view.Note.TheVariants.{Busy, Worn}
use Rattle.gates.specs.declared.view.Knowledge.{Knowledge}
use Rattle.gates.specs.declared.view.View.{View}
use Rattle.gates.specs.Sets.{times, without, without_part}
use Rattle.gates.specs.Rule.{AllLeave, word_of, Meaning, IsMarked, AreOwnMarks}

-- An entry that is never committed: where no call picks one.
abbrev pub an_entry : Entry
an_entry = record { session = 0; operation = Exec [] []; reply = NullArray }

-- a pass that has seen nothing
abbrev pub newcomer : ℕ → Knowledge
newcomer number = record { number = number; seen = []; mine = []; notes = []; watched = [] }

-- so many passes that have seen nothing, of the numbers from this one on
abbrev pub newcomers : (number count : ℕ) → List Knowledge
newcomers number zero = []
newcomers number (suc count) = newcomer number ∷ newcomers (number + 1) count

-- what the first pass of the list knows
abbrev pub first_of : List Knowledge → Knowledge
first_of [] = newcomer 0
first_of (knows ∷ others) = knows

abbrev pub others_of : List Knowledge → List Knowledge
others_of [] = []
others_of (knows ∷ others) = others

-- the pass has seen this history
abbrev pub sees : Knowledge → History → Knowledge
sees knows log = record knows { seen = log }

-- the pass was told this
abbrev pub notes : Knowledge → Note → Knowledge
notes knows note = record knows { notes = note ∷ knows.notes }

-- the pass has committed an entry after this history
abbrev pub commits : Knowledge → History → Entry → Knowledge
commits knows before entry =
    record knows {
      seen = entry ∷ before;
      mine = (length before, entry) ∷ knows.mine;
      watched = watched_after knows.watched entry.operation (length before);
    }

-- the pass watches what it did, or nothing, if its watches end
abbrev pub kept : (ends : Bool) → (told : List Note) → Knowledge → Knowledge
kept ends told knows = record knows { watched = cond ends [] knows.watched; notes = told ++ knows.notes }

-- all passes have seen this history
abbrev pub all_see : List Knowledge → History → List Knowledge
all_see [] log = []
all_see (knows ∷ others) log = sees knows log ∷ all_see others log

-- the history goes on from what the pass has seen, by entries that leave each stripe of the list; none of them is the pass's
pub record GoesOn (trusted : Type 0) (stripes : ℕ) (held : List ℕ) (knows : Knowledge) (log : History) : Type 0 where
  pub more : History
  pub begins : log ≡ more ++ knows.seen
  pub leave : (stripe : ℕ) → 0 < times stripe held → AllLeave stripes stripe more
  pub legal : trusted → Legal log
  pub mine : knows.mine ≡ subhistory log knows.number

-- the same of each pass of a list, with no stripe held
abbrev pub EachGoesOn : (trusted : Type 0) (stripes : ℕ) → List Knowledge → History → Type 0
EachGoesOn trusted stripes [] log = Unit {0}
EachGoesOn trusted stripes (knows ∷ others) log = GoesOn trusted stripes [] knows log × EachGoesOn trusted stripes others log

module _ {T : Type 0} where
  -- a seat that stands for these passes and holds nothing
  abbrev pub resting : List Knowledge → View T
  resting passes = record { passes = passes; held = []; armed = false; taken = [] }

  -- the first seat's view, before the passes are dealt out
  abbrev pub unmet : ℕ → View T
  unmet passes = resting (newcomers 0 passes)

  -- what the one pass of a view knows
  abbrev pub own : View T → Knowledge
  own v = first_of v.passes

  -- the seat stands for one pass
  abbrev pub IsSingle : View T → Type 0
  IsSingle v = v.passes ≡ own v ∷ []

  -- the view once the pass knows this
  abbrev pub knowing : View T → Knowledge → View T
  knowing v knows = record v { passes = knows ∷ [] }

  -- the view once a stripe was taken, with this part and at this history: its length is the moment
  abbrev pub taking : View T → ℕ → T → History → View T
  taking v stripe part log =
      record v { passes = sees (own v) log ∷ []; held = stripe ∷ v.held; taken = (stripe, (length log, part)) ∷ v.taken }

  -- the view once a stripe was given back
  abbrev pub giving : View T → ℕ → View T
  giving v stripe = record v { held = without stripe v.held; taken = without_part stripe v.taken }

  -- A stripe was taken: the pass has seen the whole history, and has the stripe's part, which reads as its part of what that leaves, and
  -- whose marks say which of the pass's watched keys were written in it.
  pub record Took (contents : Meaning T) (stripes stripe : ℕ) (m w : Me T (View T)) : Type 0 where
    pub part : T
    pub log : History
    pub goes_on : GoesOn contents.trusted stripes m.0.held (own m.0) log
    pub reads : contents.trusted → IsPart stripes stripe (contents.store part) (after log)
    pub own_marks : contents.trusted → AreOwnMarks stripes stripe (contents.marks part)
    pub marked : contents.trusted → IsMarked stripes stripe (contents.marks part) log (own m.0)
    pub seat : w ≡ (taking m.0 stripe part log, (stripe, part) ∷ m.1)

  -- a stripe's word was read as another's
  pub record Missed (stripe found : ℕ) (m w : Me T (View T)) : Type 0 where
    pub others : found ≢ (own m.0).number + 1
    pub seat : w ≡ (knowing m.0 (notes (own m.0) (Busy stripe)), m.1)

  -- one try of a stripe
  abbrev pub Tries : Meaning T → Step T → Me T (View T) → ℕ → Me T (View T) → Type 0
  Tries contents st m found w =
      (stripe : ℕ) → st.word ≡ word_of stripe → MatchBool (nat_eq found 0) (Took contents st.slots stripe m w) (Missed stripe found m w)

  -- the seat may add to the commit word
  abbrev pub BecomesArmed : Me T (View T) → Me T (View T) → Type 0
  BecomesArmed m w = w ≡ (record (m.0) { armed = true }, m.1)

  -- the commit word was read at 2^62 or more
  abbrev pub FindsWorn : Me T (View T) → Me T (View T) → Type 0
  FindsWorn m w = w ≡ (knowing m.0 (notes (own m.0) Worn), m.1)

  -- a look at the commit word before a commit
  abbrev pub Arms : Step T → Me T (View T) → ℕ → Me T (View T) → Type 0
  Arms st m found w = MatchBool (nat_lt found (2 ^ 62)) (BecomesArmed m w) (FindsWorn m w)

  -- A commit: the pass has seen the whole history, with its own entry as the newest, whose position is the number found. It may commit
  -- again where that is below 2^62.
  pub record Commits (trusted : Type 0) (entry : Entry) (st : Step T) (m : Me T (View T)) (found : ℕ) (w : Me T (View T)) : Type 0 where
    pub before : History
    pub goes_on : GoesOn trusted st.slots m.0.held (own m.0) before
    pub place : found ≡ length before
    pub legal : trusted → Legal (entry ∷ before)
    pub mine : (length before, entry) ∷ (own m.0).mine ≡ subhistory (entry ∷ before) (own m.0).number
    pub seat : w ≡ (record (m.0) { passes = commits (own m.0) before entry ∷ []; armed = nat_lt found (2 ^ 62) }, m.1)

  -- the stripe whose part the seat has in front was given back, and the pass watches nothing more if its watches end
  abbrev pub Gives : (ends : Bool) → (told : List Note) → Step T → Me T (View T) → ℕ → Me T (View T) → Type 0
  Gives ends told st m found w =
      (stripe : ℕ) → st.word ≡ word_of stripe → w ≡ (giving (knowing m.0 (kept ends told (own m.0))) stripe, rest m.1)

  -- a look at the table by a seat that stands for two passes: each has seen the whole history
  pub record Meets (trusted : Type 0) (st : Step T) (m : Me T (View T)) (found : ℕ) (w : Me T (View T)) : Type 0 where
    pub log : History
    pub go_on : EachGoesOn trusted st.slots m.0.passes log
    pub seat : w ≡ (record (m.0) { passes = all_see m.0.passes log }, m.1)

  -- the view of a seat that stands for the passes of two
  abbrev pub joined : View T → View T → View T
  joined v w = resting (v.passes ++ w.passes)

  -- each of the parts reads as empty, and has no marks
  abbrev pub AreEmpty : Meaning T → List T → Type 0
  AreEmpty contents [] = Unit {0}
  AreEmpty contents (part ∷ parts) = ((key : Bytes) → contents.store part key ≡ None) × ((key : Bytes) (number : ℕ) → contents.marks part key number ≡ None) × AreEmpty contents parts
