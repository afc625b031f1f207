-- Passes and held stripes: what they know, what they have, and what their calls keep.
use Rattle.std.specs.Prelude.{◌≡◌, ◌≢◌, ◌||◌, Bool, true, ℕ, ◌+◌, ◌^◌, ◌<◌, ◌≤◌, List, [], ◌∷◌, ◌++◌, length, Some, IsSome}
use Rattle.atomic_table.specs.Seated.{TableId}
use Rattle.atomic_table.specs.Table.{Me}
use Rattle.words.specs.declared.history.Entry.{Entry}
use Rattle.words.specs.declared.reply.Reply.{Reply}
use Rattle.words.specs.Session.{Asked, operation_of}
use Rattle.words.specs.Store.{Bytes}
use Rattle.words.specs.History.{History, Pair, Legal, after, subhistory, keys_of_pairs, is_written, AreWatches}
use Rattle.words.specs.Watches.{watched_at, watched_after, mark_at, mark_after}
use Rattle.words.specs.Stripes.{stripe_of, IsPart}
use Rattle.gates.specs.declared.view.Note.{Note}
use Rattle.gates.specs.declared.view.Note.TheVariants.{Busy, Worn, Full, Idle, Done, Seen}
use Rattle.gates.specs.declared.view.Knowledge.{Knowledge}
use Rattle.gates.specs.declared.view.View.{View}
use Rattle.gates.specs.declared.gates.Gates.{Gates}
use Rattle.gates.specs.declared.gates.Pass.{Pass}
use Rattle.gates.specs.Sets.{times, part_at}
use Rattle.gates.specs.Plays.{own, IsSingle, newcomer}
use Rattle.gates.specs.Rule.{writes, Meaning, IsMarked, AreOwnMarks, touched_marks}

-- the entry of what is asked of a pass and answered: a transaction goes by all that the pass watches
abbrev pub entry_asked : Knowledge → Asked → Reply → Entry
entry_asked mine asked said = record { session = mine.number; operation = operation_of mine.watched asked; reply = said }

-- each of these pairs is what is watched of its key among all: with all of them, no key stands twice
abbrev pub AreWatched : (all : List Pair) → List Pair → Type 0
AreWatched all [] = Unit {0}
AreWatched all (pair ∷ pairs) = (watched_at all pair.0 ≡ Some pair.1) × AreWatched all pairs

module _ {T : Type 0} where
  -- which gates they are
  abbrev pub id_of : Gates T → TableId
  id_of gates = gates.table.shared.table_id

  -- how many stripes there are
  abbrev pub stripes_of : Gates T → ℕ
  stripes_of gates = (id_of gates).slots

  -- the number of a pass
  abbrev pub pass_number : Pass T → ℕ
  pass_number pass = pass.number

  -- what a pass knows
  abbrev pub known : Pass T → Knowledge
  known pass = own pass.seat.me.0

  -- the parts that a pass has taken, each with its stripe
  abbrev pub parts_in : Pass T → List (ℕ × T)
  parts_in pass = pass.seat.me.1

  -- the stripes of parts
  abbrev pub stripes_among : List (ℕ × T) → List ℕ
  stripes_among [] = []
  stripes_among (part ∷ parts) = part.0 ∷ stripes_among parts

  -- the stripes that a pass has taken
  abbrev pub stripes_in : Pass T → List ℕ
  stripes_in pass = stripes_among (parts_in pass)

  -- the stripes that it holds in the order of its takes, the last one first
  abbrev pub takes_in : Pass T → List ℕ
  takes_in pass = pass.seat.me.0.held

  -- what it took, each with its stripe: the moment, and the part as it was then
  abbrev pub taken_in : Pass T → List (ℕ × (ℕ × T))
  taken_in pass = pass.seat.me.0.taken

  -- The part of a stripe reads as its part of what the history leaves that the pass has seen, and its marks say which of the pass's watched
  -- keys were written in it. For others they are as the part had them when it was taken, touched at the keys that were written since. No
  -- key of another stripe has a mark.
  pub record FitsPart (contents : Meaning T) (stripes : ℕ) (knows : Knowledge) (took : List (ℕ × (ℕ × T))) (stripe : ℕ) (part : T) : Type 0 where
    pub reads : IsPart stripes stripe (contents.store part) (after knows.seen)
    pub marks : IsMarked stripes stripe (contents.marks part) knows.seen knows
    pub was : ℕ × T
    pub taken : part_at took stripe ≡ Some was
    pub early : was.0 ≤ length knows.seen
    pub own_marks : AreOwnMarks stripes stripe (contents.marks part)
    pub others : (key : Bytes) (number : ℕ) → stripe_of stripes key ≡ stripe → number ≢ knows.number
        → contents.marks part key number ≡ touched_marks knows.seen was.0 (contents.marks was.1) key number

  -- each of the parts does
  abbrev pub AllFit : Meaning T → (stripes : ℕ) → Knowledge → List (ℕ × (ℕ × T)) → List (ℕ × T) → Type 0
  AllFit contents stripes knows took parts =
      contents.trusted → (stripe : ℕ) (part : T) → part_at parts stripe ≡ Some part → FitsPart contents stripes knows took stripe part

  -- each of the parts is as it was taken
  abbrev pub AreAsTaken : List (ℕ × (ℕ × T)) → List (ℕ × T) → Type 0
  AreAsTaken took parts = (stripe : ℕ) (part : T) → part_at parts stripe ≡ Some part → (moment : ℕ) × (part_at took stripe ≡ Some (moment, part))

  -- a seat stands for the one pass of this number, and has the stripes that it holds, each once; what the pass has seen is legal, and has
  -- its own entries and its watches, of which no two are of one key
  pub record IsSeatOf (trusted : Type 0) (stripes number : ℕ) (me : Me T (View T)) : Type 0 where
    pub single : IsSingle me.0
    pub number_is : (own me.0).number ≡ number
    pub once : (stripe : ℕ) → times stripe (stripes_among me.1) ≤ 1
    pub same : (stripe : ℕ) → times stripe me.0.held ≡ times stripe (stripes_among me.1)
    pub below : (stripe : ℕ) → 0 < times stripe (stripes_among me.1) → stripe < stripes
    pub legal : trusted → Legal (own me.0).seen
    pub mine : (own me.0).mine ≡ subhistory (own me.0).seen (own me.0).number
    pub watches : AreWatches (own me.0).seen (own me.0).number (own me.0).watched
    pub each_once : AreWatched (own me.0).watched (own me.0).watched

  -- the pass is one of these gates
  pub record IsHolding (trusted : Type 0) (gates : Gates T) (pass : Pass T) : Type 0 where
    pub table : pass.seat.table_id ≡ id_of gates
    pub small : pass.number < 2 ^ 62
    pub armed : pass.armed ≡ pass.seat.me.0.armed
    pub seat : IsSeatOf trusted (stripes_of gates) pass.number pass.seat.me

  -- the pass is one of these gates, and holds nothing
  pub record IsResting (trusted : Type 0) (gates : Gates T) (pass : Pass T) : Type 0 where
    pub holding : IsHolding trusted gates pass
    pub nothing : parts_in pass ≡ []

-- passes of the gates that have seen nothing, with the numbers from this one on
abbrev pub AreNew : {T : Type 0} → (trusted : Type 0) → Gates T → (number : ℕ) → List (Pass T) → Type 0
AreNew trusted gates number [] = Unit {0}
AreNew trusted gates number (pass ∷ passes) = IsResting trusted gates pass × (known pass ≡ newcomer number) × AreNew trusted gates (number + 1) passes

-- each of the notes says that a stripe of these was another pass's
abbrev pub AreBusy : (stripes : List ℕ) → List Note → Type 0
AreBusy stripes [] = Unit {0}
AreBusy stripes (Busy stripe ∷ notes) = (0 < times stripe stripes) × AreBusy stripes notes
AreBusy stripes (Worn ∷ notes) = ⊥
AreBusy stripes (Full stripe refused ∷ notes) = ⊥
AreBusy stripes (Idle stripe work ∷ notes) = ⊥
AreBusy stripes (Done stripe work ∷ notes) = ⊥
AreBusy stripes (Seen stripe look ∷ notes) = ⊥

-- the pass was told since that stripes of these were others', and nothing else
abbrev pub ToldBusy : (stripes : List ℕ) → (before later : Knowledge) → Type 0
ToldBusy stripes before later = (more : List Note) × (later.notes ≡ more ++ before.notes) × AreBusy stripes more

-- What a pass knows only grew, and its own entries and what it watches are the same.
pub record Learned (before later : Knowledge) : Type 0 where
  pub number : later.number ≡ before.number
  pub mine : later.mine ≡ before.mine
  pub seen : (more : History) × (later.seen ≡ more ++ before.seen)
  pub notes : (more : List Note) × (later.notes ≡ more ++ before.notes)
  pub watched : later.watched ≡ before.watched

-- The pass was told this, and knows nothing else that it did not know.
pub record WasTold (note : Note) (before later : Knowledge) : Type 0 where
  pub number : later.number ≡ before.number
  pub mine : later.mine ≡ before.mine
  pub seen : later.seen ≡ before.seen
  pub notes : later.notes ≡ note ∷ before.notes
  pub watched : later.watched ≡ before.watched

-- The pass knows what it knew, and one entry of its own more, the newest of what it has seen, at this position. Before it the history may
-- have gone on, but not at keys of the stripes for which there are parts: for these it is as if the entry stood right behind what was seen.
pub record Committed {T : Type 0} (stripes : ℕ) (parts : List (ℕ × T)) (entry : Entry) (place : ℕ) (before later : Knowledge) : Type 0 where
  pub history : History
  pub goes_on : (more : History) × (history ≡ more ++ before.seen)
  pub place_is : place ≡ length history
  pub number : later.number ≡ before.number
  pub seen : later.seen ≡ entry ∷ history
  pub mine : later.mine ≡ (place, entry) ∷ before.mine
  pub notes : later.notes ≡ before.notes
  pub watched : later.watched ≡ watched_after before.watched entry.operation place
  pub store : (key : Bytes) → IsSome (part_at parts (stripe_of stripes key)) → after later.seen key ≡ after (entry ∷ before.seen) key
  pub touches : (key : Bytes) (start : ℕ) → IsSome (part_at parts (stripe_of stripes key)) → start ≤ length before.seen
      → is_written later.seen start key ≡ (writes (after before.seen) entry key || is_written before.seen start key)
  pub marks : (key : Bytes) → IsSome (part_at parts (stripe_of stripes key))
      → mark_at later.seen later.watched key
      ≡ mark_after entry.operation (writes (after before.seen) entry key) key (mark_at before.seen before.watched key)

-- there is a part for the stripe of each of the keys
abbrev pub KeysHeld : {T : Type 0} → (stripes : ℕ) (parts : List (ℕ × T)) → List Bytes → Type 0
KeysHeld stripes parts [] = Unit {0}
KeysHeld stripes parts (key ∷ keys) = IsSome (part_at parts (stripe_of stripes key)) × KeysHeld stripes parts keys

-- where watches end, there is a part for the stripe of each watched key
abbrev pub MayEnd : {T : Type 0} → (ends : Bool) (stripes : ℕ) (parts : List (ℕ × T)) → List Pair → Type 0
MayEnd ends stripes parts watched = ends ≡ true → KeysHeld stripes parts (keys_of_pairs watched)

-- The pass tried a stripe that another held. What it has seen may have grown, and its own entries are the same.
pub record WasBusy (stripe : ℕ) (before later : Knowledge) : Type 0 where
  pub number : later.number ≡ before.number
  pub mine : later.mine ≡ before.mine
  pub seen : (more : History) × (later.seen ≡ more ++ before.seen)
  pub notes : later.notes ≡ Busy stripe ∷ before.notes
  pub watched : later.watched ≡ before.watched
