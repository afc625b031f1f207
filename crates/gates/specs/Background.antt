-- What a pass reports of a stripe that it gives back, and when that is true of the stripe's part.
use Rattle.std.specs.Prelude.{◌≡◌, ◌⊎◌, ◌↔◌, IsTrue, ℕ, ◌+◌, ◌<◌, ◌≤◌, true, false, List, [], ◌∷◌, Some}
use Rattle.std.specs.List.{Contains}
use Rattle.gates.specs.Pages.{Pages, Place, IsFull, IsSealed, count_true, has_receipt, total}
use Rattle.gates.specs.Sets.{part_at}
use Rattle.gates.specs.Rule.{Meaning}
use Rattle.gates.specs.declared.view.Refused.{Refused}
use Rattle.gates.specs.declared.view.Work.{Work}
use Rattle.gates.specs.declared.view.Work.TheVariants.{Flush, Evict, Clean}
use Rattle.gates.specs.declared.view.Look.{Look}
use Rattle.gates.specs.declared.view.Look.TheVariants.{HalfUsed, Used, FewerFree, FewerExpected}
use Rattle.gates.specs.declared.view.Note.{Note}
use Rattle.gates.specs.declared.view.Note.TheVariants as note
use Rattle.gates.specs.declared.report.Report.{Report}
use Rattle.gates.specs.declared.report.Report.TheVariants as report

-- the notes of a report
abbrev pub notes_of : Report → List Note
notes_of report.Nothing = []
notes_of (report.Full stripe refused) = note.Full stripe refused ∷ []
notes_of (report.Idle stripe work) = note.Idle stripe work ∷ []
notes_of (report.Done stripe work) = note.Done stripe work ∷ []
notes_of (report.Seen stripe look) = note.Seen stripe look ∷ []

-- There is nothing to do: no page is sealed; the first resident page has no receipt; the oldest page is resident, and no place waits to be
-- retired, drained or released, but for what the epochs refused.
abbrev pub IsIdle : Work → Pages → Type 0
IsIdle Flush p = (number : ℕ) → IsSealed p number → ⊥
IsIdle Evict p = has_receipt p p.first ≡ false
IsIdle (Clean refused) p =
    (p.first ≡ p.oldest) × (p.drained ≡ 0) × ((p.unlinked ≡ 0) ⊎ ((refused.retire ≡ true) × (p.worn ≡ true))) × ((p.retired ≡ 0) ⊎ (refused.drain ≡ true))

-- how many places wait for their release
abbrev pub waiting : Pages → ℕ
waiting p = p.unlinked + p.retired + p.drained

-- The same pages are in the log, and in the same frames. One place more is taken at most.
pub record HasSamePages (was now : Pages) : Type 0 where
  pub oldest : now.oldest ≡ was.oldest
  pub first : now.first ≡ was.first
  pub tail : now.tail ≡ was.tail
  pub frames : now.frames ≡ was.frames
  pub places : now.places ≡ was.places
  pub taken : now.unreleased ≤ was.unreleased + 1

-- The receipt of a page that was written is kept: one page more has one. No place more waits for its release; some of those that did may have
-- been released before.
pub record HasKept (was now : Pages) : Type 0 where
  pub same : HasSamePages was now
  pub receipts : count_true now.receipts ≡ count_true was.receipts + 1
  pub waits : waiting now ≤ waiting was

-- The receipt of a page that was written came too late: one place more is unlinked, and each page has a receipt that had one, and no other.
pub record CameLate (was now : Pages) : Type 0 where
  pub same : HasSamePages was now
  pub receipts : now.receipts ≡ was.receipts
  pub unlinked : now.unlinked ≡ was.unlinked + 1
  pub retired : now.retired ≡ was.retired
  pub drained : now.drained ≡ was.drained
  pub refused : now.refused ≡ was.refused
  pub worn : now.worn ≡ was.worn

-- A step was done: a page was written, and its receipt is kept or came too late, and not both; the first resident page is one later; the oldest
-- page is a later one, one place more is retired, or drained, or one less is drained and unreleased.
abbrev pub IsStep : Work → (was now : Pages) → Type 0
IsStep Flush was now = HasKept was now ⊎ CameLate was now
IsStep Evict was now = now.first ≡ was.first + 1
IsStep (Clean refused) was now =
    (was.oldest < now.oldest) ⊎ (now.retired ≡ was.retired + 1) ⊎ (now.drained ≡ was.drained + 1)
    ⊎ ((now.drained + 1 ≡ was.drained) × (now.unreleased + 1 ≡ was.unreleased))

-- where a drain was refused, a word that was read has blocked it since the stripe was taken
abbrev pub AreRefused : Work → (was now : Pages) → Type 0
AreRefused Flush was now = Unit {0}
AreRefused Evict was now = Unit {0}
AreRefused (Clean refused) was now = refused.drain ≡ true → total was.refused < total now.refused

-- Of each place that is retired now: it was retired before, and its count is greater by so much or by more; or it was unlinked then, and has
-- such a count.
abbrev pub AreRaised : (by : ℕ) (unlinked : List Place) (was now : List (Place × ℕ)) → Type 0
AreRaised by unlinked was now =
    (place : Place) (count : ℕ) → Contains now (place, count)
    → ((before : ℕ) × Contains was (place, before) × (before + by ≤ count)) ⊎ (Contains unlinked place × (by ≤ count))

-- For each place that is retired, a word that was read has blocked its drain since.
abbrev pub IsEachRefused : (unlinked : List Place) (was now : List (Place × ℕ)) → Type 0
IsEachRefused unlinked was now = AreRaised 1 unlinked was now

-- No place that waits for its release can be released: none is drained; none is unlinked, but where a retirement was refused; and the drain of
-- each that is retired was refused since.
pub record IsSpent (refused : Refused) (was now : Pages) : Type 0 where
  pub drained : now.drained ≡ 0
  pub unlinked : (now.unlinked ≡ 0) ⊎ ((refused.retire ≡ true) × (now.worn ≡ true))
  pub retired : (now.retired ≡ 0) ⊎ (refused.drain ≡ true)
  pub each : IsEachRefused was.waits was.refused now.refused

-- What is seen is so: places are used as long as they are taken and not released, and a frame is free that has no page from the first resident one to
-- the tail page. A frame may be had for a place that has no receipt which the log keeps.
abbrev pub IsSeen : Look → Pages → Type 0
IsSeen (HalfUsed answer) p = IsTrue answer ↔ (p.places ≤ p.unreleased + p.unreleased)
IsSeen (Used count) p = count ≡ p.unreleased
IsSeen (FewerFree count answer) p = IsTrue answer ↔ (p.frames + p.first < count + (p.tail + 1))
IsSeen (FewerExpected count answer) p =
    IsTrue answer ↔ (p.frames + p.first + p.places < count + (p.tail + 1) + count_true p.receipts)

module _ {T : Type 0} where
  -- the part of a stripe is such
  pub record IsAt (parts : List (ℕ × T)) (stripe : ℕ) (P : T → Type 0) : Type 0 where
    pub part : T
    pub there : part_at parts stripe ≡ Some part
    pub is : P part

  -- A report is true of the parts that are held, and of what was taken.
  abbrev pub IsToldOf : Meaning T → List (ℕ × (ℕ × T)) → List (ℕ × T) → Report → Type 0
  IsToldOf contents took parts report.Nothing = Unit {0}
  IsToldOf contents took parts (report.Full stripe refused) =
      IsAt parts stripe (λ part. IsFull (contents.pages part) × (was : ℕ × T) × (part_at took stripe ≡ Some was) × IsSpent refused (contents.pages was.1) (contents.pages part))
  IsToldOf contents took parts (report.Idle stripe work) =
      IsAt parts stripe (λ part. IsIdle work (contents.pages part) × (was : ℕ × T) × (part_at took stripe ≡ Some was) × AreRefused work (contents.pages was.1) (contents.pages part))
  IsToldOf contents took parts (report.Done stripe work) = IsAt parts stripe (λ part. (was : ℕ × T) × (part_at took stripe ≡ Some was) × IsStep work (contents.pages was.1) (contents.pages part))
  IsToldOf contents took parts (report.Seen stripe look) = IsAt parts stripe (λ part. IsSeen look (contents.pages part))
