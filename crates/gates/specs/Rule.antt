-- The rule of the gates: what is shared, what each pass knows, and what holds of both between any two steps.
use Rattle.std.specs.Prelude.{Bool, ◌≡◌, ◌≢◌, ◌⊎◌, ℕ, Some, None, ◌+◌, ◌*◌, ◌^◌, ◌<◌, ◌≤◌, List, [], ◌∷◌, ◌++◌, length, map, cond, slice_index}
use mathlib.Core.Option.{none, some}
use lib.ListN.{get_elem?}
use Rattle.atomic_table.specs.Table.{State}
use Rattle.words.specs.declared.history.Entry.{Entry}
use Rattle.words.specs.Store.{Bytes, Store, writes_key}
use Rattle.words.specs.History.{History, Legal, after, writes_of, subhistory, is_written, AreWatches}
use Rattle.words.specs.Watches.{Marks, touched, mark_at}
use Rattle.words.specs.Stripes.{IsPart, LeavesStripe, stripe_of}
use Rattle.gates.specs.declared.view.Knowledge.{Knowledge}
use Rattle.gates.specs.declared.view.View.{View}
use Rattle.gates.specs.Sets.{times, part_at}
use Rattle.gates.specs.Pages.{Pages}

-- The table's words: the commit word, and then a word for each stripe, each on cache lines of its own.
abbrev pub commit_word : ℕ
commit_word = 0

abbrev pub word_of : ℕ → ℕ
word_of stripe = 16 * (stripe + 1)

-- whether an entry writes the key, where this store stands before it
abbrev pub writes : Store → Entry → Bytes → Bool
writes store entry key = writes_key (writes_of store entry) key

-- each of the entries leaves the stripe
abbrev pub AllLeave : (stripes stripe : ℕ) → History → Type 0
AllLeave stripes stripe [] = Unit {0}
AllLeave stripes stripe (entry ∷ before) = LeavesStripe stripes stripe entry.operation × AllLeave stripes stripe before

-- a sum over all views
abbrev pub total : {V : Type 0} → (V → ℕ) → List V → ℕ
total f [] = 0
total f (v ∷ views) = f v + total f views

-- The log goes on from what a pass has seen, by entries that leave each stripe that it holds, and its own entries are all that the log
-- has of it.
pub record Fits (stripes : ℕ) (log : History) (held : List ℕ) (knows : Knowledge) : Type 0 where
  pub more : History
  pub begins : log ≡ more ++ knows.seen
  pub leave : (stripe : ℕ) → 0 < times stripe held → AllLeave stripes stripe more
  pub mine : knows.mine ≡ subhistory log knows.number
  pub mine_seen : knows.mine ≡ subhistory knows.seen knows.number
  pub watches : AreWatches knows.seen knows.number knows.watched

abbrev pub EachFits : (stripes : ℕ) → History → (held : List ℕ) → List Knowledge → Type 0
EachFits stripes log held [] = Unit {0}
EachFits stripes log held (knows ∷ others) = Fits stripes log held knows × EachFits stripes log held others

-- a stripe's word names the one pass that a seat stands for
pub record Names (words : List ℕ) (stripe : ℕ) (passes : List Knowledge) : Type 0 where
  pub knows : Knowledge
  pub single : passes ≡ knows ∷ []
  pub word : slice_index words (word_of stripe) ≡ knows.number + 1

-- What a part stands for: a store, marks of its keys, and the pages that they lie on. What is said of stores, marks and replies holds under
-- the premise `trusted`: that the device keeps what it promised. A part that needs no device has `Unit` there.
pub record Meaning (T : Type 0) : Type 1 where
  pub trusted : Type 0
  pub store : T → Store
  pub marks : T → Marks
  pub pages : T → Pages

-- a stripe has no mark of a key of another one
abbrev pub AreOwnMarks : (stripes stripe : ℕ) → Marks → Type 0
AreOwnMarks stripes stripe marks = (key : Bytes) (number : ℕ) → stripe_of stripes key ≢ stripe → marks key number ≡ None

-- the marks of a stripe say of a pass which of the stripe's keys it watches, and which of these were written after their positions
abbrev pub IsMarked : (stripes stripe : ℕ) → Marks → History → Knowledge → Type 0
IsMarked stripes stripe marks log knows = (key : Bytes) → stripe_of stripes key ≡ stripe → marks key knows.number ≡ mark_at log knows.watched key

-- the same of each pass of a list
abbrev pub EachMarked : (stripes stripe : ℕ) → Marks → History → List Knowledge → Type 0
EachMarked stripes stripe marks log [] = Unit {0}
EachMarked stripes stripe marks log (knows ∷ others) = IsMarked stripes stripe marks log knows × EachMarked stripes stripe marks log others

-- the marks with those of each key touched that was written from this moment on
abbrev pub touched_marks : History → (moment : ℕ) → Marks → Marks
touched_marks log moment marks key number = touched (is_written log moment key) (marks key number)

module _ {T : Type 0} where
  -- how many passes a seat stands for; it is one but while `new` deals them and while two of them meet
  abbrev pub passes_at : View T → ℕ
  passes_at v = length v.passes

  -- how often a seat stands for the pass of this number
  abbrev pub stands_for : ℕ → View T → ℕ
  stands_for number v = times number (map (λ (k : Knowledge). k.number) v.passes)

  -- 1 for a seat that may add to the commit word
  abbrev pub armed_by : View T → ℕ
  armed_by v = cond v.armed 1 0

  -- what the rule says of one view
  pub record FitsView (stripes : ℕ) (words : List ℕ) (log : History) (v : View T) : Type 0 where
    pub fits : EachFits stripes log v.held v.passes
    pub ready : armed_by v ≤ passes_at v
    pub names : (stripe : ℕ) → 0 < times stripe v.held → (stripe < stripes) × Names words stripe v.passes

  -- a stripe is free: its word is 0, and its part is at home, reads as its part of what the log leaves, and has the marks of each pass
  pub record IsFree (contents : Meaning T) (s : State T (View T)) (log : History) (stripe : ℕ) : Type 0 where
    pub word : slice_index s.words (word_of stripe) ≡ 0
    pub part : T
    pub home : get_elem? s.homes stripe ≡ some (some part)
    pub reads : contents.trusted → IsPart (length s.homes) stripe (contents.store part) (after log)
    pub own : contents.trusted → AreOwnMarks (length s.homes) stripe (contents.marks part)
    pub marks : contents.trusted → (seat : ℕ) (v : View T) → get_elem? s.views seat ≡ some v → EachMarked (length s.homes) stripe (contents.marks part) log v.passes

  -- a stripe is held: its part is out, and its word names a pass that holds it. The part as it was taken, touched at the keys that were
  -- written since, has the marks of each other pass.
  pub record IsHeld (contents : Meaning T) (s : State T (View T)) (log : History) (stripe : ℕ) : Type 0 where
    pub seat : ℕ
    pub view : View T
    pub there : get_elem? s.views seat ≡ some view
    pub holds : 0 < times stripe view.held
    pub away : get_elem? s.homes stripe ≡ some none
    pub was : ℕ × T
    pub taken : part_at view.taken stripe ≡ Some was
    pub early : was.0 ≤ length log
    pub marks : contents.trusted → (other : ℕ) (v : View T) → other ≢ seat → get_elem? s.views other ≡ some v
        → EachMarked (length s.homes) stripe (touched_marks log was.0 (contents.marks was.1)) log v.passes

  -- The rule. There is one legal log, as long as the commit word counts.
  pub record Ruled (contents : Meaning T) (passes : ℕ) (s : State T (View T)) : Type 0 where
    pub log : History
    pub legal : contents.trusted → Legal log
    pub wide : length s.words ≡ word_of (length s.homes)
    pub few : passes < 2 ^ 62
    pub counts : slice_index s.words commit_word ≡ length log
    -- the commit word never wraps: once it is 2^62, each pass adds to it at most once more
    pub room : length log + total armed_by s.views ≤ 2 ^ 62 + passes
    pub dealt : total passes_at s.views ≡ passes
    pub once : (number : ℕ) → total (stands_for number) s.views ≤ 1
    pub views : (seat : ℕ) (v : View T) → get_elem? s.views seat ≡ some v → FitsView (length s.homes) s.words log v
    pub stripes : (stripe : ℕ) → stripe < length s.homes → IsFree contents s log stripe ⊎ IsHeld contents s log stripe

-- each key belongs to a stripe of the list
abbrev pub AreHeld : (stripes : ℕ) (held : List ℕ) → List Bytes → Type 0
AreHeld stripes held [] = Unit {0}
AreHeld stripes held (key ∷ keys) = (0 < times (stripe_of stripes key) held) × AreHeld stripes held keys
