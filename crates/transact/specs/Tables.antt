-- Parts that are held, each at its stripe, and what became of them.
use Rattle.std.specs.Prelude.{ℕ, ◌≡◌, ◌≢◌, Bool, List, [], ◌∷◌, Option, Some, None, IsSome, false, ◌||◌, unwrap_or, nat_eq, if◌then◌else◌}
use Rattle.words.specs.Store.{Bytes, Store, Write, written, writes_key}
use Rattle.words.specs.History.{History, Pair, after, is_among}
use Rattle.words.specs.Watches.{Marks, touched, begun, mark_at}
use Rattle.words.specs.Stripes.{stripe_of, IsPart}
use Rattle.gates.specs.Rule.{Meaning}

-- what becomes of marks: of a key, for a session
abbrev pub Change : Type 0
Change = Bytes → ℕ → Option Bool → Option Bool

-- marks stay
abbrev pub stays : Change
stays key number mark = mark

-- marks are touched at the keys that are written, and else stay
abbrev pub touches : List Write → Change
touches writes key number mark = touched (writes_key writes key) mark

-- a session watches these keys from here on
abbrev pub begins : (own : ℕ) → List Bytes → Change
begins own keys key number mark = if nat_eq own number then (if is_among keys key then begun mark else mark) else mark

-- a session watches none of these keys any more
abbrev pub clears : (own : ℕ) → List Bytes → Change
clears own keys key number mark = if nat_eq own number then (if is_among keys key then None else mark) else mark

-- marks are touched at the keys that are written, and then a session watches none of these keys any more
abbrev pub touches_and_clears : List Write → (own : ℕ) → List Bytes → Change
touches_and_clears writes own keys key number mark = clears own keys key number (touches writes key number mark)

-- whether one of the marks that a session has of these keys says that its key was written
abbrev pub any_marked : Marks → ℕ → List Bytes → Bool
any_marked marks number [] = false
any_marked marks number (key ∷ keys) = unwrap_or (marks key number) false || any_marked marks number keys

-- the keys that are written
abbrev pub keys_written : List Write → List Bytes
keys_written [] = []
keys_written (write ∷ writes) = write.0 ∷ keys_written writes

-- the values of keys
abbrev pub values_of : Store → List Bytes → List Write
values_of store [] = []
values_of store (key ∷ keys) = (key, store key) ∷ values_of store keys

module _ {T : Type 0} where
  -- there is a part for the stripe of each of the keys
  abbrev pub AreThere : ℕ → (ℕ → Option T) → List Bytes → Type 0
  AreThere n parts [] = Unit {0}
  AreThere n parts (key ∷ keys) = IsSome (parts (stripe_of n key)) × AreThere n parts keys

  -- the value that a part has of a key, where there is the part
  abbrev pub value_in : Meaning T → Bytes → Option T → Option Bytes
  value_in contents key None = None
  value_in contents key (Some part) = contents.store part key

  -- the mark that a part has of a key, where there is the part
  abbrev pub mark_in : Meaning T → Bytes → ℕ → Option T → Option Bool
  mark_in contents key number None = None
  mark_in contents key number (Some part) = contents.marks part key number

  -- the store that parts are together: each key has the value that the part of its stripe has
  abbrev pub joined : Meaning T → ℕ → (ℕ → Option T) → Store
  joined contents n parts key = value_in contents key (parts (stripe_of n key))

  -- the marks that parts have together
  abbrev pub joined_marks : Meaning T → ℕ → (ℕ → Option T) → Marks
  joined_marks contents n parts key number = mark_in contents key number (parts (stripe_of n key))

  -- each part reads as its part of the store
  abbrev pub AllRead : Meaning T → ℕ → (ℕ → Option T) → Store → Type 0
  AllRead contents n parts whole = (i : ℕ) (part : T) → parts i ≡ Some part → IsPart n i (contents.store part) whole

  -- the marks of each part say which of the keys that a session watches were written
  abbrev pub AllMarked : Meaning T → ℕ → (ℕ → Option T) → History → ℕ → List Pair → Type 0
  AllMarked contents n parts seen number watched =
      (i : ℕ) (part : T) → parts i ≡ Some part → (key : Bytes) → stripe_of n key ≡ i → contents.marks part key number ≡ mark_at seen watched key

  -- The parts are those of the store that a history leaves, and their marks say which of the keys that a session watches were written in it.
  pub record Stand (contents : Meaning T) (n : ℕ) (parts : ℕ → Option T) (seen : History) (number : ℕ) (watched : List Pair) : Type 0 where
    pub read : AllRead contents n parts (after seen)
    pub marked : AllMarked contents n parts seen number watched

  -- What became of the part of a stripe: these writes were made at the keys of its stripe, and its marks of these keys changed so. What it has
  -- of all other keys, values and marks, is as it was.
  pub record PartBecame (contents : Meaning T) (n i : ℕ) (writes : List Write) (change : Change) (old new : T) : Type 0 where
    pub here : (key : Bytes) → stripe_of n key ≡ i → contents.store new key ≡ written (contents.store old) writes key
    pub away : (key : Bytes) → stripe_of n key ≢ i → contents.store new key ≡ contents.store old key
    pub marks : (key : Bytes) (number : ℕ) → stripe_of n key ≡ i → contents.marks new key number ≡ change key number (contents.marks old key number)
    pub aside : (key : Bytes) (number : ℕ) → stripe_of n key ≢ i → contents.marks new key number ≡ contents.marks old key number

  -- What became of all parts: each that was there is there still, and these writes and this change of marks were made in each.
  pub record Became (contents : Meaning T) (n : ℕ) (writes : List Write) (change : Change) (before later : ℕ → Option T) : Type 0 where
    pub there : (i : ℕ) → IsSome (before i) → IsSome (later i)
    pub was : (i : ℕ) (new : T) → later i ≡ Some new → (old : T) × (before i ≡ Some old) × PartBecame contents n i writes change old new

-- a session watches none of these keys
abbrev pub AreUnmarked : Marks → (own : ℕ) → List Bytes → Type 0
AreUnmarked marks own [] = Unit {0}
AreUnmarked marks own (key ∷ keys) = (marks key own ≡ None) × AreUnmarked marks own keys

-- A session watches these keys since, of which it watched none before.
pub record HasBegun {T : Type 0} (contents : Meaning T) (n own : ℕ) (keys : List Bytes) (before later : ℕ → Option T) : Type 0 where
  pub became : Became contents n [] (begins own keys) before later
  pub there : AreThere n before keys
  pub unwatched : AreUnmarked (joined_marks contents n before) own keys
