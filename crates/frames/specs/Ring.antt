-- A ring: pages in consecutive slots of a buffer, from one slot on and round the buffer's end.
use Rattle.std.specs.Prelude.{◌≡◌, ℕ, ◌+◌, ◌^◌, ◌<◌, ◌≤◌, ◌⊎◌, List, ◌++◌, length, take, drop}
use Rattle.frames.specs.declared.TheConstants.{NUMBER_BITS}
use Rattle.frames.specs.Resident.{Resident}

-- the `count` items from slot `at` on
unfoldable pub window : {X : Type 0} → ℕ → ℕ → List X → List X
window at count slots = take count (drop at slots ++ take at slots)

-- the pages that frames show, whose oldest is in slot `at`
abbrev pub shown : List (List ℕ) → ℕ → ℕ → ℕ → Resident
shown slots at count oldest = record { oldest = oldest; pages = window at count slots; frames = length slots }

-- the slot `count` places after `at`, in a buffer of this size
abbrev pub IsSlotAfter : ℕ → ℕ → ℕ → ℕ → Type 0
IsSlotAfter size at count slot = (slot < size) × ((slot ≡ at + count) ⊎ (slot + size ≡ at + count))

-- the ring's slots are in the buffer, and its pages have numbers that are in range
pub record IsRing (size at count oldest : ℕ) : Type 0 where
  pub enough : 3 ≤ size
  pub begins_inside : at < size
  pub fits : count ≤ size
  pub in_range : oldest + count < 2 ^ NUMBER_BITS
