-- What a window on a ring shows, and how a write, a step of its end and a step of its start change it.
use Rattle.std.proofs.Common.{◌≡◌, ℕ, ◌+◌, ◌-◌, ◌<◌, ◌≤◌, List, [], ◌∷◌, ◌++◌, length, get_or, drop, set, ap, sym, ◌∙◌, inl, inr, refl, arith, length-append, length-set}
use Rattle.std.proofs.lemmas.List.{same_lists, length-drop, length-take-le, get_or-drop, get_or-take, get_or_append_left, get_or-append_right, get_or-set_other}
use Rattle.std.proofs.lemmas.Bool.{cases_lt, cases_eq}
use Rattle.std.proofs.lemmas.Grind.{get_or-set_at, get_or_after_one}
use Rattle.frames.specs.Ring.{window, IsSlotAfter}

pub length-window : {X : Type 0} (at n : ℕ) (xs : List X) → at < length xs → n ≤ length xs → length (window at n xs) ≡ n
unfolding window
length-window at n xs inside fits =
    length-take-le n _ (simp (length-append, length-drop) (omega (arith, length-take-le at xs (omega arith))))

-- item i of the window is in the slot i places after its first
pub get_or-window : {X : Type 0} (size at n : ℕ) (xs : List X) (i slot : ℕ) (d : X) → length xs ≡ size → at < size → n ≤ size → i < n → IsSlotAfter size at i slot
    → get_or (window at n xs) i d ≡ get_or xs slot d
unfolding window
get_or-window size at n xs i slot d same inside fits below after =
    let rest = length-drop at xs in
    get_or-take n _ i d below ∙ elim after.1 [
      | inl straight ↦ get_or_append_left _ _ d i (omega arith) ∙ get_or-drop at xs i d ∙ ap (λ j. get_or xs j d) (omega arith)
      | inr round ↦ get_or-append_right _ _ (size - at) i d (omega arith) (omega arith) ∙ get_or-take at xs _ d (omega arith) ∙ ap (λ j. get_or xs j d) (omega arith)
    ]

-- a place of the ring has a slot
pub slot_exists : (size at i : ℕ) → at < size → i < size → (slot : ℕ) × IsSlotAfter size at i slot
slot_exists size at i inside below = elim (cases_lt (at + i) size) [
  | inl straight ↦ (at + i, (straight, inl refl))
  | inr round ↦ (at + i - size, (omega arith, inr (omega arith)))
]

-- and one only, which no other place has
pub slot-unique : (size at i k slot other : ℕ) → at < size → i < size → k < size → IsSlotAfter size at i slot → IsSlotAfter size at k other
    → ((k ≡ i) → other ≡ slot) × ((k ≡ i → ⊥) → other ≡ slot → ⊥)
slot-unique size at i k slot other inside below lower first second = elim first.1 [
  | inl a ↦ elim second.1 [ inl b ↦ (λ e. omega arith, λ e f. omega arith) | inr b ↦ (λ e. omega arith, λ e f. omega arith) ]
  | inr a ↦ elim second.1 [ inl b ↦ (λ e. omega arith, λ e f. omega arith) | inr b ↦ (λ e. omega arith, λ e f. omega arith) ]
]

-- one place on, and then some more
steps_join : (size at slot k there : ℕ) → at < size → 1 + k < size → IsSlotAfter size at 1 slot → IsSlotAfter size slot k there → IsSlotAfter size at (1 + k) there
steps_join size at slot k there inside below one more = elim one.1 [
  | inl a ↦ elim more.1 [ inl b ↦ (more.0, inl (omega arith)) | inr b ↦ (more.0, inr (omega arith)) ]
  | inr a ↦ elim more.1 [ inl b ↦ (more.0, inr (omega arith)) | inr b ↦ (more.0, inr (omega arith)) ]
]

-- a write to a slot is a write to the item that it holds
pub window-set : {X : Type 0} (at n : ℕ) (xs : List X) (i slot : ℕ) (y : X) → at < length xs → n ≤ length xs → i < n → IsSlotAfter (length xs) at i slot
    → window at n (set xs slot y) ≡ set (window at n xs) i y
window-set at n xs i slot y inside fits below after =
    let same_size = length-set xs slot y in
    let ys = set xs slot y in
    let old_length = length-window at n xs inside fits in
    let new_length : length (window at n ys) ≡ n = length-window at n ys (omega arith) (omega arith) in
    same_lists _ _ (simp length-set (omega arith)) (λ k d lower.
    let there = slot_exists (length xs) at k inside (omega arith) in
    let new_item : get_or (window at n ys) k d ≡ get_or ys there.0 d = get_or-window (length xs) at n ys k there.0 d same_size inside fits (omega arith) there.1 in
    let old_item : get_or (window at n xs) k d ≡ get_or xs there.0 d = get_or-window (length xs) at n xs k there.0 d refl inside fits (omega arith) there.1 in
    let one = slot-unique (length xs) at i k slot there.0 inside (omega arith) (omega arith) after there.1 in
    elim (cases_eq k i) [
      | inl same ↦ new_item ∙ get_or-set_at xs slot there.0 y d (one.0 same) after.0 ∙ sym (get_or-set_at (window at n xs) i k y d same (omega arith))
      | inr other ↦ new_item ∙ get_or-set_other xs slot there.0 y d (one.1 other) ∙ sym old_item ∙ sym (get_or-set_other (window at n xs) i k y d other)
    ])

-- one slot more at the end is one item more
pub window-longer : {X : Type 0} (at n : ℕ) (xs : List X) (slot : ℕ) (y : X) → at < length xs → n < length xs → IsSlotAfter (length xs) at n slot
    → window at (n + 1) (set xs slot y) ≡ window at n xs ++ y ∷ []
window-longer at n xs slot y inside room after =
    let same_size = length-set xs slot y in
    let ys = set xs slot y in
    let old_length = length-window at n xs inside (omega arith) in
    let new_length : length (window at (n + 1) ys) ≡ n + 1 = length-window at (n + 1) ys (omega arith) (omega arith) in
    same_lists _ _ (simp length-append (omega arith)) (λ k d lower.
    let there = slot_exists (length xs) at k inside (omega arith) in
    let new_item : get_or (window at (n + 1) ys) k d ≡ get_or ys there.0 d = get_or-window (length xs) at (n + 1) ys k there.0 d same_size inside (omega arith) (omega arith) there.1 in
    let one = slot-unique (length xs) at n k slot there.0 inside room (omega arith) after there.1 in
    elim (cases_eq k n) [
      | inl same ↦ new_item ∙ get_or-set_at xs slot there.0 y d (one.0 same) after.0 ∙ sym (get_or-append_right (window at n xs) (y ∷ []) n k d old_length (omega arith) ∙ (let first : k - n ≡ 0 = omega arith in ap (λ j. get_or (y ∷ []) j d) first))
      | inr other ↦ new_item ∙ get_or-set_other xs slot there.0 y d (one.1 other)
          ∙ sym (get_or-window (length xs) at n xs k there.0 d refl inside (omega arith) (omega arith) there.1) ∙ sym (get_or_append_left (window at n xs) (y ∷ []) d k (omega arith))
    ])

-- one slot less at the start is one item less
pub window-shorter : {X : Type 0} (at n : ℕ) (xs : List X) (slot : ℕ) → at < length xs → n < length xs + 1 → 0 < n → IsSlotAfter (length xs) at 1 slot
    → window slot (n - 1) xs ≡ drop 1 (window at n xs)
window-shorter at n xs slot inside fits some after =
    let old_length = length-window at n xs inside (omega arith) in
    let new_length : length (window slot (n - 1) xs) ≡ n - 1 = length-window slot (n - 1) xs (omega arith) (omega arith) in
    same_lists _ _ (new_length ∙ sym (length-drop 1 (window at n xs) ∙ omega arith)) (λ k d lower.
    let there = slot_exists (length xs) slot k (omega arith) (omega arith) in
    get_or-window (length xs) slot (n - 1) xs k there.0 d refl after.0 (omega arith) (omega arith) there.1
    ∙ sym (get_or_after_one (window at n xs) k d ∙ get_or-window (length xs) at n xs (1 + k) there.0 d refl inside (omega arith) (omega arith) (steps_join (length xs) at slot k there.0 inside (omega arith) after there.1)))

pub window-none : {X : Type 0} (at : ℕ) (xs : List X) → window at 0 xs ≡ []
unfolding window
window-none at xs = refl

pub ruleset frames_steps = (window-none, length-window, window-set, window-longer, window-shorter, get_or-window)
