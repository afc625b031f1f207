-- How the pages that frames show change as a slot is written or the ring moves on.
use Rattle.std.proofs.Common.{◌≡◌, ℕ, ◌+◌, ◌-◌, ◌<◌, List, [], length, get_or, set, sym, ◌∙◌, refl, length-set}
use Rattle.std.proofs.lemmas.List.{get_or_default}
use Rattle.frames.specs.Ring.{shown, IsRing, IsSlotAfter}
use Rattle.frames.specs.Resident.{with_opened, with_page, page_of}
use Rattle.records.specs.Page.{empty_page}
use Rattle.frames.proofs.Windows.{length-window, get_or-window, window-set, window-longer}

module _ (slots : List (List ℕ)) (at count oldest : ℕ) (ring : IsRing (length slots) at count oldest) where
  -- a write to the slot of a page
  pub shown-set : (number slot : ℕ) (bytes : List ℕ) → number - oldest < count → IsSlotAfter (length slots) at (number - oldest) slot
      → shown (set slots slot bytes) at count oldest ≡ with_page (shown slots at count oldest) number bytes
  shown-set number slot bytes below after =
      simp (length-set, window-set at count slots (number - oldest) slot bytes ring.begins_inside ring.fits below after)

  -- a page behind the newest
  pub shown-longer : (slot : ℕ) → count < length slots → IsSlotAfter (length slots) at count slot
      → shown (set slots slot (empty_page (oldest + count))) at (count + 1) oldest ≡ with_opened (shown slots at count oldest)
  shown-longer slot room after =
      simp (length-set, length-window at count slots ring.begins_inside ring.fits, window-longer at count slots slot (empty_page (oldest + count)) ring.begins_inside room after)

  -- the page that a slot holds
  pub get_or-shown : (number slot : ℕ) (d : List ℕ) → number - oldest < count → IsSlotAfter (length slots) at (number - oldest) slot
      → get_or slots slot d ≡ page_of (shown slots at count oldest) number
  get_or-shown number slot d below after =
      get_or_default slots slot d [] after.0 ∙ sym (get_or-window (length slots) at count slots (number - oldest) slot [] refl ring.begins_inside ring.fits below after)
