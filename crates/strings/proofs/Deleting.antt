-- A step of DEL: a key that is there is deleted, a missing one is passed over.
use Rattle.std.proofs.Common.{◌∙◌, ap, sym, arith, append_assoc}
use Rattle.std.specs.Prelude.{ℕ, suc, ◌≡◌, ◌+◌, true, false, List, [], ◌∷◌, ◌++◌, length, None, if◌then◌else◌}
use Rattle.std.specs.Map.{update}
use Rattle.std.specs.Str.{bytes_eq}
use Rattle.words.specs.Store.{Bytes, Write, empty, written}
use Rattle.words.specs.Answers.{is_some, deletions}
use Rattle.strings.proofs.Shows.{written-append}
use Rattle.strings.specs.declared.overlay.Overlay.{Overlay}
use Rattle.strings.specs.Overlays.{shown}

-- one write more is one change more of the store that is shown
pub shown_more : (before after : Overlay) (write : Write) → after.found ≡ before.found → after.writes ≡ before.writes ++ write ∷ []
    → shown after ≡ update bytes_eq (shown before) write.0 write.1
shown_more before after write found writes =
    ap (λ pairs. written (written empty pairs) after.writes) found
    ∙ ap (λ made. written (written empty before.found) made) writes
    ∙ written-append before.writes (write ∷ []) (written empty before.found)

module _ (before after : Overlay) (key : Bytes) (left rest : List Bytes) (split : left ≡ key ∷ rest) (all : List Write) (total : ℕ)
    (so_far : before.writes ++ deletions (shown before) left ≡ all) (count : ℕ) (counted : count + length (deletions (shown before) left) ≡ total) where
  pub deleted_writes : is_some (shown before key) ≡ true → after.found ≡ before.found → after.writes ≡ before.writes ++ (key, None) ∷ []
      → (after.writes ++ deletions (shown after) rest ≡ all) × (count + 1 + length (deletions (shown after) rest) ≡ total)
  deleted_writes there found writes =
      let others : List Write = deletions (shown after) rest in
      let both : deletions (shown before) left ≡ (key, None) ∷ others =
      ap (deletions (shown before)) split
      ∙ ap (λ test. if test then (key, None) ∷ deletions (update bytes_eq (shown before) key None) rest else deletions (shown before) rest) there
      ∙ ap (λ store. (key, None) ∷ deletions store rest) (sym (shown_more before after (key, None) found writes)) in
      let sizes : length (deletions (shown before) left) ≡ suc (length others) = ap length both in (
        ap (λ made. made ++ others) writes ∙ append_assoc before.writes ((key, None) ∷ []) others ∙ ap (λ more. before.writes ++ more) (sym both) ∙ so_far,
        omega arith,
      )

  pub passed_over : is_some (shown before key) ≡ false → after ≡ before
      → (after.writes ++ deletions (shown after) rest ≡ all) × (count + length (deletions (shown after) rest) ≡ total)
  passed_over missing same =
      let both : deletions (shown before) left ≡ deletions (shown after) rest =
      ap (deletions (shown before)) split
      ∙ ap (λ test. if test then (key, None) ∷ deletions (update bytes_eq (shown before) key None) rest else deletions (shown before) rest) missing
      ∙ ap (λ overlay. deletions (shown overlay) rest) (sym same) in
      let sizes : length (deletions (shown before) left) ≡ length (deletions (shown after) rest) = ap length both in
      (ap (λ (overlay : Overlay). overlay.writes ++ deletions (shown after) rest) same ∙ ap (λ more. before.writes ++ more) (sym both) ∙ so_far, omega arith)
