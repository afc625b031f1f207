-- What becomes of a device.
use Rattle.std.specs.Prelude.{ℕ, ◌≡◌}

-- `serves` and `releases` are the device's, and `writes`: how many receipts were given back to it, and how often it was asked to write.
module _ {D R : Type 0} (serves : D → R → Type 0) (releases : D → ℕ) where
  -- what the device served it serves still, and nothing was given back to it
  pub record StillServes (before later : D) : Type 0 where
    pub still : (r : R) → serves before r → serves later r
    pub no_release : releases later ≡ releases before

  -- it was not asked to write either
  pub record IsReadAlone (writes : D → ℕ) (before later : D) : Type 0 where
    pub serves_still : StillServes before later
    pub no_write : writes later ≡ writes before

-- No call of the device has failed, and it was not asked to write.
pub record HasRested {D : Type 0} (failures writes : D → ℕ) (before later : D) : Type 0 where
  pub no_fault : failures later ≡ failures before
  pub no_write : writes later ≡ writes before
