-- The connections whose clients are waited for.
use Rattle.std.specs.Prelude.{ℕ, nat_le, if◌then◌else◌, List, [], ◌∷◌, ◌++◌, length, remove}

-- these with one more at the end, in place of the first where there are as many as may be
abbrev pub with_last : {T : Type 0} → (most : ℕ) → List T → T → List T
with_last most all last = (if nat_le most (length all) then remove all 0 else all) ++ last ∷ []
