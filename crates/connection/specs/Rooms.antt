-- What is read into.
use Rattle.std.specs.Prelude.{ℕ}
use Rattle.words.specs.Store.{Bytes}

-- The block that pieces are cut from: the bytes that are in it, and how many more it takes with no allocation; and how many pieces may be
-- read before the replies are written.
pub record Reading : Type 0 where
  pub items : Bytes
  pub spare : ℕ
  pub more : ℕ
