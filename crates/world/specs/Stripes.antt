-- What a call makes of the stripes.
use Rattle.std.specs.Prelude.{ℕ, ◌≡◌, List, length, if◌then◌else◌, nat_eq}
use Rattle.words.specs.Store.{Bytes, Write, written}
use Rattle.words.specs.Stripes.{stripe_of}
use Rattle.transact.specs.Tables.{Change}
use Rattle.world_log.specs.Stripes.{stores_of, marks_of}
use Rattle.world_log.specs.Types.{Stripes}

-- Writes were made in the stripes of their keys, and marks changed so.
pub record HasInstalled (before : Stripes) (writes : List Write) (change : Change) (later : Stripes) : Type 0 where
  pub holders : later.holders ≡ before.holders
  pub stores : (i : ℕ) (key : Bytes)
      → stores_of later i key ≡ (if nat_eq (stripe_of (length before.holders.items) key) i then written (stores_of before i) writes key else stores_of before i key)
  pub marks : (key : Bytes) (session : ℕ) → marks_of later key session ≡ change key session (marks_of before key session)
