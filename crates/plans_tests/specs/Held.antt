-- The stripes of a store that are all held.
use Rattle.std.specs.Prelude.{ℕ, ◌≡◌, ◌≤◌, length, Option, slice_get}
use Rattle.std.specs.Vec.{with_item}
use Rattle.plans_tests.specs.declared.held.Stripes.{Stripes}

module _ {T : Type 0} where
  -- the part of a stripe
  abbrev pub part_at : Stripes T → ℕ → Option T
  part_at stripes i = slice_get stripes.shards.items i

  -- the stripes with another part of one
  abbrev pub with_part : Stripes T → ℕ → T → Stripes T
  with_part stripes i part = record stripes { shards = with_item stripes.shards i part }

  -- how many there are
  abbrev pub count_of : Stripes T → ℕ
  count_of stripes = length stripes.shards.items

  -- who holds them
  abbrev pub holder_in : Stripes T → ℕ
  holder_in stripes = stripes.holder

  -- there is one at least, and there are 64 at most
  abbrev pub IsFew : Stripes T → Type 0
  IsFew stripes = (1 ≤ count_of stripes) × (count_of stripes ≤ 64)

  -- there are as many, and the same pass holds them
  abbrev pub SameHold : Stripes T → Stripes T → Type 0
  SameHold one other = (count_of other ≡ count_of one) × (holder_in other ≡ holder_in one)
