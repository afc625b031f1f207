-- Where all stripes are held, the stripe of each key is.
use Rattle.std.proofs.Common.{rules, ◌≡◌, ℕ, zero, suc, ◌<◌, ◌≤◌, List, [], ◌∷◌, IsSome, length, mod-lt, arith}
use Rattle.std.specs.Prelude.{slice_get}
use Rattle.words.specs.Store.{Bytes}
use Rattle.words.specs.Stripes.{stripe_of}
use Rattle.transact.specs.Tables.{AreThere}
use Rattle.plans_tests.specs.declared.held.Stripes.{Stripes}
use Rattle.plans_tests.specs.Held.{part_at}

is_there : {X : Type 0} (xs : List X) (i : ℕ) → i < length xs → IsSome (slice_get xs i)
is_there [] i below = absurd (omega (arith, below))
is_there (x ∷ xs) zero below = search rules
is_there (x ∷ xs) (suc i) below = is_there xs i (omega (arith, below))

stripe_below : (n : ℕ) (key : Bytes) → 1 ≤ n → stripe_of n key < n
unfolding stripe_of
stripe_below n key some = mod-lt _ some

pub all_there : {T : Type 0} (stripes : Stripes T) (n : ℕ) (keys : List Bytes) → n ≡ length stripes.shards.items → 1 ≤ n → AreThere n (part_at stripes) keys
all_there stripes n [] is some = tt
all_there stripes n (key ∷ keys) is some = (is_there stripes.shards.items (stripe_of n key) (omega (arith, is, stripe_below n key some)), all_there stripes n keys is some)
