-- The values of the store that was seen are not too long.
use Rattle.std.proofs.Common.{◌≡◌, ◌≤◌, ℕ, length, Option, Some, None, IsSome, refl, sym, subst, arith}
use Rattle.words.specs.declared.limits.TheConstants.{VALUE_BYTES_MAX}
use Rattle.words.specs.Bounds.{IsStoreBounded}
use Rattle.words.specs.History.{after}
use Rattle.words.specs.Store.{Bytes, Store}
use Rattle.words.specs.Stripes.{stripe_of}
use Rattle.gates.specs.declared.held.Held.{Held}
use Rattle.gates.specs.Helds.{known_to}
use Rattle.gates.specs.Rule.{Meaning}
use Rattle.transact.specs.Tables.{AllRead, joined, value_in}
use Rattle.shards.specs.declared.shard.Shard.{Shard}
use Rattle.shards.specs.Shards.{shard_meaning}
use Rattle.plans.specs.Sizes.{AllShort, IsShort}
use Rattle.engine.proofs.Parts.{joined_at}
use Rattle.engine.proofs.Entering.{Fit, parts_of, stands}

short_value : (value : Option Bytes) → ((v : Bytes) → value ≡ Some v → length v ≤ VALUE_BYTES_MAX) → IsShort value
short_value None bounded = omega arith
short_value (Some v) bounded = bounded v refl

module _ {T : Type 0} (contents : Meaning T) (n : ℕ) (parts : ℕ → Option T) (whole : Store) where
  short_at : (key : Bytes) (part : Option T) → parts (stripe_of n key) ≡ part → AllRead contents n parts whole → IsStoreBounded whole → IsShort (joined contents n parts key)
  short_at key None is reads bounded = subst (λ (o : Option T). IsShort (value_in contents key o)) (sym is) (short_value None (λ v e. absurd (cc e)))
  short_at key (Some part) is reads bounded =
      subst IsShort (sym (joined_at n contents parts whole key reads (subst (λ (o : Option T). IsSome o) (sym is) refl))) (short_value (whole key) (λ v e. bounded key v e))

-- those of the parts that are held are not, where the store that was seen has none that is
pub all_short : {R : Type 0} (steady : Type 0) (n : ℕ) (held : Held (Shard R)) → Fit steady n held → steady → IsStoreBounded (after (known_to held).seen)
    → AllShort (joined (shard_meaning steady) n (parts_of steady held))
all_short {R} steady n held fit t bounded key =
    short_at (shard_meaning steady) n (parts_of steady held) (after (known_to held).seen) key (parts_of steady held (stripe_of n key)) refl
    (stands steady n (known_to held).number held refl fit t).read bounded
