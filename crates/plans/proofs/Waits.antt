-- What parts have beside their logs.
use Rattle.std.proofs.Common.{◌≡◌, ◌≢◌, ◌∙◌, ⊎_elim, ℕ, Option, Some, ap, sym}
use Rattle.std.proofs.lemmas.Bool.{cases_eq}
use Rattle.std.specs.Prelude.{option_map}
use Rattle.shards.specs.declared.shard.Shard.{Shard}
use Rattle.shards.specs.Shards.{SameWaits, shard_waiting, waits_of}

module _ {R : Type 0} where
  waits_at : (parts : ℕ → Option (Shard R)) (i : ℕ) (part : Shard R) → parts i ≡ Some part → waits_of parts i ≡ Some (shard_waiting part)
  waits_at parts i part is = ap (option_map shard_waiting) is

  pub waits_same : (before later : ℕ → Option (Shard R)) → later ≡ before → SameWaits before later
  waits_same before later same i = ap (λ (p : ℕ → Option (Shard R)). waits_of p i) same

  pub waits_both : (a b c : ℕ → Option (Shard R)) → SameWaits a b → SameWaits b c → SameWaits a c
  waits_both a b c one two i = two i ∙ one i

  -- where one part changed, which has beside its log what it had
  pub waits_one : (before later : ℕ → Option (Shard R)) (i : ℕ) (old new : Shard R) → before i ≡ Some old → later i ≡ Some new → ((j : ℕ) → j ≢ i → later j ≡ before j)
      → shard_waiting new ≡ shard_waiting old → SameWaits before later
  waits_one before later i old new was is others same j = ⊎_elim
      (λ at. ap (waits_of later) at ∙ waits_at later i new is ∙ ap Some same ∙ sym (waits_at before i old was) ∙ sym (ap (waits_of before) at))
      (λ ne. ap (option_map shard_waiting) (others j ne))
      (cases_eq j i)
