-- The logs of parts.
use Rattle.std.proofs.Common.{◌≡◌, ◌≢◌, ◌∙◌, ⊎_elim, ℕ, Option, Some, ap, sym}
use Rattle.std.proofs.lemmas.Bool.{cases_eq}
use Rattle.std.specs.Prelude.{option_map}
use Rattle.shards.specs.declared.shard.Shard.{Shard}
use Rattle.shards.specs.Shards.{SameLogs, logs_of, shard_log}

module _ {R : Type 0} where
  -- the log of a part that is there
  pub log_at : (parts : ℕ → Option (Shard R)) (i : ℕ) (part : Shard R) → parts i ≡ Some part → logs_of parts i ≡ Some (shard_log part)
  log_at parts i part is = ap (option_map shard_log) is

  -- where a part is as it was, its log is
  pub logs_as : (before later : ℕ → Option (Shard R)) (i : ℕ) → later i ≡ before i → logs_of later i ≡ logs_of before i
  logs_as before later i same = ap (option_map shard_log) same

  pub logs_same : (before later : ℕ → Option (Shard R)) → later ≡ before → SameLogs before later
  logs_same before later same i = ap (λ (p : ℕ → Option (Shard R)). logs_of p i) same

  pub logs_both : (a b c : ℕ → Option (Shard R)) → SameLogs a b → SameLogs b c → SameLogs a c
  logs_both a b c one two i = two i ∙ one i

  -- the logs of all parts stay where one part changed and its log stayed
  pub logs_one : (before later : ℕ → Option (Shard R)) (i : ℕ) (old new : Shard R) → before i ≡ Some old → later i ≡ Some new → ((j : ℕ) → j ≢ i → later j ≡ before j)
      → shard_log new ≡ shard_log old → SameLogs before later
  logs_one before later i old new was is others same j = ⊎_elim
      (λ at. ap (logs_of later) at ∙ log_at later i new is ∙ ap Some same ∙ sym (log_at before i old was) ∙ sym (ap (logs_of before) at))
      (λ ne. logs_as before later j (others j ne))
      (cases_eq j i)
