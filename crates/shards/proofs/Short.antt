-- What the log's invariant says of values.
use Rattle.std.proofs.Common.{◌≡◌, ℕ, suc, ◌≤◌, true, false, List, [], ◌∷◌, Option, Some, cond, bytes_eq, length, subst, arith}
use Rattle.std.specs.List.{All}
use Rattle.records.specs.Records.{Stored, value_bytes}
use Rattle.words.specs.declared.limits.TheConstants.{VALUE_BYTES_MAX}
use Rattle.hybrid.specs.Log.{Log, IsShort, contents, newest, value_of}
use Rattle.hybrid.specs.HybridLog.{HybridLog, IsHybridLog, log_of}

short_in : (log : Log) (key value : List ℕ) → All (λ (e : ℕ × Stored). IsShort e.1) log → contents log key ≡ Some value → length value ≤ VALUE_BYTES_MAX
unfolding newest contents
short_in [] key value all has = absurd (cc has)
short_in (e ∷ log) key value all has =
    elim (bytes_eq e.1.key key) as (λ b. value_of (cond b (Some e) (newest log key)) ≡ Some value → length value ≤ VALUE_BYTES_MAX) [
      | true ↦ λ h. subst (λ (v : Option (List ℕ)). length (value_bytes v) ≤ VALUE_BYTES_MAX) h (all 0 e (omega arith)).fits.value_fits
      | false ↦ λ h. short_in log key value (λ k d below. all (suc k) d (omega (arith, below))) h
    ] has

-- a value that a log has is not longer than a value may be
pub short_value : (p : HybridLog) (key value : List ℕ) → IsHybridLog p → contents (log_of p) key ≡ Some value → length value ≤ VALUE_BYTES_MAX
short_value p key value is has = short_in (log_of p) key value is.short has
