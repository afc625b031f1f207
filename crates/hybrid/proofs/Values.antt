-- The value of each key is one that a record may have.
use Rattle.std.proofs.Common.{◌≡◌, ℕ, ◌≤◌, List, length, Option, Some, None, refl, ap, arith}
use Rattle.std.proofs.lemmas.List.Elements.{All-contains}
use Rattle.records.specs.Records.{Stored, value_bytes}
use Rattle.words.specs.declared.limits.TheConstants.{VALUE_BYTES_MAX}
use Rattle.hybrid.specs.Log.{AreValuesShort, IsShort, contents, newest, value_of}
use Rattle.hybrid.specs.HybridLog.{HybridLog, IsHybridLog, log_of}
use Rattle.hybrid.proofs.Logs.{contents-newest, newest-listed}

pub values-short : (p : HybridLog) → IsHybridLog p → AreValuesShort (log_of p)
values-short p is key = go (newest (log_of p) key) refl
  where
    so : (o : Option (ℕ × Stored)) → newest (log_of p) key ≡ o → length (value_bytes (value_of o)) ≤ VALUE_BYTES_MAX
    so None e = omega arith
    so (Some x) e = (All-contains (λ (y : ℕ × Stored). IsShort y.1) (log_of p) x is.short (newest-listed (log_of p) key x e)).fits.value_fits

    go : (o : Option (ℕ × Stored)) → newest (log_of p) key ≡ o → length (value_bytes (contents (log_of p) key)) ≤ VALUE_BYTES_MAX
    go o e = omega (arith, so o e, ap (λ (v : Option (List ℕ)). length (value_bytes v)) (contents-newest (log_of p) key o e))

-- so none is longer
pub never-long : (p : HybridLog) (key value : List ℕ) → IsHybridLog p → contents (log_of p) key ≡ Some value → length value ≤ VALUE_BYTES_MAX
never-long p key value is e = omega (arith, values-short p is key, ap (λ (v : Option (List ℕ)). length (value_bytes v)) e)
