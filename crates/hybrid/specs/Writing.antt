-- What writes leave.
use Rattle.std.specs.Prelude.{◌≡◌, ℕ, ◌+◌, List, [], ◌∷◌, length, map, slice_set, Option}
use Rattle.words.specs.declared.limits.TheConstants.{WEIGHT_OF_KEY}
use Rattle.records.specs.Records.{value_bytes, size_for, with_value}
use Rattle.hybrid.specs.Log.{IsAppended, Fits, begin_of}
use Rattle.hybrid.specs.HybridLog.{HybridLog, bucket_of, head_of, log_of, tail_of, tail_with}
use Rattle.hybrid.specs.Lookups.{IsInPlace}

-- a write: a key, and its new value, or none where it is deleted
abbrev pub OneWrite : Type 0
OneWrite = List ℕ × Option (List ℕ)

-- what a write weighs: the lengths of its key and of its value (0 where it is deleted), and WEIGHT_OF_KEY more
abbrev pub write_weight : List ℕ → Option (List ℕ) → ℕ
write_weight key value = WEIGHT_OF_KEY + length key + length (value_bytes value)

abbrev pub AreFit : List OneWrite → Type 0
AreFit [] = Unit {0}
AreFit (w ∷ writes) = Fits w.0 w.1 × AreFit writes

-- one record more at the tail, of this key and value, at this address: it links to the head of its bucket, which is
-- now this address, and it ends where the log now ends
pub record IsAdded (old new : HybridLog) (address : ℕ) (key : List ℕ) (value : Option (List ℕ)) : Type 0 where
  pub log : IsAppended (log_of old) (log_of new) address (head_of old key) key value
  pub heads : new.heads ≡ slice_set old.heads (bucket_of old key) address
  pub tail : tail_of new ≡ tail_with (tail_of old) (size_for (length key) (length (value_bytes value)))
  pub end : address + size_for (length key) (length (value_bytes value)) ≡ begin_of (tail_of new).page + (tail_of new).bytes

-- one write: in place, exactly where the newest record of the key lies in the mutable part and has room, and the log ends
-- where it did, by the same heads; else at the tail
pub record IsWritten (old : HybridLog) (key : List ℕ) (value : Option (List ℕ)) (new : HybridLog) : Type 0 where
  pub in_place : (address : ℕ) → IsInPlace old key (length (value_bytes value)) address → log_of new ≡ map (with_value address value) (log_of old)
  pub stays : (address : ℕ) → IsInPlace old key (length (value_bytes value)) address → tail_of new ≡ tail_of old
  pub heads : (address : ℕ) → IsInPlace old key (length (value_bytes value)) address → new.heads ≡ old.heads
  pub at_tail : ((address : ℕ) → IsInPlace old key (length (value_bytes value)) address → ⊥) → (address : ℕ) × IsAdded old new address key value
