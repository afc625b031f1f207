-- One write, in place or at the tail.
use Rattle.std.proofs.Common.{◌≡◌, ℕ, List, length, map, Option, sym, ap, ◌∙◌}
use Rattle.records.specs.Records.{Stored, value_bytes, with_value}
use Rattle.hybrid.specs.HybridLog.{HybridLog, log_of, tail_of}
use Rattle.hybrid.specs.Lookups.{IsInPlace}
use Rattle.hybrid.specs.Writing.{IsAdded, IsWritten}
use Rattle.hybrid.proofs.Logs.{some_is}

pub written-in_place : (old new : HybridLog) (key : List ℕ) (value : Option (List ℕ)) (address : ℕ) → IsInPlace old key (length (value_bytes value)) address → log_of new ≡ map (with_value address value) (log_of old) → tail_of new ≡ tail_of old
    → new.heads ≡ old.heads → IsWritten old key value new
written-in_place old new key value address there log tail heads = record {
  in_place = λ other also.
      let it : (address, there.stored) ≡ (other, also.stored) = some_is (address, there.stored) (other, also.stored) (sym there.newest ∙ also.newest) in
      log ∙ ap (λ (a : ℕ). map (with_value a value) (log_of old)) (ap (λ (e : ℕ × Stored). e.0) it);
  stays = λ other also. tail;
  heads = λ other also. heads;
  at_tail = λ none. absurd (none address there);
}

pub written-at_tail : (old new : HybridLog) (key : List ℕ) (value : Option (List ℕ)) (address : ℕ) → ((other : ℕ) → IsInPlace old key (length (value_bytes value)) other → ⊥) → IsAdded old new address key value → IsWritten old key value new
written-at_tail old new key value address none put = record {
  in_place = λ other there. absurd (none other there);
  stays = λ other there. absurd (none other there);
  heads = λ other there. absurd (none other there);
  at_tail = λ _. (address, put);
}
