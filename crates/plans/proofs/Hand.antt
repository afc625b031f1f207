-- What the log's invariant says of lookups, and where no page is wanted.
use Rattle.std.proofs.Common.{inl, inr, ◌≡◌, ◌∙◌, ℕ, zero, suc, ◌-◌, ◌<◌, true, false, List, [], ◌∷◌, ◌++◌, ◌||◌, Option, Some, None, Result, Ok, Err, IfErr, IsOk, cond, length, ap, arith}
use Rattle.std.specs.Prelude.{slice_index_or}
use Rattle.std.proofs.lemmas.Bool.{cases_lt, le-ltb}
use Rattle.words.specs.Store.{Bytes, Store, Write}
use Rattle.transact.specs.Tables.{values_of}
use Rattle.words.specs.History.{is_among}
use Rattle.words.specs.Stripes.{stripe_of}
use Rattle.hybrid.specs.HybridLog.{HybridLog, IsHybridLog, Kept, receipt_at, receipt_of}
use Rattle.hybrid.specs.Staging.{StagedPage, IsMissing}
use Rattle.shards.specs.declared.shard.Shard.{Shard}
use Rattle.plans.specs.declared.stop.Stop.{Stop}
use Rattle.plans.specs.Memory.{AreAtHand, IsAtHand}
use Rattle.shards.specs.Shards.{logs_of, shard_log}
use Rattle.plans.specs.Stops.{AreCold, IfNoMemory, IsCold}
use Rattle.plans.proofs.Logs.{log_at}
use Rattle.plans.proofs.Stores.{same_key}

within : (kept : List (Option Kept)) (i : ℕ) (k : Kept) → slice_index_or kept i None ≡ Some k → i < length kept
within [] i k there = absurd (cc there)
within (x ∷ kept) zero k there = omega arith
within (x ∷ kept) (suc i) k there = omega (arith, within kept i k there)

-- a page that is missing has left its frame
pub left_frame : (p : HybridLog) (staged : List StagedPage) (number : ℕ) → IsHybridLog p → IsMissing p staged number → number < p.resident.oldest
left_frame p staged number is missing =
    let below : number - p.oldest < length p.kept = within p.kept (number - p.oldest) missing.kept missing.has in
    elim (cases_lt number p.resident.oldest) [
      | inl left ↦ left
      | inr there ↦ absurd (missing.away (there, omega (arith, below, missing.live, is.numbered)))
    ]

-- where each page that has left its frame is staged, none is missing
pub none_missing : (lends : Type 0) (log : HybridLog) (staged : List StagedPage) (number : ℕ) → (lends → ⊥) → IsAtHand lends log staged → IsMissing log staged number → number < log.resident.oldest → ⊥
none_missing lends log staged number apart hand missing left =
    let at : receipt_at log number ≡ Some missing.kept = ap (λ t. cond t None (receipt_of log number)) (le-ltb number log.oldest missing.live) ∙ missing.has in
    elim hand [
      | inl lent ↦ apart lent
      | inr is ↦ missing.unread (is number missing.kept missing.live left at)
    ]

-- so there is no cold stop
pub none_cold : (lends : Type 0) (n : ℕ) (logs : ℕ → Option HybridLog) (keys : List Bytes) (staged : List StagedPage) (receipts : List Kept) → (lends → ⊥) → AreAtHand lends n logs keys staged
    → AreCold n logs keys staged receipts → ⊥
none_cold lends n logs keys staged [] apart hand cold = cold.0
none_cold lends n logs keys staged (k ∷ receipts) apart hand cold =
    let c : IsCold n logs keys staged k = cold.1.0 in
    none_missing lends c.log staged c.wanted.number apart (hand c.key c.log c.named c.there) c.wanted.missing c.wanted.left

-- the log of the part of one key
pub hand_of : {R : Type 0} (lends : Type 0) (n : ℕ) (parts : ℕ → Option (Shard R)) (key : Bytes) (part : Shard R) (staged : List StagedPage) → parts (stripe_of n key) ≡ Some part
    → AreAtHand lends n (logs_of parts) (key ∷ []) staged → IsAtHand lends (shard_log part) staged
hand_of {R} lends n parts key part staged there hand = hand key (shard_log part) (ap (λ b. b || false) (same_key key)) (log_at parts (stripe_of n key) part there)

-- the same of fewer keys
pub hand_fewer : (lends : Type 0) (n : ℕ) (logs : ℕ → Option HybridLog) (a b : List Bytes) (staged : List StagedPage) → ((key : Bytes) → is_among a key ≡ true → is_among b key ≡ true)
    → AreAtHand lends n logs b staged → AreAtHand lends n logs a staged
hand_fewer lends n logs a b staged within hand key log named there = hand key log (within key named) there

-- where the receipts lend their pages, all are at hand
pub all_lent : (lends : Type 0) (n : ℕ) (logs : ℕ → Option HybridLog) (keys : List Bytes) (staged : List StagedPage) → lends → AreAtHand lends n logs keys staged
all_lent lends n logs keys staged lent key log named there = inl lent

-- a result that is no error says nothing of memory
pub ok_memory : {A R : Type 0} (r : Result A (Stop R)) → IsOk r → IfErr r (λ s. IfNoMemory s ⊥)
ok_memory (Ok a) is = tt
ok_memory (Err s) is = absurd (cc is)

-- what was found of the one key of a command
pub found_alone : (store : Store) (key : Bytes) (keys : List Bytes) (start found : List Write) → keys ≡ key ∷ [] → start ≡ [] → found ≡ start ++ values_of store keys → found ≡ (key, store key) ∷ []
found_alone store key keys start found one none is =
    is ∙ ap (λ (s : List Write). s ++ values_of store keys) none ∙ ap (values_of store) one
