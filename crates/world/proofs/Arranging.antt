-- Pages that a plan names, to be read for it.
use Rattle.std.proofs.Common.{◌≡◌, ℕ, false, List, [], ◌∷◌, length, Option, refl, sym, ap, subst, arith}
use Rattle.hybrid.specs.HybridLog.{Kept}
use Rattle.hybrid.specs.Staging.{AreRight, StagedPage}
use Rattle.transact.specs.declared.call.Call.{Call}
use Rattle.shards.specs.declared.shard.Shard.{Shard}
use Rattle.shards.specs.Shards.{logs_of}
use Rattle.plans.specs.Stops as plans
use Rattle.plans.specs.Stops.{AreCold, IsCold, IsNotEmpty, keys_looked_up}
use Rattle.world_log.specs.Places.{Receipt}
use Rattle.world_log.specs.PlanLaws.{IsColdIn, logs_lent}
use Rattle.world_log.specs.WorldLogs.{IsWorldLog}
use Rattle.world_log.specs.declared.logs.WorldLog.{WorldLog}
use Rattle.world_model.specs.States.{start}
use Rattle.world_model.specs.Enabled.{are_none}
use Rattle.world.specs.Laws.{PlanLaws}
use Rattle.world.specs.Planning.{HasNamed, KeepsDesk, count_of}
use Rattle.world.specs.declared.desk.Desk.{Desk}
use Rattle.world.specs.declared.desk.Plan.{Plan}
use Rattle.world.proofs.Coming.{same_parts}

-- a world's log is right where nothing has changed but who acts
pub named_right : PlanLaws → (old : WorldLog) (c : ℕ) (call : Call) (staged : List StagedPage) (receipts : List Kept) (new : WorldLog) → IsWorldLog old
    → HasNamed old c call staged receipts new → IsWorldLog new
named_right laws old c call staged receipts new is has =
    subst IsWorldLog (sym has.else_same) (same_parts laws (start 0 0 0 0) old c new.stripes is has.keeps has.parts).1

each_cold : (P Q : Kept → Type 0) (receipts : List Kept) → ((kept : Kept) → P kept → Q kept) → plans.Each P receipts → plans.Each Q receipts
each_cold P Q [] turn each = tt
each_cold P Q (kept ∷ others) turn each = (turn kept each.0, each_cold P Q others turn each.1)

-- each receipt is kept of a page that is not resident
pub named_cold : PlanLaws → (old : WorldLog) (c : ℕ) (call : Call) (staged : List StagedPage) (receipts : List Kept) (new : WorldLog) → IsWorldLog old
    → HasNamed old c call staged receipts new → plans.Each (IsColdIn new) receipts
named_cold laws old c call staged receipts new is has =
    let right = named_right laws old c call staged receipts new is has in
    let cold : AreCold (count_of old.stripes) (logs_lent new.stripes) (keys_looked_up call) staged receipts =
    subst (λ (parts : ℕ → Option (Shard Receipt)). AreCold (count_of old.stripes) (logs_of parts) (keys_looked_up call) staged receipts) (sym has.parts) has.cold in
    each_cold _ (IsColdIn new) receipts (λ kept one. laws.cold new (count_of old.stripes) (keys_looked_up call) staged kept right one) cold.1

-- there is one at least
pub some_named : {A : Type 0} (receipts : List Kept) (due : List A) → IsNotEmpty receipts → length due ≡ length receipts → are_none due ≡ false
some_named [] due some count = absurd some
some_named (kept ∷ others) [] some count = absurd (omega (arith, count))
some_named (kept ∷ others) (one ∷ more) some count = refl

-- what a client has beside its session is the same but for its plan and pages that were read
pub keeps_desk : (was mid : Desk) (p : Plan) → mid ≡ (let d : Desk = record was { staged = mid.staged } in d) → AreRight mid.staged
    → KeepsDesk was (let d : Desk = record mid { plan = p } in d)
keeps_desk was mid p same right = record {
  due = ap (λ (d : Desk). d.due) same;
  fetched = ap (λ (d : Desk). d.fetched) same;
  stay = ap (λ (d : Desk). d.stay) same;
  right = right;
}

-- the same of what is left as it was but for pages that were read
pub keeps_staged : (was mid : Desk) → mid ≡ (let d : Desk = record was { staged = mid.staged } in d) → AreRight mid.staged → KeepsDesk was mid
keeps_staged was mid same right = record {
  due = ap (λ (d : Desk). d.due) same;
  fetched = ap (λ (d : Desk). d.fetched) same;
  stay = ap (λ (d : Desk). d.stay) same;
  right = right;
}
