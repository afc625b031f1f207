use Rattle.std.proofs.Common.{◌≡◌, Option, Some, IsSome, refl, subst, sym}
use Rattle.hybrid.specs.HybridLog.{Kept, receipt_at}
use Rattle.shards.specs.declared.shard.Shard.{Shard}
use Rattle.shards.specs.Receipts.{kept_by}
use Rattle.shards.specs.Shards.{shard_log}
use Rattle.background.specs.Steps.{Keeps}
use Rattle.background.proofs.Settling.{ok_as}
use Rattle.background.proofs.Visiting.{some_same}
use Rattle.background.proofs.cells.copy_at.Goals as goal

has_some : {R : Type 0} (parts : _) (stripe number : _) (kept : Kept) (part : Shard R) → Keeps parts stripe number kept → parts stripe ≡ Some part → IsSome (receipt_at (shard_log part) number)
has_some {R} parts stripe number kept part keeps there =
    let same : keeps.part ≡ part = some_same keeps.part part (parts stripe) keeps.there there in
    subst (λ (p : Shard R). IsSome (receipt_at (shard_log p) number)) same (subst (λ (o : Option Kept). IsSome o) (sym keeps.has) refl)

pub copy_of-requires : goal.copy_of-requires
copy_of-requires g c = record { kept = has_some (g.P.Parts.part_of c.args.parts.now) c.args.stripe c.args.number c.requires.kept.0 c.part.result.now c.requires.kept.1 c.part.ensures.value }

pub returns-clause-copy : goal.returns-clause-copy
returns-clause-copy g c =
    ok_as c.copy_of.result _ (λ receipt. Keeps (g.P.Parts.part_of c.args.parts.now) c.args.stripe c.args.number (kept_by g.R.Shows.identity g.R.Shows.shown receipt))
    (λ receipt has. record { part = c.part.result.now; there = c.part.ensures.value; has = has }) c.copy_of.ensures.copy
