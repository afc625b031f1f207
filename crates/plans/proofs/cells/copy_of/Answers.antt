use Rattle.std.proofs.Common.{[], length}
use Rattle.std.specs.Prelude.{unwrap_or, ◌≤◌}
use Rattle.words.specs.declared.word.TheConstants.{WORD_INLINE}
use Rattle.hybrid.specs.Staging.{AreRight}
use Rattle.shards.specs.Shards.{shard_log, shard_store}
use Rattle.plans.specs.Memory.{IsAtHand}
use Rattle.plans.proofs.Found.{missed_cold}
use Rattle.plans.proofs.Hand.{none_missing}
use Rattle.plans.proofs.cells.copy_of.Goals as goal

pub returns-in-Cold-clause-stopped : goal.returns-in-Cold-clause-stopped
returns-in-Cold-clause-stopped g c =
    let log = shard_log c.args.part.now in
    let right = g.R.Shows.is_honest × AreRight c.args.staged.now in
    missed_cold c.missed.result g.R.Shows.lends right (right → IsAtHand g.R.Shows.lends log c.args.staged.now → length (unwrap_or (shard_store c.args.part.now c.args.key.now) []) ≤ WORD_INLINE → ⊥) log c.args.key.now c.args.staged.now c.in-Cold.number
    (λ is_right. c.in-Cold.ensures.contents is_right.0 is_right.1) c.in-Cold.ensures.lent
    (λ is_right hand brief. none_missing g.R.Shows.lends log c.args.staged.now c.in-Cold.number c.in-Cold.ensures.lent hand c.in-Cold.ensures.cold c.in-Cold.ensures.left) c.missed.ensures
