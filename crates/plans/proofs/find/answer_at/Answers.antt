use Rattle.strings.specs.Overlays.{NeedsNoMemory}
use Rattle.transact.specs.Memory.{of_one_key}
use Rattle.hybrid.specs.Staging.{AreRight}
use Rattle.shards.specs.Shards.{shard_log, shard_store}
use Rattle.plans.specs.Memory.{IsAtHand}
use Rattle.plans.proofs.Found.{missed_cold}
use Rattle.plans.proofs.Hand.{none_missing}
use Rattle.plans.proofs.find.answer_at.Goals as goal

pub returns-in-Cold-clause-stopped : goal.returns-in-Cold-clause-stopped
returns-in-Cold-clause-stopped g c =
    let log = shard_log c.args.part.now in
    let right = g.R.Shows.is_honest × AreRight c.args.staged.now in
    missed_cold c.missed.result g.R.Shows.lends right (right → IsAtHand g.R.Shows.lends log c.args.staged.now → NeedsNoMemory (of_one_key c.args.key.now (shard_store c.args.part.now c.args.key.now)) c.args.command.now → ⊥) log c.args.key.now c.args.staged.now c.in-Cold.number
    (λ is_right. c.in-Cold.ensures.contents is_right.0 is_right.1) c.in-Cold.ensures.lent
    (λ is_right hand brief. none_missing g.R.Shows.lends log c.args.staged.now c.in-Cold.number c.in-Cold.ensures.lent hand c.in-Cold.ensures.cold c.in-Cold.ensures.left) c.missed.ensures
