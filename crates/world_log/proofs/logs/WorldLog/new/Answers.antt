use Rattle.std.proofs.Common.{ℕ, refl}
use Rattle.world_log.specs.Places.{Shelves}
use Rattle.world_log.specs.Types.{Stripes}
use Rattle.world_log.specs.declared.logs.WorldLog.{WorldLog}
use Rattle.world_log.proofs.Beginning.{new_right, new_state}
use Rattle.world_log.proofs.logs.WorldLog.new.Goals as goal

abbrev made : Stripes → Shelves → (frames limit : ℕ) → WorldLog
made stripes device frames limit = record { stripes = stripes; device = device; epoch = 1; frames = frames; limit = limit }

pub returns-clause-start : goal.returns-clause-start
returns-clause-start c rest =
    new_state (made c.in_ok-stripes.stripes c.new-2.result c.args.limits.now.frames c.args.limits.now.places) c.args.limits.now.stripes c.args.limits.now.frames c.args.limits.now.places c.in_ok-stripes.ensures.lanes c.in_ok-stripes.ensures.holders
    c.new-2.ensures refl refl refl rest

pub returns-clause-log : goal.returns-clause-log
returns-clause-log c =
    let range = c.args.limits.now.stripes_in_range in
    new_right (made c.in_ok-stripes.stripes c.new-2.result c.args.limits.now.frames c.args.limits.now.places) c.args.limits.now.stripes c.args.limits.now.frames c.args.limits.now.places c.in_ok-stripes.ensures.lanes c.in_ok-stripes.ensures.holders
    c.new-2.ensures refl refl refl range.0 range.1
