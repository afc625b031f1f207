use Rattle.std.proofs.Common.{rules}
use Rattle.frames.proofs.Frames.new.Goals as goal

pub loop-init : goal.loop-init
loop-init c = search rules
