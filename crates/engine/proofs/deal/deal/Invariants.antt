use Rattle.std.proofs.Common.{◌≡◌, ◌++◌, List, vec_len}
use Rattle.std.specs.List.{All}
use Rattle.epoch.specs.Seats.{IsOutside}
use Rattle.gates.specs.Passes.{AreNew}
use Rattle.engine.specs.Passes.{AreDealt}
use Rattle.engine.proofs.deal.deal.Given as goal

abbrev pub invariant-loop-gates : goal.invariant-loop-gates
invariant-loop-gates g l = record {
  same : vec_len l.passes ≡ vec_len l.openings;
  seats : vec_len l.seats ≡ vec_len l.openings;
  outside : All (IsOutside l.fn.epochs) l.seats.items;
  new : AreNew g.R.Shows.is_steady l.fn.gates 0 l.passes.items;
  dealt : (taken : List _) × (l.fn.openings.items ≡ l.openings.items ++ taken) × AreDealt g.R.Shows.is_steady l.fn.gates l.fn.epochs (vec_len l.passes) l.dealt.items taken;
}

abbrev pub decreases-loop-gates : goal.decreases-loop-gates
decreases-loop-gates g l = vec_len l.passes
