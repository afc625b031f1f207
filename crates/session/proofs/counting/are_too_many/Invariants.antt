use Rattle.std.proofs.Common.{◌≡◌, length, take}
use Rattle.transact.specs.Calls.{watched_with}
use Rattle.session.proofs.counting.are_too_many.Given as goal

abbrev pub invariant-loop-place : goal.invariant-loop-place
invariant-loop-place l = l.count ≡ length (watched_with l.watched (take l.place l.keys))
