use Rattle.std.specs.Prelude.{◌≡◌, [], ⊤}
use Rattle.engine.specs.Passes.{Rests, knows}
use Rattle.engine_tests.proofs.tests.saying.a_transaction_of_gets_is_said_where_the_buffer_has_room_for_all.Given as goal

abbrev pub invariant-loop-room : goal.invariant-loop-room
invariant-loop-room g l = Rests ⊤ l.engine l.pass × ((knows (λ device. 0) l.pass).watched ≡ [])
