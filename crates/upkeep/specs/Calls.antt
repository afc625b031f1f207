-- What a thread hears, says and does beside the stripes: calls of its surroundings, with their answers, the newest first.
use Rattle.std.specs.Prelude.{List, [], ◌∷◌}
use Rattle.upkeep.specs.declared.calls.Call.{Call}
use Rattle.upkeep.specs.declared.calls.Made.{Made, Nothing, After'}

-- the calls, the newest first
abbrev pub calls_in : Made → List Call
calls_in Nothing = []
calls_in (After' call snapshot earlier) = call.value ∷ calls_in earlier
