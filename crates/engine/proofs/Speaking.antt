-- Calls that only read.
use Rattle.std.proofs.Common.{◌≡◌, true, refl}
use Rattle.words.specs.Commands.{touches_keys}
use Rattle.engine.specs.declared.say.Speaking.{Speaking}
use Rattle.engine.specs.declared.say.Speaking.TheVariants as speaking
use Rattle.engine.specs.Got.{speaking_command}

-- such a call names keys
pub reads_keys : (call : Speaking) → touches_keys (speaking_command call) ≡ true
reads_keys (speaking.Key key) = refl
reads_keys (speaking.Keys keys) = refl
