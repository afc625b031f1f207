-- How many passes an engine has beside those of its clients.
use Rattle.std.specs.Prelude.{◌≡◌, refl}
use Rattle.engine.specs.declared.TheConstants.{BACKGROUND_PASSES}

background_passes : BACKGROUND_PASSES ≡ 3
background_passes = refl
