-- The number of each size of a device.
use Rattle.std.specs.Prelude.{◌≡◌, refl}
use Rattle.device.specs.declared.places.TheConstants.{MAX_PLACES}

most_places : MAX_PLACES ≡ 4194304
most_places = refl
