-- The most stripes of a set.
use Rattle.std.specs.Prelude.{◌≡◌, refl}
use Rattle.gates.specs.declared.sorted.TheConstants.{STRIPES_LIMIT}

stripes_limit : STRIPES_LIMIT ≡ 64
stripes_limit = refl
