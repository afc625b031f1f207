-- The most bytes of a piece.
use Rattle.std.specs.Prelude.{◌≡◌, refl}
use Rattle.schedules.specs.declared.lines.TheConstants.{PIECE_BYTES_MAX}

bytes_of_a_piece : PIECE_BYTES_MAX ≡ 65536
bytes_of_a_piece = refl
