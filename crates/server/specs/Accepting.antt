-- When no connection comes any more, and what a client reads that is turned away.
use Rattle.std.specs.Prelude.{ℕ, ◌≢◌, Result, Ok, Err, List, [], ◌∷◌, ◌++◌, codes}
use Rattle.std.specs.IoError.{error_kind}
use Rattle.std.specs.declared.io.Error.{Error}
use Rattle.std.specs.declared.io.ErrorKind.TheVariants.{ConnectionAborted}

-- Asked for the next connection, the system gave none, for another reason than that its client gave it up before it was accepted.
abbrev pub IsFailure : {T : Type 0} → Result T Error → Type 0
IsFailure (Ok stream) = ⊥
IsFailure (Err error) = error_kind error ≢ ConnectionAborted

-- how many connections came: one, or none
abbrev pub came_once : {T E : Type 0} → Result T E → ℕ
came_once (Ok stream) = 1
came_once (Err error) = 0

-- the line of a client that is turned away, with its end
abbrev pub turned_away_line : List ℕ
turned_away_line = codes "-ERR max number of clients reached" ++ 13 ∷ 10 ∷ []
