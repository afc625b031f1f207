use Rattle.records.proofs.Piece.{same-part}
use Rattle.records.proofs.laws.parts_of_the_same_bytes_are_the_same.Goals as goal

pub returns : goal.returns
returns c = λ from to inner last page other same after before. same-part from to inner last page other after before same
