-- Whose event it is.
use Rattle.std.specs.Prelude.{ℕ, Option, Some, None}
use Rattle.world_model.specs.declared.event.Event.{Event}
use Rattle.world_model.specs.declared.event.Event.TheVariants as event

-- The client whose event it is, if it is one's; the others are of a stripe.
abbrev pub actor : Event → Option ℕ
actor (event.Piece c bytes) = Some c
actor (event.Close c) = Some c
actor (event.Take c i) = Some c
actor (event.Fetch c) = Some c
actor (event.Commit c) = Some c
actor (event.Give c i) = Some c
actor _ = None
