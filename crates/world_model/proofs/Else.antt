-- What leaves clients, holders and the history as they are: room that is made, and the events of stripes.
use Rattle.std.proofs.Common.{◌≡◌, ◌∙◌, ℕ, List, [], ◌∷◌, replicate, Option, Some, None, refl}
use Rattle.world_model.specs.declared.event.Event.{Event}
use Rattle.world_model.specs.declared.event.Event.TheVariants.{Copy, Write as WriteIt, Install, Drop, Unlink, Retire, Drain, Release}
use Rattle.world_model.specs.Logs.{place_at}
use Rattle.world_model.specs.States.{State, log_of}
use Rattle.world_model.specs.Rooms.{Leaves, Sheds, Frees, Retires, Drains, Releases, Steps, ByPage, ByPlace, StepsAll}
use Rattle.world_model.specs.Effects.{Works, Unlinks, StopsFull, Cleans}

-- clients, holders and the history are the same
pub record IsElse (old new : State) : Type 0 where
  pub clients : new.clients ≡ old.clients
  pub holders : new.holders ≡ old.holders
  pub history : new.history ≡ old.history

else_both : (one two three : State) → IsElse one two → IsElse two three → IsElse one three
else_both one two three first second = record {
  clients = second.clients ∙ first.clients;
  holders = second.holders ∙ first.holders;
  history = second.history ∙ first.history;
}

leaves_else : (before : State) (i : ℕ) (o : Option ℕ) (after : State) → Leaves before i o after → IsElse before after
leaves_else before i (Some place) after leaves = rw leaves (record { clients = refl; holders = refl; history = refl })
leaves_else before i None after leaves = rw leaves.1 (record { clients = refl; holders = refl; history = refl })

shed_else : (before : State) (i : ℕ) (after : State) → Sheds before i after → IsElse before after
shed_else before i after sheds = leaves_else before i (place_at (log_of before i) (log_of before i).first) after sheds.leaves

frees_else : (before : State) (i : ℕ) (after : State) → Frees before i after → IsElse before after
frees_else before i _ (Retires some) = record { clients = refl; holders = refl; history = refl }
frees_else before i _ (Drains some) = record { clients = refl; holders = refl; history = refl }
frees_else before i _ (Releases page some) = record { clients = refl; holders = refl; history = refl }

step_else : (before : State) (i : ℕ) (after : State) → Steps before i after → IsElse before after
step_else before i after (ByPage sheds) = shed_else before i after sheds
step_else before i after (ByPlace within frees) = frees_else before i after frees

pub steps_else : (before : State) (stripes : List ℕ) (after : State) → StepsAll before stripes after → IsElse before after
steps_else before [] after steps = rw steps (record { clients = refl; holders = refl; history = refl })
steps_else before (i ∷ stripes) after steps =
    else_both before steps.0 after (step_else before i steps.0 steps.1) (steps_else steps.0 stripes after steps.2)

unlinks_else : (before : State) (i : ℕ) (after : State) → Unlinks before i after → IsElse before after
unlinks_else before i after (StopsFull count _ steps full) = steps_else before (replicate count i) after steps
unlinks_else before i after (Cleans count mid place opened steps cold there few) =
    let more = steps_else before (replicate count i) mid steps in
    record { clients = more.clients; holders = more.holders; history = more.history }

pub works_else : (before : State) (e : Event) (after : State) → Works before e after → IsElse before after
works_else before (Copy i) after works = rw works (record { clients = refl; holders = refl; history = refl })
works_else before (WriteIt i) after works = rw works (record { clients = refl; holders = refl; history = refl })
works_else before (Install i) after works = rw works (record { clients = refl; holders = refl; history = refl })
works_else before (Drop i) after works = rw works (record { clients = refl; holders = refl; history = refl })
works_else before (Unlink i) after works = unlinks_else before i after works
works_else before (Retire i) after works = rw works (record { clients = refl; holders = refl; history = refl })
works_else before (Drain i) after works = rw works (record { clients = refl; holders = refl; history = refl })
works_else before (Release i page) after works = rw works (record { clients = refl; holders = refl; history = refl })
works_else before _ after works = absurd works
