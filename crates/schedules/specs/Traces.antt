-- What a run of a schedule is traced as: a line for each event, which says what it did.
use Rattle.std.specs.Prelude.{ℕ, ◌≡◌, ◌+◌, ◌<◌, Bool, true, false, List, [], ◌∷◌, ◌++◌, length, drop, Option, Some, None, codes, nat_lt, if◌then◌else◌}
use Rattle.std.specs.Fmt.{decimal}
use Rattle.hex.specs.Hex.{encode_lower}
use Rattle.words.specs.declared.limits.Limits.{Limits}
use Rattle.words.specs.Store.{Bytes}
use Rattle.world_model.specs.Actors.{actor}
use Rattle.world_model.specs.declared.event.Event.{Event}
use Rattle.world_model.specs.Enabled.{is_enabled}
use Rattle.world_model.specs.States.{State, client, start}
use Rattle.world_model.specs.Resting.{AreOfCalls, IsAtRest}
use Rattle.world_model.specs.Told.{Headline}
use Rattle.world_model.specs.Turns.{Turn}
use Rattle.schedules.specs.Reports.{report_of}
use Rattle.schedules.specs.Schedules.{IsSchedule, spaced, words_of}

-- WHAT AN EVENT DID

-- all that was written to the client whose event it is; of a stripe's event there is none
abbrev pub output_of : State → Option ℕ → Bytes
output_of state None = []
output_of state (Some c) = (client state c).output

-- what that client was told by the event: what its output has more after it
abbrev pub said : Event → (before after : State) → Bytes
said e before after = drop (length (output_of before (actor e))) (output_of after (actor e))

-- the position of the entry that the event added, where the history has grown
abbrev pub entry_added : (before after : State) → Option ℕ
entry_added before after = if nat_lt (length before.history) (length after.history) then Some (length before.history) else None

-- HOW A LINE IS SPELLED

abbrev pub enabled_part : Bool → Bytes
enabled_part true = codes " | enabled"
enabled_part false = codes " | not enabled"

-- bytes in hexadecimal, in lower case, with two digits a byte
abbrev pub told_part : Bytes → Bytes
told_part [] = []
told_part (byte ∷ bytes) = codes " | told " ++ encode_lower (byte ∷ bytes)

abbrev pub entry_part : Option ℕ → Bytes
entry_part None = []
entry_part (Some position) = codes " | entry " ++ decimal position

-- An event: the number of its line in the schedule, and that line.
abbrev pub event_part : ℕ → Event → Bytes
event_part number e = decimal number ++ (32 ∷ spaced (words_of e))

-- what it did, and a line feed
abbrev pub effect_part : Bool → (told : Bytes) → (entry : Option ℕ) → Bytes
effect_part enabled told entry = enabled_part enabled ++ (told_part told ++ (entry_part entry ++ (10 ∷ [])))

-- The line of an event that leads from one state to the other.
abbrev pub trace_line : ℕ → Event → (before after : State) → Bytes
trace_line number e before after =
    event_part number e ++ effect_part (is_enabled before e) (said e before after) (entry_added before after)

-- THE WHOLE

-- The events, in order, lead from one state to another, and these are their lines. The first of them is on this line of the schedule.
abbrev pub IsTrace : (number : ℕ) → (before : State) → List Event → (after : State) → Bytes → Type 0
IsTrace number before [] after text = (after ≡ before) × (text ≡ [])
IsTrace number before (e ∷ events) after text =
    (next : State) × (rest : Bytes) × Turn before e next × IsTrace (number + 1) next events after rest
    × (text ≡ trace_line number e before next ++ rest)

-- Events of calls lead from one state to another, where each client rests, and lines are added to a text that say so. The first of them is on
-- this line.
pub record RestsBy (number : ℕ) (before after : State) (old new : Bytes) : Type 0 where
  pub events : List Event
  pub lines : Bytes
  pub of_calls : AreOfCalls events
  pub trace : IsTrace number before events after lines
  pub added : new ≡ old ++ lines
  pub rest : (c : ℕ) → c < length after.clients → IsAtRest after c

-- The events, in order, lead a world of these limits from its beginning to a state of which the headline holds; this is a line for each of
-- them, and then the report of that state. (The first event is on line 2.)
pub record IsTraced (limits : Limits) (events : List Event) (text : Bytes) : Type 0 where
  pub state : State
  pub lines : Bytes
  pub trace : IsTrace 2 (start limits.stripes limits.clients limits.frames limits.places) events state lines
  pub headline : Headline state
  pub told : text ≡ lines ++ report_of state
