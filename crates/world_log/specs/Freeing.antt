-- Places of a stripe that wait, and the own steps of a call or of the cleaner, which bring them to their release.
use Rattle.std.specs.Prelude.{ℕ, ◌≡◌, ◌+◌, ◌<◌, Bool, true, false, List, [], ◌∷◌, length, replicate, get_or, is_none, Option, None}
use Rattle.world_model.specs.Effects.{Unlinks}
use Rattle.world_model.specs.Logs.{LogState}
use Rattle.world_model.specs.Rooms.{StepsAll, HasNoPlace}
use Rattle.world_model.specs.States.{State, log_at}
use Rattle.world_log.specs.Given.{StaysGiven}
use Rattle.world_log.specs.Stripes.{states_of}
use Rattle.world_log.specs.Types.{Stripes}
use Rattle.world_log.specs.WorldLogs.{IsWorldLog, KeepsHeld, state_of, stays_of}
use Rattle.world_log.specs.declared.logs.WorldLog.{WorldLog}

-- how many places of a log wait for their release
abbrev pub count_waiting : LogState → ℕ
count_waiting log = length log.unlinked + (length log.retired + length log.drained)

-- the same places wait
pub record SameWaiting (old new : LogState) : Type 0 where
  pub unlinked : new.unlinked ≡ old.unlinked
  pub retired : new.retired ≡ old.retired
  pub drained : new.drained ≡ old.drained

-- and how many of all logs do
abbrev pub waiting : List LogState → ℕ
waiting [] = 0
waiting (log ∷ logs) = count_waiting log + waiting logs

abbrev pub waiting_in : Stripes → ℕ
waiting_in stripes = waiting (states_of stripes)

-- Steps that make room were made while clients had these stays, and nothing else was done.
pub record HasStepped (stays : List (Option ℕ)) (old new : WorldLog) : Type 0 where
  pub log : IsWorldLog new
  pub steps : (rest : State) → stays_of rest ≡ stays → (stripes : List ℕ) × StepsAll (state_of rest old) stripes (state_of rest new)

-- All of them in one stripe; and the log is right still, as is what was given and held.
pub record HasFreed (stays : List (Option ℕ)) (i : ℕ) (old new : WorldLog) : Type 0 where
  pub count : ℕ
  pub steps : (rest : State) → stays_of rest ≡ stays → StepsAll (state_of rest old) (replicate count i) (state_of rest new)
  pub log : IsWorldLog new
  pub given : StaysGiven old.device new.device
  pub held : KeepsHeld old.stripes new.stripes

-- The cleaner made room in a stripe, and unlinked its oldest page; or no place can be taken there, and room alone was made.
pub record HasMetFull (i : ℕ) (old new : WorldLog) : Type 0 where
  pub count : ℕ
  pub steps : (rest : State) → StepsAll (state_of rest old) (replicate count i) (state_of rest new)
  pub full : (rest : State) → HasNoPlace (state_of rest new) i
  pub same : SameWaiting (log_at (states_of old.stripes) i) (log_at (states_of new.stripes) i)

abbrev pub HasCleaned : Bool → ℕ → WorldLog → WorldLog → Type 0
HasCleaned true i old new = (rest : State) → Unlinks (state_of rest old) i (state_of rest new)
HasCleaned false i old new = HasMetFull i old new

-- the oldest page of a stripe is not resident
abbrev pub IsCold : ℕ → WorldLog → Type 0
IsCold i log = (log_at (states_of log.stripes) i).oldest < (log_at (states_of log.stripes) i).first

-- nobody holds a stripe
abbrev pub IsFree : ℕ → WorldLog → Type 0
IsFree i log = is_none (get_or log.stripes.holders.items i None) ≡ true

-- where no place could be taken in a stripe, none can
abbrev pub StaysFull : ℕ → WorldLog → WorldLog → Type 0
StaysFull i old new = (rest : State) → HasNoPlace (state_of rest old) i → HasNoPlace (state_of rest new) i
