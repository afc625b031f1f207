-- What a thread of the background is told of stripes: events, the newest first.
use Rattle.std.specs.Prelude.{ℕ, zero, suc, ◌+◌, ◌==◌, nat_lt, Bool, true, false, if◌then◌else◌, List, [], ◌∷◌}
use Rattle.upkeep.specs.declared.stripes.Duty.{Duty}
use Rattle.upkeep.specs.declared.stripes.Outcome.{Outcome}
use Rattle.upkeep.specs.declared.stripes.Outcome.TheVariants as outcome
use Rattle.upkeep.specs.declared.stripes.Event.{Event}
use Rattle.upkeep.specs.declared.stripes.Event.TheVariants as event

-- what is told of a step of this duty at this stripe that came to this: nothing after a fault
abbrev pub stepped : (stripe : ℕ) → Duty → Outcome → List Event
stepped stripe duty outcome.Done = event.Done stripe duty ∷ []
stepped stripe duty outcome.Idle = event.Idle stripe duty ∷ []
stepped stripe duty outcome.Full = event.Full stripe ∷ []
stepped stripe duty outcome.Fault = []

-- whether a step was done
abbrev pub is_done : Outcome → Bool
is_done outcome.Done = true
is_done outcome.Idle = false
is_done outcome.Full = false
is_done outcome.Fault = false

-- the stripe that was told of
abbrev pub stripe_of : Event → ℕ
stripe_of (event.HalfUsed stripe answer) = stripe
stripe_of (event.Used stripe count) = stripe
stripe_of (event.Short stripe answer) = stripe
stripe_of (event.Opened stripe answer) = stripe
stripe_of (event.Full stripe) = stripe
stripe_of (event.Idle stripe duty) = stripe
stripe_of (event.Done stripe duty) = stripe

-- how often this stripe was told of
unfoldable pub times_told : (stripe : ℕ) → List Event → ℕ
times_told stripe [] = 0
times_told stripe (told ∷ events) = (if stripe_of told == stripe then 1 else 0) + times_told stripe events

-- 1 for a stripe that was told of no more often than before
abbrev pub missed_one : (stripe : ℕ) → (before later : List Event) → ℕ
missed_one stripe before later = if nat_lt (times_told stripe before) (times_told stripe later) then 0 else 1

-- how many of so many stripes, from the first on, were told of no more often than before
unfoldable pub missed : (count : ℕ) → (before later : List Event) → ℕ
missed zero before later = 0
missed (suc stripe) before later = missed_one stripe before later + missed stripe before later

-- 1 for a step that was done
abbrev pub done_in : Event → ℕ
done_in (event.HalfUsed stripe answer) = 0
done_in (event.Used stripe count) = 0
done_in (event.Short stripe answer) = 0
done_in (event.Opened stripe answer) = 0
done_in (event.Full stripe) = 0
done_in (event.Idle stripe duty) = 0
done_in (event.Done stripe duty) = 1

-- how many steps were done
unfoldable pub steps_done : List Event → ℕ
steps_done [] = 0
steps_done (told ∷ events) = done_in told + steps_done events
