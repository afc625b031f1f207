-- How a place that has left its log comes to its release (FASTER, SIGMOD 2018, "Epoch Protection").
use Rattle.std.specs.Prelude.{ℕ, ◌+◌, List, [], ◌∷◌, set, Option, Some}
use Rattle.words.specs.Store.{Bytes}
use Rattle.world_model.specs.Logs.{Stamped, with_retired, with_drained, with_released}
use Rattle.world_model.specs.States.{State, log_of, with_log}

-- Retire: the oldest unlinked place is stamped with the present epoch, and the next one begins.
abbrev pub after_retire : State → ℕ → State
after_retire before i = record before {
  logs = set before.logs i (with_retired (log_of before i) before.epoch);
  epoch = before.epoch + 1;
}

-- Drain: the oldest retired place counts as drained.
abbrev pub after_drain : State → ℕ → State
after_drain before i = with_log before i (with_drained (log_of before i))

-- Release: the oldest drained place is released; from now on a read of it gives this page.
abbrev pub places_released : List (Option Bytes) → List Stamped → Bytes → List (Option Bytes)
places_released places [] page = places
places_released places (one ∷ others) page = set places one.place (Some page)

abbrev pub after_release : State → ℕ → Bytes → State
after_release before i page = record before {
  logs = set before.logs i (with_released (log_of before i));
  places = places_released before.places (log_of before i).drained page;
}
