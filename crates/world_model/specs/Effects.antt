-- What an event does where it is enabled.
use Rattle.std.specs.Prelude.{ℕ, ◌≡◌, ◌+◌, ◌<◌, ◌≤◌, true, ◌&&◌, List, [], ◌++◌, length, set, replicate, Option, Some, None, is_none}
use Rattle.std.specs.Prelude.{if◌then◌else◌}
use Rattle.words.specs.Store.{Bytes}
use Rattle.world_model.specs.Logs.{place_at, dropped, with_opened, without_oldest, with_copy, with_written, with_installed}
use Rattle.world_model.specs.States.{Phase, Serving, Calling, Leaving, Left, Ended, ClientState, State, log_of, open_call, with_client, with_log, with_log_and_place}
use Rattle.world_model.specs.Enabled.{holds_none}
use Rattle.world_model.specs.Releasing.{after_retire, after_drain, after_release}
use Rattle.world_model.specs.Rooms.{StepsAll, IsFull}
use Rattle.world_model.specs.Planning.{Takes}
use Rattle.world_model.specs.Commits.{OPENED_MAX, Commits}
use Rattle.world_model.specs.declared.event.Event.{Event}
use Rattle.world_model.specs.declared.event.Event.TheVariants as event

-- A CLIENT'S EVENTS, BEFORE IT ADVANCES

-- Piece: the bytes join what the client was fed, and what its session has not taken up.
abbrev pub fed : Phase → Bytes → Phase
fed (Serving at) bytes = Serving (record at { unread = at.unread ++ bytes })
fed (Calling at call) bytes = Calling (record at { unread = at.unread ++ bytes }) call
fed (Leaving keys) bytes = Leaving keys
fed Left bytes = Left
fed Ended bytes = Ended

abbrev pub heard : ClientState → Bytes → ClientState
heard peer bytes = record peer { input = peer.input ++ bytes; phase = fed peer.phase bytes }

-- Fetch: the pages are read that are due.
abbrev pub fetched : ClientState → ClientState
fetched peer = record peer { due = []; fetched = peer.fetched + 1 }

-- Give: the stripe is free. After the last one of a call that was committed, the stay ends.
abbrev pub given : State → ℕ → ClientState → (i : ℕ) → State
given before c peer i =
    let holders : List (Option ℕ) = set before.holders i None in
    record before {
      holders = holders;
      clients =
          if is_none (open_call peer.phase) && holds_none c holders then set before.clients c (record peer { stay = None }) else before.clients;
    }

-- What an event of a client does.
abbrev pub Does : State → ℕ → ClientState → Event → State → Type 0
Does before c peer (event.Piece _ bytes) after = after ≡ with_client before c (heard peer bytes)
Does before c peer (event.Close _) after = after ≡ with_client before c (record peer { closed = true })
Does before c peer (event.Take _ i) after = Takes before c peer i after
Does before c peer (event.Fetch _) after = after ≡ with_client before c (fetched peer)
Does before c peer (event.Commit _) after = Commits before c peer peer.phase after
Does before c peer (event.Give _ i) after = after ≡ given before c peer i
Does before c peer _ after = ⊥

-- A STRIPE'S EVENTS: FLUSHER, EVICTOR AND CLEANER

-- Unlink: room may be made in the stripe first. Where it is full then, that is all. Else the live records of its oldest page are copied to
-- the tail, behind which pages may be opened, and the page leaves the log.
pub data Unlinks (before : State) (i : ℕ) : State → Type 0 where
  StopsFull : (count : ℕ) (after : State) → StepsAll before (replicate count i) after → IsFull after i → Unlinks before i after
  Cleans : (count : ℕ) (mid : State) (place opened : ℕ) → StepsAll before (replicate count i) mid
      → (log_of mid i).oldest < (log_of mid i).first → place_at (log_of mid i) (log_of mid i).oldest ≡ Some place → opened ≤ OPENED_MAX
      → Unlinks before i (with_log mid i (without_oldest (with_opened (log_of mid i) opened) place))

-- What an event of a stripe does.
abbrev pub Works : State → Event → State → Type 0
Works before (event.Copy i) after = after ≡ with_log before i (with_copy before.frames (log_of before i))
Works before (event.Write i) after = after ≡ with_log_and_place before i (with_written (log_of before i) (length before.places))
Works before (event.Install i) after = after ≡ with_log before i (with_installed before.frames (log_of before i))
Works before (event.Drop i) after = after ≡ with_log before i (dropped (log_of before i))
Works before (event.Unlink i) after = Unlinks before i after
Works before (event.Retire i) after = after ≡ after_retire before i
Works before (event.Drain i) after = after ≡ after_drain before i
Works before (event.Release i page) after = after ≡ after_release before i page
Works before _ after = ⊥
