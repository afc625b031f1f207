-- The world as plain data: all that its events change.
use Rattle.std.specs.Prelude.{ℕ, Bool, false, List, [], ◌∷◌, ◌++◌, Option, Some, None, length, get_or, set, replicate}
use Rattle.words.specs.Store.{Bytes, Store, empty}
use Rattle.words.specs.Watches.{Marks}
use Rattle.words.specs.Stripes.{stripe_of}
use Rattle.words.specs.History.{History, Pair}
use Rattle.transact.specs.declared.call.Call.{Call}
use Rattle.transact.specs.declared.call.Call.TheVariants.{Forget}
use Rattle.connection.specs.Clients.{Progress, beginning}
use Rattle.world_model.specs.Logs.{LogState, new_log}

-- How far a client has come.
pub data Phase : Type 0 where
  Serving : Progress → Phase  -- it has no open call
  Calling : Progress → Call → Phase  -- it waits for the answer to this call, which is open until it is committed
  Leaving : List Bytes → Phase  -- its session is over; a call is open that forgets these keys, which it watched
  Left : Phase  -- its session is over, and it watches nothing
  Ended : Phase  -- it has ended

-- A receipt that is to be read: the stripe whose log kept it, and its place on the device.
pub record Due : Type 0 where
  pub stripe : ℕ
  pub place : ℕ

-- A client: all bytes that it was fed, and whether its input is at its end; how far it has come; the keys that it watches, each with the
-- position of its watch, the newest first; and all that was written to it. Of its open call: the receipts of the pages that are to be read
-- for it; how often pages were read for it; and whether its plan met a full stripe. And the epoch of its stay, if it is in one.
pub record ClientState : Type 0 where
  pub input : Bytes
  pub closed : Bool
  pub phase : Phase
  pub watches : List Pair
  pub output : Bytes
  pub due : List Due
  pub fetched : ℕ
  pub full : Bool
  pub stay : Option ℕ

-- The world: its clients; for each stripe the client that holds it, if one does, what it stores, and its log; the marks of each key, which
-- are in the key's stripe; and the history. Of the device, for each place that was ever taken, in their order: the page that a read of it
-- gives since it was released, if it was (before, a read gives the page that was written there). The epoch. And, for good: how many frames
-- a stripe has, and how many of its places may be unreleased.
pub record State : Type 0 where
  pub clients : List ClientState
  pub holders : List (Option ℕ)
  pub stores : ℕ → Store
  pub marks : Marks
  pub history : History
  pub logs : List LogState
  pub places : List (Option Bytes)
  pub epoch : ℕ
  pub frames : ℕ
  pub limit : ℕ

-- a client at the beginning
abbrev pub fresh : ClientState
fresh = record {
  input = [];
  closed = false;
  phase = Serving beginning;
  watches = [];
  output = [];
  due = [];
  fetched = 0;
  full = false;
  stay = None;
}

-- the world at the beginning
abbrev pub start : (stripes clients frames limit : ℕ) → State
start stripes clients frames limit = record {
  clients = replicate clients fresh;
  holders = replicate stripes None;
  stores = λ stripe. empty;
  marks = λ key session. None;
  history = [];
  logs = replicate stripes new_log;
  places = [];
  epoch = 1;
  frames = frames;
  limit = limit;
}

-- a client of the world
abbrev pub client : State → ℕ → ClientState
client state c = get_or state.clients c fresh

-- the log of a stripe
abbrev pub log_at : List LogState → ℕ → LogState
log_at logs i = get_or logs i new_log

abbrev pub log_of : State → ℕ → LogState
log_of state i = log_at state.logs i

-- how many stripes there are
abbrev pub stripe_count : State → ℕ
stripe_count state = length state.holders

-- the store of all stripes: each key has the value that its stripe has
abbrev pub whole : State → Store
whole state key = state.stores (stripe_of (stripe_count state) key) key

-- the open call of a client, if it has one
abbrev pub open_call : Phase → Option Call
open_call (Serving at) = None
open_call (Calling at call) = Some call
open_call (Leaving keys) = Some (Forget keys)
open_call Left = None
open_call Ended = None

-- the world with another client in a place
abbrev pub with_client : State → ℕ → ClientState → State
with_client state c peer = record state { clients = set state.clients c peer }

-- the world with another log in a place
abbrev pub with_log : State → ℕ → LogState → State
with_log state i log = record state { logs = set state.logs i log }

-- the same, where the next place on the device is taken
abbrev pub with_log_and_place : State → ℕ → LogState → State
with_log_and_place state i log = record state { logs = set state.logs i log; places = state.places ++ None ∷ [] }
