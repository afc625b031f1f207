-- What a run of a schedule is reported as.
use Rattle.std.specs.Prelude.{ℕ, ◌+◌, List, [], ◌∷◌, ◌++◌, length, codes}
use Rattle.std.specs.Fmt.{decimal}
use Rattle.hex.specs.Hex.{encode_lower}
use Rattle.words.specs.Store.{Bytes}
use Rattle.world_model.specs.States.{ClientState, State}

-- the line of a client: its number, a colon, all that was written to it in hexadecimal, and a line feed
abbrev pub client_line : ℕ → Bytes → Bytes
client_line client output = decimal client ++ (58 ∷ (encode_lower output ++ (10 ∷ [])))

-- the lines of clients, numbered from this number
abbrev pub client_lines : ℕ → List ClientState → Bytes
client_lines first [] = []
client_lines first (peer ∷ peers) = client_line first peer.output ++ client_lines (first + 1) peers

-- the last line: how many entries the history has
abbrev pub entries_line : ℕ → Bytes
entries_line count = codes "entries " ++ (decimal count ++ (10 ∷ []))

-- the report of a world: a line for each client from 0, and the line of the history
abbrev pub report_of : State → Bytes
report_of state = client_lines 0 state.clients ++ entries_line (length state.history)
