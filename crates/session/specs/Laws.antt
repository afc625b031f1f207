-- What a session watches, and the pairs that its entries leave it.
use Rattle.std.specs.Prelude.{◌≡◌, ℕ, List}
use Rattle.words.specs.History.{Pair, keys_of_pairs}
use Rattle.words.specs.Watches.{watched_after}
use Rattle.words.specs.Session.{Asked, operation_of, watched_at_fault}
use Rattle.session.specs.Standings.{watched_done, watched_faulty}

-- after the entry of what was asked, the session watches the keys of the pairs that the entry leaves
abbrev pub WatchesPairsOfEntry : Type 0
WatchesPairsOfEntry =
    (pairs : List Pair) (asked : Asked) (position : ℕ)
    → keys_of_pairs (watched_after pairs (operation_of pairs asked) position) ≡ watched_done (keys_of_pairs pairs) asked

-- after a fault, it watches the keys of the pairs that the fault leaves
abbrev pub WatchesPairsOfFault : Type 0
WatchesPairsOfFault =
    (pairs : List Pair) (asked : Asked) → keys_of_pairs (watched_at_fault pairs asked) ≡ watched_faulty (keys_of_pairs pairs) asked
