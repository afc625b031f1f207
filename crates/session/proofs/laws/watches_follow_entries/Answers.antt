use Rattle.std.proofs.Common.{◌≡◌, ℕ, List, refl}
use Rattle.words.specs.History.{Pair, keys_of_pairs}
use Rattle.words.specs.Watches.{watched_after}
use Rattle.words.specs.Session.{Asked, Run, Watch, Exec, operation_of}
use Rattle.session.specs.Standings.{watched_done}
use Rattle.session.proofs.Watched.{keys_with_keys}
use Rattle.session.proofs.laws.watches_follow_entries.Goals as goal

after_entry : (pairs : List Pair) (asked : Asked) (position : ℕ)
    → keys_of_pairs (watched_after pairs (operation_of pairs asked) position) ≡ watched_done (keys_of_pairs pairs) asked
after_entry pairs (Run command) position = refl
after_entry pairs (Watch keys) position = keys_with_keys keys pairs position
after_entry pairs (Exec commands) position = refl

pub returns-clause-entry : goal.returns-clause-entry
returns-clause-entry c = after_entry
