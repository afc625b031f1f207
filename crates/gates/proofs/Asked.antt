-- What is asked for by a pass may stand in the history, where its reply is due.
use Rattle.std.proofs.Common.{◌≡◌, ℕ, true, List, [], ◌∷◌, refl, sym, ap, subst}
use Rattle.words.specs.declared.history.Entry.{Entry}
use Rattle.words.specs.declared.history.Operation.{Operation}
use Rattle.words.specs.declared.reply.Reply.{Reply}
use Rattle.words.specs.History.{History, Pair, Extends, HasPlace, due, pairs_of, keys_of_pairs, AreWatches}
use Rattle.words.specs.Watches.{GoesBy}
use Rattle.words.specs.Session.{Asked, Run, Watch, Exec, operation_of}
use Rattle.gates.specs.declared.view.Knowledge.{Knowledge}
use Rattle.gates.specs.Plays.{kept}
use Rattle.gates.specs.Passes.{KeysHeld}

-- it goes by all that is watched
goes_by : (watched : List Pair) (asked : Asked) → GoesBy watched (operation_of watched asked)
goes_by watched (Run command) = tt
goes_by watched (Watch keys) = tt
goes_by watched (Exec commands) = refl

asked_watches : (seen : History) (number : ℕ) (watched : List Pair) (asked : Asked) → AreWatches seen number watched
    → AreWatches seen number (pairs_of (operation_of watched asked))
asked_watches seen number watched (Run command) are = tt
asked_watches seen number watched (Watch keys) are = tt
asked_watches seen number watched (Exec commands) are = are

module _ (number : ℕ) (watched : List Pair) (asked : Asked) (reply : Reply) (entry : Entry)
    (told : entry ≡ record { session = number; operation = operation_of watched asked; reply = reply }) where
  is_operation : entry.operation ≡ operation_of watched asked
  is_operation = ap (λ (e : Entry). e.operation) told

  pub told_goes_by : GoesBy watched entry.operation
  told_goes_by = subst (GoesBy watched) (sym is_operation) (goes_by watched asked)

  pub told_extends : (seen : History) → AreWatches seen number watched → HasPlace entry.operation → reply ≡ due seen entry.operation → Extends seen entry
  told_extends seen are place due_here =
      subst (Extends seen) (sym told)
      record {
        place = subst HasPlace is_operation place;
        reply_due = subst (λ (o : Operation). reply ≡ due seen o) is_operation due_here;
        watches = asked_watches seen number watched asked are;
      }

-- where nothing is held, and the watched keys are, nothing is watched
no_watched : (T : Type 0) (stripes : ℕ) (watched : List Pair) → KeysHeld {T = T} stripes [] (keys_of_pairs watched) → watched ≡ []
no_watched T stripes [] held = refl
no_watched T stripes (pair ∷ pairs) held = absurd (cc held.0)

pub kept_nothing : {T : Type 0} (stripes : ℕ) (parts : List (ℕ × T)) (knows : Knowledge) → parts ≡ [] → KeysHeld stripes parts (keys_of_pairs knows.watched)
    → kept true [] knows ≡ knows
kept_nothing {T} stripes parts knows none held =
    sym (ap (λ (w : List Pair). record knows { watched = w })
    (no_watched T stripes knows.watched (subst (λ (l : List (ℕ × T)). KeysHeld stripes l (keys_of_pairs knows.watched)) none held)))
