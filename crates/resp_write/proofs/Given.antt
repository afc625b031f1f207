-- A text of several parts, given to a sink.
use Rattle.std.proofs.Common.{◌≡◌, ℕ, suc, ◌<◌, List, ◌++◌, length, take, drop, get_or, Result, Ok, Err, sym, ap, ◌∙◌, drop-cons}
use Rattle.std.specs.List.{flat_map}
use Rattle.std.proofs.lemmas.List.Concat.{flat_map-append}
use Rattle.std.proofs.lemmas.List.{take-append-drop}
use Rattle.resp_write.specs.Sinks.{IsGiven}

-- a part after what was taken
pub given_then : {S E : Type 0} (takes stops : S → S → List ℕ → Type 0)
    → ((s t u : S) (a b : List ℕ) → takes s t a → takes t u b → takes s u (a ++ b))
    → ((s t u : S) (a b : List ℕ) → takes s t a → stops t u b → stops s u (a ++ b))
    → (s t u : S) (result : Result (Unit {0}) E) (a b : List ℕ) → takes s t a → IsGiven takes stops t u result b
    → IsGiven takes stops s u result (a ++ b)
given_then takes stops takes_then stops_then s t u (Ok done) a b taken given = takes_then s t u a b taken given
given_then takes stops takes_then stops_then s t u (Err fault) a b taken given = stops_then s t u a b taken given

-- a joined text, about one element's part
flat_map-at : {X Y : Type 0} (f : X → List Y) (xs : List X) (i : ℕ) (d : X) → i < length xs
    → flat_map f xs ≡ flat_map f (take i xs) ++ (f (get_or xs i d) ++ flat_map f (drop (suc i) xs))
flat_map-at f xs i d below =
    ap (flat_map f) (sym (take-append-drop i xs))
    ∙ flat_map-append f (take i xs) (drop i xs)
    ∙ ap (λ ys. flat_map f (take i xs) ++ flat_map f ys) (drop-cons xs i d below)

-- what stops within one element's part stops within the joined text
pub stops_within : {S X : Type 0} (takes stops : S → S → List ℕ → Type 0)
    → ((s t : S) (a b : List ℕ) → stops s t a → stops s t (a ++ b))
    → ((s t u : S) (a b : List ℕ) → takes s t a → stops t u b → stops s u (a ++ b))
    → (f : X → List ℕ) (s t u : S) (xs : List X) (i : ℕ) (d : X) → i < length xs
    → takes s t (flat_map f (take i xs)) → stops t u (f (get_or xs i d)) → stops s u (flat_map f xs)
stops_within takes stops stops_more stops_then f s t u xs i d below before part =
    let all = stops_then s t u _ _ before (stops_more t u _ (flat_map f (drop (suc i) xs)) part) in
    rw (flat_map-at f xs i d below) all
