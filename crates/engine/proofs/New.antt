-- Passes of a new engine.
use Rattle.std.proofs.Common.{◌≡◌, ◌∙◌, ◌<◌, ℕ, zero, suc, ◌+◌, slice_index_or, length-append, List, [], ◌∷◌, ◌++◌, length, None, ap, subst, sym, refl, arith}
use Rattle.std.specs.List.{All}
use Rattle.words.specs.Store.{Bytes}
use Rattle.epoch.specs.declared.epochs.Epochs.{Epochs}
use Rattle.gates.specs.declared.gates.Gates.{Gates}
use Rattle.gates.specs.declared.gates.Pass as gates_pass
use Rattle.gates.specs.Rule.{Meaning}
use Rattle.gates.specs.Plays.{AreEmpty, newcomer}
use Rattle.gates.specs.Passes.{known, IsResting, AreNew}
use Rattle.shards.specs.declared.shard.Shard.{Shard}
use Rattle.engine.specs.declared.pass.Pass.{Pass}
use Rattle.engine.specs.Passes.{AreDealt, IsNew}

-- one empty part more
pub empty_more : {T : Type 0} (contents : Meaning T) (parts : List T) (part : T) → AreEmpty contents parts → ((key : Bytes) → contents.store part key ≡ None)
    → ((key : Bytes) (number : ℕ) → contents.marks part key number ≡ None) → AreEmpty contents (parts ++ part ∷ [])
empty_more contents [] part all empty unmarked = (empty, unmarked, tt)
empty_more contents (x ∷ xs) part all empty unmarked = (all.0, all.1, empty_more contents xs part all.2 empty unmarked)

get_before : {A : Type 0} (xs : List A) (x : A) (place : ℕ) (other : A) → place < length xs → slice_index_or (xs ++ x ∷ []) place other ≡ slice_index_or xs place other
get_before [] x place other below = absurd (omega (arith, below))
get_before (y ∷ xs) x zero other below = refl
get_before (y ∷ xs) x (suc place) other below = get_before xs x place other (omega (arith, below))

get_last : {A : Type 0} (xs : List A) (x : A) → slice_index_or (xs ++ x ∷ []) (length xs) x ≡ x
get_last [] x = refl
get_last (y ∷ xs) x = get_last xs x

-- the last of new passes, and those before it
pub new_last : {T : Type 0} (trusted : Type 0) (gates : Gates T) (first : ℕ) (passes : List (gates_pass.Pass T)) (pass : gates_pass.Pass T) → AreNew trusted gates first (passes ++ pass ∷ [])
    → AreNew trusted gates first passes × IsResting trusted gates pass × (known pass ≡ newcomer (length passes + first))
new_last {T} trusted gates first [] pass all =
    let same : first ≡ length {A = gates_pass.Pass T} [] + first = omega arith in
    (tt, all.0, all.1 ∙ ap newcomer same)
new_last {T} trusted gates first (other ∷ passes) pass all =
    let later = new_last trusted gates (first + 1) passes pass all.2 in
    let same : length passes + (first + 1) ≡ suc (length passes) + first = omega arith in
    ((all.0, all.1, later.0), later.1, later.2 ∙ ap newcomer same)

-- a pass is dealt before others
pub dealt_before : {D R : Type 0} (steady : Type 0) (gates : Gates (Shard R)) (epochs : Epochs) (number after : ℕ) (pass : Pass D R) (opening : D) (passes : List (Pass D R)) (openings : List D)
    → number + 1 ≡ after → IsNew steady gates epochs number pass opening → AreDealt steady gates epochs after passes openings → AreDealt steady gates epochs number (pass ∷ passes) (opening ∷ openings)
dealt_before steady gates epochs number after pass opening passes openings is new others =
    (new, subst (λ (n : ℕ). AreDealt steady gates epochs n passes openings) (sym is) others)

-- none are dealt at first
pub dealt_none : {D R : Type 0} (steady : Type 0) (gates : Gates (Shard R)) (epochs : Epochs) (rest : List (gates_pass.Pass (Shard R))) (passes : List (Pass D R)) (number : ℕ) → passes ≡ []
    → AreDealt steady gates epochs number passes []
dealt_none {D} {R} steady gates epochs rest passes number none = subst (λ (l : List (Pass D R)). AreDealt steady gates epochs number l []) (sym none) tt

-- of a list that ends so, each of the others, and the last
pub all_before : {A : Type 0} (P : A → Type 0) (xs : List A) (x : A) → All P (xs ++ x ∷ []) → All P xs
all_before P xs x all = λ place other below. subst P (get_before xs x place other below) (all place other (omega (arith, below, length-append xs (x ∷ []))))

pub all_last : {A : Type 0} (P : A → Type 0) (xs : List A) (x : A) → All P (xs ++ x ∷ []) → P x
all_last P xs x all = subst P (get_last xs x) (all (length xs) x (omega (arith, length-append xs (x ∷ []))))
