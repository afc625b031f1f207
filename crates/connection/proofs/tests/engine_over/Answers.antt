use Rattle.std.proofs.Common.{◌≡◌, ◌<◌, ◌++◌, ◌∷◌, [], ℕ, zero, suc, List, length, slice_index_or, length-append, refl, subst, arith}
use Rattle.std.specs.List.{All}
use Rattle.engine.specs.Passes.{Rests, knows}
use Rattle.connection.proofs.tests.engine_over.Goals as goal

-- of a list that ends so, each of the others, and the last
get_before : {A : Type 0} (xs : List A) (x : A) (place : ℕ) (other : A) → place < length xs → slice_index_or (xs ++ x ∷ []) place other ≡ slice_index_or xs place other
get_before [] x place other below = absurd (omega (arith, below))
get_before (y ∷ xs) x zero other below = refl
get_before (y ∷ xs) x (suc place) other below = get_before xs x place other (omega (arith, below))

get_last : {A : Type 0} (xs : List A) (x : A) → slice_index_or (xs ++ x ∷ []) (length xs) x ≡ x
get_last [] x = refl
get_last (y ∷ xs) x = get_last xs x

all_before : {A : Type 0} (P : A → Type 0) (xs : List A) (x : A) → All P (xs ++ x ∷ []) → All P xs
all_before P xs x all = λ place other below. subst P (get_before xs x place other below) (all place other (omega (arith, below, length-append xs (x ∷ []))))

all_last : {A : Type 0} (P : A → Type 0) (xs : List A) (x : A) → All P (xs ++ x ∷ []) → P x
all_last P xs x all = subst P (get_last xs x) (all (length xs) x (omega (arith, length-append xs (x ∷ []))))

-- of two passes that are taken off the end of a list, what holds of all
last_of : {A : Type 0} (P : A → Type 0) (all xs : List A) (x : A) → all ≡ xs ++ x ∷ [] → All P all → P x
last_of P all xs x is holds = all_last P xs x (subst (All P) is holds)

next_of : {A : Type 0} (P : A → Type 0) (all xs ys : List A) (x y : A) → all ≡ xs ++ x ∷ [] → xs ≡ ys ++ y ∷ [] → All P all → P y
next_of P all xs ys x y is then holds = last_of P xs ys y then (all_before P xs x (subst (All P) is holds))

pub returns-clause-first : goal.returns-clause-first
returns-clause-first g c =
    next_of (Rests g.D.Receipt.Shows.is_steady c.in_ok-engine.engine) c.in_ok-engine.passes.items c.pop.new.self.items c.pop-2.new.self.items c.in-Some.second c.in-Some-pop.first
    c.in-Some.ensures.items c.in-Some-pop.ensures.items c.in_ok-engine.ensures.rest

pub returns-clause-second : goal.returns-clause-second
returns-clause-second g c =
    last_of (Rests g.D.Receipt.Shows.is_steady c.in_ok-engine.engine) c.in_ok-engine.passes.items c.pop.new.self.items c.in-Some.second c.in-Some.ensures.items c.in_ok-engine.ensures.rest

pub returns-clause-first_nothing : goal.returns-clause-first_nothing
returns-clause-first_nothing g c =
    next_of (λ pass. (knows g.D.Device.failures pass).watched ≡ []) c.in_ok-engine.passes.items c.pop.new.self.items c.pop-2.new.self.items c.in-Some.second c.in-Some-pop.first
    c.in-Some.ensures.items c.in-Some-pop.ensures.items c.in_ok-engine.ensures.watch

pub returns-clause-second_nothing : goal.returns-clause-second_nothing
returns-clause-second_nothing g c =
    last_of (λ pass. (knows g.D.Device.failures pass).watched ≡ []) c.in_ok-engine.passes.items c.pop.new.self.items c.in-Some.second c.in-Some.ensures.items c.in_ok-engine.ensures.watch
