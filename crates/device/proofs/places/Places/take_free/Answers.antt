use Rattle.std.proofs.Common.{◌≡◌, ℕ, List, [], ◌∷◌, ◌++◌, vec_len, Some, None, Option, IfNone, slice_get, arith}
use Rattle.std.proofs.lemmas.Option.{slice_get_within, IfSome_then}
use Rattle.device.specs.declared.places.Place.TheVariants.{Taken, Free}
use Rattle.device.specs.declared.places.Places.{Places}
use Rattle.device.specs.Places.{AreAllTaken}
use Rattle.device.proofs.Free.{get_set, get_set_other, last-is_free, listed-taken, free_places-taken, all-taken}
use Rattle.device.proofs.places.Places.take_free.Goals as goal

-- the place that is taken was free
was_free : (s : Places) (free : List ℕ) (place : ℕ) → s.free.items ≡ free ++ place ∷ [] → slice_get s.places.items place ≡ Some Free
was_free s free place is = last-is_free s.free.items free s.places.items place is s.listed

none_free : (s : Places) → vec_len s.free ≡ 0 → AreAllTaken s
none_free s none place within = all-taken s.free.items s.places.items (omega (arith, s.free.ok.0)) s.listed place (omega (arith, s.places.ok.0))

if_none : (r : Option ℕ) (P : Type 0) → P → IfNone r P
if_none None P p = p
if_none (Some x) P p = tt

pub index_mut-requires : goal.index_mut-requires
index_mut-requires c =
    let s = c.args.self.now in
    omega (arith, slice_get_within s.places.items c.in-Some.place Free (was_free s c.pop.new.self.items c.in-Some.place c.in-Some.ensures.items), s.places.ok.0)

pub invariant_of-self-clause-listed : goal.invariant_of-self-clause-listed
invariant_of-self-clause-listed c =
    let s = c.args.self.now in
    listed-taken s.free.items c.pop.new.self.items s.places.items c.in-Some.place c.in-Some.ensures.items s.listed

pub invariant_of-self-clause-counted : goal.invariant_of-self-clause-counted
invariant_of-self-clause-counted c =
    let s = c.args.self.now in
    let there = was_free s c.pop.new.self.items c.in-Some.place c.in-Some.ensures.items in
    omega (arith, free_places-taken s.places.items c.in-Some.place there, c.in-Some.ensures.len, s.counted)

pub returns-in-Some-clause-taken : goal.returns-in-Some-clause-taken
returns-in-Some-clause-taken c =
    let s = c.args.self.now in
    let there = was_free s c.pop.new.self.items c.in-Some.place c.in-Some.ensures.items in
    get_set s.places.items c.in-Some.place Taken (slice_get_within s.places.items c.in-Some.place Free there)

pub returns-in-Some-clause-others : goal.returns-in-Some-clause-others
returns-in-Some-clause-others c = λ other ne. get_set_other c.args.self.now.places.items c.in-Some.place other Taken ne

pub returns-in-None-clause-again : goal.returns-in-None-clause-again
returns-in-None-clause-again c =
    let all = none_free c.args.self.now c.in-None.ensures.cases.0 in
    IfSome_then c.grow.result c.grow.ensures.number (λ place _ _. all)

pub returns-in-None-clause-none_free : goal.returns-in-None-clause-none_free
returns-in-None-clause-none_free c =
    if_none c.grow.result (AreAllTaken c.args.self.now) (none_free c.args.self.now c.in-None.ensures.cases.0)
