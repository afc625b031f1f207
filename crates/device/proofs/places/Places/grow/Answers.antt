use Rattle.std.proofs.Common.{List, slice_get, sym, ap, ◌∙◌, arith}
use Rattle.std.proofs.lemmas.Option.{slice_get_within}
use Rattle.device.specs.declared.places.Place.{Place}
use Rattle.device.specs.declared.places.Place.TheVariants.{Taken}
use Rattle.device.specs.Free.{spare, free_places}
use Rattle.device.proofs.Free.{get_grown, get_grown_other, spare-grown, free_places-grown}
use Rattle.device.proofs.places.Places.grow.Goals as goal

pub invariant_of-self-clause-listed : goal.invariant_of-self-clause-listed
invariant_of-self-clause-listed c = λ p.
    let s = c.args.self.now in
    s.listed p ∙ sym (ap (λ (l : List Place). spare (slice_get l p)) c.push_reserved.ensures.items ∙ spare-grown s.places.items p)

pub invariant_of-self-clause-counted : goal.invariant_of-self-clause-counted
invariant_of-self-clause-counted c =
    let s = c.args.self.now in
    s.counted ∙ sym (ap free_places c.push_reserved.ensures.items ∙ free_places-grown s.places.items)

pub returns-clause-was_free : goal.returns-clause-was_free
returns-clause-was_free c = λ there.
    let places = c.args.self.now.places in
    omega (arith, slice_get_within places.items c.len-place.result Taken there, c.len-place.ensures, places.ok.0)

pub returns-clause-taken : goal.returns-clause-taken
returns-clause-taken c =
    let places = c.args.self.now.places in
    ap (λ (l : List Place). slice_get l c.len-place.result) c.push_reserved.ensures.items ∙ get_grown places.items c.len-place.result Taken (omega (arith, c.len-place.ensures, places.ok.0))

pub returns-clause-others : goal.returns-clause-others
returns-clause-others c = λ other ne.
    let places = c.args.self.now.places in
    ap (λ (l : List Place). slice_get l other) c.push_reserved.ensures.items
    ∙ get_grown_other places.items other Taken (λ e. ne (omega (arith, c.len-place.ensures, places.ok.0)))
