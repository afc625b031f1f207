use Rattle.std.proofs.Common.{refl, arith}
use Rattle.device.specs.declared.places.Place.TheVariants.{Free}
use Rattle.device.proofs.Free.{get_set_other, listed-given, free_places-few, free_places-given}
use Rattle.device.proofs.places.Places.set_free.Goals as goal

pub push_reserved-requires : goal.push_reserved-requires
push_reserved-requires c =
    let places = c.args.self.now.places in
    omega (arith, free_places-few places.items c.args.place (c.if-is_taken.ensures.0 refl), places.ok.0, c.args.self.now.counted)

pub invariant_of-self-clause-listed : goal.invariant_of-self-clause-listed
invariant_of-self-clause-listed c =
    let s = c.args.self.now in
    listed-given c.push_reserved.new.self.items s.free.items s.places.items c.args.place c.push_reserved.ensures.items (c.if-is_taken.ensures.0 refl) s.listed

pub invariant_of-self-clause-counted : goal.invariant_of-self-clause-counted
invariant_of-self-clause-counted c =
    let s = c.args.self.now in
    omega (arith, free_places-given s.places.items c.args.place (c.if-is_taken.ensures.0 refl), c.push_reserved.ensures.len, s.counted)

pub returns-then-is_taken-clause-others : goal.returns-then-is_taken-clause-others
returns-then-is_taken-clause-others c = λ other ne. get_set_other c.args.self.now.places.items c.args.place other Free ne
