use Rattle.std.proofs.Common.{◌≡◌, true, false, subst, rules}
use Rattle.upkeep.specs.declared.laps.Laps.{Laps}
use Rattle.upkeep.specs.Laps.{IsAfter, begins_by, choice_by}
use Rattle.upkeep.specs.Steps.{HasStopped}
use Rattle.upkeep.proofs.steps.clean.Goals as goal

pub returns-then-not-begins-clause-laps : goal.returns-then-not-begins-clause-laps
returns-then-not-begins-clause-laps g c =
    let seen = c.look-seen.result in
    let over : c.goes_on.new.self.left ≡ 0 = search rules in
    let none : begins_by (choice_by c.goes_on.new.self seen) seen.used ≡ false = search rules in
    let P : Laps → Type 0 = λ was.
    (was.left ≡ 0) × (seen.places ≡ c.args.places) × (begins_by (choice_by was seen) seen.used ≡ false)
    × IsAfter was seen (choice_by was seen) c.begins.new.self in
    subst P (c.goes_on.ensures.over c.if-goes_on.false) (over, c.look-seen.ensures.places, none, c.begins.ensures.after)

pub returns-clause-laps : goal.returns-clause-laps
returns-clause-laps g c =
    let seen = c.look-seen.result in
    let over : c.goes_on.new.self.left ≡ 0 = search rules in
    let begun : begins_by (choice_by c.goes_on.new.self seen) seen.used ≡ true = search rules in
    let P : Laps → Type 0 = λ was.
    (was.left ≡ 0) × (seen.places ≡ c.args.places) × (begins_by (choice_by was seen) seen.used ≡ true)
    × (now : Laps) × IsAfter was seen (choice_by was seen) now × HasStopped c.clean_one-2.result now c.clean_one-2.new.laps in
    subst P (c.goes_on.ensures.over c.if-goes_on.false)
    (over, c.look-seen.ensures.places, begun, c.begins.new.self, c.begins.ensures.after, c.clean_one-2.ensures.laps)

pub returns-then-not-is_half_used-clause-told : goal.returns-then-not-is_half_used-clause-told
returns-then-not-is_half_used-clause-told g c = search rules

pub returns-then-not-is_half_used-clause-laps : goal.returns-then-not-is_half_used-clause-laps
returns-then-not-is_half_used-clause-laps g c = search rules
