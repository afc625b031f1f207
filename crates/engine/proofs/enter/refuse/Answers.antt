use Rattle.std.proofs.Common.{◌∙◌, ℕ, List, [], Option, true, refl, sym, ap, subst}
use Rattle.gates.specs.declared.held.Held.{Held}
use Rattle.gates.specs.declared.view.Knowledge.{Knowledge}
use Rattle.gates.specs.Helds.{held_stripes, number_of, held_parts, held_taken, known_to}
use Rattle.gates.specs.Plays.{kept}
use Rattle.transact.specs.declared.call.Call.{Call}
use Rattle.shards.specs.declared.shard.Shard.{Shard}
use Rattle.shards.specs.Shards.{shard_meaning}
use Rattle.gates.specs.Background.{IsToldOf}
use Rattle.transact.specs.Plans.{EndsAll, keys_ended}
use Rattle.transact.specs.Submits.{asked_for}
use Rattle.transact.specs.Tables.{AreThere}
use Rattle.engine.specs.Entering.{at_fault}
use Rattle.engine.proofs.Parts.{ended_there}
use Rattle.engine.proofs.Entering.{given_forgot, given_still, parts_of, seat_is, told_still}
use Rattle.engine.proofs.enter.refuse.Goals as goal

pub forget-requires-clause-there : goal.forget-requires-clause-there
forget-requires-clause-there g c =
    let parts : ℕ → Option (Shard _) = parts_of g.R.Shows.is_steady c.args.held.now in
    subst (λ (x : Call). AreThere (held_stripes c.args.held.now) parts (keys_ended x)) (sym c.call.ensures ∙ c.in-Exec.is) (ended_there (held_stripes c.args.held.now) parts c.args.call.now c.requires.may.there)

pub returns-in-Exec-clause-back : goal.returns-in-Exec-clause-back
returns-in-Exec-clause-back g c =
    let start : Held (Shard _) = c.args.held.now in
    given_forgot g.R.Shows.is_steady (number_of c.args.held.now) c.in-Exec.watching c.args.report start c.forget.new.parts c.forget.ensures.held.open_still
    (told_still g.R.Shows.is_steady (held_parts start) (held_parts c.forget.new.parts) (held_taken c.forget.new.parts) c.args.report c.requires.of_call c.forget.ensures.logs c.forget.ensures.waits
    (subst (λ (l : List (ℕ × (ℕ × Shard _))). IsToldOf (shard_meaning g.R.Shows.is_steady) l (held_parts start) c.args.report) (sym c.forget.ensures.held.kept.taken) c.requires.told)) (seat_is g.R.Shows.is_steady start c.requires.may.is_open)
    (subst (λ (x : Call). EndsAll x (known_to start).watched) (sym c.call.ensures ∙ c.in-Exec.is) c.requires.ends)
    (subst (λ (x : Call). AreThere (held_stripes c.args.held.now) (parts_of g.R.Shows.is_steady start) (keys_ended x)) (sym c.call.ensures ∙ c.in-Exec.is) (ended_there (held_stripes c.args.held.now) (parts_of g.R.Shows.is_steady start) c.args.call.now c.requires.may.there))
    c.requires.may.fit c.forget.ensures.held.kept c.forget.ensures.became

pub returns-in-Exec-clause-known : goal.returns-in-Exec-clause-known
returns-in-Exec-clause-known g c =
    ap (λ (k : Knowledge). kept true [] k) c.forget.ensures.held.kept.known
    ∙ ap (λ (x : Call). at_fault (asked_for x) (known_to c.args.held.now)) (sym (sym c.call.ensures ∙ c.in-Exec.is))

pub returns-clause-back : goal.returns-clause-back
returns-clause-back g c =
    given_still g.R.Shows.is_steady c.args.report c.args.held.now c.args.held.now c.requires.may.is_open
    c.requires.told refl refl c.requires.may.fit
