use Rattle.std.proofs.Common.{◌∙◌, ℕ, List, Option, Some, None, IfSome, ap, sym, subst}
use Rattle.std.specs.Prelude.{OnSome}
use Rattle.transact.specs.Plans.{keys_begun}
use Rattle.words.specs.Store.{Bytes}
use Rattle.words.specs.Commands.{keys_of_all}
use Rattle.words.specs.declared.command.Command.{Command}
use Rattle.hybrid.specs.Staging.{AreRight}
use Rattle.shards.specs.Shards.{shard_meaning}
use Rattle.transact.specs.declared.call.Call.{Call}
use Rattle.transact.specs.declared.call.Call.TheVariants as call
use Rattle.transact.specs.Calls.{call_keys}
use Rattle.transact.specs.Tables.{AreThere}
use Rattle.plans.specs.Placing.{IsPlacedFor}
use Rattle.plans.specs.Planning.{AreDue, of_call, of_exec}
use Rattle.plans.specs.Sizes.{AreSized, IsPlaced}
use Rattle.plans.proofs.Keys.{there_append}
use Rattle.plans.proofs.Questions.{execs_of}
use Rattle.plans.proofs.Run.{some_then}
use Rattle.plans.proofs.Sized.{sized_all, sized_one}
use Rattle.plans.proofs.Spots.{placed_as}
use Rattle.plans.proofs.placing.place.Goals as goal

pub place_exec-requires-clause-may : goal.place_exec-requires-clause-may
place_exec-requires-clause-may g c =
    let n : ℕ = (g.P.Parts.stripes_of c.args.parts.now) in
    let parts = g.P.Parts.part_of c.args.parts.now in record {
      can_lend = c.requires.may.may.can_lend;
      there = subst (λ (l : List Command). AreThere n parts (keys_of_all l)) (sym c.as_slice.ensures)
          (there_append (shard_meaning g.R.Shows.is_steady) n parts (keys_of_all c.in-Exec.commands) c.in-Exec.watching (subst (λ (x : Call). AreThere n parts (call_keys x)) (sym c.call.ensures ∙ c.in-Exec.is) c.requires.may.may.there)).0;
    }

pub place_exec-requires-clause-watching : goal.place_exec-requires-clause-watching
place_exec-requires-clause-watching g c =
    let n : ℕ = (g.P.Parts.stripes_of c.args.parts.now) in
    let parts = g.P.Parts.part_of c.args.parts.now in
    subst (λ (l : List Bytes). AreThere n parts l) (sym c.keys.ensures)
    (there_append (shard_meaning g.R.Shows.is_steady) n parts (keys_of_all c.in-Exec.commands) c.in-Exec.watching (subst (λ (x : Call). AreThere n parts (call_keys x)) (sym c.call.ensures ∙ c.in-Exec.is) c.requires.may.may.there)).1

pub place_exec-requires-clause-sized : goal.place_exec-requires-clause-sized
place_exec-requires-clause-sized g c =
    subst AreSized (sym c.as_slice.ensures)
    (sized_all c.writes_are_bounded.ensures c.in-Exec.commands (subst IsPlaced (sym c.call.ensures ∙ c.in-Exec.is) c.requires.may.place))

pub returns-in-Exec-clause-placed : goal.returns-in-Exec-clause-placed
returns-in-Exec-clause-placed g c =
    let n : ℕ = g.P.Parts.stripes_of c.args.parts.now in
    let seat : ℕ = g.P.Parts.holder_of c.args.parts.now in
    let parts = g.P.Parts.part_of c.args.parts.now in
    let right = g.R.Shows.is_honest × AreRight c.args.staged.now in
    let contents = shard_meaning g.R.Shows.is_steady in
    let commands : List Command = c.in-Exec.commands in
    let watching : List Bytes = c.in-Exec.watching in
    subst (λ (x : Call). IfSome c.place_exec.result (IsPlacedFor (AreDue right (of_call contents n parts seat x)) n parts)) (sym (sym c.call.ensures ∙ c.in-Exec.is))
    (some_then (IsPlacedFor (AreDue right (of_exec contents n parts seat watching commands)) n parts) (IsPlacedFor (AreDue right (of_call contents n parts seat (call.Exec commands watching))) n parts) c.place_exec.result
    (placed_as (AreDue right (of_exec contents n parts seat watching commands)) (AreDue right (of_call contents n parts seat (call.Exec commands watching))) n parts
    (λ said writes due is_right seen operation asks. due is_right seen operation (execs_of contents n parts seat watching commands seen operation asks)))
    (subst (λ (l : List Bytes). IfSome c.place_exec.result (IsPlacedFor (AreDue right (of_exec contents n parts seat l commands)) n parts)) c.keys.ensures
    (subst (λ (l : List Command). IfSome c.place_exec.result (IsPlacedFor (AreDue right (of_exec contents n parts seat c.keys.result.now l)) n parts)) c.as_slice.ensures
    c.place_exec.ensures.placed)))

pub place_one-requires-clause-may : goal.place_one-requires-clause-may
place_one-requires-clause-may g c = record {
  can_lend = c.requires.may.may.can_lend;
  there = subst (λ (x : Call). AreThere (g.P.Parts.stripes_of c.args.parts.now) (g.P.Parts.part_of c.args.parts.now) (call_keys x)) (sym c.call.ensures ∙ c.in-One.is) c.requires.may.may.there;
}

pub place_one-requires-clause-sized : goal.place_one-requires-clause-sized
place_one-requires-clause-sized g c =
    sized_one c.writes_are_bounded.ensures c.in-One.command (subst IsPlaced (sym c.call.ensures ∙ c.in-One.is) c.requires.may.place)

on_some : {A : Type 0} (o : Option A) (P : Type 0) → P → OnSome o P
on_some None P holds = tt
on_some (Some x) P holds = holds

pub returns-in-Exec-clause-unwatched : goal.returns-in-Exec-clause-unwatched
returns-in-Exec-clause-unwatched g c = on_some c.place_exec.result _ (ap keys_begun (sym c.call.ensures ∙ c.in-Exec.is))
