use Rattle.std.proofs.Common.{◌∙◌, ℕ, [], true, refl, sym, subst}
use Rattle.gates.specs.declared.report.Report.TheVariants.{Nothing}
use Rattle.engine.specs.Passes.{know}
use Rattle.gates.specs.declared.held.Held.{Held}
use Rattle.gates.specs.Helds.{held_stripes, number_of, known_to}
use Rattle.gates.specs.Plays.{kept}
use Rattle.transact.specs.declared.call.Call.{Call}
use Rattle.shards.specs.declared.shard.Shard.{Shard}
use Rattle.transact.specs.Calls.{asked_of, call_keys}
use Rattle.transact.specs.Plans.{EndsAll}
use Rattle.transact.specs.Tables.{AreThere}
use Rattle.engine.specs.Calls.{IsDone}
use Rattle.engine.proofs.Entering.{forgot_by, given_forgot, parts_of, seat_is}
use Rattle.engine.proofs.enter.enter_call.Goals as goal

pub returns-in-Forget-clause-entered : goal.returns-in-Forget-clause-entered
returns-in-Forget-clause-entered g c = record {
  back =
      let start : Held (Shard _) = c.args.held.now in
      given_forgot g.R.Shows.is_steady (number_of c.args.held.now) c.in-Forget.watching Nothing start c.forget.new.parts c.forget.ensures.held.open_still tt (seat_is g.R.Shows.is_steady start c.requires.begin.may.is_open)
      (subst (λ (x : Call). EndsAll x (known_to start).watched) (sym c.call.ensures ∙ c.in-Forget.is) c.requires.begin.ends)
      (subst (λ (x : Call). AreThere (held_stripes c.args.held.now) (parts_of g.R.Shows.is_steady start) (call_keys x)) (sym c.call.ensures ∙ c.in-Forget.is) c.requires.begin.may.there)
      c.requires.begin.may.fit c.forget.ensures.held.kept c.forget.ensures.became;
  answered = record {
    done =
        let start : Held (Shard _) = c.args.held.now in
        let f : ℕ = g.D.Device.failures c.args.device.now in
        subst (λ (x : Call). IsDone [] (asked_of x) c.line.result (know (known_to start) f) (know (kept true [] (known_to c.forget.new.parts)) f)) (sym (sym c.call.ensures ∙ c.in-Forget.is))
        (forgot_by (known_to start) (known_to c.forget.new.parts) f f c.forget.ensures.held.kept.known refl);
    undone = tt;
  };
}
