use Rattle.transact.specs.Calls.{call_keys}
use Rattle.gates.specs.Passes.{stripes_of}
use Rattle.engine.proofs.Entering.{given_here, may_enter, parts_of}
use Rattle.engine.proofs.call.abandon.Goals as goal

pub refuse-answer-requires-clause-may : goal.refuse-answer-requires-clause-may
refuse-answer-requires-clause-may g c =
    may_enter g.R.Shows.is_steady c.args.call.now c.args.site.now.gates.now c.args.wanted.now _ c.take-held.result
    (c.stripes_hold_keys.ensures (stripes_of c.args.site.now.gates.now) (parts_of g.R.Shows.is_steady c.take-held.result) c.args.wanted.now (call_keys c.args.call.now) c.requires.wanted.are c.take-held.ensures.has) c.take-held.ensures

pub give_back-requires : goal.give_back-requires
give_back-requires g c =
    record {
      may = given_here g.R.Shows.is_steady c.refuse-answer.result.ends c.refuse-answer.result.report c.take-held.result c.refuse-answer.new.held c.refuse-answer.ensures.back;
    }
