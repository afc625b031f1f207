use Rattle.engine.proofs.Saids.{none_then}
use Rattle.engine.proofs.Later.{may_submit_still}
use Rattle.engine.proofs.exec.say_call.Goals as goal

pub returns-clause-may : goal.returns-clause-may
returns-clause-may g c =
    none_then c.say_exec.result _ _ (λ waited. may_submit_still g.R.Shows.is_steady c.args.site.now.gates.now c.args.call.now c.args.pass.now c.say_exec.new.pass 0 0 _ c.requires.may c.say_exec.ensures.rests waited)
    (c.say_exec.ensures.waited 0)
