use Rattle.command_line.proofs.options_of.Goals as goal

pub returns-clause-ok : goal.returns-clause-ok
returns-clause-ok g c = c.read.ensures.ok
