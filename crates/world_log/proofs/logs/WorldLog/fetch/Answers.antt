use Rattle.world_log.proofs.logs.WorldLog.fetch.Goals as goal

pub returns-in-Ok-clause-log : goal.returns-in-Ok-clause-log
returns-in-Ok-clause-log c =
    let laws = c.reads_change_no_place.ensures in
    laws.log c.args.self.now c.read.new.device
    (laws.places c.args.self.now.device c.read.new.device c.in-Ok.ensures.still_served c.in-Ok.ensures.no_fault c.in-Ok.ensures.no_write) c.requires.log
