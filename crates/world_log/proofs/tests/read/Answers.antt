use Rattle.world_log.proofs.tests.read.Goals as goal

pub returns-in-Ok : goal.returns-in-Ok
returns-in-Ok c =
    let laws = c.reads_change_no_place.ensures in
    record {
      log =
          laws.log c.args.log.now c.read.new.device
          (laws.places c.args.log.now.device c.read.new.device c.in-Ok.ensures.still_served c.in-Ok.ensures.no_fault c.in-Ok.ensures.no_write) c.requires.log;
    }
