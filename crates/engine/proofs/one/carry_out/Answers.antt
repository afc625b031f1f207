use Rattle.std.proofs.Common.{refl}
use Rattle.gates.specs.declared.held.Held.{Held}
use Rattle.gates.specs.Helds.{held_stripes, known_to}
use Rattle.shards.specs.declared.shard.Shard.{Shard}
use Rattle.engine.proofs.Entering.{heard_quietly, stands}
use Rattle.engine.proofs.one.carry_out.Goals as goal

pub enter_reply-requires-clause-due : goal.enter_reply-requires-clause-due
enter_reply-requires-clause-due g c = λ t.
    let start : Held (Shard _) = c.args.held.now in
    let stand = stands g.R.Shows.is_steady (held_stripes start) (known_to start).number start refl c.requires.begin.may.fit t in
    rw c.in-Nothing.is at (c.requires.settled.due t (known_to start).seen stand.read)

pub enter_in_place-requires-clause-due : goal.enter_in_place-requires-clause-due
enter_in_place-requires-clause-due g c = λ t.
    let start : Held (Shard _) = c.args.held.now in
    let stand = stands g.R.Shows.is_steady (held_stripes start) (known_to start).number start refl c.requires.begin.may.fit t in
    rw c.in-Given.is at (c.requires.settled.due t (known_to start).seen stand.read)

pub enter_put-requires-clause-due : goal.enter_put-requires-clause-due
enter_put-requires-clause-due g c = λ t.
    let start : Held (Shard _) = c.args.held.now in
    let stand = stands g.R.Shows.is_steady (held_stripes start) (known_to start).number start refl c.requires.begin.may.fit t in
    rw c.in-Given.is at (c.requires.settled.due t (known_to start).seen stand.read)

pub enter_in_place-requires-in-Some-spot-clause-due : goal.enter_in_place-requires-in-Some-spot-clause-due
enter_in_place-requires-in-Some-spot-clause-due g c = λ t.
    let start : Held (Shard _) = c.args.held.now in
    let stand = stands g.R.Shows.is_steady (held_stripes start) (known_to start).number start refl c.requires.begin.may.fit t in
    rw c.in-Made.is at (c.requires.settled.due t (known_to start).seen stand.read)

pub enter_put-requires-in-None-spot-clause-due : goal.enter_put-requires-in-None-spot-clause-due
enter_put-requires-in-None-spot-clause-due g c = λ t.
    let start : Held (Shard _) = c.args.held.now in
    let stand = stands g.R.Shows.is_steady (held_stripes start) (known_to start).number start refl c.requires.begin.may.fit t in
    rw c.in-Made.is at (c.requires.settled.due t (known_to start).seen stand.read)

pub enter_in_place-requires-in-Some-spot-2-clause-due : goal.enter_in_place-requires-in-Some-spot-2-clause-due
enter_in_place-requires-in-Some-spot-2-clause-due g c = λ t.
    let start : Held (Shard _) = c.args.held.now in
    let stand = stands g.R.Shows.is_steady (held_stripes start) (known_to start).number start refl c.requires.begin.may.fit t in
    rw c.in-Deleted.is at (c.requires.settled.due t (known_to start).seen stand.read)

pub enter_put-requires-in-None-spot-2-clause-due : goal.enter_put-requires-in-None-spot-2-clause-due
enter_put-requires-in-None-spot-2-clause-due g c = λ t.
    let start : Held (Shard _) = c.args.held.now in
    let stand = stands g.R.Shows.is_steady (held_stripes start) (known_to start).number start refl c.requires.begin.may.fit t in
    rw c.in-Deleted.is at (c.requires.settled.due t (known_to start).seen stand.read)

pub returns-in-Nothing-clause-entered : goal.returns-in-Nothing-clause-entered
returns-in-Nothing-clause-entered g c = c.enter_reply.ensures.entered (g.D.Device.failures c.args.device.now)

pub returns-in-Some-clause-entered : goal.returns-in-Some-clause-entered
returns-in-Some-clause-entered g c = c.enter_in_place.ensures.entered (g.D.Device.failures c.args.device.now)

pub returns-in-Some-spot-clause-entered : goal.returns-in-Some-spot-clause-entered
returns-in-Some-spot-clause-entered g c = c.enter_in_place-in-Some-spot.ensures.entered (g.D.Device.failures c.args.device.now)

pub returns-in-Nothing-clause-heard : goal.returns-in-Nothing-clause-heard
returns-in-Nothing-clause-heard g c = heard_quietly c.args.settled.now.reply c.enter_reply.result (g.S.Retires.knows c.args.own.now) c.enter_reply.ensures.worn

pub returns-in-Some-clause-heard : goal.returns-in-Some-clause-heard
returns-in-Some-clause-heard g c = heard_quietly c.args.settled.now.reply c.enter_in_place.result (g.S.Retires.knows c.args.own.now) c.enter_in_place.ensures.worn

pub returns-in-Some-spot-clause-heard : goal.returns-in-Some-spot-clause-heard
returns-in-Some-spot-clause-heard g c = heard_quietly c.args.settled.now.reply c.enter_in_place-in-Some-spot.result (g.S.Retires.knows c.args.own.now) c.enter_in_place-in-Some-spot.ensures.worn

pub returns-in-Some-spot-2-clause-entered : goal.returns-in-Some-spot-2-clause-entered
returns-in-Some-spot-2-clause-entered g c = c.enter_in_place-in-Some-spot-2.ensures.entered (g.D.Device.failures c.args.device.now)

pub returns-in-Some-spot-2-clause-heard : goal.returns-in-Some-spot-2-clause-heard
returns-in-Some-spot-2-clause-heard g c = heard_quietly c.args.settled.now.reply c.enter_in_place-in-Some-spot-2.result (g.S.Retires.knows c.args.own.now) c.enter_in_place-in-Some-spot-2.ensures.worn
