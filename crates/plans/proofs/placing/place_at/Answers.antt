use Rattle.std.proofs.Common.{◌≡◌, ◌+◌, ◌-◌, ◌≤◌, ℕ, Some, inl, sym, ap, subst, arith}
use Rattle.std.specs.Prelude.{IfNone, option_map}
use Rattle.std.specs.Option.{option_copied}
use Rattle.records.specs.declared.pages.TheConstants.{HEADER_SIZE, PAGE_SIZE}
use Rattle.hybrid.specs.HybridLog.{HybridLog, tail_bytes}
use Rattle.words.specs.Store.{Write}
use Rattle.words.specs.Stripes.{stripe_of}
use Rattle.shards.specs.Rooms.{IsRoomyAt}
use Rattle.shards.specs.Shards.{logs_of, shard_log, weigh}
use Rattle.plans.specs.Placing.{HasTail}
use Rattle.plans.proofs.Stores.{some_of}
use Rattle.plans.proofs.placing.place_at.Goals as goal

pub append-requires-clause-room : goal.append-requires-clause-room
append-requires-clause-room g c =
    let n : ℕ = g.P.Parts.stripes_of c.args.parts.now in
    let parts = g.P.Parts.part_of c.args.parts.now in
    let w : Write = c.args.write.now in
    let room : HasTail (logs_of parts) (stripe_of n w.0) (weigh w) = subst (λ o. IfNone o (HasTail (logs_of parts) (stripe_of n w.0) (weigh w))) c.in-None.is c.requires.tail in
    let part = some_of (parts (stripe_of n w.0)) c.requires.there in
    let log : HybridLog = shard_log part.0 in
    let at : logs_of parts (stripe_of n w.0) ≡ Some log = ap (option_map shard_log) part.1 in
    let fits : tail_bytes log + weigh w ≤ PAGE_SIZE - HEADER_SIZE = room log at in
    let is : (c.key-in-None.result.now, option_copied c.value-in-None.result) ≡ w = λ i. (c.key-in-None.ensures i, c.value-in-None.ensures i) in
    subst (λ (x : Write). IsRoomyAt (logs_of parts) (stripe_of n x.0) (weigh x)) (sym is) (record { log = log; there = at; room = record { room = inl (omega (arith, fits)) } })
