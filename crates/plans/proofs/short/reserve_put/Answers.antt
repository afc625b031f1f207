use Rattle.std.proofs.Common.{arith, refl}
use Rattle.plans.proofs.Reserved.{no_room_as, reserved_as, room_as}
use Rattle.plans.proofs.short.reserve_put.Goals as goal

pub returns-in-Ok-clause-reserved : goal.returns-in-Ok-clause-reserved
returns-in-Ok-clause-reserved g c = reserved_as _ _ _ _ _ _ c.stripe_at-stripe.ensures c.weight_of-weight.ensures.weight c.weight_of-weight.ensures.purpose _ _ _ _ _ c.reserve_at.ensures.reserved

pub returns-in-Err-DeviceFault-clause-reserved : goal.returns-in-Err-DeviceFault-clause-reserved
returns-in-Err-DeviceFault-clause-reserved g c = reserved_as _ _ _ _ _ _ c.stripe_at-stripe.ensures c.weight_of-weight.ensures.weight c.weight_of-weight.ensures.purpose _ _ _ _ _ c.reserve_at.ensures.reserved

pub returns-in-Err-StoreFull-clause-reserved : goal.returns-in-Err-StoreFull-clause-reserved
returns-in-Err-StoreFull-clause-reserved g c = reserved_as _ _ _ _ _ _ c.stripe_at-stripe.ensures c.weight_of-weight.ensures.weight c.weight_of-weight.ensures.purpose _ _ _ _ _ c.reserve_at.ensures.reserved

pub returns-in-Ok-clause-room : goal.returns-in-Ok-clause-room
returns-in-Ok-clause-room g c = room_as _ _ _ _ _ _ c.stripe_at-stripe.ensures c.weight_of-weight.ensures.weight c.weight_of-weight.ensures.purpose _ _ c.in-Ok.ensures.room

pub returns-in-Err-DeviceFault-clause-stopped : goal.returns-in-Err-DeviceFault-clause-stopped
returns-in-Err-DeviceFault-clause-stopped g c = no_room_as _ _ _ _ _ _ c.stripe_at-stripe.ensures c.weight_of-weight.ensures.weight c.weight_of-weight.ensures.purpose _ _ _ (record { lacks = c.in-Err-DeviceFault.ensures.failed.lacks; why = omega (arith, c.weight_of-weight.ensures.weight) })

pub returns-in-Err-StoreFull-clause-stopped : goal.returns-in-Err-StoreFull-clause-stopped
returns-in-Err-StoreFull-clause-stopped g c =
    let failed = c.in-Err-StoreFull.ensures.failed in
    let full = rw c.in-Err-StoreFull.field-0-is at failed.fault in
    no_room_as _ _ _ _ _ _ c.stripe_at-stripe.ensures c.weight_of-weight.ensures.weight c.weight_of-weight.ensures.purpose _ _ _ (record { lacks = failed.lacks; why = (refl, omega (arith, c.weight_of-weight.ensures.weight), full.0) })
