use Rattle.std.proofs.Common.{◌≡◌, arith}
use Rattle.std.proofs.lemmas.List.Elements.{All-push, All-same}
use Rattle.device.specs.Files.{failures_of}
use Rattle.device.proofs.file.FileDevice.open_all.Goals as goal

pub loop-preserved : goal.loop-preserved
loop-preserved g c =
    let i = c.loop.invariant in (
      omega (arith, c.push_reserved.ensures.len, i.0),
      omega (arith, c.push_reserved.ensures.capacity, i.1),
      All-same (λ d. failures_of d ≡ 0) c.push_reserved.new.self.items _ c.push_reserved.ensures.items
          (All-push (λ d. failures_of d ≡ 0) c.loop.openings.items c.in_ok-opening.field-0 i.2 c.in_ok-opening.ensures),
    )
