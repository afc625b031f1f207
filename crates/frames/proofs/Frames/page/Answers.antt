use Rattle.std.proofs.Common.{rules, ◌≡◌, ◌-◌, ◌<◌, length, ap, ◌∙◌, arith}
use Rattle.frames.specs.Resident.{page_of, next_number}
use Rattle.frames.proofs.Windows.{length-window}
use Rattle.frames.proofs.Shown.{get_or-shown}
use Rattle.frames.proofs.Frames.page.Goals as goal

pub returns-clause-bytes : goal.returns-clause-bytes
returns-clause-bytes c =
    let f = c.self.inside in
    let ring = c.self.invariant in
    let resident = length-window f.slot f.resident f.frames.items ring.begins_inside ring.fits in
    let next = ap next_number c.self.view_is in
    let below : c.args.number - f.oldest < f.resident = omega arith in
    let size : c.len.result ≡ length f.frames.items = omega arith in
    c.index.ensures ∙ get_or-shown f.frames.items f.slot f.resident f.oldest ring c.args.number _ _ below (rw size at c.slot_after-slot.ensures) ∙ ap (λ r. page_of r c.args.number) c.self.view_is

pub returns-clause-resident : goal.returns-clause-resident
returns-clause-resident c = search rules
