use Rattle.std.proofs.Common.{◌≡◌, ◌-◌, ◌<◌, length, ap, ◌∙◌, refl, arith}
use Rattle.frames.specs.Resident.{Resident, page_of, with_page, next_number}
use Rattle.frames.proofs.Windows.{length-window}
use Rattle.frames.proofs.Shown.{shown-set, get_or-shown}
use Rattle.frames.proofs.Frames.lend.Goals as goal

pub returns : goal.returns
returns c =
    let f = c.self.inside in
    let ring = c.self.invariant in
    let resident = length-window f.slot f.resident f.frames.items ring.begins_inside ring.fits in
    let next = ap next_number c.self.view_is in
    let oldest = ap (λ (r : Resident). r.oldest) c.self.view_is in
    let below : c.args.number - f.oldest < f.resident = omega (arith, c.requires) in
    let size : c.len.result ≡ length f.frames.items = omega arith in
    let after = rw size at c.slot_after-slot.ensures in
    ((refl, λ w. shown-set f.frames.items f.slot f.resident f.oldest ring c.args.number _ w below after ∙ ap (λ r. with_page r c.args.number w) c.self.view_is), record { writes_back = tt; bytes = c.index_mut.ensures.value ∙ get_or-shown f.frames.items f.slot f.resident f.oldest ring c.args.number _ _ below after ∙ ap (λ r. page_of r c.args.number) c.self.view_is })
