use Rattle.std.proofs.Common.{rules, ◌≡◌, ◌+◌, ℕ, ◌<◌, List, length, ap, ◌∙◌, arith, length-set}
use Rattle.frames.specs.Resident.{next_number, with_opened}
use Rattle.frames.proofs.Windows.{length-window}
use Rattle.frames.proofs.Shown.{shown-longer}
use Rattle.frames.proofs.Frames.open_next.Goals as goal

-- the new page has a number in range, so the next one is in range too
pub invariant_of-self : goal.invariant_of-self
invariant_of-self c =
    let f = c.self.inside in
    let ring = c.self.invariant in
    let resident = length-window f.slot f.resident f.frames.items ring.begins_inside ring.fits in
    let next = ap next_number c.self.view_is in
    let size = length-set {A = List ℕ} in
    record {
      enough = omega (arith, size);
      begins_inside = omega (arith, size);
      fits = omega (arith, size);
      in_range = omega arith;
    }

pub returns-clause-opened : goal.returns-clause-opened
returns-clause-opened c =
    let f = c.self.inside in
    let ring = c.self.invariant in
    let resident = length-window f.slot f.resident f.frames.items ring.begins_inside ring.fits in
    let next = ap next_number c.self.view_is in
    let room : f.resident < length f.frames.items = omega arith in
    let size : c.len-2.result ≡ length f.frames.items = omega arith in
    let number : c.next_number-number.result ≡ f.oldest + f.resident = omega arith in
    rw (c.reset.ensures.empty, number) (shown-longer f.frames.items f.slot f.resident f.oldest ring _ room (rw size at c.slot_after-slot.ensures) ∙ ap with_opened c.self.view_is)

pub returns-clause-empty : goal.returns-clause-empty
returns-clause-empty c = search rules
