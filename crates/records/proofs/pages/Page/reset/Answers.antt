use Rattle.std.proofs.Common.{◌<◌, ◌^◌, ◌++◌, ◌∙◌, ℕ, List, ap, arith}
use Rattle.records.proofs.Held.{header-bytes, header-IsPageMemory}
use Rattle.records.proofs.Lent.{emptied-IsEmpty}
use Rattle.records.proofs.pages.Page.reset.Goals as goal

pub invariant_of-self : goal.invariant_of-self
invariant_of-self c =
    let is = c.add.ensures.items ∙ (ap (λ (l : List ℕ). l ++ c.write_header.new.head) c.clear.ensures.items ∙ c.write_header.ensures) in
    header-IsPageMemory c.add.new.bytes.items c.args.number _ is (omega (arith, c.add.ensures.capacity, c.clear.ensures.capacity, c.self.invariant.room))

pub returns : goal.returns
returns c =
    let is = c.add.ensures.items ∙ (ap (λ (l : List ℕ). l ++ c.write_header.new.head) c.clear.ensures.items ∙ c.write_header.ensures) in
    let fits : c.args.number < 2 ^ 64 = omega (arith, c.ranges.number.fits) in
    let empty = header-bytes c.add.new.bytes.items c.args.number is in
    let page = emptied-IsEmpty c.args.number _ fits empty in
    record { empty = empty; number = page.number_is; end = page.end_is; records = page.records_are; laid_out = page.laid_out }
