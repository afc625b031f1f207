use Rattle.std.proofs.Common.{◌≡◌, ◌∙◌, length, refl, rules}
use Rattle.records.proofs.Lent.{with_bytes-is}
use Rattle.records.proofs.Memory.{lent}
use Rattle.records.proofs.pages.Page.bytes_mut.Goals as goal

pub returns : goal.returns
returns c =
    let same = c.fill.ensures.same ∙ c.self.view_is in
    let long : length c.fill.new.bytes.items ≡ c.fill.new.bytes.len = search rules in
    ((refl, λ w. lent c.fill.new.bytes.len c.fill.new.bytes.items c.args.self.now w c.fill.ensures.all long same), record { writes_back = tt; bytes = c.as_mut_slice.ensures.value ∙ same; size = c.as_mut_slice.ensures.len ∙ c.fill.ensures.all; as_written = with_bytes-is c.args.self.now })
