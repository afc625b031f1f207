use Rattle.std.proofs.Common.{◌≡◌, ◌∙◌, length, refl, rules}
use Rattle.records.proofs.Memory.{filled-bytes}
use Rattle.records.proofs.pages.fill.Goals as goal

pub returns-then-len-lt-PAGE_SIZE-clause-same : goal.returns-then-len-lt-PAGE_SIZE-clause-same
returns-then-len-lt-PAGE_SIZE-clause-same c =
    let size : c.len-len.result ≡ length c.args.bytes.now.items = search rules in
    c.add.ensures.items ∙ filled-bytes c.len-len.result c.args.bytes.now.items _ size refl
