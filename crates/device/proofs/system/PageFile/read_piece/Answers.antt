use Rattle.device.proofs.Pieces.{same-before, same-behind}
use Rattle.device.proofs.system.PageFile.read_piece.Goals as goal

pub returns-clause-before : goal.returns-clause-before
returns-clause-before c =
    same-before c.args.from c.args.to c.args.page.now c.bytes_mut.result.now c.read_exact_at.new.buf
    c.bytes_mut.ensures.bytes c.bytes_mut.ensures.size c.requires.in_order c.requires.in_page c.read_exact_at.auto.buf

pub returns-clause-behind : goal.returns-clause-behind
returns-clause-behind c =
    same-behind c.args.from c.args.to c.args.page.now c.bytes_mut.result.now c.read_exact_at.new.buf
    c.bytes_mut.ensures.bytes c.bytes_mut.ensures.size c.requires.in_order c.requires.in_page c.read_exact_at.auto.buf
