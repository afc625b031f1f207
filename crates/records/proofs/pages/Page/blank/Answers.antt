use Rattle.records.proofs.Memory.{bytes_of-none}
use Rattle.records.proofs.pages.Page.blank.Goals as goal

pub returns : goal.returns
returns c = bytes_of-none _ c.in_ok-bytes.ensures.items
