use Rattle.world_log.proofs.Opening.{opened_log, opened_pages}
use Rattle.world_log.proofs.laws.pages_are_opened.Goals as goal

pub returns : goal.returns
returns c rest later log stripes writes is keeps light grown = (
  opened_pages c.growth_adds_up.ensures rest later log stripes writes is keeps light grown,
  opened_log c.growth_adds_up.ensures rest later log stripes writes is keeps light grown,
)
