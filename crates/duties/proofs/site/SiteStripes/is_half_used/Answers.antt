use Rattle.duties.proofs.Told.{events_of-visited}
use Rattle.duties.proofs.site.SiteStripes.is_half_used.Goals as goal

pub returns-clause-told : goal.returns-clause-told
returns-clause-told g c = events_of-visited _ _ _ _ c.half_used.ensures.told
