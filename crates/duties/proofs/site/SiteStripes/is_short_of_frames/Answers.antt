use Rattle.duties.proofs.Told.{events_of-visited}
use Rattle.duties.proofs.site.SiteStripes.is_short_of_frames.Goals as goal

pub returns-clause-told : goal.returns-clause-told
returns-clause-told g c = events_of-visited _ _ _ _ c.short_of_frames.ensures.told
