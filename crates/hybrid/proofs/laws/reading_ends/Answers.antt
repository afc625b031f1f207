use Rattle.hybrid.proofs.Reading.{fewer-or-none, left-at, no-more-at, staged-decides, unread-fewer, unread-no_more}
use Rattle.hybrid.proofs.laws.reading_ends.Goals as goal

pub returns : goal.returns
returns c = record { decides = staged-decides; no_more_at = no-more-at; fewer_at = fewer-or-none; left_at = left-at; no_more = unread-no_more; fewer = unread-fewer }
