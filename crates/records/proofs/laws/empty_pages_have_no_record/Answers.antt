use Rattle.records.proofs.After.{empty_page-IsEmpty}
use Rattle.records.proofs.laws.empty_pages_have_no_record.Goals as goal

pub returns : goal.returns
returns c = λ number h. (empty_page-IsEmpty number h).records_are
