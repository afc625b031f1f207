use Rattle.world_model.proofs.shown_page.ShownPage.filled.Goals as goal

pub returns : goal.returns
returns c = rw c.in_ok-page_filled.ensures at c.new.ensures
