use Rattle.std.proofs.Common.{◌≡◌, ◌∙◌, List, ℕ, ap, length}
use Rattle.std.proofs.lemmas.List.{length-replicate}
use Rattle.records.specs.declared.pages.TheConstants.{PAGE_SIZE}
use Rattle.world_model.proofs.Filling.{filled_is}
use Rattle.world_model.proofs.shown_page.page_filled.Goals as goal

pub returns : goal.returns
returns c =
    let long : length c.fill.new.bytes ≡ PAGE_SIZE = ap (λ (s : List ℕ). length s) c.fill.ensures ∙ (length-replicate {A = ℕ} _ _ ∙ c.bytes_mut.ensures.size) in
    c.bytes_mut.ensures.as_written c.fill.new.bytes long ∙ filled_is _ _ _ c.fill.ensures c.bytes_mut.ensures.size
