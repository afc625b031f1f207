-- A page that was filled.
use Rattle.std.proofs.Common.{◌≡◌, ℕ, List, replicate, ap, ◌∙◌}
use Rattle.records.specs.declared.pages.TheConstants.{PAGE_SIZE}
use Rattle.world_model.specs.ShownPages.{page_of}

pub filled_is : (page : List ℕ) (byte n : ℕ) → page ≡ replicate n byte → n ≡ PAGE_SIZE → page ≡ page_of byte
unfolding page_of
filled_is page byte n is size = is ∙ ap (λ (m : ℕ). replicate m byte) size
