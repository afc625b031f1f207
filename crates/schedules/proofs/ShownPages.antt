-- The first byte of a page that is shown.
use Rattle.std.proofs.Common.{◌≡◌, ℕ, List, [], ◌∷◌, take, replicate, ap, ◌∙◌, refl}
use Rattle.words.specs.Store.{Bytes}
use Rattle.world_model.specs.ShownPages.{page_of}

first_of : (byte : ℕ) → take 1 (page_of byte) ≡ byte ∷ []
unfolding page_of
first_of byte = refl

pub first_shown : (page : Bytes) (byte : ℕ) → page ≡ page_of byte → take 1 page ≡ byte ∷ []
first_shown page byte is = ap (λ (p : Bytes). take 1 p) is ∙ first_of byte
