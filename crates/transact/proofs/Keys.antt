-- Lists of keys, and the stripes of them.
use Rattle.std.proofs.Common.{◌≡◌, ◌∙◌, ℕ, zero, suc, ◌+◌, add-one, List, [], ◌∷◌, ◌++◌, take, Some, ap, refl}
use Rattle.std.specs.Prelude.{slice_get}
use Rattle.words.specs.Store.{Bytes}
use Rattle.words.specs.Stripes.{stripe_of}
use Rattle.gates.specs.Sets.{inserted}
use Rattle.transact.specs.Plans.{stripes_with}

pub with_append : (n : ℕ) (s : List ℕ) (a b : List Bytes) → stripes_with n s (a ++ b) ≡ stripes_with n (stripes_with n s a) b
with_append n s [] b = refl
with_append n s (k ∷ a) b = with_append n (inserted (stripe_of n k) s) a b

take_suc : (keys : List Bytes) (n : ℕ) (key : Bytes) → slice_get keys n ≡ Some key → take (suc n) keys ≡ take n keys ++ key ∷ []
take_suc [] n key is = absurd (cc is)
take_suc (first ∷ keys) zero key is = ap (λ k. k ∷ []) (cc is)
take_suc (first ∷ keys) (suc n) key is = ap (λ rest. first ∷ rest) (take_suc keys n key is)

-- the keys up to one and with it
pub take_more : (keys : List Bytes) (n : ℕ) (key : Bytes) → slice_get keys n ≡ Some key → take (n + 1) keys ≡ take n keys ++ key ∷ []
take_more keys n key is = ap (λ k. take k keys) (add-one n) ∙ take_suc keys n key is
