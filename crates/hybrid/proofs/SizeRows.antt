-- The number of each size of a stripe's log.
use Rattle.std.specs.Prelude.{◌≡◌, [], ◌∷◌, refl}
use Rattle.hybrid.specs.declared.stripe.TheConstants.{RECORD_MAX, CLEAN_WEIGHT, CLOSED_MIN, CLEAN_PAGES, CALL_PAGES, LAST_PAGE}

sizes : RECORD_MAX ∷ CLEAN_WEIGHT ∷ CLOSED_MIN ∷ CLEAN_PAGES ∷ CALL_PAGES ∷ [] ≡ 33312 ∷ 131040 ∷ 32208 ∷ 5 ∷ 7 ∷ []
sizes = refl

last_page : LAST_PAGE ≡ 70368744177664
last_page = refl
