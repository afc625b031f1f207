-- The number of each size of the format, and of each place in a header.
use Rattle.std.specs.Prelude.{◌≡◌, [], ◌∷◌, refl}
use Rattle.records.specs.declared.pages.TheConstants.{PAGE_SIZE, HEADER_SIZE, NUMBER_SIZE, USED_END_AT, PAGE_FORM_AT}
use Rattle.records.specs.declared.entries.TheConstants.{RECORD_HEADER, KEY_BYTES_MAX, HASH_AT, KEY_LENGTH_AT, VALUE_LENGTH_AT, CAPACITY_AT, KIND_AT, RECORD_FORM_AT}

sizes : PAGE_SIZE ∷ HEADER_SIZE ∷ RECORD_HEADER ∷ KEY_BYTES_MAX ∷ [] ≡ 65536 ∷ 16 ∷ 28 ∷ 512 ∷ []
sizes = refl

page_places : NUMBER_SIZE ∷ USED_END_AT ∷ PAGE_FORM_AT ∷ [] ≡ 8 ∷ 8 ∷ 12 ∷ []
page_places = refl

record_places : HASH_AT ∷ KEY_LENGTH_AT ∷ KIND_AT ∷ RECORD_FORM_AT ∷ VALUE_LENGTH_AT ∷ CAPACITY_AT ∷ [] ≡ 8 ∷ 16 ∷ 18 ∷ 19 ∷ 20 ∷ 24 ∷ []
record_places = refl
