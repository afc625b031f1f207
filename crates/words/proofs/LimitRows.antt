-- The number of each limit, the ranges of those that are chosen, and their defaults.
use Rattle.std.specs.Prelude.{◌≡◌, [], ◌∷◌, refl}
use Rattle.std.proofs.Common.{arith}
use Rattle.words.specs.declared.limits.TheConstants.{WORDS_MAX, WORD_BYTES_MAX, REQUEST_BYTES_MAX, PART_BYTES_MAX, KEY_BYTES_MAX, VALUE_BYTES_MAX, TRANSACTION_COMMANDS_MAX, TRANSACTION_WORDS_MAX, TRANSACTION_BYTES_MAX, WATCHED_KEYS_MAX, WEIGHT_MAX, WEIGHT_OF_KEY, STRIPES_MAX, STRIPES_DEFAULT, BUCKETS_MAX, BUCKETS_DEFAULT, FRAMES_MIN, FRAMES_MAX, FRAMES_DEFAULT, PLACES_MIN, PLACES_MAX, PLACES_DEFAULT, CLIENTS_MAX, CLIENTS_DEFAULT}
use Rattle.words.specs.declared.word.TheConstants.{WORD_INLINE, WORDS_INLINE}
use Rattle.words.specs.Sizes.{AreInRange}

words_of_a_request : WORDS_MAX ≡ 128
words_of_a_request = refl

bytes_of_a_word : WORD_BYTES_MAX ≡ 32768
bytes_of_a_word = refl

-- the bytes of a word, and the words of a request, that are held without an allocation
inline : WORD_INLINE ∷ WORDS_INLINE ∷ [] ≡ 22 ∷ 4 ∷ []
inline = refl

bytes_of_a_request : REQUEST_BYTES_MAX ≡ 131072
bytes_of_a_request = refl

-- 6 for the count, 10 beside the data of each of 128 words, and the data
bytes_of_a_part : PART_BYTES_MAX ≡ 132358
bytes_of_a_part = refl

bytes_of_a_key : KEY_BYTES_MAX ≡ 512
bytes_of_a_key = refl

bytes_of_a_value : VALUE_BYTES_MAX ≡ 32768
bytes_of_a_value = refl

of_a_transaction : TRANSACTION_COMMANDS_MAX ∷ TRANSACTION_WORDS_MAX ∷ TRANSACTION_BYTES_MAX ∷ [] ≡ 128 ∷ 1024 ∷ 131072 ∷ []
of_a_transaction = refl

watched_keys : WATCHED_KEYS_MAX ≡ 128
watched_keys = refl

weights : WEIGHT_MAX ∷ WEIGHT_OF_KEY ∷ [] ≡ 196608 ∷ 48 ∷ []
weights = refl

-- the greatest number of each, and the default
stripes : STRIPES_MAX ∷ STRIPES_DEFAULT ∷ [] ≡ 64 ∷ 16 ∷ []
stripes = refl

buckets : BUCKETS_MAX ∷ BUCKETS_DEFAULT ∷ [] ≡ 65536 ∷ 4096 ∷ []
buckets = refl

frames : FRAMES_MIN ∷ FRAMES_MAX ∷ FRAMES_DEFAULT ∷ [] ≡ 12 ∷ 256 ∷ 32 ∷ []
frames = refl

places : PLACES_MIN ∷ PLACES_MAX ∷ PLACES_DEFAULT ∷ [] ≡ 64 ∷ 65536 ∷ 4096 ∷ []
places = refl

clients : CLIENTS_MAX ∷ CLIENTS_DEFAULT ∷ [] ≡ 64 ∷ 4 ∷ []
clients = refl

-- The least and the greatest numbers are in range, and so are the defaults.

least : AreInRange 1 1 12 64 1
least =
    record {
      stripes_low = omega arith;
      stripes_high = omega arith;
      buckets_low = omega arith;
      buckets_high = omega arith;
      frames_low = omega arith;
      frames_high = omega arith;
      places_low = omega arith;
      places_high = omega arith;
      clients_low = omega arith;
      clients_high = omega arith;
    }

greatest : AreInRange 64 65536 256 65536 64
greatest =
    record {
      stripes_low = omega arith;
      stripes_high = omega arith;
      buckets_low = omega arith;
      buckets_high = omega arith;
      frames_low = omega arith;
      frames_high = omega arith;
      places_low = omega arith;
      places_high = omega arith;
      clients_low = omega arith;
      clients_high = omega arith;
    }

defaults : AreInRange 16 4096 32 4096 4
defaults =
    record {
      stripes_low = omega arith;
      stripes_high = omega arith;
      buckets_low = omega arith;
      buckets_high = omega arith;
      frames_low = omega arith;
      frames_high = omega arith;
      places_low = omega arith;
      places_high = omega arith;
      clients_low = omega arith;
      clients_high = omega arith;
    }

-- One less or one more of any is not.

no_stripe : ¬ AreInRange 0 1 12 64 1
no_stripe fits = let low = fits.stripes_low in omega (arith, low)

stripe_too_many : ¬ AreInRange 65 1 12 64 1
stripe_too_many fits = let high = fits.stripes_high in omega (arith, high)

no_bucket : ¬ AreInRange 1 0 12 64 1
no_bucket fits = let low = fits.buckets_low in omega (arith, low)

bucket_too_many : ¬ AreInRange 1 65537 12 64 1
bucket_too_many fits = let high = fits.buckets_high in omega (arith, high)

frame_too_few : ¬ AreInRange 1 1 11 64 1
frame_too_few fits = let low = fits.frames_low in omega (arith, low)

frame_too_many : ¬ AreInRange 1 1 257 64 1
frame_too_many fits = let high = fits.frames_high in omega (arith, high)

place_too_few : ¬ AreInRange 1 1 12 63 1
place_too_few fits = let low = fits.places_low in omega (arith, low)

place_too_many : ¬ AreInRange 1 1 12 65537 1
place_too_many fits = let high = fits.places_high in omega (arith, high)

no_client : ¬ AreInRange 1 1 12 64 0
no_client fits = let low = fits.clients_low in omega (arith, low)

client_too_many : ¬ AreInRange 1 1 12 64 65
client_too_many fits = let high = fits.clients_high in omega (arith, high)
