-- How many keys are watched.
use Rattle.std.proofs.Common.{◌≡◌, ℕ, ◌+◌, ◌≤◌, Bool, true, false, ◌||◌, ◌&&◌, not, List, [], ◌∷◌, ◌++◌, length, Option, Some, None, if◌then◌else◌, drop, ◌-◌, append_assoc, refl, sym, ap, ◌∙◌}
use Rattle.std.proofs.lemmas.List.{length-append}
use Rattle.std.proofs.Math.Seq.{drop-append_seam}
use Rattle.std.specs.Bool.{Decides}
use Rattle.std.specs.Str.{bytes_eq}
use Rattle.std.proofs.lemmas.Slice.Eq.{bytes_eq-Decides}
use native.Mathlib.Omega.{arith}
use Rattle.words.specs.Store.{Bytes}
use Rattle.words.specs.History.{Pair, is_among, keys_of_pairs}
use Rattle.words.specs.Watches.{with_new, count_watched, watched_at, with_key, with_keys}
use Rattle.transact.specs.Calls.{watched_with, IsEarlier}

-- they are those that are watched once the keys came to them
pub count_is : (keys watched : List Bytes) → count_watched watched keys ≡ length (watched_with watched keys)
count_is [] watched = refl
count_is (key ∷ keys) watched = count_is keys (with_new (is_among watched key) key watched)

pub one_more : (test : Bool) (key : Bytes) (watched : List Bytes) → length watched ≤ length (with_new test key watched)
one_more true key watched = omega arith
one_more false key watched = omega arith

pub grows : (keys watched : List Bytes) → length watched ≤ length (watched_with watched keys)
grows [] watched = omega arith
grows (key ∷ keys) watched =
    let more = one_more (is_among watched key) key watched in
    let most = grows keys (with_new (is_among watched key) key watched) in
    omega (arith, more, most)

-- whether a key is watched
abbrev is_here : Option ℕ → Bool
is_here None = false
is_here (Some position) = true

among_pairs : (pairs : List Pair) (key : Bytes) → is_among (keys_of_pairs pairs) key ≡ is_here (watched_at pairs key)
among_pairs [] key = refl
among_pairs (pair ∷ pairs) key =
    elim (bytes_eq pair.0 key) as (λ test. (test || is_among (keys_of_pairs pairs) key) ≡ is_here (if test then Some pair.1 else watched_at pairs key)) [
      | true ↦ refl
      | false ↦ among_pairs pairs key
    ]

keys_with_key : (found : Option ℕ) (pairs : List Pair) (key : Bytes) (position : ℕ)
    → keys_of_pairs (with_key pairs key position found) ≡ with_new (is_here found) key (keys_of_pairs pairs)
keys_with_key None pairs key position = refl
keys_with_key (Some old) pairs key position = refl

-- the keys of pairs to which those of a WATCH came
pub keys_with_keys : (keys : List Bytes) (pairs : List Pair) (position : ℕ)
    → keys_of_pairs (with_keys pairs keys position) ≡ watched_with (keys_of_pairs pairs) keys
keys_with_keys [] pairs position = refl
keys_with_keys (key ∷ keys) pairs position =
    keys_with_keys keys (with_key pairs key position (watched_at pairs key)) position
    ∙ ap (λ watched. watched_with watched keys)
    (keys_with_key (watched_at pairs key) pairs key position ∙ ap (λ test. with_new test key (keys_of_pairs pairs)) (sym (among_pairs pairs key)))

-- keys that come to it one part after the other
pub parts_come : (one two watched : List Bytes) → watched_with watched (one ++ two) ≡ watched_with (watched_with watched one) two
parts_come [] two watched = refl
parts_come (key ∷ one) two watched = parts_come one two (with_new (is_among watched key) key watched)

-- what is among what is watched once keys came to it
among_new : (test : Bool) (first key : Bytes) (watched : List Bytes) → is_among watched first ≡ test
    → is_among (with_new test first watched) key ≡ (is_among watched key || bytes_eq first key)
among_new false first key watched is =
    elim (bytes_eq first key) as (λ test. (test || is_among watched key) ≡ (is_among watched key || test)) [
      | true ↦ elim (is_among watched key) as (λ test. true ≡ (test || true)) [ true ↦ refl | false ↦ refl ]
      | false ↦ elim (is_among watched key) as (λ test. test ≡ (test || false)) [ true ↦ refl | false ↦ refl ]
    ]
among_new true first key watched is =
    elim (bytes_eq first key) as (λ test. Decides test (first ≡ key) → is_among watched key ≡ (is_among watched key || test)) [
      | true ↦ λ decides. let same : is_among watched key ≡ true = ap (is_among watched) (sym (decides.0 refl)) ∙ is in
          same ∙ sym (ap (λ test. test || true) same)
      | false ↦ λ decides. elim (is_among watched key) as (λ test. test ≡ (test || false)) [ true ↦ refl | false ↦ refl ]
    ] (bytes_eq-Decides first key)

or_assoc : (one two three : Bool) → ((one || two) || three) ≡ (one || (two || three))
or_assoc true two three = refl
or_assoc false two three = refl

pub among_with : (keys watched : List Bytes) (key : Bytes) → is_among (watched_with watched keys) key ≡ (is_among watched key || is_among keys key)
among_with [] watched key = elim (is_among watched key) as (λ test. test ≡ (test || false)) [ true ↦ refl | false ↦ refl ]
among_with (first ∷ keys) watched key =
    among_with keys (with_new (is_among watched first) first watched) key
    ∙ ap (λ test. test || is_among keys key) (among_new (is_among watched first) first key watched refl)
    ∙ or_assoc (is_among watched key) (bytes_eq first key) (is_among keys key)

-- one key more of a WATCH, where it is new and where it is not
neither : (one two : Bool) → (not one && not two) ≡ true → (one || two) ≡ false
neither true two is = absurd (cc is)
neither false true is = absurd (cc is)
neither false false is = refl

either : (one two : Bool) → (not one && not two) ≡ false → (one || two) ≡ true
either true two is = refl
either false true is = refl
either false false is = absurd (cc is)

length_new : (test : Bool) (key : Bytes) (watched : List Bytes) → test ≡ false → length (with_new test key watched) ≡ length watched + 1
length_new true key watched is = absurd (cc is)
length_new false key watched is = omega arith

length_old : (test : Bool) (key : Bytes) (watched : List Bytes) → test ≡ true → length (with_new test key watched) ≡ length watched
length_old true key watched is = refl
length_old false key watched is = absurd (cc is)

pub counts_new : (earlier keys watched : List Bytes) (key : Bytes) → keys ≡ earlier ++ key ∷ []
    → (not (is_among watched key) && not (is_among earlier key)) ≡ true → length (watched_with watched keys) ≡ length (watched_with watched earlier) + 1
counts_new earlier keys watched key is new =
    ap (λ all. length (watched_with watched all)) is
    ∙ ap length (parts_come earlier (key ∷ []) watched)
    ∙ length_new (is_among (watched_with watched earlier) key) key (watched_with watched earlier)
    (among_with earlier watched key ∙ neither (is_among watched key) (is_among earlier key) new)

pub counts_old : (earlier keys watched : List Bytes) (key : Bytes) → keys ≡ earlier ++ key ∷ []
    → (not (is_among watched key) && not (is_among earlier key)) ≡ false → length (watched_with watched keys) ≡ length (watched_with watched earlier)
counts_old earlier keys watched key is old =
    ap (λ all. length (watched_with watched all)) is
    ∙ ap length (parts_come earlier (key ∷ []) watched)
    ∙ length_old (is_among (watched_with watched earlier) key) key (watched_with watched earlier)
    (among_with earlier watched key ∙ either (is_among watched key) (is_among earlier key) old)

-- the count of a part of the keys is at most that of all
pub part_counts : (part rest keys watched : List Bytes) → part ++ rest ≡ keys → length (watched_with watched part) ≤ count_watched watched keys
part_counts part rest keys watched is =
    rw (count_is keys watched, ← is, parts_come part rest watched) (grows rest (watched_with watched part))

came_or_not : (test : Bool) (key : Bytes) (watched : List Bytes) → IsEarlier watched (with_new test key watched)
came_or_not true key watched = ([], refl)
came_or_not false key watched = (key ∷ [], refl)

earlier : (one two three : List Bytes) → IsEarlier one two → IsEarlier two three → IsEarlier one three
earlier one two three (added, is) (more, now) = (more ++ added, now ∙ ap (λ rest. more ++ rest) is ∙ sym (append_assoc more added one))

-- what was watched, from what is watched once keys came to it
stays : (keys watched : List Bytes) → IsEarlier watched (watched_with watched keys)
stays [] watched = ([], refl)
stays (key ∷ keys) watched = earlier watched _ _ (came_or_not (is_among watched key) key watched) (stays keys (with_new (is_among watched key) key watched))

drop_added : (added watched : List Bytes) → drop (length (added ++ watched) - length watched) (added ++ watched) ≡ watched
drop_added added watched =
    let count : length (added ++ watched) - length watched ≡ length added = omega (arith, length-append added watched) in
    ap (λ n. drop n (added ++ watched)) count ∙ drop-append_seam added watched

pub takes_back : (keys watched new : List Bytes) (before : ℕ) → new ≡ watched_with watched keys → before ≡ length watched
    → drop (length new - before) new ≡ watched
takes_back keys watched new before is same =
    let (added, parts) = stays keys watched in
    rw (is ∙ parts, same) (drop_added added watched)
