-- The digits of a line so far, in the loops that read them, and what the loops find.
use Rattle.std.proofs.Common.{ℕ, zero, suc, ◌≡◌, ◌≢◌, ◌+◌, ◌-◌, ◌*◌, ◌^◌, ◌<◌, ◌≤◌, ◌⊎◌, inl, inr, [], ◌∷◌, ◌++◌, Some, None, length, take, drop, get_or, refl, sym, ap, ◌∙◌, subst, arith, length-append, append_assoc}
use Rattle.std.specs.Fmt.{decimal}
use Rattle.std.proofs.lemmas.Fmt.{decimal_digit, length-decimal-le}
use Rattle.std.proofs.lemmas.List.{drop_more, drop_all, drop-drop, length-drop, take_rest, nil_from_length}
use Rattle.words.specs.declared.limits.TheConstants.{WORDS_MAX, WORD_BYTES_MAX, REQUEST_BYTES_MAX}
use Rattle.words.specs.declared.reply.ProtocolFault.TheVariants.{ExpectedArray, BadCount, ExpectedBulk, BadLength, RequestTooLarge}
use Rattle.words.specs.Store.{Bytes}
use Rattle.words.specs.Spelling.{header, crlf}
use Rattle.words.specs.Stream as stream
use Rattle.words.specs.Stream.{Place, First, Count, CountEnd, Word, Length, LengthEnd, front, front_from}
use Rattle.resp_read.specs.declared.lines.Line.{Line}
use Rattle.resp_read.specs.declared.lines.Line.TheVariants.{Number, Part, Faulty}
use Rattle.resp_read.specs.Lines.{TellsNumber, TellsCount, TellsLength, BeginsWithLine}
use Rattle.resp_read.proofs.Steps.{star_due, dollar_due, count_first_zero, count_first_other, count_over, count_other, count_end_due, length_first_past, length_first_other, length_over, length_past, length_other, length_after_zero, length_end_due}
use Rattle.resp_read.proofs.Headers.{decimal_push, count_leads, length_leads}

-- the bytes of a line from its sign on
pub bytes_by_first : (bytes : Bytes) → 1 ≤ length bytes → bytes ≡ get_or bytes 0 0 ∷ drop 1 bytes
bytes_by_first [] some = absurd (omega arith)
bytes_by_first (byte ∷ bytes) some = refl

pub bytes_by_sign : (bytes : Bytes) (sign : ℕ) → 1 ≤ length bytes → get_or bytes 0 0 ≡ sign → bytes ≡ sign ∷ take (length bytes - 1) (drop 1 bytes)
bytes_by_sign bytes sign some is =
    bytes_by_first bytes some ∙ (ap (λ (b : ℕ). b ∷ drop 1 bytes) is ∙ ap (λ (d : Bytes). sign ∷ d) (sym (take_rest bytes 1)))

-- one more digit of the number
digits_more : (digits : Bytes) (at n digit : ℕ) → at < length digits → get_or digits at 0 ≡ 48 + digit → 0 < n → digit ≤ 9 → n < 2 ^ 32 → digits ≡ decimal n ++ drop at digits → digits ≡ decimal (10 * n + digit) ++ drop (at + 1) digits
digits_more digits at n digit lt is some low small e =
    let next : drop at digits ≡ (48 + digit) ∷ drop (at + 1) digits = drop_more digits at 0 lt ∙ ap (λ (b : ℕ). b ∷ drop (at + 1) digits) is in
    e ∙ (ap (λ (r : Bytes). decimal n ++ r) next
    ∙ (sym (append_assoc (decimal n) ((48 + digit) ∷ []) (drop (at + 1) digits)) ∙ ap (λ (d : Bytes). d ++ drop (at + 1) digits) (sym (decimal_push n digit some (omega arith) small))))

digits_first : (digits : Bytes) (digit : ℕ) → 0 < length digits → get_or digits 0 0 ≡ 48 + digit → digit ≤ 9 → digits ≡ decimal digit ++ drop 1 digits
digits_first digits digit lt is low =
    bytes_by_first digits lt ∙ (ap (λ (b : ℕ). b ∷ drop 1 digits) is ∙ ap (λ (d : Bytes). d ++ drop 1 digits) (sym (decimal_digit digit (omega arith))))

-- how many bytes a part of a line has
digits_are_few : (digits : Bytes) (at n k : ℕ) → digits ≡ decimal n ++ drop at digits → 0 < k → n < 10 ^ k → n < 2 ^ 64 → length digits ≤ k + (length digits - at)
digits_are_few digits at n k e some low small = omega (arith, ap length e, length-append (decimal n) (drop at digits), length-drop at digits, length-decimal-le k n some low small)

-- the line is whole
pub line_begins : (sign value at : ℕ) (bytes digits rest : Bytes) → bytes ≡ sign ∷ digits → digits ≡ decimal value ++ drop at digits → at < length digits → get_or digits at 0 ≡ 13 → rest ≡ drop (at + 1) digits → rest ≡ 10 ∷ drop 1 rest → BeginsWithLine sign value (at + 3) bytes
unfolding header
line_begins sign value at bytes digits rest e spelled lt cr is lf =
    let long : length rest ≡ suc (length (drop 1 rest)) = ap length lf in
    let size : length bytes ≡ suc (length digits) = ap length e in
    let left : length rest ≡ length digits - (at + 1) = ap length is ∙ length-drop (at + 1) digits in
    let after_sign : drop (at + 3) bytes ≡ drop (at + 2) digits =
    ap (drop (at + 3)) e ∙ (ap (λ (k : ℕ). drop k (sign ∷ digits)) three) in
    let after_lf : drop 1 rest ≡ drop (at + 2) digits = ap (drop 1) is ∙ (drop-drop 1 (at + 1) digits ∙ ap (λ (k : ℕ). drop k digits) two) in
    let ends : drop at digits ≡ 13 ∷ (10 ∷ drop (at + 3) bytes) =
    drop_more digits at 0 lt ∙ (ap (λ (b : ℕ). b ∷ drop (at + 1) digits) cr ∙ ap (λ (r : Bytes). 13 ∷ r) (sym is ∙ (lf ∙ ap (λ (r : Bytes). 10 ∷ r) (after_lf ∙ sym after_sign)))) in
    record {
      within = omega arith;
      some = omega arith;
      begins = e ∙ (ap (λ (d : Bytes). sign ∷ d) (spelled ∙ (ap (λ (r : Bytes). decimal value ++ r) ends ∙ sym (append_assoc (decimal value) crlf (drop (at + 3) bytes)))));
    }
  where
    three : at + 3 ≡ suc (at + 2)
    three = omega arith

    two : (at + 1) + 1 ≡ at + 2
    two = omega arith

-- no digit of a count has been read, or these, which spell it
abbrev pub CountSoFar : Bytes → (at count : ℕ) → Type 0
CountSoFar digits at count =
    ((at ≡ 0) × (count ≡ 0)) ⊎ ((1 ≤ at) × (1 ≤ count) × (count ≤ WORDS_MAX) × (digits ≡ decimal count ++ drop at digits))

-- no byte of a request, or another first one
pub front_of_nothing : (bytes : Bytes) → length bytes < 1 → front bytes ≡ stream.Part
unfolding front
front_of_nothing bytes none = ap (front_from First) (nil_from_length bytes (omega arith))

pub front_without_star : (bytes : Bytes) → 1 ≤ length bytes → get_or bytes 0 0 ≢ 42 → front bytes ≡ stream.Faulty ExpectedArray
unfolding front
front_without_star bytes some differs =
    ap (front_from First) (bytes_by_first bytes some) ∙ star_due (get_or bytes 0 0) (drop 1 bytes) differs

-- where a count is read on
abbrev count_place : (at count : ℕ) → Place
count_place zero count = Count None
count_place (suc at) count = Count (Some count)

count_so_far_front : (digits : Bytes) (at count : ℕ) → CountSoFar digits at count → front_from (Count None) digits ≡ front_from (count_place at count) (drop at digits)
count_so_far_front digits zero count so_far = refl
count_so_far_front digits (suc at) count (inl h) = absurd (omega arith)
count_so_far_front digits (suc at) count (inr h) = ap (front_from (Count None)) h.3 ∙ count_leads count (drop (suc at) digits) (omega arith) h.2

count_front : (bytes digits : Bytes) (at count : ℕ) → bytes ≡ 42 ∷ digits → CountSoFar digits at count → front bytes ≡ front_from (count_place at count) (drop at digits)
unfolding front
count_front bytes digits at count e so_far = ap (front_from First) e ∙ count_so_far_front digits at count so_far

pub count_part : (bytes digits : Bytes) (at count : ℕ) → bytes ≡ 42 ∷ digits → CountSoFar digits at count → length digits ≤ at → front bytes ≡ stream.Part
count_part bytes digits at count e so_far past =
    count_front bytes digits at count e so_far ∙ ap (front_from (count_place at count)) (drop_all at digits past)

count_few : (digits : Bytes) (at count : ℕ) → CountSoFar digits at count → length digits ≤ 3 + (length digits - at)
count_few digits at count (inl h) = omega arith
count_few digits at count (inr h) = digits_are_few digits at count 3 h.3 (omega arith) (omega arith) (omega arith)

pub count_part_few : (bytes digits : Bytes) (at count : ℕ) → bytes ≡ 42 ∷ digits → CountSoFar digits at count → length digits ≤ at → length bytes ≤ 6
count_part_few bytes digits at count e so_far past = omega (arith, ap length e, count_few digits at count so_far)

-- the front at the byte that is read now
count_front_at : (bytes digits : Bytes) (at count byte : ℕ) → bytes ≡ 42 ∷ digits → CountSoFar digits at count → at < length digits → get_or digits at 0 ≡ byte → front bytes ≡ front_from (count_place at count) (byte ∷ drop (at + 1) digits)
count_front_at bytes digits at count byte e so_far lt is =
    count_front bytes digits at count e so_far ∙ ap (front_from (count_place at count)) (drop_more digits at 0 lt ∙ ap (λ (b : ℕ). b ∷ drop (at + 1) digits) is)

other_at_count : (at count byte : ℕ) (rest : Bytes) → (byte < 48) ⊎ (57 < byte) → ((byte ≡ 13) × (at ≤ 0)) ⊎ (byte ≢ 13) → front_from (count_place at count) (byte ∷ rest) ≡ stream.Faulty BadCount
other_at_count zero count byte rest other cr = count_first_other byte rest other
other_at_count (suc at) count byte rest other (inl cr) = absurd (omega arith)
other_at_count (suc at) count byte rest other (inr differs) = count_other count byte rest differs other

pub count_no_digit : (bytes digits : Bytes) (at count byte : ℕ) → bytes ≡ 42 ∷ digits → CountSoFar digits at count → at < length digits → get_or digits at 0 ≡ byte → (byte < 48) ⊎ (57 < byte) → ((byte ≡ 13) × (at ≤ 0)) ⊎ (byte ≢ 13) → front bytes ≡ stream.Faulty BadCount
count_no_digit bytes digits at count byte e so_far lt is other cr =
    count_front_at bytes digits at count byte e so_far lt is ∙ other_at_count at count byte (drop (at + 1) digits) other cr

-- a digit that makes the count 0 or more than it may be
bad_at_count : (digits : Bytes) (at count digit : ℕ) (rest : Bytes) → CountSoFar digits at count → digit ≤ 9 → (10 * count + digit ≡ 0) ⊎ ((10 * count + digit ≢ 0) × (WORDS_MAX < 10 * count + digit)) → front_from (count_place at count) ((48 + digit) ∷ rest) ≡ stream.Faulty BadCount
bad_at_count digits zero count digit rest (inl h) low (inl none) = let e : digit ≡ 0 = omega arith in ap (λ (d : ℕ). front_from (Count None) ((48 + d) ∷ rest)) e ∙ count_first_zero rest
bad_at_count digits zero count digit rest (inl h) low (inr over) = absurd (omega (arith, over.1))
bad_at_count digits zero count digit rest (inr h) low bad = absurd (omega arith)
bad_at_count digits (suc at) count digit rest (inl h) low bad = absurd (omega arith)
bad_at_count digits (suc at) count digit rest (inr h) low (inl none) = absurd (omega arith)
bad_at_count digits (suc at) count digit rest (inr h) low (inr over) = count_over count (48 + digit) rest (omega arith) (omega arith) (omega arith)

pub count_bad_digit : (bytes digits : Bytes) (at count digit : ℕ) → bytes ≡ 42 ∷ digits → CountSoFar digits at count → at < length digits → get_or digits at 0 ≡ 48 + digit → digit ≤ 9 → (10 * count + digit ≡ 0) ⊎ ((10 * count + digit ≢ 0) × (WORDS_MAX < 10 * count + digit)) → front bytes ≡ stream.Faulty BadCount
count_bad_digit bytes digits at count digit e so_far lt is low bad =
    count_front_at bytes digits at count (48 + digit) e so_far lt is ∙ bad_at_count digits at count digit (drop (at + 1) digits) so_far low bad

pub count_more : (digits : Bytes) (at count digit : ℕ) → CountSoFar digits at count → at < length digits → get_or digits at 0 ≡ 48 + digit → digit ≤ 9 → 0 < 10 * count + digit → 10 * count + digit ≤ WORDS_MAX → CountSoFar digits (at + 1) (10 * count + digit)
count_more digits at count digit (inl h) lt is low some fits = inr (omega arith, some, fits, first) where
  zero_is : 10 * count + digit ≡ digit
  zero_is = omega arith

  at_start : digits ≡ decimal digit ++ drop 1 digits
  at_start = digits_first digits digit (omega arith) (subst (λ (k : ℕ). get_or digits k 0 ≡ 48 + digit) h.0 is) low

  one_is : 1 ≡ at + 1
  one_is = omega arith

  first : digits ≡ decimal (10 * count + digit) ++ drop (at + 1) digits
  first = rw (zero_is, ← one_is) at_start
count_more digits at count digit (inr h) lt is low some fits =
    inr (omega arith, some, fits, digits_more digits at count digit lt is (omega arith) low (omega arith) h.3)

pub count_ends : (bytes digits rest : Bytes) (at count : ℕ) (line : Line) → bytes ≡ 42 ∷ digits → CountSoFar digits at count → 0 < at → at < length digits → get_or digits at 0 ≡ 13 → rest ≡ drop (at + 1) digits → TellsNumber count (at + 3) rest line → TellsCount bytes line
count_ends bytes digits rest at count line e (inl h) some lt cr is tells = absurd (omega arith)
count_ends bytes digits rest at count (Number value width) e (inr h) some lt cr is tells =
    rw (tells.0, tells.1) (line_begins 42 count at bytes digits rest e h.3 lt cr is tells.2, h.1, h.2)
count_ends bytes digits rest zero count Part e (inr h) some lt cr is tells = absurd (omega arith)
count_ends bytes digits rest (suc at) count Part e (inr h) some lt cr is tells = (
  omega (arith, ap length e, count_few digits (suc at) count (inr h), ap length is, ap length tells, length-drop (suc at + 1) digits),
  count_front_at bytes digits (suc at) count 13 e (inr h) lt cr ∙ ap (front_from (CountEnd count)) (sym is ∙ tells),
)
count_ends bytes digits rest zero count (Faulty fault) e (inr h) some lt cr is tells = absurd (omega arith)
count_ends bytes digits rest (suc at) count (Faulty fault) e (inr h) some lt cr is tells =
    rw tells.0 (count_front_at bytes digits (suc at) count 13 e (inr h) lt cr ∙ (ap (front_from (CountEnd count)) (sym is ∙ tells.1.2) ∙ count_end_due count tells.1.0 (drop 1 rest) tells.1.1))

-- no digit of a length has been read, or these, which spell it
abbrev pub LengthSoFar : (size : ℕ) → Bytes → (at n : ℕ) → Type 0
LengthSoFar size digits at n =
    ((at ≡ 0) × (n ≡ 0)) ⊎ ((1 ≤ at) × (n ≤ WORD_BYTES_MAX) × (size + n ≤ REQUEST_BYTES_MAX) × (digits ≡ decimal n ++ drop at digits))

-- no byte of a word, or another first one
pub word_of_nothing : (left size : ℕ) (bytes : Bytes) → length bytes < 1 → front_from (Word left size) bytes ≡ stream.Part
word_of_nothing left size bytes none = ap (front_from (Word left size)) (nil_from_length bytes (omega arith))

pub word_without_dollar : (left size : ℕ) (bytes : Bytes) → 1 ≤ length bytes → get_or bytes 0 0 ≢ 36 → front_from (Word left size) bytes ≡ stream.Faulty ExpectedBulk
word_without_dollar left size bytes some differs =
    ap (front_from (Word left size)) (bytes_by_first bytes some) ∙ dollar_due left size (get_or bytes 0 0) (drop 1 bytes) differs

-- where a length is read on
abbrev length_place : (left size at n : ℕ) → Place
length_place left size zero n = Length left size None
length_place left size (suc at) n = Length left size (Some n)

length_so_far_front : (left size : ℕ) (digits : Bytes) (at n : ℕ) → LengthSoFar size digits at n → front_from (Length left size None) digits ≡ front_from (length_place left size at n) (drop at digits)
length_so_far_front left size digits zero n so_far = refl
length_so_far_front left size digits (suc at) n (inl h) = absurd (omega arith)
length_so_far_front left size digits (suc at) n (inr h) =
    ap (front_from (Length left size None)) h.3 ∙ length_leads left size n (drop (suc at) digits) h.1 h.2

length_front : (left size : ℕ) (bytes digits : Bytes) (at n : ℕ) → bytes ≡ 36 ∷ digits → LengthSoFar size digits at n → front_from (Word left size) bytes ≡ front_from (length_place left size at n) (drop at digits)
length_front left size bytes digits at n e so_far = ap (front_from (Word left size)) e ∙ length_so_far_front left size digits at n so_far

pub length_part : (left size : ℕ) (bytes digits : Bytes) (at n : ℕ) → bytes ≡ 36 ∷ digits → LengthSoFar size digits at n → length digits ≤ at → front_from (Word left size) bytes ≡ stream.Part
length_part left size bytes digits at n e so_far past =
    length_front left size bytes digits at n e so_far ∙ ap (front_from (length_place left size at n)) (drop_all at digits past)

length_few : (size : ℕ) (digits : Bytes) (at n : ℕ) → LengthSoFar size digits at n → length digits ≤ 5 + (length digits - at)
length_few size digits at n (inl h) = omega arith
length_few size digits at n (inr h) = digits_are_few digits at n 5 h.3 (omega arith) (omega arith) (omega arith)

pub length_part_few : (size : ℕ) (bytes digits : Bytes) (at n : ℕ) → bytes ≡ 36 ∷ digits → LengthSoFar size digits at n → length digits ≤ at → length bytes ≤ 7
length_part_few size bytes digits at n e so_far past = omega (arith, ap length e, length_few size digits at n so_far)

-- the front at the byte that is read now
length_front_at : (left size : ℕ) (bytes digits : Bytes) (at n byte : ℕ) → bytes ≡ 36 ∷ digits → LengthSoFar size digits at n → at < length digits → get_or digits at 0 ≡ byte → front_from (Word left size) bytes ≡ front_from (length_place left size at n) (byte ∷ drop (at + 1) digits)
length_front_at left size bytes digits at n byte e so_far lt is =
    length_front left size bytes digits at n e so_far ∙ ap (front_from (length_place left size at n)) (drop_more digits at 0 lt ∙ ap (λ (b : ℕ). b ∷ drop (at + 1) digits) is)

other_at_length : (left size at n byte : ℕ) (rest : Bytes) → (byte < 48) ⊎ (57 < byte) → ((byte ≡ 13) × (at ≤ 0)) ⊎ (byte ≢ 13) → front_from (length_place left size at n) (byte ∷ rest) ≡ stream.Faulty BadLength
other_at_length left size zero n byte rest other cr = length_first_other left size byte rest other
other_at_length left size (suc at) n byte rest other (inl cr) = absurd (omega arith)
other_at_length left size (suc at) n byte rest other (inr differs) = length_other left size n byte rest differs other

pub length_no_digit : (left size : ℕ) (bytes digits : Bytes) (at n byte : ℕ) → bytes ≡ 36 ∷ digits → LengthSoFar size digits at n → at < length digits → get_or digits at 0 ≡ byte → (byte < 48) ⊎ (57 < byte) → ((byte ≡ 13) × (at ≤ 0)) ⊎ (byte ≢ 13) → front_from (Word left size) bytes ≡ stream.Faulty BadLength
length_no_digit left size bytes digits at n byte e so_far lt is other cr =
    length_front_at left size bytes digits at n byte e so_far lt is ∙ other_at_length left size at n byte (drop (at + 1) digits) other cr

-- a digit after a leading zero
after_zero_at_length : (left size at n digit : ℕ) (rest : Bytes) → 0 < at → n ≡ 0 → front_from (length_place left size at n) ((48 + digit) ∷ rest) ≡ stream.Faulty BadLength
after_zero_at_length left size zero n digit rest some zero_is = absurd (omega arith)
after_zero_at_length left size (suc at) n digit rest some zero_is =
    ap (λ (k : ℕ). front_from (Length left size (Some k)) ((48 + digit) ∷ rest)) zero_is ∙ length_after_zero left size (48 + digit) rest (λ is. absurd (omega arith))

pub length_leading_zero : (left size : ℕ) (bytes digits : Bytes) (at n digit : ℕ) → bytes ≡ 36 ∷ digits → LengthSoFar size digits at n → at < length digits → get_or digits at 0 ≡ 48 + digit → 0 < at → n ≡ 0 → front_from (Word left size) bytes ≡ stream.Faulty BadLength
length_leading_zero left size bytes digits at n digit e so_far lt is some zero_is =
    length_front_at left size bytes digits at n (48 + digit) e so_far lt is ∙ after_zero_at_length left size at n digit (drop (at + 1) digits) some zero_is

-- a digit that makes the length more than it may be
over_at_length : (left size : ℕ) (digits : Bytes) (at n digit : ℕ) (rest : Bytes) → LengthSoFar size digits at n → digit ≤ 9 → WORD_BYTES_MAX < 10 * n + digit → front_from (length_place left size at n) ((48 + digit) ∷ rest) ≡ stream.Faulty BadLength
over_at_length left size digits zero n digit rest (inl h) low over = absurd (omega arith)
over_at_length left size digits zero n digit rest (inr h) low over = absurd (omega arith)
over_at_length left size digits (suc at) n digit rest (inl h) low over = absurd (omega arith)
over_at_length left size digits (suc at) n digit rest (inr h) low over =
    length_over left size n (48 + digit) rest (omega arith) (omega arith) (omega arith) (omega arith)

pub length_too_long : (left size : ℕ) (bytes digits : Bytes) (at n digit : ℕ) → bytes ≡ 36 ∷ digits → LengthSoFar size digits at n → at < length digits → get_or digits at 0 ≡ 48 + digit → digit ≤ 9 → WORD_BYTES_MAX < 10 * n + digit → front_from (Word left size) bytes ≡ stream.Faulty BadLength
length_too_long left size bytes digits at n digit e so_far lt is low over =
    length_front_at left size bytes digits at n (48 + digit) e so_far lt is ∙ over_at_length left size digits at n digit (drop (at + 1) digits) so_far low over

-- a digit that makes the words more than they may be together
past_at_length : (left size : ℕ) (digits : Bytes) (at n digit : ℕ) (rest : Bytes) → LengthSoFar size digits at n → ((0 < at) × (n ≢ 0)) ⊎ (at ≤ 0) → digit ≤ 9 → 10 * n + digit ≤ WORD_BYTES_MAX → REQUEST_BYTES_MAX < size + (10 * n + digit) → front_from (length_place left size at n) ((48 + digit) ∷ rest) ≡ stream.Faulty RequestTooLarge
past_at_length left size digits zero n digit rest (inl h) some low fits past = length_first_past left size (48 + digit) rest (omega arith) (omega arith) (omega arith)
past_at_length left size digits zero n digit rest (inr h) some low fits past = absurd (omega arith)
past_at_length left size digits (suc at) n digit rest so_far (inr none) low fits past = absurd (omega arith)
past_at_length left size digits (suc at) n digit rest so_far (inl some) low fits past =
    length_past left size n (48 + digit) rest (omega (arith, some.1)) (omega arith) (omega arith) (omega arith) (omega arith)

pub length_too_large : (left size : ℕ) (bytes digits : Bytes) (at n digit : ℕ) → bytes ≡ 36 ∷ digits → LengthSoFar size digits at n → at < length digits → get_or digits at 0 ≡ 48 + digit → ((0 < at) × (n ≢ 0)) ⊎ (at ≤ 0) → digit ≤ 9 → 10 * n + digit ≤ WORD_BYTES_MAX → REQUEST_BYTES_MAX < size + (10 * n + digit) → front_from (Word left size) bytes ≡ stream.Faulty RequestTooLarge
length_too_large left size bytes digits at n digit e so_far lt is some low fits past =
    length_front_at left size bytes digits at n (48 + digit) e so_far lt is ∙ past_at_length left size digits at n digit (drop (at + 1) digits) so_far some low fits past

pub length_more : (size : ℕ) (digits : Bytes) (at n digit : ℕ) → LengthSoFar size digits at n → at < length digits → get_or digits at 0 ≡ 48 + digit → ((0 < at) × (n ≢ 0)) ⊎ (at ≤ 0) → digit ≤ 9 → 10 * n + digit ≤ WORD_BYTES_MAX → size + (10 * n + digit) ≤ REQUEST_BYTES_MAX → LengthSoFar size digits (at + 1) (10 * n + digit)
length_more size digits at n digit (inl h) lt is some low fits room = inr (omega arith, fits, room, first) where
  zero_is : 10 * n + digit ≡ digit
  zero_is = omega arith

  at_start : digits ≡ decimal digit ++ drop 1 digits
  at_start = digits_first digits digit (omega arith) (subst (λ (k : ℕ). get_or digits k 0 ≡ 48 + digit) h.0 is) low

  one_is : 1 ≡ at + 1
  one_is = omega arith

  first : digits ≡ decimal (10 * n + digit) ++ drop (at + 1) digits
  first = rw (zero_is, ← one_is) at_start
length_more size digits at n digit (inr h) lt is (inr none) low fits room = absurd (omega arith)
length_more size digits at n digit (inr h) lt is (inl some) low fits room =
    inr (omega arith, fits, room, digits_more digits at n digit lt is (omega (arith, some.1)) low (omega arith) h.3)

pub length_ends : (size : ℕ) (bytes digits rest : Bytes) (at n : ℕ) (line : Line) → bytes ≡ 36 ∷ digits → LengthSoFar size digits at n → 0 < at → at < length digits → get_or digits at 0 ≡ 13 → rest ≡ drop (at + 1) digits → TellsNumber n (at + 3) rest line → TellsLength size bytes line
length_ends size bytes digits rest at n line e (inl h) some lt cr is tells = absurd (omega arith)
length_ends size bytes digits rest at n (Number value width) e (inr h) some lt cr is tells =
    rw (tells.0, tells.1) (line_begins 36 n at bytes digits rest e h.3 lt cr is tells.2, h.1, h.2)
length_ends size bytes digits rest zero n Part e (inr h) some lt cr is tells = absurd (omega arith)
length_ends size bytes digits rest (suc at) n Part e (inr h) some lt cr is tells = (
  omega (arith, ap length e, length_few size digits (suc at) n (inr h), ap length is, ap length tells, length-drop (suc at + 1) digits),
  λ left. length_front_at left size bytes digits (suc at) n 13 e (inr h) lt cr ∙ ap (front_from (LengthEnd left size n)) (sym is ∙ tells),
)
length_ends size bytes digits rest zero n (Faulty fault) e (inr h) some lt cr is tells = absurd (omega arith)
length_ends size bytes digits rest (suc at) n (Faulty fault) e (inr h) some lt cr is tells =
    rw tells.0 (λ left. length_front_at left size bytes digits (suc at) n 13 e (inr h) lt cr ∙ (ap (front_from (LengthEnd left size n)) (sym is ∙ tells.1.2) ∙ length_end_due left size n tells.1.0 (drop 1 rest) tells.1.1))
