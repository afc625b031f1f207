-- What stands in a part of some bytes, and what stands in all of them.
use Rattle.std.proofs.Common.{ℕ, ◌≡◌, ◌+◌, ◌≤◌, ◌⊎◌, inl, inr, [], ◌∷◌, ◌++◌, length, take, drop, decimal, refl, sym, ap, subst, ◌∙◌, arith, append_assoc, length-append, length-drop}
use Rattle.std.proofs.lemmas.Fmt.{length-decimal-le}
use Rattle.std.proofs.lemmas.List.{take-append-drop, drop-append-le, take-append-le, drop-drop, length-take-le, take_all}
use Rattle.words.specs.declared.limits.TheConstants.{WORD_BYTES_MAX, REQUEST_BYTES_MAX}
use Rattle.words.specs.declared.reply.ProtocolFault.{ProtocolFault}
use Rattle.words.specs.Store.{Bytes}
use Rattle.words.specs.Spelling.{header, crlf, bulk_string}
use Rattle.words.specs.Stream.{Place, First, Step, Goes, Ends, Fails, Word, Data, Front, Part, Faulty, front, front_from, front_after, step}
use Rattle.resp_read.specs.declared.lines.Line.{Line}
use Rattle.resp_read.specs.declared.lines.Line.TheVariants as line
use Rattle.resp_read.specs.Lines.{BeginsWithLine, TellsCount, TellsLength}
use Rattle.resp_read.specs.Looks.{HasWord}
use Rattle.resp_read.proofs.Headers.{length_line_leads}
use Rattle.resp_read.proofs.DataLemmas.{data_skips}
use Rattle.resp_read.proofs.Steps.{data_part}

-- a line is short
pub line_is_short : (sign value width : ℕ) (bytes : Bytes) → BeginsWithLine sign value width bytes → value ≤ WORD_BYTES_MAX → width ≤ 8
unfolding header
line_is_short sign value width bytes line fits =
    omega (
      arith,
      line.within,
      ap length line.begins,
      length-append (header sign value) (drop width bytes),
      length-append (decimal value) crlf,
      length-drop width bytes,
      length-decimal-le 5 value (omega arith) (omega arith) (omega arith),
    )

-- what stands in front of more bytes
pub line_in_front : (sign value width : ℕ) (bytes part more : Bytes) → bytes ≡ part ++ more → BeginsWithLine sign value width part → BeginsWithLine sign value width bytes
line_in_front sign value width bytes part more e line = record {
  within = omega (arith, line.within, ap length e, length-append part more);
  some = line.some;
  begins = e ∙ (ap (λ (b : Bytes). b ++ more) line.begins ∙ (append_assoc (header sign value) (drop width part) more ∙ ap (λ (b : Bytes). header sign value ++ b) (sym (drop-append-le width part more line.within) ∙ ap (drop width) (sym e))));
}

-- what a byte does, where a fault stands further on
after_step : (does : Step) (go : Place → Front) (rest : Bytes) (other : Place → Front) (others : Bytes) (fault : ProtocolFault) → ((place : Place) → go place ≡ Faulty fault → other place ≡ Faulty fault) → front_after does go rest ≡ Faulty fault → front_after does other others ≡ Faulty fault
after_step (Goes place) go rest other others fault stays e = stays place e
after_step Ends go rest other others fault stays e = cc
after_step (Fails kind) go rest other others fault stays e = e

pub fault_stays : (place : Place) (bytes more : Bytes) (fault : ProtocolFault) → front_from place bytes ≡ Faulty fault → front_from place (bytes ++ more) ≡ Faulty fault
fault_stays place [] more fault e = cc
fault_stays place (byte ∷ bytes) more fault e =
    after_step (step place byte) (λ next. front_from next bytes) bytes (λ next. front_from next (bytes ++ more)) (bytes ++ more) fault (λ next. fault_stays next bytes more fault) e

pub count_fault : (bytes part more : Bytes) (fault : ProtocolFault) → bytes ≡ part ++ more → front part ≡ Faulty fault → front bytes ≡ Faulty fault
unfolding front
count_fault bytes part more fault e tells = ap (front_from First) e ∙ fault_stays First part more fault tells

-- a word in front of more bytes
pub word_in_front : (size start long : ℕ) (bytes part more : Bytes) → bytes ≡ part ++ more → HasWord part size start long → HasWord bytes size start long
word_in_front size start long bytes part more e word = record {
  line = word.line;
  within = omega (arith, word.within, ap length e, length-append part more);
  short = word.short;
  room = word.room;
  begins = e ∙ (ap (λ (b : Bytes). b ++ more) word.begins ∙ (append_assoc (bulk_string (take long (drop start part))) (drop (start + long + 2) part) more ∙ both));
}
  where
    rest_is : drop (start + long + 2) bytes ≡ drop (start + long + 2) part ++ more
    rest_is = ap (drop (start + long + 2)) e ∙ drop-append-le (start + long + 2) part more word.within

    word_is : take long (drop start bytes) ≡ take long (drop start part)
    word_is =
        ap (λ (b : Bytes). take long (drop start b)) e
        ∙ (ap (take long) (drop-append-le start part more (omega (arith, word.within))) ∙ take-append-le long (drop start part) more (omega (arith, word.within, length-drop start part)))

    both : bulk_string (take long (drop start part)) ++ (drop (start + long + 2) part ++ more) ≡ bulk_string (take long (drop start bytes)) ++ drop (start + long + 2) bytes
    both = ap (λ (w : Bytes). bulk_string w ++ (drop (start + long + 2) part ++ more)) (sym word_is) ∙ ap (λ (r : Bytes). bulk_string (take long (drop start bytes)) ++ r) (sym rest_is)

-- a length line leads to the bytes of the word
pub line_leads : (left size value width : ℕ) (bytes : Bytes) → BeginsWithLine 36 value width bytes → value ≤ WORD_BYTES_MAX → size + value ≤ REQUEST_BYTES_MAX → front_from (Word left size) bytes ≡ front_from (Data left (size + value) value) (drop width bytes)
line_leads left size value width bytes line fits room = ap (front_from (Word left size)) line.begins ∙ length_line_leads left size value (drop width bytes) fits room

-- a length line, the bytes and their line end are a word
pub whole_word : (size value width : ℕ) (bytes rest : Bytes) → BeginsWithLine 36 value width bytes → value ≤ WORD_BYTES_MAX → size + value ≤ REQUEST_BYTES_MAX → rest ≡ drop width bytes → value + 2 ≤ length rest → rest ≡ take value rest ++ (crlf ++ drop (value + 2) rest) → HasWord bytes size width value
unfolding bulk_string
whole_word size value width bytes rest line fits room is long whole = record {
  line = line_is_short 36 value width bytes line fits;
  within = omega (arith, line.within, ap length is, length-drop width bytes);
  short = fits;
  room = room;
  begins = line.begins ∙ (ap (λ (b : Bytes). header 36 value ++ b) (sym is ∙ whole) ∙ spelled);
}
  where
    taken : Bytes
    taken = take value (drop width bytes)

    taken_is : take value rest ≡ take value (drop width bytes)
    taken_is = ap (take value) is

    value_is : value ≡ length (take value (drop width bytes))
    value_is = sym (length-take-le value (drop width bytes) (omega (arith, ap length is)))

    sum_is : width + (value + 2) ≡ width + value + 2
    sum_is = omega arith

    left_is : drop (value + 2) rest ≡ drop (width + value + 2) bytes
    left_is = ap (drop (value + 2)) is ∙ (drop-drop (value + 2) width bytes ∙ ap (λ (k : ℕ). drop k bytes) sum_is)

    spelled : header 36 value ++ (take value rest ++ (crlf ++ drop (value + 2) rest)) ≡ (header 36 (length (take value (drop width bytes))) ++ (take value (drop width bytes) ++ crlf)) ++ drop (width + value + 2) bytes
    spelled =
        ap (λ (k : ℕ). header 36 k ++ (take value rest ++ (crlf ++ drop (value + 2) rest))) value_is
        ∙ (ap (λ (w : Bytes). header 36 (length (take value (drop width bytes))) ++ (w ++ (crlf ++ drop (value + 2) rest))) taken_is
        ∙ (ap (λ (r : Bytes). header 36 (length (take value (drop width bytes))) ++ (take value (drop width bytes) ++ (crlf ++ r))) left_is
        ∙ sym (simp append_assoc)))

-- a part of some bytes in front of the others
front_part : (bytes part : Bytes) (few : ℕ) → part ≡ take few bytes → bytes ≡ part ++ drop few bytes
front_part bytes part few is = sym (take-append-drop few bytes) ∙ ap (λ (b : Bytes). b ++ drop few bytes) (sym is)

pub all_or : {few held enough : ℕ} (size : ℕ) → (few ≡ held) ⊎ (few ≡ enough) → held ≡ size → (few ≡ size) ⊎ (few ≡ enough)
all_or size (inl all) e = inl (all ∙ e)
all_or size (inr some) e = inr some

-- what stands at a place in the oldest piece
pub front_at : (at : ℕ) (bytes oldest more part : Bytes) → bytes ≡ oldest ++ more → at ≤ length oldest → part ≡ drop at oldest → drop at bytes ≡ part ++ more
front_at at bytes oldest more part e within is = ap (drop at) e ∙ (drop-append-le at oldest more within ∙ ap (λ (b : Bytes). b ++ more) (sym is))

-- the line of a count in a part of the bytes, which is all of them or more than a part of a line
pub count_in_front : (bytes part : Bytes) (few : ℕ) (tells : Line) → part ≡ take few bytes → few ≤ length bytes → (few ≡ length bytes) ⊎ (few ≡ 8) → TellsCount part tells → TellsCount bytes tells
count_in_front bytes part few (line.Number value width) is within most tells =
    (line_in_front 42 value width bytes part (drop few bytes) (front_part bytes part few is) tells.0, tells.1, tells.2)
count_in_front bytes part few line.Part is within (inl all) tells =
    let same : part ≡ bytes = is ∙ take_all few bytes (omega arith) in subst (λ (b : Bytes). TellsCount b line.Part) same tells
count_in_front bytes part few line.Part is within (inr enough) tells = absurd (omega (arith, tells.0, ap length is, length-take-le few bytes within))
count_in_front bytes part few (line.Faulty fault) is within most tells = count_fault bytes part (drop few bytes) fault (front_part bytes part few is) tells

-- the line of a length in a part of the bytes, which is all of them or more than a part of a line
pub length_in_front : (size : ℕ) (bytes part : Bytes) (few : ℕ) (tells : Line) → part ≡ take few bytes → few ≤ length bytes → (few ≡ length bytes) ⊎ (few ≡ 8) → TellsLength size part tells → TellsLength size bytes tells
length_in_front size bytes part few (line.Number value width) is within most tells =
    (line_in_front 36 value width bytes part (drop few bytes) (front_part bytes part few is) tells.0, tells.1, tells.2)
length_in_front size bytes part few line.Part is within (inl all) tells =
    let same : part ≡ bytes = is ∙ take_all few bytes (omega arith) in subst (λ (b : Bytes). TellsLength size b line.Part) same tells
length_in_front size bytes part few line.Part is within (inr enough) tells = absurd (omega (arith, tells.0, ap length is, length-take-le few bytes within))
length_in_front size bytes part few (line.Faulty fault) is within most tells =
    λ left. ap (front_from (Word left size)) (front_part bytes part few is) ∙ fault_stays (Word left size) part (drop few bytes) fault (tells left)

-- the end of a word of which the line has come
pub end_is_due : (size value width : ℕ) (bytes : Bytes) → BeginsWithLine 36 value width bytes → value ≤ WORD_BYTES_MAX → size + value ≤ REQUEST_BYTES_MAX → length bytes ≤ width + value → (left : ℕ) → front_from (Word left size) bytes ≡ Part
end_is_due size value width bytes line fits room few left =
    line_leads left size value width bytes line fits room ∙ data_part left (size + value) value (drop width bytes) (omega (arith, length-drop width bytes))

-- the bytes after those of the word
after_word : (value width : ℕ) (bytes : Bytes) → drop value (drop width bytes) ≡ drop (width + value) bytes
after_word value width bytes = drop-drop value width bytes

pub end_leads : (left size value width : ℕ) (bytes : Bytes) → BeginsWithLine 36 value width bytes → value ≤ WORD_BYTES_MAX → size + value ≤ REQUEST_BYTES_MAX → width + value ≤ length bytes → front_from (Word left size) bytes ≡ front_from (Data left (size + value) 0) (drop (width + value) bytes)
end_leads left size value width bytes line fits room within =
    line_leads left size value width bytes line fits room
    ∙ (data_skips left (size + value) value (drop width bytes) (omega (arith, length-drop width bytes)) ∙ ap (front_from (Data left (size + value) 0)) (after_word value width bytes))

-- what the two bytes after a word tell of it
pub end_tells_part : (size value width few : ℕ) (bytes part : Bytes) → BeginsWithLine 36 value width bytes → value ≤ WORD_BYTES_MAX → size + value ≤ REQUEST_BYTES_MAX → width + value ≤ length bytes → part ≡ take few (drop (width + value) bytes) → (few ≡ length (drop (width + value) bytes)) ⊎ (few ≡ 2) → few ≤ length (drop (width + value) bytes) → length part ≤ 1 → ((left size : ℕ) → front_from (Data left size 0) part ≡ Part) → (left : ℕ) → front_from (Word left size) bytes ≡ Part
end_tells_part size value width few bytes part line fits room within is (inl all) le short tells left =
    let same : part ≡ drop (width + value) bytes = is ∙ take_all few (drop (width + value) bytes) (omega arith) in
    end_leads left size value width bytes line fits room within ∙ (ap (front_from (Data left (size + value) 0)) (sym same) ∙ tells left (size + value))
end_tells_part size value width few bytes part line fits room within is (inr two) le short tells left =
    absurd (omega (arith, ap length is, length-take-le few (drop (width + value) bytes) le))

pub end_tells_fault : (size value width few : ℕ) (bytes part : Bytes) (fault : ProtocolFault) → BeginsWithLine 36 value width bytes → value ≤ WORD_BYTES_MAX → size + value ≤ REQUEST_BYTES_MAX → width + value ≤ length bytes → part ≡ take few (drop (width + value) bytes) → ((left size : ℕ) → front_from (Data left size 0) part ≡ Faulty fault) → (left : ℕ) → front_from (Word left size) bytes ≡ Faulty fault
end_tells_fault size value width few bytes part fault line fits room within is tells left =
    let rest : Bytes = drop (width + value) bytes in
    end_leads left size value width bytes line fits room within
    ∙ (ap (front_from (Data left (size + value) 0)) (front_part rest part few is) ∙ fault_stays (Data left (size + value) 0) part (drop few rest) fault (tells left (size + value)))

pub end_tells_whole : (size value width few : ℕ) (bytes part more : Bytes) → BeginsWithLine 36 value width bytes → value ≤ WORD_BYTES_MAX → size + value ≤ REQUEST_BYTES_MAX → width + value ≤ length bytes → part ≡ take few (drop (width + value) bytes) → few ≤ length (drop (width + value) bytes) → 2 ≤ length part → part ≡ crlf ++ more → HasWord bytes size width value
end_tells_whole size value width few bytes part more line fits room within is le long whole =
    whole_word size value width bytes (drop width bytes) line fits room refl
    (omega (arith, length-drop width bytes, length-drop (width + value) bytes, ap length is, length-take-le few (drop (width + value) bytes) le))
    (sym (take-append-drop value (drop width bytes)) ∙ ap (λ (r : Bytes). take value (drop width bytes) ++ r) (ends ∙ ap (λ (r : Bytes). crlf ++ r) (sym left_is)))
  where
    ends : drop value (drop width bytes) ≡ crlf ++ (more ++ drop few (drop (width + value) bytes))
    ends =
        after_word value width bytes ∙ (front_part (drop (width + value) bytes) part few is ∙ (ap (λ (b : Bytes). b ++ drop few (drop (width + value) bytes)) whole ∙ append_assoc crlf more (drop few (drop (width + value) bytes))))

    left_is : drop (value + 2) (drop width bytes) ≡ more ++ drop few (drop (width + value) bytes)
    left_is = sym (drop-drop 2 value (drop width bytes)) ∙ ap (drop 2) ends
