-- The words of a request: where they lead, and how they grow by a word.
use Rattle.std.proofs.Common.{ℕ, suc, ◌≡◌, ◌+◌, ◌-◌, ◌≤◌, List, [], ◌∷◌, ◌++◌, length, ap, ◌∙◌, arith, append_assoc}
use Rattle.std.specs.List.{flat_map}
use Rattle.std.proofs.lemmas.List.{append-nil}
use Rattle.std.proofs.lemmas.List.Concat.{flat_map-append}
use Rattle.words.specs.declared.limits.TheConstants.{WORDS_MAX, WORD_BYTES_MAX, REQUEST_BYTES_MAX}
use Rattle.words.specs.Store.{Bytes}
use Rattle.words.specs.Spelling.{header, crlf, bulk_string, spelling, bytes_of, AreShort, IsRequest}
use Rattle.words.specs.Stream as stream
use Rattle.words.specs.Stream.{Place, First, Front, Whole, front, front_from}
use Rattle.resp_read.proofs.Steps.{data_leads}
use Rattle.resp_read.proofs.Headers.{count_line_leads, length_line_leads}

-- a word as a bulk string leads to the next one, or ends the request
bulk_leads_to_end : (left size : ℕ) (word more : Bytes) → length word ≤ WORD_BYTES_MAX → size + length word ≤ REQUEST_BYTES_MAX → front_from (stream.Word left size) (bulk_string word ++ more) ≡ front_from (stream.Data left (size + length word) 0) (crlf ++ more)
unfolding bulk_string
bulk_leads_to_end left size word more short room =
    ap (front_from (stream.Word left size)) (append_assoc (header 36 (length word)) (word ++ crlf) more)
    ∙ (length_line_leads left size (length word) ((word ++ crlf) ++ more) short room
    ∙ (ap (front_from (stream.Data left (size + length word) (length word))) (append_assoc word crlf more) ∙ data_leads left (size + length word) word (crlf ++ more)))

pub bulk_leads : (left size : ℕ) (word more : Bytes) → length word ≤ WORD_BYTES_MAX → size + length word ≤ REQUEST_BYTES_MAX → front_from (stream.Word (suc left) size) (bulk_string word ++ more) ≡ front_from (stream.Word left (size + length word)) more
bulk_leads left size word more short room = bulk_leads_to_end (suc left) size word more short room

pub bulk_ends : (size : ℕ) (word more : Bytes) → length word ≤ WORD_BYTES_MAX → size + length word ≤ REQUEST_BYTES_MAX → front_from (stream.Word 0 size) (bulk_string word ++ more) ≡ Whole more
bulk_ends size word more short room = bulk_leads_to_end 0 size word more short room

-- words lead to the one after them
pub words_lead : (words : List Bytes) (left size : ℕ) (rest : Bytes) → AreShort words → size + bytes_of words ≤ REQUEST_BYTES_MAX → front_from (stream.Word (length words + left) size) (flat_map bulk_string words ++ rest) ≡ front_from (stream.Word left (size + bytes_of words)) rest
words_lead [] left size rest short room = place (omega arith) (omega arith) where
  place : {m n : ℕ} → m ≡ left → size ≡ n → front_from (stream.Word m size) rest ≡ front_from (stream.Word left n) rest
  place {m} {n} e f = ap (λ (k : ℕ). front_from (stream.Word k size) rest) e ∙ ap (λ (k : ℕ). front_from (stream.Word left k) rest) f
words_lead (word ∷ words) left size rest short room =
    let one_more : length (word ∷ words) + left ≡ suc (length words + left) = omega arith in
    let sum_is : (size + length word) + bytes_of words ≡ size + bytes_of (word ∷ words) = omega arith in
    ap (λ (k : ℕ). front_from (stream.Word k size) (flat_map bulk_string (word ∷ words) ++ rest)) one_more
    ∙ (ap (front_from (stream.Word (suc (length words + left)) size)) (append_assoc (bulk_string word) (flat_map bulk_string words) rest)
    ∙ (bulk_leads (length words + left) size word (flat_map bulk_string words ++ rest) short.0 (omega arith)
    ∙ (words_lead words left (size + length word) rest short.1 (omega arith) ∙ ap (λ (k : ℕ). front_from (stream.Word left k) rest) sum_is)))

-- the last words end the request
words_end : (word : Bytes) (words : List Bytes) (size : ℕ) (more : Bytes) → AreShort (word ∷ words) → size + bytes_of (word ∷ words) ≤ REQUEST_BYTES_MAX → front_from (stream.Word (length words) size) (flat_map bulk_string (word ∷ words) ++ more) ≡ Whole more
words_end word [] size more short room =
    ap (λ (r : Bytes). front_from (stream.Word 0 size) (r ++ more)) (append-nil (bulk_string word)) ∙ bulk_ends size word more short.0 (omega arith)
words_end word (next ∷ words) size more short room =
    ap (front_from (stream.Word (suc (length words)) size)) (append_assoc (bulk_string word) (flat_map bulk_string (next ∷ words)) more)
    ∙ (bulk_leads (length words) size word (flat_map bulk_string (next ∷ words) ++ more) short.0 (omega arith)
    ∙ words_end next words (size + length word) more short.1 (omega arith))

pub request_front : (words : List Bytes) (more : Bytes) → IsRequest words → front (spelling words ++ more) ≡ Whole more
unfolding spelling
request_front [] more request = absurd (omega (arith, request.some))
request_front (word ∷ words) more request =
    let less_one : length (word ∷ words) - 1 ≡ length words = omega arith in
    ap front (append_assoc (header 42 (length (word ∷ words))) (flat_map bulk_string (word ∷ words)) more)
    ∙ (count_line_leads (length (word ∷ words)) (flat_map bulk_string (word ∷ words) ++ more) (omega arith) request.most
    ∙ (ap (λ (k : ℕ). front_from (stream.Word k 0) (flat_map bulk_string (word ∷ words) ++ more)) less_one ∙ words_end word words 0 more request.short (omega (arith, request.together))))

-- the count and words of a request lead to its next word
pub begun_leads : (words : List Bytes) (count left : ℕ) (rest : Bytes) → length words + suc left ≡ count → count ≤ WORDS_MAX → AreShort words → bytes_of words ≤ REQUEST_BYTES_MAX → front ((header 42 count ++ flat_map bulk_string words) ++ rest) ≡ front_from (stream.Word left (bytes_of words)) rest
begun_leads words count left rest sum most short room = front_is where
  less_one : count - 1 ≡ length words + left
  less_one = omega arith

  none : 0 + bytes_of words ≡ bytes_of words
  none = omega arith

  front_is : front ((header 42 count ++ flat_map bulk_string words) ++ rest) ≡ front_from (stream.Word left (bytes_of words)) rest
  front_is =
      ap front (append_assoc (header 42 count) (flat_map bulk_string words) rest)
      ∙ (count_line_leads count (flat_map bulk_string words ++ rest) (omega arith) most
      ∙ (ap (λ (k : ℕ). front_from (stream.Word k 0) (flat_map bulk_string words ++ rest)) less_one
      ∙ (words_lead words left 0 rest short (omega arith) ∙ ap (λ (k : ℕ). front_from (stream.Word left k) rest) none)))

-- one more word
pub AreShort-push : (words : List Bytes) (word : Bytes) → AreShort words → length word ≤ WORD_BYTES_MAX → AreShort (words ++ word ∷ [])
AreShort-push [] word short fits = (fits, tt)
AreShort-push (first ∷ words) word short fits = (short.0, AreShort-push words word short.1 fits)

pub bytes_of-push : (words : List Bytes) (word : Bytes) → bytes_of (words ++ word ∷ []) ≡ bytes_of words + length word
bytes_of-push [] word = omega arith
bytes_of-push (first ∷ words) word = omega (arith, bytes_of-push words word)

pub flat_map-push : (words : List Bytes) (word : Bytes) → flat_map bulk_string (words ++ word ∷ []) ≡ flat_map bulk_string words ++ bulk_string word
flat_map-push words word =
    flat_map-append bulk_string words (word ∷ []) ∙ ap (λ (r : Bytes). flat_map bulk_string words ++ r) (append-nil (bulk_string word))

-- some more words
pub AreShort-append : (words others : List Bytes) → AreShort words → AreShort others → AreShort (words ++ others)
AreShort-append [] others short more = more
AreShort-append (first ∷ words) others short more = (short.0, AreShort-append words others short.1 more)

pub bytes_of-append : (words others : List Bytes) → bytes_of (words ++ others) ≡ bytes_of words + bytes_of others
bytes_of-append [] others = omega arith
bytes_of-append (first ∷ words) others = omega (arith, bytes_of-append words others)
