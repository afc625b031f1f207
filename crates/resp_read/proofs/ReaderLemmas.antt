-- What the reader holds, and how a count or a word is taken off.
use Rattle.std.proofs.Common.{ℕ, zero, suc, ◌≡◌, ◌+◌, ◌-◌, ◌<◌, ◌≤◌, ◌⊎◌, inl, inr, List, [], ◌∷◌, ◌++◌, length, take, drop, refl, sym, ap, subst, ◌∙◌, arith, append_assoc, length-append, length-drop, Bool, true, false, IsTrue, Result, Ok, Err, OnOk, IfOk}
use Rattle.std.specs.List.{flat_map}
use Rattle.std.proofs.lemmas.Bool.{false≢true}
use Rattle.std.proofs.lemmas.List.Concat.{flat_map-append}
use Rattle.std.proofs.lemmas.List.{drop-drop, length-take-le, length_push, append-nil}
use Rattle.words.specs.declared.limits.TheConstants.{REQUEST_BYTES_MAX}
use Rattle.words.specs.Store.{Bytes}
use Rattle.words.specs.Spelling.{header, bulk_string, spelling, bytes_of, AreShort, IsRequest}
use Rattle.words.specs.declared.word.TheConstants.{WORD_INLINE, WORDS_INLINE}
use Rattle.words.specs.Stream.{Word, Front, Whole, Part, front, front_from}
use Rattle.resp_read.specs.declared.reader.ReadFault.{ReadFault}
use Rattle.resp_read.specs.declared.reader.ReadFault.TheVariants.{Protocol, OutOfMemory}
use Rattle.resp_read.specs.declared.reader.Step.TheVariants.{Goes, Gives, Waits, Fails}
use Rattle.resp_read.specs.Faults.{TellsFault, IsTakenUpTo}
use Rattle.resp_read.specs.Lines.{BeginsWithLine}
use Rattle.resp_read.specs.Looks.{HasWord, HasWords}
use Rattle.resp_read.specs.Memory.{AreInline, FitInline, NeedsMemory}
use Rattle.resp_read.specs.Pieces.{joined, as_piece, without, AreFilled}
use Rattle.resp_read.specs.Taking.{Takes, TakesNext, GoesOn}
use Rattle.resp_read.specs.Unread.{Held, taken_off, unread, HasTakenOff, KeepsWords, IsPartOfOne, IsLeftOver, IsTakenUp, IsBetween, IsBegun}
use Rattle.resp_read.proofs.PieceLemmas.{joined-push, joined-without, without-without, filled_without}
use Rattle.resp_read.proofs.RequestLemmas.{words_lead, bulk_leads, begun_leads, AreShort-push, AreShort-append, bytes_of-push, bytes_of-append, flat_map-push, request_front}

pub regroup : (a b c d : Bytes) → (a ++ b) ++ (c ++ d) ≡ (a ++ (b ++ c)) ++ d
regroup a b c d = simp append_assoc

-- some words past the first bytes have been looked at
pub record HasLooked (bytes : Bytes) (from size seen at size_now : ℕ) : Type 0 where
  pub words : List Bytes
  pub within : at ≤ length bytes
  pub count : length words ≡ seen
  pub short : AreShort words
  pub together : size + bytes_of words ≡ size_now
  pub room : size_now ≤ REQUEST_BYTES_MAX
  pub begins : drop from bytes ≡ flat_map bulk_string words ++ drop at bytes

pub looked_at_none : (bytes : Bytes) (from size : ℕ) → from ≤ length bytes → size ≤ REQUEST_BYTES_MAX → HasLooked bytes from size 0 from size
looked_at_none bytes from size within room = record { words = []; within = within; count = refl; short = tt; together = omega arith; room = room; begins = refl }

pub looked_at_more : (bytes : Bytes) (from size seen at size_now start long : ℕ) → HasLooked bytes from size seen at size_now → HasWord (drop at bytes) size_now start long → HasLooked bytes from size (seen + 1) (at + (start + long + 2)) (size_now + long)
looked_at_more bytes from size seen at size_now start long so_far word = record {
  words = so_far.words ++ next ∷ [];
  within = omega (arith, so_far.within, word.within, length-drop at bytes);
  count = length_push so_far.words next ∙ ap (λ (k : ℕ). k + 1) so_far.count;
  short = AreShort-push so_far.words next so_far.short (omega (arith, long_is, word.short));
  together = omega (arith, bytes_of-push so_far.words next, long_is, so_far.together);
  room = word.room;
  begins = so_far.begins ∙ (ap (λ (r : Bytes). flat_map bulk_string so_far.words ++ r) (word.begins ∙ ap (λ (r : Bytes). bulk_string next ++ r) left_is) ∙ (sym (append_assoc (flat_map bulk_string so_far.words) (bulk_string next) (drop (at + (start + long + 2)) bytes)) ∙ ap (λ (b : Bytes). b ++ drop (at + (start + long + 2)) bytes) (sym (flat_map-push so_far.words next))));
}
  where
    next : Bytes
    next = take long (drop start (drop at bytes))

    long_is : length (take long (drop start (drop at bytes))) ≡ long
    long_is = length-take-le long (drop start (drop at bytes)) (omega (arith, word.within, length-drop start (drop at bytes)))

    left_is : drop (start + long + 2) (drop at bytes) ≡ drop (at + (start + long + 2)) bytes
    left_is = drop-drop (start + long + 2) at bytes

-- what stands at the front goes by what stands past the words that were looked at
pub looked_front : (bytes : Bytes) (from size seen at size_now due : ℕ) (what : Front) → HasLooked bytes from size seen at size_now → seen < due → ((left : ℕ) → front_from (Word left size_now) (drop at bytes) ≡ what) → (left : ℕ) × (due ≡ suc left) × (front_from (Word left size) (drop from bytes) ≡ what)
looked_front bytes from size seen at size_now due what so_far more tells = (due - 1, omega arith, front_is) where
  left : ℕ
  left = due - seen - 1

  sum_is : due - 1 ≡ length so_far.words + (due - seen - 1)
  sum_is = omega (arith, so_far.count)

  front_is : front_from (Word (due - 1) size) (drop from bytes) ≡ what
  front_is =
      ap (λ (k : ℕ). front_from (Word k size) (drop from bytes)) sum_is
      ∙ (ap (front_from (Word (length so_far.words + (due - seen - 1)) size)) so_far.begins
      ∙ (words_lead so_far.words (due - seen - 1) size (drop at bytes) so_far.short (omega (arith, so_far.together, so_far.room))
      ∙ (ap (λ (k : ℕ). front_from (Word (due - seen - 1) k) (drop at bytes)) so_far.together ∙ tells (due - seen - 1))))

pub looked_at_all : (bytes : Bytes) (from size seen at size_now due : ℕ) → HasLooked bytes from size seen at size_now → seen ≡ due → HasWords (drop from bytes) due size
looked_at_all bytes from size seen at size_now due so_far all = record {
  words = so_far.words;
  more = drop at bytes;
  count = so_far.count ∙ all;
  short = so_far.short;
  room = omega (arith, so_far.together, so_far.room);
  begins = so_far.begins;
}

-- a fact that holds whatever a call returned
pub on_ok_holds : {T E P : Type 0} (r : Result T E) → P → OnOk r P
on_ok_holds (Ok x) fact = fact
on_ok_holds (Err e) fact = tt

-- what is held, where a count has been taken off, or none
taken_off_some : (count : ℕ) (words : List Bytes) → 0 < count → taken_off count words ≡ header 42 count ++ flat_map bulk_string words
taken_off_some zero words some = absurd (omega arith)
taken_off_some (suc n) words some = refl

pub unread_begun : (held : Held) → 0 < held.count → unread held ≡ (header 42 held.count ++ flat_map bulk_string held.words) ++ joined held.pieces
unfolding unread
unread_begun held some = ap (λ (b : Bytes). b ++ joined held.pieces) (taken_off_some held.count held.words some)

pub unread_between : (held : Held) → held.count ≡ 0 → unread held ≡ joined held.pieces
unfolding unread
unread_between held none = ap (λ (n : ℕ). taken_off n held.words ++ joined held.pieces) none

pub unread_fed : (held : Held) (piece : Bytes) → unread (record held { pieces = held.pieces ++ as_piece piece }) ≡ unread held ++ piece
unfolding unread
unread_fed held piece =
    ap (λ (b : Bytes). taken_off held.count held.words ++ b) (joined-push held.pieces piece) ∙ sym (append_assoc (taken_off held.count held.words) (joined held.pieces) piece)

-- the state of a reader as it is seen
abbrev pub held_of : (due : ℕ) (words pieces : List Bytes) (lacks : Bool) → Held
held_of due words pieces lacks = record { count = due + length words; words = words; pieces = pieces; lacks_memory = lacks }

-- the line of a count is taken off
pub count_taken : (old : Held) (pieces : List Bytes) (value width : ℕ) (lacks : Bool) → old.count ≡ 0 → old.words ≡ [] → BeginsWithLine 42 value width (joined old.pieces) → 1 ≤ value → pieces ≡ without width old.pieces → Takes old Goes (held_of value old.words pieces lacks)
count_taken old pieces value width lacks none no_words line some left_is = (
  record { same = same; taken = record { many = width; left = left_is }; kept = record { more = []; words = sym (append-nil old.words); count = inl none } },
  omega (arith, ap length joined_is, length-drop width (joined old.pieces), line.some, line.within),
)
  where
    joined_is : joined pieces ≡ drop width (joined old.pieces)
    joined_is = ap joined left_is ∙ joined-without width old.pieces

    count_is : value + length old.words ≡ value
    count_is = omega (arith, ap length no_words)

    spelled : header 42 (value + length old.words) ++ flat_map bulk_string old.words ≡ header 42 value
    spelled =
        ap (λ (n : ℕ). header 42 n ++ flat_map bulk_string old.words) count_is
        ∙ (ap (λ (ws : List Bytes). header 42 value ++ flat_map bulk_string ws) no_words ∙ append-nil (header 42 value))

    same : unread (held_of value old.words pieces lacks) ≡ unread old
    same =
        unread_begun (held_of value old.words pieces lacks) (omega arith)
        ∙ (ap (λ (b : Bytes). b ++ joined pieces) spelled ∙ (ap (λ (b : Bytes). header 42 value ++ b) joined_is ∙ (sym line.begins ∙ sym (unread_between old none))))

-- what stands at the front goes by what stands where a word is due
pub begun_front : (due size : ℕ) (words pieces : List Bytes) (lacks : Bool) (what : Front) → IsBegun due size words → 0 < due → ((left : ℕ) → due ≡ suc left → front_from (Word left size) (joined pieces) ≡ what) → front (unread (held_of due words pieces lacks)) ≡ what
begun_front due size words pieces lacks what begun some tells =
    ap front (unread_begun (held_of due words pieces lacks) (omega arith))
    ∙ (begun_leads words (due + length words) (due - 1) (joined pieces) (omega arith) begun.most begun.short (omega (arith, begun.together, begun.room))
    ∙ (ap (λ (k : ℕ). front_from (Word (due - 1) k) (joined pieces)) begun.together ∙ tells (due - 1) (omega arith)))

-- the word that stands at the front
word_long : (bytes : Bytes) (size start long : ℕ) → HasWord bytes size start long → length (take long (drop start bytes)) ≡ long
word_long bytes size start long word = length-take-le long (drop start bytes) (omega (arith, word.within, length-drop start bytes))

pub word_leads : (bytes : Bytes) (size start long left : ℕ) → HasWord bytes size start long → front_from (Word (suc left) size) bytes ≡ front_from (Word left (size + long)) (drop (start + long + 2) bytes)
word_leads bytes size start long left word =
    ap (front_from (Word (suc left) size)) word.begins
    ∙ (bulk_leads left size (take long (drop start bytes)) (drop (start + long + 2) bytes) (omega (arith, word_long bytes size start long word, word.short)) (omega (arith, word_long bytes size start long word, word.room))
    ∙ ap (λ (k : ℕ). front_from (Word left (size + k)) (drop (start + long + 2) bytes)) (word_long bytes size start long word))

-- what stands at the front of a request with a word at the front that found no memory
pub refused_front : (due size start long : ℕ) (words pieces : List Bytes) (lacks : Bool) (what : Front) → IsBegun due size words → 0 < due → HasWord (joined pieces) size start long → ((left : ℕ) × (due - 1 ≡ suc left) × (front_from (Word left (size + long)) (drop (start + long + 2) (joined pieces)) ≡ what)) → front (unread (held_of due words pieces lacks)) ≡ what
refused_front due size start long words pieces lacks what begun some word tells =
    begun_front due size words pieces lacks what begun some (λ left is. at_left left is)
  where
    at_left : (left : ℕ) → due ≡ suc left → front_from (Word left size) (joined pieces) ≡ what
    at_left left is =
        let e : left ≡ suc tells.0 = omega (arith, tells.1) in
        ap (λ (k : ℕ). front_from (Word k size) (joined pieces)) e ∙ (word_leads (joined pieces) size start long tells.0 word ∙ tells.2)

-- the words of a request, one of which is long, or which are many
inline_there : (words : List Bytes) (word : Bytes) (others : List Bytes) → AreInline (words ++ word ∷ others) → length word ≤ WORD_INLINE
inline_there [] word others fit = fit.0
inline_there (first ∷ words) word others fit = inline_there words word others fit.1

too_large : (words : List Bytes) (word : Bytes) (others : List Bytes) → (WORD_INLINE < length word) ⊎ (WORDS_INLINE ≤ length words) → FitInline (words ++ word ∷ others) → ⊥
too_large words word others (inl long) fit = absurd (omega (arith, inline_there words word others fit.1))
too_large words word others (inr many) fit = absurd (omega (arith, fit.0, length-append words (word ∷ others)))

pub refused_whole : (due size start long : ℕ) (words pieces : List Bytes) (lacks : Bool) → IsBegun due size words → 0 < due → HasWord (joined pieces) size start long → (WORD_INLINE < long) ⊎ (WORDS_INLINE ≤ length words) → HasWords (drop (start + long + 2) (joined pieces)) (due - 1) (size + long) → NeedsMemory (unread (held_of due words pieces lacks))
unfolding spelling
refused_whole due size start long words pieces lacks begun some word large rest = record {
  words = words ++ next ∷ rest.words;
  more = rest.more;
  request = record {
    some = omega (arith, length-append words (next ∷ rest.words));
    most = omega (arith, length-append words (next ∷ rest.words), rest.count, begun.most);
    short = AreShort-append words (next ∷ rest.words) begun.short (omega (arith, word_long (joined pieces) size start long word, word.short), rest.short);
    together = omega (arith, bytes_of-append words (next ∷ rest.words), begun.together, word_long (joined pieces) size start long word, rest.room);
  };
  begins = spelled;
  large = too_large words next rest.words large_is;
}
  where
    next : Bytes
    next = take long (drop start (joined pieces))

    large_is : (WORD_INLINE < length (take long (drop start (joined pieces)))) ⊎ (WORDS_INLINE ≤ length words)
    large_is = subst (λ (k : ℕ). (WORD_INLINE < k) ⊎ (WORDS_INLINE ≤ length words)) (sym (word_long (joined pieces) size start long word)) large

    count_is : due + length words ≡ length (words ++ take long (drop start (joined pieces)) ∷ rest.words)
    count_is = omega (arith, length-append words (take long (drop start (joined pieces)) ∷ rest.words), rest.count)

    joined_is : joined pieces ≡ flat_map bulk_string (take long (drop start (joined pieces)) ∷ rest.words) ++ rest.more
    joined_is =
        word.begins ∙ (ap (λ (b : Bytes). bulk_string (take long (drop start (joined pieces))) ++ b) rest.begins ∙ sym (append_assoc (bulk_string (take long (drop start (joined pieces)))) (flat_map bulk_string rest.words) rest.more))

    spelled : unread (held_of due words pieces lacks) ≡ (header 42 (length (words ++ take long (drop start (joined pieces)) ∷ rest.words)) ++ flat_map bulk_string (words ++ take long (drop start (joined pieces)) ∷ rest.words)) ++ rest.more
    spelled =
        unread_begun (held_of due words pieces lacks) (omega arith)
        ∙ (ap (λ (b : Bytes). (header 42 (due + length words) ++ flat_map bulk_string words) ++ b) joined_is
        ∙ (ap (λ (n : ℕ). (header 42 n ++ flat_map bulk_string words) ++ (flat_map bulk_string (take long (drop start (joined pieces)) ∷ rest.words) ++ rest.more)) count_is
        ∙ (regroup (header 42 (length (words ++ take long (drop start (joined pieces)) ∷ rest.words))) (flat_map bulk_string words) (flat_map bulk_string (take long (drop start (joined pieces)) ∷ rest.words)) rest.more
        ∙ ap (λ (b : Bytes). (header 42 (length (words ++ take long (drop start (joined pieces)) ∷ rest.words)) ++ b) ++ rest.more) (sym (flat_map-append bulk_string words (take long (drop start (joined pieces)) ∷ rest.words))))))

-- words are due where a count has been taken off
pub due_some : (due size : ℕ) (words : List Bytes) → IsBegun due size words → 0 < due + length words → 0 < due
due_some zero size words begun some = absurd (omega (arith, ap length (begun.none refl)))
due_some (suc due) size words begun some = omega arith

pub word_is_there : (due size start long : ℕ) (words pieces : List Bytes) → IsBegun due size words → HasWord (joined pieces) (bytes_of words) start long → HasWord (joined pieces) size start long
word_is_there due size start long words pieces begun word = subst (λ (k : ℕ). HasWord (joined pieces) k start long) begun.together word

-- a part of a line or of a word is left
pub part_of_count : (held : Held) → held.count ≡ 0 → length (joined held.pieces) ≤ 6 → IsLeftOver false held.count held.words (joined held.pieces)
part_of_count held none few = subst (λ (n : ℕ). IsPartOfOne n held.words (joined held.pieces)) (sym none) few

part_after : (count size : ℕ) (words : List Bytes) (bytes : Bytes) → 0 < count → bytes_of words ≡ size → front_from (Word 0 size) bytes ≡ Part → IsPartOfOne count words bytes
part_after zero size words bytes some together tells = absurd (omega arith)
part_after (suc n) size words bytes some together tells = ap (λ (k : ℕ). front_from (Word 0 k) bytes) together ∙ tells

pub part_of_word : (due size : ℕ) (words pieces : List Bytes) → IsBegun due size words → 0 < due → front_from (Word 0 size) (joined pieces) ≡ Part → IsLeftOver false (due + length words) words (joined pieces)
part_of_word due size words pieces begun some tells = part_after (due + length words) size words (joined pieces) (omega arith) begun.together tells

-- or a word that found no memory
pub large_is_left : (due size start long : ℕ) (words pieces : List Bytes) → 0 < due → HasWord (joined pieces) size start long → (WORD_INLINE < long) ⊎ (WORDS_INLINE ≤ length words) → IsLeftOver true (due + length words) words (joined pieces)
large_is_left due size start long words pieces some word large = (
  omega arith,
  (
    take long (drop start (joined pieces)),
    drop (start + long + 2) (joined pieces),
    word.begins,
    subst (λ (k : ℕ). (WORD_INLINE < k) ⊎ (WORDS_INLINE ≤ length words)) (sym (word_long (joined pieces) size start long word)) large,
  ),
)

-- a word that found no memory is left only where one is due
pub due_where_refused : (refused : Bool) (count : ℕ) (words : List Bytes) (bytes : Bytes) → IsLeftOver refused count words bytes → IsTrue refused → 0 < count
due_where_refused true count words bytes left is = left.0
due_where_refused false count words bytes left is = absurd (false≢true is)

-- the note of it is kept only where a word is due
pub noted_begun : (due size : ℕ) (words : List Bytes) (refused : Bool) → IsBegun due size words → (IsTrue refused → 0 < due + length words) → due ≡ 0 → refused ≡ false
noted_begun due size words false begun some none = refl
noted_begun due size words true begun some none = absurd (omega (arith, none, some refl, ap length (begun.none none)))

pub unread_noted : (held : Held) (refused : Bool) → unread (record held { lacks_memory = refused }) ≡ unread held
unfolding unread
unread_noted held refused = refl

-- a word is taken off
pub record IsTaken (due size start long : ℕ) (words pieces words_new pieces_new : List Bytes) : Type 0 where
  pub begun : IsBegun due size words
  pub some : 0 < due
  pub there : HasWord (joined pieces) size start long
  pub words_are : words_new ≡ words ++ take long (drop start (joined pieces)) ∷ []
  pub left_are : pieces_new ≡ without (start + long + 2) pieces

taken_joined : (due size start long : ℕ) (words pieces words_new pieces_new : List Bytes) → IsTaken due size start long words pieces words_new pieces_new → joined pieces_new ≡ drop (start + long + 2) (joined pieces)
taken_joined due size start long words pieces words_new pieces_new taken = ap joined taken.left_are ∙ joined-without (start + long + 2) pieces

taken_count : (due size start long : ℕ) (words pieces words_new pieces_new : List Bytes) → IsTaken due size start long words pieces words_new pieces_new → length words_new ≡ length words + 1
taken_count due size start long words pieces words_new pieces_new taken = ap length taken.words_are ∙ length_push words (take long (drop start (joined pieces)))

taken_spelled : (n due size start long : ℕ) (words pieces words_new pieces_new : List Bytes) → IsTaken due size start long words pieces words_new pieces_new → (header 42 n ++ flat_map bulk_string words) ++ joined pieces ≡ (header 42 n ++ flat_map bulk_string words_new) ++ joined pieces_new
taken_spelled n due size start long words pieces words_new pieces_new taken =
    ap (λ (b : Bytes). (header 42 n ++ flat_map bulk_string words) ++ b) (taken.there.begins ∙ ap (λ (b : Bytes). bulk_string (take long (drop start (joined pieces))) ++ b) (sym (taken_joined due size start long words pieces words_new pieces_new taken)))
    ∙ (regroup (header 42 n) (flat_map bulk_string words) (bulk_string (take long (drop start (joined pieces)))) (joined pieces_new)
    ∙ (ap (λ (b : Bytes). (header 42 n ++ b) ++ joined pieces_new) (sym (flat_map-push words (take long (drop start (joined pieces))))) ∙ ap (λ (ws : List Bytes). (header 42 n ++ flat_map bulk_string ws) ++ joined pieces_new) (sym taken.words_are)))

taken_short : (due size start long : ℕ) (words pieces words_new pieces_new : List Bytes) → IsTaken due size start long words pieces words_new pieces_new → AreShort words_new × (bytes_of words_new ≡ size + long)
taken_short due size start long words pieces words_new pieces_new taken = (
  subst AreShort (sym taken.words_are) (AreShort-push words (take long (drop start (joined pieces))) taken.begun.short (omega (arith, long_is, taken.there.short))),
  ap bytes_of taken.words_are ∙ (bytes_of-push words (take long (drop start (joined pieces))) ∙ omega (arith, taken.begun.together, long_is)),
)
  where
    long_is : length (take long (drop start (joined pieces))) ≡ long
    long_is = word_long (joined pieces) size start long taken.there

pub taken_begun : (due size start long : ℕ) (words pieces words_new pieces_new : List Bytes) → IsTaken due size start long words pieces words_new pieces_new → 0 < due - 1 → IsBegun (due - 1) (size + long) words_new
taken_begun due size start long words pieces words_new pieces_new taken more = record {
  none = λ e. absurd (omega arith);
  most = omega (arith, taken.begun.most, taken_count due size start long words pieces words_new pieces_new taken);
  short = (taken_short due size start long words pieces words_new pieces_new taken).0;
  together = (taken_short due size start long words pieces words_new pieces_new taken).1;
  room = taken.there.room;
}

pub taken_goes : (due size start long : ℕ) (words pieces words_new pieces_new : List Bytes) (lacks : Bool) → IsTaken due size start long words pieces words_new pieces_new → 0 < due - 1 → Takes (held_of due words pieces lacks) Goes (held_of (due - 1) words_new pieces_new lacks)
taken_goes due size start long words pieces words_new pieces_new lacks taken more = (
  record { same = same; taken = record { many = start + long + 2; left = taken.left_are }; kept = record { more = take long (drop start (joined pieces)) ∷ []; words = taken.words_are; count = inr count_is } },
  omega (arith, ap length (taken_joined due size start long words pieces words_new pieces_new taken), length-drop (start + long + 2) (joined pieces), taken.there.within),
)
  where
    count_is : (due - 1) + length words_new ≡ due + length words
    count_is = omega (arith, taken.some, taken_count due size start long words pieces words_new pieces_new taken)

    same : unread (held_of (due - 1) words_new pieces_new lacks) ≡ unread (held_of due words pieces lacks)
    same =
        unread_begun (held_of (due - 1) words_new pieces_new lacks) (omega arith)
        ∙ (ap (λ (n : ℕ). (header 42 n ++ flat_map bulk_string words_new) ++ joined pieces_new) count_is
        ∙ (sym (taken_spelled (due + length words) due size start long words pieces words_new pieces_new taken) ∙ sym (unread_begun (held_of due words pieces lacks) (omega (arith, taken.some)))))

pub taken_gives : (due size start long : ℕ) (words pieces words_new pieces_new : List Bytes) (lacks : Bool) (new : Held) → IsTaken due size start long words pieces words_new pieces_new → due - 1 ≡ 0 → new.count ≡ 0 → new.words ≡ [] → new.lacks_memory ≡ false → new.pieces ≡ pieces_new → IsRequest words_new × (unread (held_of due words pieces lacks) ≡ spelling words_new ++ unread new) × HasTakenOff (held_of due words pieces lacks) new × IsBetween new
unfolding spelling
taken_gives due size start long words pieces words_new pieces_new lacks new taken last none no_words enough left_are = (
  record {
    some = omega (arith, taken_count due size start long words pieces words_new pieces_new taken);
    most = omega (arith, taken.begun.most, taken.some, taken_count due size start long words pieces words_new pieces_new taken);
    short = (taken_short due size start long words pieces words_new pieces_new taken).0;
    together = omega (arith, (taken_short due size start long words pieces words_new pieces_new taken).1, taken.there.room);
  },
  spelled,
  record { many = start + long + 2; left = left_are ∙ taken.left_are },
  (none, no_words, enough),
)
  where
    count_is : due + length words ≡ length words_new
    count_is = omega (arith, taken.some, taken_count due size start long words pieces words_new pieces_new taken)

    spelled : unread (held_of due words pieces lacks) ≡ (header 42 (length words_new) ++ flat_map bulk_string words_new) ++ unread new
    spelled =
        unread_begun (held_of due words pieces lacks) (omega (arith, taken.some))
        ∙ (taken_spelled (due + length words) due size start long words pieces words_new pieces_new taken
        ∙ (ap (λ (n : ℕ). (header 42 n ++ flat_map bulk_string words_new) ++ joined pieces_new) count_is ∙ ap (λ (b : Bytes). (header 42 (length words_new) ++ flat_map bulk_string words_new) ++ b) (ap joined (sym left_are) ∙ sym (unread_between new none))))

-- a step after others
pub taken_off_after : (old now new : Held) → HasTakenOff old now → HasTakenOff now new → HasTakenOff old new
taken_off_after old now new first second = record {
  many = first.many + second.many;
  left = second.left ∙ (ap (without second.many) first.left ∙ without-without second.many first.many old.pieces);
}

counts_after : (old now new : ℕ) → (old ≡ 0) ⊎ (now ≡ old) → (now ≡ 0) ⊎ (new ≡ now) → (old ≡ 0) ⊎ (new ≡ old)
counts_after old now new (inl none) second = inl none
counts_after old now new (inr same) (inl none) = inl (sym same ∙ none)
counts_after old now new (inr same) (inr still) = inr (still ∙ same)

pub keeps_after : (old now new : Held) → KeepsWords old now → KeepsWords now new → KeepsWords old new
keeps_after old now new first second = record {
  more = first.more ++ second.more;
  words = second.words ∙ (ap (λ (ws : List Bytes). ws ++ second.more) first.words ∙ append_assoc old.words first.more second.more);
  count = counts_after old.count now.count new.count first.count second.count;
}

pub goes_nowhere : (held : Held) → GoesOn held held
goes_nowhere held = record {
  same = refl;
  taken = record { many = 0; left = refl };
  kept = record { more = []; words = sym (append-nil held.words); count = inr refl };
}

pub goes_after : (old now new : Held) → GoesOn old now → GoesOn now new → GoesOn old new
goes_after old now new first second = record {
  same = second.same ∙ first.same;
  taken = taken_off_after old now new first.taken second.taken;
  kept = keeps_after old now new first.kept second.kept;
}

-- whether memory was refused is noted
pub goes_noted : (old now new : Held) (refused : Bool) → GoesOn old now → new ≡ record now { lacks_memory = refused } → GoesOn old new
goes_noted old now new refused so_far noted = subst (GoesOn old) (sym noted) still
  where
    still : GoesOn old (record now { lacks_memory = refused })
    still = record {
      same = unread_noted now refused ∙ so_far.same;
      taken = record { many = so_far.taken.many; left = so_far.taken.left };
      kept = record { more = so_far.kept.more; words = so_far.kept.words; count = so_far.kept.count };
    }

pub waits_after : (old now stepped new : Held) (refused : Bool) (words : List Bytes) → GoesOn old now → Takes now (Waits refused) stepped → new ≡ record stepped { lacks_memory = refused } → TakesNext old (Ok false) words new
waits_after old now stepped new refused words so_far waits noted = (
  goes_noted old stepped new refused (subst (GoesOn old) (sym waits.1) so_far) noted,
  ap front (sym so_far.same) ∙ waits.0,
  subst IsTakenUp (sym noted) waits.2,
)

pub fails_after : (old now stepped new : Held) (fault : ReadFault) (words : List Bytes) → GoesOn old now → Takes now (Fails fault) stepped → new ≡ record stepped { lacks_memory = false } → TakesNext old (Err fault) words new
fails_after old now stepped new fault words so_far fails noted = (
  goes_noted old stepped new false (subst (GoesOn old) (sym fails.1) so_far) noted,
  subst (λ (bytes : Bytes). TellsFault bytes fault) so_far.same fails.0,
  ap (λ (h : Held). h.lacks_memory) noted,
  subst (IsTakenUpTo fault) (sym noted) (still fault fails.2),
)
  where
    still : (fault : ReadFault) → IsTakenUpTo fault stepped → IsTakenUpTo fault (record stepped { lacks_memory = false })
    still (Protocol kind) up = tt
    still OutOfMemory up = up

pub gives_after : (old now new : Held) (words : List Bytes) → GoesOn old now → Takes now (Gives words) new → Takes old (Gives words) new
gives_after old now new words so_far gives = (gives.0, sym so_far.same ∙ gives.1, taken_off_after old now new so_far.taken gives.2, gives.3)

-- what is taken off leaves no piece empty
pub filled_after : (old new : Held) → HasTakenOff old new → AreFilled old.pieces → AreFilled new.pieces
filled_after old new taken filled = subst AreFilled (sym taken.left) (filled_without taken.many old.pieces filled)

pub next_takes_off : (old new : Held) (words : List Bytes) (result : Result Bool ReadFault) → TakesNext old result words new → HasTakenOff old new
next_takes_off old new words (Ok true) takes = takes.2
next_takes_off old new words (Ok false) takes = takes.0.taken
next_takes_off old new words (Err fault) takes = takes.0.taken

-- a request that is given stood at the front
pub given_front : (old new : Held) (words : List Bytes) → Takes old (Gives words) new → front (unread old) ≡ Whole (unread new)
given_front old new words gives = ap front gives.1 ∙ request_front words (unread new) gives.0

pub next_front : (old new : Held) (words : List Bytes) (result : Result Bool ReadFault) → TakesNext old result words new → IfOk result (λ given. IsTrue given → front (unread old) ≡ Whole (unread new))
next_front old new words (Ok true) takes = λ _. given_front old new words takes
next_front old new words (Ok false) takes = λ is. absurd (false≢true is)
next_front old new words (Err fault) takes = tt

-- a reader that holds nothing
pub unread_nothing : (held : Held) → held.count ≡ 0 → joined held.pieces ≡ [] → unread held ≡ []
unfolding unread
unread_nothing held none empty = rw (none, empty) refl

pub front_nothing : (held : Held) → unread held ≡ [] → front (unread held) ≡ Part
unfolding front
front_nothing held none = rw none refl

pub taken_up_nothing : (held : Held) → unread held ≡ [] → held.lacks_memory ≡ false → IsTakenUp held
unfolding unread header
taken_up_nothing held none enough = subst (λ (refused : Bool). IsLeftOver refused held.count held.words (joined held.pieces)) (sym enough) (part held.count none)
  where
    part : (n : ℕ) → taken_off n held.words ++ joined held.pieces ≡ [] → IsPartOfOne n held.words (joined held.pieces)
    part zero none = rw none (omega arith)
    part (suc n) none = absurd (omega (arith, ap length none))

-- the count of a request of which nothing is due
pub between_count : (due size : ℕ) (words : List Bytes) → IsBegun due size words → due ≡ 0 → due + length words ≡ 0
between_count due size words begun none = omega (arith, none, ap length (begun.none none))

-- pieces that have no bytes together
pub nothing_joined : (bytes : Bytes) → length bytes ≡ 0 → bytes ≡ []
nothing_joined [] none = refl
nothing_joined (byte ∷ bytes) none = absurd (omega (arith, none))

-- a reader that holds something
pub unread_counted : (held : Held) → (held.count ≡ 0 → ⊥) → 0 < length (unread held)
unfolding unread header
unread_counted held some = counted held.count some
  where
    counted : (n : ℕ) → (n ≡ 0 → ⊥) → 0 < length (taken_off n held.words ++ joined held.pieces)
    counted zero some = absurd (some refl)
    counted (suc n) some = omega arith

pub unread_pieces : (held : Held) → 0 < length (joined held.pieces) → 0 < length (unread held)
unfolding unread
unread_pieces held some = rw (length-append (taken_off held.count held.words) (joined held.pieces)) (omega (arith, some))

-- pieces that are filled and have no bytes are none
no_bytes : (taken : Bytes) (pieces : List Bytes) → AreFilled pieces → taken ++ joined pieces ≡ [] → pieces ≡ []
no_bytes taken [] filled none = refl
no_bytes taken (piece ∷ pieces) filled none =
    absurd (omega (arith, filled.0, length-append taken (piece ++ joined pieces), length-append piece (joined pieces), ap length none))

-- where nothing is unread there is no piece
pub no_pieces : (held : Held) → AreFilled held.pieces → unread held ≡ [] → held.pieces ≡ []
unfolding unread
no_pieces held filled none = no_bytes (taken_off held.count held.words) held.pieces filled none
