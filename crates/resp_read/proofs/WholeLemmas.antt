-- A request that stands whole in one piece.
use Rattle.std.proofs.Common.{ℕ, ◌≡◌, ◌+◌, ◌≤◌, false, List, [], ◌∷◌, ◌++◌, length, take, drop, refl, sym, ap, ◌∙◌, arith, append_assoc, length-drop}
use Rattle.std.specs.List.{flat_map}
use Rattle.std.proofs.lemmas.List.{append-nil, drop-drop, drop-append-le, length-take-le}
use Rattle.words.specs.declared.limits.TheConstants.{WORDS_MAX}
use Rattle.words.specs.Store.{Bytes}
use Rattle.words.specs.Spelling.{header, bulk_string, spelling}
use Rattle.resp_read.specs.declared.reader.Step.TheVariants.{Gives}
use Rattle.resp_read.specs.Lines.{BeginsWithLine}
use Rattle.resp_read.specs.Looks.{HasWord, BeginsWithWords, BeginsWithRequest}
use Rattle.resp_read.specs.Pieces.{joined, without}
use Rattle.resp_read.specs.Taking.{Takes}
use Rattle.resp_read.specs.Unread.{Held, unread}
use Rattle.resp_read.proofs.PieceLemmas.{joined-without}
use Rattle.resp_read.proofs.RequestLemmas.{AreShort-push, bytes_of-push, flat_map-push}
use Rattle.resp_read.proofs.ReaderLemmas.{regroup, unread_between}

-- the line of a count and some words have been taken
pub none_taken : (bytes : Bytes) (count start : ℕ) → BeginsWithLine 42 count start bytes → BeginsWithWords bytes count [] start 0
none_taken bytes count start line = record {
  within = line.within;
  short = tt;
  together = refl;
  room = omega arith;
  begins = line.begins ∙ ap (λ (b : Bytes). b ++ drop start bytes) (sym (append-nil (header 42 count)));
}

pub one_more : (bytes rest word : Bytes) (count at size start long : ℕ) (words : List Bytes) → BeginsWithWords bytes count words at size → rest ≡ drop at bytes → HasWord rest size start long → word ≡ take long (drop start rest) → BeginsWithWords bytes count (words ++ word ∷ []) (at + (start + long + 2)) (size + long)
one_more bytes rest word count at size start long words taken rest_is next word_is = record {
  within = omega (arith, taken.within, next.within, ap length rest_is, length-drop at bytes);
  short = AreShort-push words word taken.short (omega (arith, long_is, next.short));
  together = bytes_of-push words word ∙ omega (arith, taken.together, long_is);
  room = next.room;
  begins = taken.begins ∙ (ap (λ (b : Bytes). (header 42 count ++ flat_map bulk_string words) ++ b) left_is ∙ (regroup (header 42 count) (flat_map bulk_string words) (bulk_string word) (drop (at + (start + long + 2)) bytes) ∙ ap (λ (b : Bytes). (header 42 count ++ b) ++ drop (at + (start + long + 2)) bytes) (sym (flat_map-push words word))));
}
  where
    long_is : length word ≡ long
    long_is = ap length word_is ∙ length-take-le long (drop start rest) (omega (arith, next.within, length-drop start rest))

    left_is : drop at bytes ≡ bulk_string word ++ drop (at + (start + long + 2)) bytes
    left_is =
        sym rest_is
        ∙ (next.begins
        ∙ (ap (λ (w : Bytes). bulk_string w ++ drop (start + long + 2) rest) (sym word_is) ∙ ap (λ (b : Bytes). bulk_string word ++ b) (ap (drop (start + long + 2)) rest_is ∙ drop-drop (start + long + 2) at bytes)))

pub all_taken : (bytes : Bytes) (count at size : ℕ) (words : List Bytes) → BeginsWithWords bytes count words at size → length words ≡ count → 1 ≤ count → count ≤ WORDS_MAX → BeginsWithRequest bytes words at
unfolding spelling
all_taken bytes count at size words taken all some most = record {
  request = record { some = omega (arith, all); most = omega (arith, all); short = taken.short; together = omega (arith, taken.together, taken.room) };
  within = taken.within;
  begins = taken.begins ∙ ap (λ (n : ℕ). (header 42 n ++ flat_map bulk_string words) ++ drop at bytes) (sym all);
}

-- it is taken off
pub whole_taken : (old new : Held) (oldest more : Bytes) (words : List Bytes) (width : ℕ) → old.count ≡ 0 → new.count ≡ 0 → new.words ≡ [] → new.lacks_memory ≡ false → joined old.pieces ≡ oldest ++ more → BeginsWithRequest oldest words width → new.pieces ≡ without width old.pieces → Takes old (Gives words) new
whole_taken old new oldest more words width none still no_words enough first request left_is = (request.request, spelled, record { many = width; left = left_is }, (still, no_words, enough)) where
  joined_is : joined new.pieces ≡ drop width oldest ++ more
  joined_is = ap joined left_is ∙ (joined-without width old.pieces ∙ (ap (drop width) first ∙ drop-append-le width oldest more request.within))

  spelled : unread old ≡ spelling words ++ unread new
  spelled =
      unread_between old none
      ∙ (first ∙ (ap (λ (b : Bytes). b ++ more) request.begins ∙ (append_assoc (spelling words) (drop width oldest) more ∙ ap (λ (b : Bytes). spelling words ++ b) (sym joined_is ∙ sym (unread_between new still)))))
