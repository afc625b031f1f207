-- A text of lines is cut into the lines that it was spelled of, and in no other way.
use Rattle.std.proofs.Common.{◌≡◌, ◌≢◌, ℕ, ◌+◌, ◌*◌, ◌<◌, ◌≤◌, Bool, true, false, List, [], ◌∷◌, ◌++◌, length, Option, Some, None, Result, Ok, Err, MatchResult, refl, sym, ap, ◌∙◌, subst, arith, append_assoc, append-nil, length-append, codes}
use Rattle.std.specs.Prelude.{IsErrAnd}
use Rattle.std.specs.Fmt.{decimal}
use Rattle.words.specs.declared.limits.TheConstants.{CLIENTS_MAX, STRIPES_MAX, FRAMES_MAX, BUCKETS_DEFAULT, PLACES_DEFAULT}
use Rattle.words.specs.declared.limits.Limits.{Limits}
use Rattle.words.specs.Store.{Bytes}
use Rattle.world_model.specs.declared.event.Event.{Event}
use Rattle.schedules.specs.Schedules.{spaced, line, lines, words_of, first_words, IsFirst, IsWithin, AreWithin, HasNoEvent, HasNoFirst, BeginsWith, GoesWrongAfter, IsBadLine, Later}
use Rattle.schedules.specs.Lines.{has, IsCut, IsLine, IsFirstLine, AreEvents, HasBadEvent}
use Rattle.schedules.proofs.Cuts.{cut_once, uncut, has-append}
use Rattle.schedules.proofs.Glyphs.{is_high, has-high, high-decimal}
use Rattle.schedules.proofs.Spellings.{shape, Two, Three}

feed_free : (xs : Bytes) → is_high xs ≡ true → has 10 xs ≡ false
feed_free xs h = has-high 10 xs (omega arith) h

spaced_free : (front back : Bytes) → has 10 front ≡ false → has 10 back ≡ false → has 10 (front ++ (32 ∷ back)) ≡ false
spaced_free front back p q = has-append 10 front (32 ∷ back) p q

-- no line feed stands in the words of an event, or of a first line
pub event_free : (limits : Limits) (e : Event) → IsWithin limits e → has 10 (spaced (words_of e)) ≡ false
event_free limits e within =
    elim (shape limits e within) [
      | Two n a are high low ↦ ap (λ ws. has 10 (spaced ws)) are ∙ spaced_free n a (feed_free n high) (feed_free a low)
      | Three n a b are high low last ↦ ap (λ ws. has 10 (spaced ws)) are
          ∙ spaced_free n (a ++ (32 ∷ b)) (feed_free n high) (spaced_free a b (feed_free a low) (feed_free b last))
    ]

number_free : (n most : ℕ) → n ≤ most → most ≤ 256 → has 10 (decimal n) ≡ false
number_free n most h small = feed_free (decimal n) (high-decimal n (omega arith))

pub first_free : (clients stripes frames : ℕ) → IsFirst clients stripes frames → has 10 (spaced (first_words clients stripes frames)) ≡ false
first_free clients stripes frames first =
    spaced_free (codes "world") (decimal clients ++ (32 ∷ (decimal stripes ++ (32 ∷ decimal frames)))) refl
    (spaced_free (decimal clients) (decimal stripes ++ (32 ∷ decimal frames)) (number_free clients CLIENTS_MAX first.clients_high (omega arith))
    (spaced_free (decimal stripes) (decimal frames) (number_free stripes STRIPES_MAX first.stripes_high (omega arith))
    (number_free frames FRAMES_MAX first.frames_high (omega arith))))

-- a line and what follows it, as it is cut
pub line_cut : (words : List Bytes) (more : Bytes) → line words ++ more ≡ spaced words ++ (10 ∷ more)
line_cut words more = append_assoc (spaced words) (10 ∷ []) more

-- THE NEXT EVENT

pub no_next : (limits : Limits) (text : Bytes) → has 10 text ≡ false → HasNoEvent limits text
no_next limits text without e more within is = uncut 10 text (spaced (words_of e)) more without (is ∙ line_cut (words_of e) more)

pub no_next_of : (limits : Limits) (text front back : Bytes) → IsCut 10 text front back → IsLine limits front None → HasNoEvent limits text
no_next_of limits text front back cut none e more within is =
    let parts =
    cut_once 10 front back (spaced (words_of e)) more cut.first (event_free limits e within)
    (sym cut.joined ∙ is ∙ line_cut (words_of e) more) in
    none e within parts.0

pub next_of : (limits : Limits) (text front back : Bytes) (e : Event) → IsCut 10 text front back → IsLine limits front (Some e)
    → IsWithin limits e × (text ≡ line (words_of e) ++ back)
next_of limits text front back e cut reading = (reading.0, cut.joined ∙ ap (λ x. x ++ (10 ∷ back)) reading.1 ∙ sym (line_cut (words_of e) back))

-- THE LINES OF EVENTS

pub lines_push : (events : List Event) (e : Event) → lines (events ++ e ∷ []) ≡ lines events ++ line (words_of e)
lines_push [] e = append-nil (line (words_of e))
lines_push (d ∷ events) e = ap (λ x. line (words_of d) ++ x) (lines_push events e) ∙ sym (append_assoc (line (words_of d)) (lines events) (line (words_of e)))

within_push : (limits : Limits) (events : List Event) (e : Event) → AreWithin limits events → IsWithin limits e → AreWithin limits (events ++ e ∷ [])
within_push limits [] e are is = (is, tt)
within_push limits (d ∷ events) e are is = (are.0, within_push limits events e are.1 is)

pub none_yet : (limits : Limits) (text : Bytes) → AreEvents limits text [] text
none_yet limits text = record { spelled = refl; within = tt }

pub one_more : (limits : Limits) (text : Bytes) (events : List Event) (rest : Bytes) (e : Event) (more : Bytes) → AreEvents limits text events rest
    → IsWithin limits e × (rest ≡ line (words_of e) ++ more) → AreEvents limits text (events ++ e ∷ []) more
one_more limits text events rest e more are next = record {
  spelled =
      are.spelled ∙ ap (λ x. lines events ++ x) next.1 ∙ sym (append_assoc (lines events) (line (words_of e)) more)
      ∙ ap (λ x. x ++ more) (sym (lines_push events e));
  within = within_push limits events e are.within next.0;
}

-- a line has two bytes at least
pub long_line : (limits : Limits) (e : Event) (more : Bytes) → IsWithin limits e → length more + 2 ≤ length (line (words_of e) ++ more)
long_line limits e more within =
    elim (shape limits e within) [
      | Two n a are high low ↦ (
          let len = length-append (line (words_of e)) more in
          let words = ap (λ ws. length (line ws)) are in
          let parts = length-append (n ++ (32 ∷ a)) (10 ∷ []) in
          let pair = length-append n (32 ∷ a) in
          omega arith
          )
      | Three n a b are high low last ↦ (
          let len = length-append (line (words_of e)) more in
          let words = ap (λ ws. length (line ws)) are in
          let parts = length-append (n ++ (32 ∷ (a ++ (32 ∷ b)))) (10 ∷ []) in
          let pair = length-append n (32 ∷ (a ++ (32 ∷ b))) in
          omega arith
          )
    ]

-- THE WHOLE TEXT

first_text : (limits : Limits) (text front back : Bytes) → IsCut 10 text front back → front ≡ spaced (first_words limits.clients limits.stripes limits.frames)
    → text ≡ line (first_words limits.clients limits.stripes limits.frames) ++ back
first_text limits text front back cut is =
    cut.joined ∙ ap (λ x. x ++ (10 ∷ back)) is ∙ sym (line_cut (first_words limits.clients limits.stripes limits.frames) back)

pub no_first_line : (text : Bytes) → has 10 text ≡ false → HasNoFirst text
no_first_line text without clients stripes frames rest first is =
    uncut 10 text (spaced (first_words clients stripes frames)) rest without (is ∙ line_cut (first_words clients stripes frames) rest)

pub no_first_line_of : (text front back : Bytes) → IsCut 10 text front back → IsFirstLine front None → HasNoFirst text
no_first_line_of text front back cut none clients stripes frames rest first is =
    let parts =
    cut_once 10 front back (spaced (first_words clients stripes frames)) rest cut.first (first_free clients stripes frames first)
    (sym cut.joined ∙ is ∙ line_cut (first_words clients stripes frames) rest) in
    none clients stripes frames first parts.0

pub whole : (limits : Limits) (text front back : Bytes) (events : List Event) (rest : Bytes) → IsCut 10 text front back → IsFirstLine front (Some limits)
    → AreEvents limits back events rest → BeginsWith text limits events rest
whole limits text front back events rest cut reading are = record {
  first = reading.0.0;
  buckets = reading.0.1;
  places = reading.0.2;
  spelled =
      first_text limits text front back cut reading.1
      ∙ ap (λ x. line (first_words limits.clients limits.stripes limits.frames) ++ x) are.spelled;
  within = are.within;
}

pub bad : (limits : Limits) (text front back : Bytes) (number : ℕ) → IsCut 10 text front back → IsFirstLine front (Some limits)
    → HasBadEvent limits back number → IsBadLine text number
bad limits text front back number cut reading wrong =
    Later limits wrong.events wrong.is (record {
      rest = wrong.rest;
      begins = whole limits text front back wrong.events wrong.rest cut reading wrong.are;
      goes_on = wrong.goes_on;
      wrong = wrong.wrong;
    })

-- what a result was whose error was changed, where it was no error
pub was_ok : {T E F : Type 0} (r : Result T E) (changed : Result T F) (x : T) (Q : E → F → Type 0) → changed ≡ Ok x
    → MatchResult r (λ y. changed ≡ Ok y) (λ e. IsErrAnd changed (Q e)) → r ≡ Ok x
was_ok (Ok y) changed x Q is cases = let e : x ≡ y = cc in ap Ok (sym e)
was_ok (Err e) (Ok y) x Q is cases = absurd cases
was_ok (Err e) (Err f) x Q is cases = absurd (cc is)
