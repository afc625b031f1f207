-- A line is cut into the words that it was spelled of, and in no other way.
use Rattle.std.proofs.Common.{◌≡◌, ℕ, ◌+◌, ◌^◌, ◌<◌, ◌≤◌, Bool, true, false, List, [], ◌∷◌, ◌++◌, Option, Some, None, Result, Ok, Err, IfOk, refl, sym, ap, ◌∙◌, subst, take, arith, codes}
use Rattle.std.specs.Fmt.{decimal}
use Rattle.hex.specs.Hex.{encode_lower, IsBytes}
use Rattle.words.specs.declared.limits.TheConstants.{CLIENTS_MAX, STRIPES_MAX, FRAMES_MAX}
use Rattle.words.specs.declared.limits.Limits.{Limits}
use Rattle.words.specs.Store.{Bytes}
use Rattle.world_model.specs.declared.event.Event.{Event}
use Rattle.world_model.specs.declared.event.Event.TheVariants as event
use Rattle.schedules.specs.Schedules.{spaced, words_of, first_words, IsFirst, IsWithin}
use Rattle.schedules.specs.Lines.{has, IsCut, IsLine, IsReading, IsFirstLine, IsFirstReading}
use Rattle.schedules.proofs.Cuts.{cut_once, uncut, has-append}
use Rattle.schedules.proofs.Glyphs.{is_high, has-high, high-decimal, high-encode}
use Rattle.schedules.proofs.Hexes.{one_byte}
use Rattle.schedules.proofs.ShownPages.{first_shown}

-- an event has two words or three, of digits and letters
pub data Shape (words : List Bytes) : Type 0 where
  Two : (name first : Bytes) → words ≡ name ∷ first ∷ [] → is_high name ≡ true → is_high first ≡ true → Shape words
  Three : (name first second : Bytes) → words ≡ name ∷ first ∷ second ∷ [] → is_high name ≡ true → is_high first ≡ true → is_high second ≡ true → Shape words

of_client : (limits : Limits) (n : ℕ) → n < limits.clients → is_high (decimal n) ≡ true
of_client limits n h = let most = limits.clients_in_range in high-decimal n (omega arith)

of_stripe : (limits : Limits) (n : ℕ) → n < limits.stripes → is_high (decimal n) ≡ true
of_stripe limits n h = let most = limits.stripes_in_range in high-decimal n (omega arith)

pub shape : (limits : Limits) (e : Event) → IsWithin limits e → Shape (words_of e)
shape limits (event.Piece c bytes) w = Three (codes "piece") (decimal c) (encode_lower bytes) refl refl (of_client limits c w.0) (high-encode bytes w.1)
shape limits (event.Close c) w = Two (codes "close") (decimal c) refl refl (of_client limits c w)
shape limits (event.Take c i) w = Three (codes "take") (decimal c) (decimal i) refl refl (of_client limits c w.0) (of_stripe limits i w.1)
shape limits (event.Fetch c) w = Two (codes "fetch") (decimal c) refl refl (of_client limits c w)
shape limits (event.Commit c) w = Two (codes "commit") (decimal c) refl refl (of_client limits c w)
shape limits (event.Give c i) w = Three (codes "give") (decimal c) (decimal i) refl refl (of_client limits c w.0) (of_stripe limits i w.1)
shape limits (event.Copy i) w = Two (codes "copy") (decimal i) refl refl (of_stripe limits i w)
shape limits (event.Write i) w = Two (codes "write") (decimal i) refl refl (of_stripe limits i w)
shape limits (event.Install i) w = Two (codes "install") (decimal i) refl refl (of_stripe limits i w)
shape limits (event.Drop i) w = Two (codes "drop") (decimal i) refl refl (of_stripe limits i w)
shape limits (event.Unlink i) w = Two (codes "unlink") (decimal i) refl refl (of_stripe limits i w)
shape limits (event.Retire i) w = Two (codes "retire") (decimal i) refl refl (of_stripe limits i w)
shape limits (event.Drain i) w = Two (codes "drain") (decimal i) refl refl (of_stripe limits i w)
shape limits (event.Release i page) w =
    Three (codes "release") (decimal i) (encode_lower (take 1 page)) refl refl (of_stripe limits i w.0)
    (high-encode (take 1 page) (subst IsBytes (sym (first_shown page w.1 w.3)) (one_byte w.1 w.2)))

space_free : (xs : Bytes) → is_high xs ≡ true → has 32 xs ≡ false
space_free xs h = has-high 32 xs (omega arith) h

-- a line without a space is no event's
pub no_event : (limits : Limits) (text : Bytes) → has 32 text ≡ false → IsLine limits text None
no_event limits text without e within is =
    elim (shape limits e within) [
      | Two name first words n f ↦ uncut 32 text name first without (is ∙ ap spaced words)
      | Three name first second words n f s ↦ uncut 32 text name (first ++ (32 ∷ second)) without (is ∙ ap spaced words)
    ]

-- a line that is cut once
pub event_of_two : (limits : Limits) (text name words : Bytes) (result : Option Event) → IsCut 32 text name words → has 32 words ≡ false
    → IsReading limits (name ∷ words ∷ []) result → IsLine limits text result
event_of_two limits text name words (Some e) cut without reading = (reading.0, cut.joined ∙ ap spaced reading.1)
event_of_two limits text name words None cut without reading = λ e within is.
    elim (shape limits e within) [
      | Two n a are high low ↦ (
          let parts = cut_once 32 name words n a cut.first (space_free n high) (sym cut.joined ∙ is ∙ ap spaced are) in
          reading e within (ap (λ x. x ∷ words ∷ []) parts.0 ∙ ap (λ x. n ∷ x ∷ []) parts.1 ∙ sym are)
          )
      | Three n a b are high low last ↦ (
          let parts = cut_once 32 name words n (a ++ (32 ∷ b)) cut.first (space_free n high) (sym cut.joined ∙ is ∙ ap spaced are) in
          uncut 32 words a b without parts.1
          )
    ]

-- a line that is cut twice
pub event_of_three : (limits : Limits) (text name words first second : Bytes) (result : Option Event) → IsCut 32 text name words → IsCut 32 words first second
    → IsReading limits (name ∷ first ∷ second ∷ []) result → IsLine limits text result
event_of_three limits text name words first second (Some e) cut again reading =
    (reading.0, cut.joined ∙ ap (λ x. name ++ (32 ∷ x)) again.joined ∙ ap spaced reading.1)
event_of_three limits text name words first second None cut again reading = λ e within is.
    elim (shape limits e within) [
      | Two n a are high low ↦ (
          let parts = cut_once 32 name words n a cut.first (space_free n high) (sym cut.joined ∙ is ∙ ap spaced are) in
          uncut 32 a first second (space_free a low) (sym parts.1 ∙ again.joined)
          )
      | Three n a b are high low last ↦ (
          let parts = cut_once 32 name words n (a ++ (32 ∷ b)) cut.first (space_free n high) (sym cut.joined ∙ is ∙ ap spaced are) in
          let rest = cut_once 32 first second a b again.first (space_free a low) (sym again.joined ∙ parts.1) in
          reading e within (ap (λ x. x ∷ first ∷ second ∷ []) parts.0 ∙ ap (λ x. n ∷ x ∷ second ∷ []) rest.0 ∙ ap (λ x. n ∷ a ∷ x ∷ []) rest.1 ∙ sym are)
          )
    ]

-- THE FIRST LINE

of_first : (n most : ℕ) → n ≤ most → most ≤ 256 → has 32 (decimal n) ≡ false
of_first n most h small = space_free (decimal n) (high-decimal n (omega arith))

-- a line that is cut less than three times is no first line
pub no_first : (text : Bytes) → has 32 text ≡ false → IsFirstLine text None
no_first text without clients stripes frames first is = uncut 32 text (codes "world") _ without is

pub no_first_of_two : (text name words : Bytes) → IsCut 32 text name words → has 32 words ≡ false → IsFirstLine text None
no_first_of_two text name words cut without clients stripes frames first is =
    let parts = cut_once 32 name words (codes "world") (decimal clients ++ (32 ∷ (decimal stripes ++ (32 ∷ decimal frames)))) cut.first refl (sym cut.joined ∙ is) in
    uncut 32 words (decimal clients) (decimal stripes ++ (32 ∷ decimal frames)) without parts.1

pub no_first_of_three : (text name words one more : Bytes) → IsCut 32 text name words → IsCut 32 words one more → has 32 more ≡ false → IsFirstLine text None
no_first_of_three text name words one more cut again without clients stripes frames first is =
    let parts = cut_once 32 name words (codes "world") (decimal clients ++ (32 ∷ (decimal stripes ++ (32 ∷ decimal frames)))) cut.first refl (sym cut.joined ∙ is) in
    let rest =
    cut_once 32 one more (decimal clients) (decimal stripes ++ (32 ∷ decimal frames)) again.first (of_first clients CLIENTS_MAX first.clients_high (omega arith))
    (sym again.joined ∙ parts.1) in
    uncut 32 more (decimal stripes) (decimal frames) without rest.1

-- a line that is cut three times
pub first_of_four : (text name words one more two three : Bytes) (result : Option Limits) → IsCut 32 text name words → IsCut 32 words one more → IsCut 32 more two three
    → IsFirstReading (name ∷ one ∷ two ∷ three ∷ []) result → IsFirstLine text result
first_of_four text name words one more two three (Some limits) cut again last reading =
    (reading.0, cut.joined ∙ ap (λ x. name ++ (32 ∷ x)) (again.joined ∙ ap (λ x. one ++ (32 ∷ x)) last.joined) ∙ ap spaced reading.1)
first_of_four text name words one more two three None cut again last reading = λ clients stripes frames first is.
    let parts = cut_once 32 name words (codes "world") (decimal clients ++ (32 ∷ (decimal stripes ++ (32 ∷ decimal frames)))) cut.first refl (sym cut.joined ∙ is) in
    let rest =
    cut_once 32 one more (decimal clients) (decimal stripes ++ (32 ∷ decimal frames)) again.first (of_first clients CLIENTS_MAX first.clients_high (omega arith))
    (sym again.joined ∙ parts.1) in
    let ends =
    cut_once 32 two three (decimal stripes) (decimal frames) last.first (of_first stripes STRIPES_MAX first.stripes_high (omega arith))
    (sym last.joined ∙ rest.1) in
    reading clients stripes frames first (ap (λ x. x ∷ one ∷ two ∷ three ∷ []) parts.0 ∙ ap (λ x. codes "world" ∷ x ∷ two ∷ three ∷ []) rest.0
    ∙ ap (λ x. codes "world" ∷ decimal clients ∷ x ∷ three ∷ []) ends.0 ∙ ap (λ x. codes "world" ∷ decimal clients ∷ decimal stripes ∷ x ∷ []) ends.1)

pub event_of_three_ok : {E : Type 0} (limits : Limits) (text name words first second : Bytes) (result : Result (Option Event) E) → IsCut 32 text name words
    → IsCut 32 words first second → IfOk result (IsReading limits (name ∷ first ∷ second ∷ [])) → IfOk result (IsLine limits text)
event_of_three_ok limits text name words first second (Ok found) cut again reading = event_of_three limits text name words first second found cut again reading
event_of_three_ok limits text name words first second (Err fault) cut again reading = tt
