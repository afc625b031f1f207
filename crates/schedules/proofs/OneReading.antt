-- A text is a schedule, or has a first bad line, and never both.
use Rattle.std.proofs.Common.{◌≡◌, ◌≢◌, ℕ, ◌+◌, ◌<◌, ◌≤◌, false, List, [], ◌∷◌, ◌++◌, length, refl, sym, ap, ◌∙◌, subst, arith, append_assoc, append-nil, length-append, codes}
use Rattle.std.proofs.lemmas.Fmt.{decimal_injective}
use Rattle.std.specs.Fmt.{decimal}
use Rattle.words.specs.declared.limits.TheConstants.{CLIENTS_MAX, STRIPES_MAX, FRAMES_MAX}
use Rattle.words.specs.declared.limits.Limits.{Limits}
use Rattle.words.specs.Store.{Bytes}
use Rattle.world_model.specs.declared.event.Event.{Event}
use Rattle.world_model.specs.declared.event.Event.TheVariants as event
use Rattle.schedules.specs.Schedules.{spaced, line, lines, words_of, first_words, IsFirst, IsWithin, AreWithin, HasNoEvent, HasNoFirst, BeginsWith, IsSchedule, GoesWrongAfter, IsBadLine, First, Later}
use Rattle.schedules.specs.Lines.{has}
use Rattle.schedules.proofs.Cuts.{cut_once}
use Rattle.schedules.proofs.Glyphs.{has-high, high-decimal}
use Rattle.schedules.proofs.Texts.{event_free, first_free, line_cut, long_line}

-- limits with as many clients and stripes hold the same events
within_same : (limits others : Limits) → limits.clients ≡ others.clients → limits.stripes ≡ others.stripes → (e : Event) → IsWithin limits e → IsWithin others e
within_same limits others c s (event.Piece n bytes) w = (subst (λ m. n < m) c w.0, w.1, w.2, w.3)
within_same limits others c s (event.Close n) w = subst (λ m. n < m) c w
within_same limits others c s (event.Take n i) w = (subst (λ m. n < m) c w.0, subst (λ m. i < m) s w.1)
within_same limits others c s (event.Fetch n) w = subst (λ m. n < m) c w
within_same limits others c s (event.Commit n) w = subst (λ m. n < m) c w
within_same limits others c s (event.Give n i) w = (subst (λ m. n < m) c w.0, subst (λ m. i < m) s w.1)
within_same limits others c s (event.Copy i) w = subst (λ m. i < m) s w
within_same limits others c s (event.Write i) w = subst (λ m. i < m) s w
within_same limits others c s (event.Install i) w = subst (λ m. i < m) s w
within_same limits others c s (event.Drop i) w = subst (λ m. i < m) s w
within_same limits others c s (event.Unlink i) w = subst (λ m. i < m) s w
within_same limits others c s (event.Retire i) w = subst (λ m. i < m) s w
within_same limits others c s (event.Drain i) w = subst (λ m. i < m) s w
within_same limits others c s (event.Release i page) w = (subst (λ m. i < m) s w.0, w.1, w.2, w.3)

-- the lines of events that go on, and not with an event, are not the lines of others and nothing more
no_other : (limits others : Limits) → limits.clients ≡ others.clients → limits.stripes ≡ others.stripes → (events those : List Event) (rest : Bytes)
    → AreWithin limits events → AreWithin others those → rest ≢ [] → HasNoEvent limits rest → lines events ++ rest ≡ lines those ++ [] → ⊥
no_other limits others c s [] [] rest are were goes wrong is = goes is
no_other limits others c s [] (e ∷ those) rest are were goes wrong is =
    wrong e (lines those ++ []) (within_same others limits (sym c) (sym s) e were.0) (is ∙ append_assoc (line (words_of e)) (lines those) [])
no_other limits others c s (d ∷ events) [] rest are were goes wrong is =
    let long = long_line limits d (lines events ++ rest) are.0 in
    let len = ap length (sym (append_assoc (line (words_of d)) (lines events) rest) ∙ is) in
    omega arith
no_other limits others c s (d ∷ events) (e ∷ those) rest are were goes wrong is =
    let joined = sym (append_assoc (line (words_of d)) (lines events) rest) ∙ is ∙ append_assoc (line (words_of e)) (lines those) [] in
    let parts =
    cut_once 10 (spaced (words_of d)) (lines events ++ rest) (spaced (words_of e)) (lines those ++ []) (event_free limits d are.0) (event_free others e were.0)
    (sym (line_cut (words_of d) (lines events ++ rest)) ∙ joined ∙ line_cut (words_of e) (lines those ++ [])) in
    no_other limits others c s events those rest are.1 were.1 goes wrong parts.1

space_free : (n most : ℕ) → n ≤ most → most ≤ 256 → has 32 (decimal n) ≡ false
space_free n most h small = has-high 32 (decimal n) (omega arith) (high-decimal n (omega arith))

first_same : (c s f n m k : ℕ) → IsFirst c s f → IsFirst n m k → spaced (first_words c s f) ≡ spaced (first_words n m k) → (c ≡ n) × (s ≡ m)
first_same c s f n m k one other is =
    let named = cut_once 32 (codes "world") (decimal c ++ (32 ∷ (decimal s ++ (32 ∷ decimal f)))) (codes "world") (decimal n ++ (32 ∷ (decimal m ++ (32 ∷ decimal k)))) refl refl is in
    let clients =
    cut_once 32 (decimal c) (decimal s ++ (32 ∷ decimal f)) (decimal n) (decimal m ++ (32 ∷ decimal k))
    (space_free c CLIENTS_MAX one.clients_high (omega arith)) (space_free n CLIENTS_MAX other.clients_high (omega arith)) named.1 in
    let stripes =
    cut_once 32 (decimal s) (decimal f) (decimal m) (decimal k)
    (space_free s STRIPES_MAX one.stripes_high (omega arith)) (space_free m STRIPES_MAX other.stripes_high (omega arith)) clients.1 in (
      decimal_injective c n (omega (arith, one.clients_high)) (omega (arith, other.clients_high)) clients.0,
      decimal_injective s m (omega (arith, one.stripes_high)) (omega (arith, other.stripes_high)) stripes.0,
    )

wrong_after : (text : Bytes) (limits others : Limits) (events those : List Event) → IsSchedule text limits events → GoesWrongAfter text others those → ⊥
wrong_after text limits others events those schedule wrong =
    let here = first_words limits.clients limits.stripes limits.frames in
    let there = first_words others.clients others.stripes others.frames in
    let cut =
    cut_once 10 (spaced there) (lines those ++ wrong.rest) (spaced here) (lines events ++ [])
    (first_free others.clients others.stripes others.frames wrong.begins.first) (first_free limits.clients limits.stripes limits.frames schedule.first)
    (sym (line_cut there (lines those ++ wrong.rest)) ∙ sym wrong.begins.spelled ∙ schedule.spelled ∙ line_cut here (lines events ++ [])) in
    let same = first_same others.clients others.stripes others.frames limits.clients limits.stripes limits.frames wrong.begins.first schedule.first cut.0 in
    no_other others limits same.0 same.1 those events wrong.rest wrong.begins.within schedule.within wrong.goes_on wrong.wrong cut.1

-- a schedule has no bad line
pub no_bad_line : (text : Bytes) (limits : Limits) (events : List Event) (number : ℕ) → IsSchedule text limits events → IsBadLine text number → ⊥
no_bad_line text limits events number schedule (First is none) =
    none limits.clients limits.stripes limits.frames (lines events ++ []) schedule.first schedule.spelled
no_bad_line text limits events number schedule (Later others those is wrong) = wrong_after text limits others events those schedule wrong
