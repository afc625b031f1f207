-- Words that are no event: where the bytes that they give are none, or too many or too few.
use Rattle.std.proofs.Common.{◌≡◌, ℕ, ◌+◌, ◌*◌, ◌<◌, ◌≤◌, ◌==◌, false, List, [], ◌∷◌, length, take, Option, Some, None, IsSome, IfSome, ◌↔◌, refl, sym, ap, ◌∙◌, subst, arith, codes}
use Rattle.std.proofs.lemmas.Fmt.{decimal_injective}
use Rattle.std.specs.Fmt.{decimal}
use Rattle.hex.specs.Hex.{encode_lower, lower_digits, IsBytes}
use Rattle.hex.proofs.HexLemmas.{length-encode_with}
use Rattle.words.specs.declared.limits.TheConstants.{CLIENTS_MAX, STRIPES_MAX, FRAMES_MAX, BUCKETS_DEFAULT, PLACES_DEFAULT}
use Rattle.words.specs.declared.limits.Limits.{Limits}
use Rattle.words.specs.Sizes.{AreInRange, HasNumbers}
use Rattle.words.specs.Store.{Bytes}
use Rattle.world_model.specs.ShownPages.{page_of}
use Rattle.world_model.specs.declared.event.Event.{Event}
use Rattle.world_model.specs.declared.event.Event.TheVariants as event
use Rattle.schedules.specs.declared.lines.TheConstants.{PIECE_BYTES_MAX}
use Rattle.schedules.specs.Schedules.{words_of, IsFirst, IsWithin}
use Rattle.schedules.specs.Lines.{IsReading, AreFirst, IsFirstReading}
use Rattle.schedules.proofs.ShownPages.{first_shown}

-- a spelling has two digits a byte
pub length-spelling : (text bytes : Bytes) → text ≡ encode_lower bytes → length text ≡ 2 * length bytes
length-spelling text bytes is = ap length is ∙ length-encode_with lower_digits bytes

pub no_piece : (limits : Limits) (client text : Bytes)
    → ((bytes : Bytes) → IsBytes bytes → 1 ≤ length bytes → length bytes ≤ PIECE_BYTES_MAX → text ≡ encode_lower bytes → ⊥)
    → IsReading limits (codes "piece" ∷ client ∷ text ∷ []) None
no_piece limits client text none (event.Piece c bytes) w is = none bytes w.1 w.2 w.3 (cc is)
no_piece limits client text none (event.Close c) w is = cc is
no_piece limits client text none (event.Take c i) w is = cc is
no_piece limits client text none (event.Fetch c) w is = cc is
no_piece limits client text none (event.Commit c) w is = cc is
no_piece limits client text none (event.Give c i) w is = cc is
no_piece limits client text none (event.Copy i) w is = cc is
no_piece limits client text none (event.Write i) w is = cc is
no_piece limits client text none (event.Install i) w is = cc is
no_piece limits client text none (event.Drop i) w is = cc is
no_piece limits client text none (event.Unlink i) w is = cc is
no_piece limits client text none (event.Retire i) w is = cc is
no_piece limits client text none (event.Drain i) w is = cc is
no_piece limits client text none (event.Release i page) w is = cc is

pub no_release : (limits : Limits) (stripe text : Bytes) → ((byte : ℕ) → byte < 256 → text ≡ encode_lower (byte ∷ []) → ⊥)
    → IsReading limits (codes "release" ∷ stripe ∷ text ∷ []) None
no_release limits stripe text none (event.Piece c bytes) w is = cc is
no_release limits stripe text none (event.Close c) w is = cc is
no_release limits stripe text none (event.Take c i) w is = cc is
no_release limits stripe text none (event.Fetch c) w is = cc is
no_release limits stripe text none (event.Commit c) w is = cc is
no_release limits stripe text none (event.Give c i) w is = cc is
no_release limits stripe text none (event.Copy i) w is = cc is
no_release limits stripe text none (event.Write i) w is = cc is
no_release limits stripe text none (event.Install i) w is = cc is
no_release limits stripe text none (event.Drop i) w is = cc is
no_release limits stripe text none (event.Unlink i) w is = cc is
no_release limits stripe text none (event.Retire i) w is = cc is
no_release limits stripe text none (event.Drain i) w is = cc is
no_release limits stripe text none (event.Release i page) w is =
    let spelled : text ≡ encode_lower (take 1 page) = cc is in
    none w.1 w.2 (spelled ∙ ap encode_lower (first_shown page w.1 w.3))

pub reads_piece : (limits : Limits) (n : ℕ) (client text bytes items : Bytes) → (n < limits.clients) × (client ≡ decimal n) → bytes ≡ items
    → IsBytes items × (text ≡ encode_lower items) → (length text == 0) ≡ false → length text ≤ 2 * PIECE_BYTES_MAX
    → IsReading limits (codes "piece" ∷ client ∷ text ∷ []) (Some (event.Piece n bytes))
reads_piece limits n client text bytes items number same are some most =
    let two = length-spelling text items are.1 in
    let len : length bytes ≡ length items = ap length same in
    let not_empty : 1 ≤ length bytes = grind arith in (
      (number.0, subst IsBytes (sym same) are.0, not_empty, omega arith),
      ap (λ x. codes "piece" ∷ x ∷ text ∷ []) number.1 ∙ ap (λ x. codes "piece" ∷ decimal n ∷ x ∷ []) (are.1 ∙ ap encode_lower (sym same)),
    )

pub reads_release : (limits : Limits) (i byte : ℕ) (stripe text page : Bytes) → (i < limits.stripes) × (stripe ≡ decimal i)
    → (byte < 256) × (text ≡ encode_lower (byte ∷ [])) → page ≡ page_of byte
    → IsReading limits (codes "release" ∷ stripe ∷ text ∷ []) (Some (event.Release i page))
reads_release limits i byte stripe text page number spelled shown = (
  (number.0, byte, spelled.0, shown),
  ap (λ x. codes "release" ∷ x ∷ text ∷ []) number.1
      ∙ ap (λ x. codes "release" ∷ decimal i ∷ x ∷ []) (spelled.1 ∙ ap encode_lower (sym (first_shown page byte shown))),
)

-- THE FIRST LINE

numbers_are : (limits : Limits) (c s f : ℕ) → AreInRange s BUCKETS_DEFAULT f PLACES_DEFAULT c → HasNumbers limits s BUCKETS_DEFAULT f PLACES_DEFAULT c → AreFirst limits
numbers_are limits c s f ranges numbers = (
  subst (λ n. IsFirst n limits.stripes limits.frames) (sym numbers.clients_are)
      (subst (λ n. IsFirst c n limits.frames) (sym numbers.stripes_are) (subst (λ n. IsFirst c s n) (sym numbers.frames_are) ranges)),
  numbers.buckets_are,
  numbers.places_are,
)

pub reads_first : (clients stripes frames : Bytes) (c s f : ℕ) (result : Option Limits)
    → (c < CLIENTS_MAX + 1) × (clients ≡ decimal c) → (s < STRIPES_MAX + 1) × (stripes ≡ decimal s) → (f < FRAMES_MAX + 1) × (frames ≡ decimal f)
    → (IsSome result ↔ AreInRange s BUCKETS_DEFAULT f PLACES_DEFAULT c) → IfSome result (λ limits. HasNumbers limits s BUCKETS_DEFAULT f PLACES_DEFAULT c)
    → IsFirstReading (codes "world" ∷ clients ∷ stripes ∷ frames ∷ []) result
reads_first clients stripes frames c s f (Some limits) one two three range numbers = (
  numbers_are limits c s f (range.0 refl) numbers,
  ap (λ x. codes "world" ∷ x ∷ stripes ∷ frames ∷ []) (one.1 ∙ ap decimal (sym numbers.clients_are))
      ∙ ap (λ x. codes "world" ∷ decimal limits.clients ∷ x ∷ frames ∷ []) (two.1 ∙ ap decimal (sym numbers.stripes_are))
      ∙ ap (λ x. codes "world" ∷ decimal limits.clients ∷ decimal limits.stripes ∷ x ∷ []) (three.1 ∙ ap decimal (sym numbers.frames_are)),
)
reads_first clients stripes frames c s f None one two three range numbers = λ n m k first is.
    let same_clients : clients ≡ decimal n = cc in
    let same_stripes : stripes ≡ decimal m = cc in
    let same_frames : frames ≡ decimal k = cc in
    let c_is : n ≡ c = decimal_injective n c (omega (arith, first.clients_high)) (omega arith) (sym same_clients ∙ one.1) in
    let s_is : m ≡ s = decimal_injective m s (omega (arith, first.stripes_high)) (omega arith) (sym same_stripes ∙ two.1) in
    let f_is : k ≡ f = decimal_injective k f (omega (arith, first.frames_high)) (omega arith) (sym same_frames ∙ three.1) in
    let here : AreInRange s BUCKETS_DEFAULT f PLACES_DEFAULT c =
    subst (λ x. IsFirst x s f) c_is (subst (λ x. IsFirst n x f) s_is (subst (λ x. IsFirst n m x) f_is first)) in
    absurd (cc (range.1 here))
