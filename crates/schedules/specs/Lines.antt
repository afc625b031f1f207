-- How a line is read: cut at spaces, its first word looked up, and its numbers and bytes read. (Private functions alone cite these.)
use Rattle.std.specs.Prelude.{ℕ, ◌≡◌, ◌≢◌, ◌+◌, ◌<◌, ◌==◌, Bool, false, ◌||◌, List, [], ◌∷◌, ◌++◌, length, Option, Some, None, MatchOption, codes, bytes_eq, if◌then◌else◌}
use Rattle.std.specs.Borrow.{Bor}
use Rattle.std.specs.Fmt.{decimal}
use Rattle.words.specs.declared.limits.TheConstants.{BUCKETS_DEFAULT, PLACES_DEFAULT}
use Rattle.words.specs.declared.limits.Limits.{Limits}
use Rattle.words.specs.Store.{Bytes}
use Rattle.world_model.specs.declared.event.Event.{Event}
use Rattle.world_model.specs.declared.event.Event.TheVariants as event
use Rattle.schedules.specs.declared.verbs.ClientVerb.{ClientVerb}
use Rattle.schedules.specs.declared.verbs.ClientVerb.TheVariants as client_verb
use Rattle.schedules.specs.declared.verbs.StripeVerb.{StripeVerb}
use Rattle.schedules.specs.declared.verbs.StripeVerb.TheVariants as stripe_verb
use Rattle.schedules.specs.declared.verbs.HoldVerb.{HoldVerb}
use Rattle.schedules.specs.declared.verbs.HoldVerb.TheVariants as hold_verb
use Rattle.schedules.specs.Schedules.{spaced, line, lines, words_of, first_words, IsFirst, IsWithin, AreWithin, HasNoEvent}

-- whether this byte is one of these
abbrev pub has : ℕ → Bytes → Bool
has byte [] = false
has byte (x ∷ xs) = (x == byte) || has byte xs

-- the text is cut in two at the first such byte
pub record IsCut (byte : ℕ) (text front back : Bytes) : Type 0 where
  pub joined : text ≡ front ++ (byte ∷ back)
  pub first : has byte front ≡ false

-- the number below `end` that a text spells, or none where it spells none
abbrev pub IsNumber : (end : ℕ) → Bytes → Option ℕ → Type 0
IsNumber end text result = MatchOption result ((n : ℕ) → n < end → text ≡ decimal n → ⊥) (λ n. (n < end) × (text ≡ decimal n))

-- the event within the limits that words spell, or none where they spell none
abbrev pub IsReading : Limits → List Bytes → Option Event → Type 0
IsReading limits words result =
    MatchOption result ((e : Event) → IsWithin limits e → words ≡ words_of e → ⊥) (λ e. IsWithin limits e × (words ≡ words_of e))

-- the event within the limits that a line without its line feed spells, or none where it spells none
abbrev pub IsLine : Limits → Bytes → Option Event → Type 0
IsLine limits text result =
    MatchOption result ((e : Event) → IsWithin limits e → text ≡ spaced (words_of e) → ⊥) (λ e. IsWithin limits e × (text ≡ spaced (words_of e)))

-- limits with these numbers of clients, stripes and frames, which are in range
abbrev pub AreFirst : Limits → Type 0
AreFirst limits = IsFirst limits.clients limits.stripes limits.frames × (limits.buckets ≡ BUCKETS_DEFAULT) × (limits.places ≡ PLACES_DEFAULT)

-- the limits that the words of a first line spell, or none where they spell none
abbrev pub IsFirstReading : List Bytes → Option Limits → Type 0
IsFirstReading words result =
    MatchOption result ((clients stripes frames : ℕ) → IsFirst clients stripes frames → words ≡ first_words clients stripes frames → ⊥)
    (λ limits. AreFirst limits × (words ≡ first_words limits.clients limits.stripes limits.frames))

-- the limits that a first line without its line feed spells, or none where it spells none
abbrev pub IsFirstLine : Bytes → Option Limits → Type 0
IsFirstLine text result =
    MatchOption result ((clients stripes frames : ℕ) → IsFirst clients stripes frames → text ≡ spaced (first_words clients stripes frames) → ⊥)
    (λ limits. AreFirst limits × (text ≡ spaced (first_words limits.clients limits.stripes limits.frames)))

-- the event at the front of a text and what follows its line, or none where there is none within the limits
abbrev pub IsNext : Limits → Bytes → Option (Event × Bor Bytes) → Type 0
IsNext limits text result =
    MatchOption result (HasNoEvent limits text) (λ next. IsWithin limits next.0 × (text ≡ line (words_of next.0) ++ next.1.now))

-- the text is the lines of these events, which are within the limits, and then this rest
pub record AreEvents (limits : Limits) (text : Bytes) (events : List Event) (rest : Bytes) : Type 0 where
  pub spelled : text ≡ lines events ++ rest
  pub within : AreWithin limits events

-- the first bad line of a text of lines after the first
pub record HasBadEvent (limits : Limits) (text : Bytes) (number : ℕ) : Type 0 where
  pub events : List Event
  pub rest : Bytes
  pub is : number ≡ length events + 2
  pub are : AreEvents limits text events rest
  pub goes_on : rest ≢ []
  pub wrong : HasNoEvent limits rest

-- the events of a client, by name
abbrev pub client_verb_named : Bytes → Option ClientVerb
client_verb_named name =
    if bytes_eq name (codes "close") then Some client_verb.Close
    else (if bytes_eq name (codes "fetch") then Some client_verb.Fetch
    else (if bytes_eq name (codes "commit") then Some client_verb.Commit
    else None))

abbrev pub event_of_client : ClientVerb → ℕ → Event
event_of_client client_verb.Close c = event.Close c
event_of_client client_verb.Fetch c = event.Fetch c
event_of_client client_verb.Commit c = event.Commit c

-- the events of a stripe, by name
abbrev pub stripe_verb_named : Bytes → Option StripeVerb
stripe_verb_named name =
    if bytes_eq name (codes "copy") then Some stripe_verb.Copy
    else (if bytes_eq name (codes "write") then Some stripe_verb.Write
    else (if bytes_eq name (codes "install") then Some stripe_verb.Install
    else (if bytes_eq name (codes "drop") then Some stripe_verb.Drop
    else (if bytes_eq name (codes "unlink") then Some stripe_verb.Unlink
    else (if bytes_eq name (codes "retire") then Some stripe_verb.Retire
    else (if bytes_eq name (codes "drain") then Some stripe_verb.Drain
    else None))))))

abbrev pub event_of_stripe : StripeVerb → ℕ → Event
event_of_stripe stripe_verb.Copy i = event.Copy i
event_of_stripe stripe_verb.Write i = event.Write i
event_of_stripe stripe_verb.Install i = event.Install i
event_of_stripe stripe_verb.Drop i = event.Drop i
event_of_stripe stripe_verb.Unlink i = event.Unlink i
event_of_stripe stripe_verb.Retire i = event.Retire i
event_of_stripe stripe_verb.Drain i = event.Drain i

-- the events of a client and a stripe, by name
abbrev pub hold_verb_named : Bytes → Option HoldVerb
hold_verb_named name =
    if bytes_eq name (codes "take") then Some hold_verb.Take
    else (if bytes_eq name (codes "give") then Some hold_verb.Give
    else None)

abbrev pub event_of_hold : HoldVerb → (c i : ℕ) → Event
event_of_hold hold_verb.Take c i = event.Take c i
event_of_hold hold_verb.Give c i = event.Give c i
