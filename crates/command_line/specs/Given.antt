-- What a command line gives for an option: a text or none, and the number that the text writes.
use Rattle.std.specs.Prelude.{ℕ, ◌≡◌, ◌<◌, ◌^◌, ◌⊎◌, List, Option, Some, None, codes}
use Rattle.std.specs.Str.Parse.{IsNumeral, digits_value, without_leading_plus}
use Rattle.clap.specs.Words.{found_of, one_text}
use Rattle.clap.specs.declared.parser.matches.ArgMatches.{ArgMatches}
use Rattle.words.specs.declared.limits.TheConstants.{BUCKETS_DEFAULT, CLIENTS_DEFAULT, FRAMES_DEFAULT, PLACES_DEFAULT, STRIPES_DEFAULT}
use Rattle.options.specs.Settings.{AreInRange}
use Rattle.options.specs.declared.Options.{Options}

-- The text that a parsed command line has for an option, or none.
abbrev pub text_in : ArgMatches → List ℕ → Option (List ℕ)
text_in matches option = one_text (found_of matches) option

-- There is a text, and this is the number that the text writes in decimal.
pub record Gives (given : Option (List ℕ)) (number : ℕ) : Type 0 where
  pub text : List ℕ
  pub has : given ≡ Some text
  pub numeral : IsNumeral 10 (without_leading_plus text)
  pub value : number ≡ digits_value 10 (without_leading_plus text)

-- No number below 2^64 is given, and this one stands for it then.
pub record LeavesOut (given : Option (List ℕ)) (default number : ℕ) : Type 0 where
  pub gives_none : (n : ℕ) → n < 2 ^ 64 → Gives given n → ⊥
  pub value : number ≡ default

-- The number of an option that may be left out.
abbrev pub GivesOrDefault : Option (List ℕ) → (default number : ℕ) → Type 0
GivesOrDefault given default number = Gives given number ⊎ LeavesOut given default number

-- The number that an option's text writes, where each text writes one: the default stands where there is no text.
abbrev pub IsGivenOrDefault : Option (List ℕ) → (default number : ℕ) → Type 0
IsGivenOrDefault given default number = Gives given number ⊎ ((given ≡ None) × (number ≡ default))

-- A parsed command line gives these numbers.
pub record GivesNumbers (matches : ArgMatches) (port accept stripes buckets frames places workers : ℕ) : Type 0 where
  pub gives_port : Gives (text_in matches (codes "port")) port
  pub gives_accept : Gives (text_in matches (codes "accept")) accept
  pub gives_stripes : GivesOrDefault (text_in matches (codes "stripes")) STRIPES_DEFAULT stripes
  pub gives_buckets : GivesOrDefault (text_in matches (codes "buckets")) BUCKETS_DEFAULT buckets
  pub gives_frames : GivesOrDefault (text_in matches (codes "frames")) FRAMES_DEFAULT frames
  pub gives_places : GivesOrDefault (text_in matches (codes "places")) PLACES_DEFAULT places
  pub gives_workers : GivesOrDefault (text_in matches (codes "workers")) CLIENTS_DEFAULT workers

-- The numbers of these options are those that a parsed command line gives.
abbrev pub HasGiven : ArgMatches → Options → Type 0
HasGiven matches o = GivesNumbers matches o.port o.accept o.stripes o.buckets o.frames o.places o.workers

-- A parsed command line gives numbers that lie in their ranges.
pub record IsInRange (matches : ArgMatches) : Type 0 where
  pub port : ℕ
  pub accept : ℕ
  pub stripes : ℕ
  pub buckets : ℕ
  pub frames : ℕ
  pub places : ℕ
  pub workers : ℕ
  pub numbers : GivesNumbers matches port accept stripes buckets frames places workers
  pub port_high : port < 2 ^ 16
  pub in_range : AreInRange accept stripes buckets frames places workers
