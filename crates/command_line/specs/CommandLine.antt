-- The command line of `garnetd`, and what words ask for by it. Which words a command takes, and what it reads in them, is
-- clap's: https://docs.rs/clap.
use Rattle.std.specs.Prelude.{◌≡◌, ◌≢◌, ◌⊎◌, List, [], ◌∷◌, Option, Some, None, true, codes, fold, pos, string_bytes}
use Rattle.clap.specs.Words.{App, Rule, Text, first_of, matches_of, new_app, new_rule, one_of, with_rule}
use Rattle.clap.specs.declared.builder.action.ArgAction.TheVariants.{Set}
use Rattle.clap.specs.declared.builder.value_parser.ValueParser.{ValueParser}
use Rattle.clap.specs.declared.builder.value_parser.ValueParser.TheVariants.{Signed, String, Unsigned}
use Rattle.words.specs.declared.limits.TheConstants.{BUCKETS_DEFAULT, BUCKETS_MAX, CLIENTS_DEFAULT, CLIENTS_MAX, FRAMES_DEFAULT, FRAMES_MAX, FRAMES_MIN}
use Rattle.words.specs.declared.limits.TheConstants.{PLACES_DEFAULT, PLACES_MAX, PLACES_MIN, STRIPES_DEFAULT, STRIPES_MAX}
use Rattle.options.specs.declared.TheConstants.{ACCEPT_MAX}
use Rattle.options.specs.declared.DeviceKind.{DeviceKind}
use Rattle.options.specs.declared.DeviceKind.TheVariants.{File, Memory}
use Rattle.options.specs.declared.Options.{Options}
use Rattle.command_line.specs.Given.{Gives, IsGivenOrDefault}

-- A command with this name that tells its version, and takes nothing more.
abbrev pub named : Text → App
named name = record (new_app name) { top = record (new_app name).top { has_version = true } }

-- The option `--NAME VALUE`, whose one value is what the parser takes.
abbrev pub option_of : Text → ValueParser → Rule
option_of name parser =
    record (new_rule name) { long = Some name; action = Some Set; value_names = 1; parser = Some parser }

-- An option that has to be there.
abbrev pub required : Rule → Rule
required option = record option { required = true }

-- A number of 16 bits.
abbrev pub port_option : Rule
port_option = required (option_of (codes "port") (Signed (pos 0) (pos 65535)))

-- A number from 1 to `ACCEPT_MAX`.
abbrev pub accept_option : Rule
accept_option = required (option_of (codes "accept") (Signed (pos 1) (pos ACCEPT_MAX)))

-- A number from 1 to `STRIPES_MAX`, or none.
abbrev pub stripes_option : Rule
stripes_option = option_of (codes "stripes") (Unsigned 1 STRIPES_MAX)

-- A number from 1 to `BUCKETS_MAX`, or none.
abbrev pub buckets_option : Rule
buckets_option = option_of (codes "buckets") (Unsigned 1 BUCKETS_MAX)

-- A number from `FRAMES_MIN` to `FRAMES_MAX`, or none.
abbrev pub frames_option : Rule
frames_option = option_of (codes "frames") (Unsigned FRAMES_MIN FRAMES_MAX)

-- A number from `PLACES_MIN` to `PLACES_MAX`, or none.
abbrev pub places_option : Rule
places_option = option_of (codes "places") (Unsigned PLACES_MIN PLACES_MAX)

-- A number from 1 to `CLIENTS_MAX`, or none.
abbrev pub workers_option : Rule
workers_option = option_of (codes "workers") (Unsigned 1 CLIENTS_MAX)

-- Any word, or none. Which device a word asks for `AsksForDevice` says.
abbrev pub device_option : Rule
device_option = option_of (codes "device") String

-- The options of `garnetd`.
abbrev pub options : List Rule
options = port_option ∷ accept_option ∷ stripes_option ∷ buckets_option ∷ frames_option ∷ places_option ∷ workers_option ∷ device_option ∷ []

-- The command line of `garnetd`.
unfoldable pub garnetd : App
garnetd = fold with_rule (named (codes "garnetd")) options

-- The text that words give for an option of `garnetd`, or none.
abbrev pub text_of : List Text → Text → Option Text
text_of words option = one_of option (matches_of garnetd words)

-- The word that words give for the device, or none.
abbrev pub device_word : List Text → Option Text
device_word words = first_of (codes "device") (matches_of garnetd words)

-- The device that a word asks for, which may be left out: memory where there is no word or it is `memory`, and else the file whose path the
-- word is.
abbrev pub AsksForDevice : Option Text → DeviceKind → Type 0
AsksForDevice word Memory = (word ≡ None) ⊎ (word ≡ Some (codes "memory"))
AsksForDevice word (File path) = (word ≡ Some (string_bytes path)) × (string_bytes path ≢ codes "memory")

-- Words ask for these options.
pub record AskFor (words : List Text) (options : Options) : Type 0 where
  pub port : Gives (text_of words (codes "port")) options.port
  pub accept : Gives (text_of words (codes "accept")) options.accept
  pub stripes : IsGivenOrDefault (text_of words (codes "stripes")) STRIPES_DEFAULT options.stripes
  pub buckets : IsGivenOrDefault (text_of words (codes "buckets")) BUCKETS_DEFAULT options.buckets
  pub frames : IsGivenOrDefault (text_of words (codes "frames")) FRAMES_DEFAULT options.frames
  pub places : IsGivenOrDefault (text_of words (codes "places")) PLACES_DEFAULT options.places
  pub workers : IsGivenOrDefault (text_of words (codes "workers")) CLIENTS_DEFAULT options.workers
  pub device : AsksForDevice (device_word words) options.device
