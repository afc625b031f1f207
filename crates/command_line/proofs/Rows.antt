-- What words give by the command line of `garnetd`, and how those that it does not take fail: each worked out by hand.
use Rattle.std.proofs.Common.{◌≡◌, List, [], ◌∷◌, Some, None, codes, inl, inr, refl, true}
use Rattle.clap.specs.Words.{Text, fault_of, takes}
use Rattle.clap.specs.declared.error.kind.ErrorKind.TheVariants.{ArgumentConflict, DisplayHelp, DisplayVersion, MissingRequiredArgument, UnknownArgument, ValueValidation}
use Rattle.clap.proofs.OnLiterals.{clap_on_literals}
use Rattle.options.specs.declared.DeviceKind.TheVariants.{Memory}
use Rattle.command_line.specs.CommandLine.{AsksForDevice, device_word, garnetd, text_of}

-- the words after the program's name
abbrev line : List Text → List Text
line words = codes "garnetd" ∷ words

abbrev all_eight : List Text
all_eight = line (codes "--port" ∷ codes "65535" ∷ codes "--accept=1000000" ∷ codes "--stripes=64" ∷ codes "--buckets=65536" ∷ codes "--frames" ∷ codes "12"
    ∷ codes "--places=64" ∷ codes "--workers" ∷ codes "1" ∷ codes "--device" ∷ codes "memory" ∷ [])

abbrev two : List Text
two = line (codes "--accept=1" ∷ codes "--port=-0" ∷ [])

-- the two options that have to be there, and this word
abbrev with_word : Text → List Text
with_word word = line (codes "--port=0" ∷ codes "--accept=1" ∷ word ∷ [])

all_eight_are_taken : (takes garnetd all_eight ≡ true) × (fault_of garnetd all_eight ≡ [])
unfolding garnetd clap_on_literals
all_eight_are_taken = (refl, refl)

all_eight_are_read : (text_of all_eight (codes "port") ≡ Some (codes "65535")) × (text_of all_eight (codes "accept") ≡ Some (codes "1000000"))
    × (text_of all_eight (codes "stripes") ≡ Some (codes "64")) × (text_of all_eight (codes "buckets") ≡ Some (codes "65536"))
    × (text_of all_eight (codes "frames") ≡ Some (codes "12")) × (text_of all_eight (codes "places") ≡ Some (codes "64"))
    × (text_of all_eight (codes "workers") ≡ Some (codes "1")) × AsksForDevice (device_word all_eight) Memory
unfolding garnetd clap_on_literals
all_eight_are_read = (refl, refl, refl, refl, refl, refl, refl, inr refl)

-- a minus before a zero is no part of the text
two_are_enough : (takes garnetd two ≡ true) × (text_of two (codes "port") ≡ Some (codes "0")) × (text_of two (codes "stripes") ≡ None)
    × (text_of two (codes "frames") ≡ None) × AsksForDevice (device_word two) Memory × (fault_of garnetd two ≡ [])
unfolding garnetd clap_on_literals
two_are_enough = (refl, refl, refl, refl, inl refl, refl)

-- any word is taken for the device, the empty one too
a_path : (takes garnetd (with_word (codes "--device=Memory")) ≡ true) × (device_word (with_word (codes "--device=Memory")) ≡ Some (codes "Memory"))
unfolding garnetd clap_on_literals
a_path = (refl, refl)

no_path : (takes garnetd (with_word (codes "--device=")) ≡ true) × (device_word (with_word (codes "--device=")) ≡ Some [])
unfolding garnetd clap_on_literals
no_path = (refl, refl)

eleven_frames : fault_of garnetd (with_word (codes "--frames=11")) ≡ ValueValidation ∷ []
unfolding garnetd clap_on_literals
eleven_frames = refl

no_bucket : fault_of garnetd (with_word (codes "--buckets=0")) ≡ ValueValidation ∷ []
unfolding garnetd clap_on_literals
no_bucket = refl

too_many_places : fault_of garnetd (with_word (codes "--places=65537")) ≡ ValueValidation ∷ []
unfolding garnetd clap_on_literals
too_many_places = refl

port_is_missing : fault_of garnetd (line (codes "--accept=1" ∷ [])) ≡ MissingRequiredArgument ∷ []
unfolding garnetd clap_on_literals
port_is_missing = refl

port_is_too_high : fault_of garnetd (line (codes "--port=65536" ∷ codes "--accept=1" ∷ [])) ≡ ValueValidation ∷ []
unfolding garnetd clap_on_literals
port_is_too_high = refl

accept_is_too_high : fault_of garnetd (line (codes "--port=0" ∷ codes "--accept=1000001" ∷ [])) ≡ ValueValidation ∷ []
unfolding garnetd clap_on_literals
accept_is_too_high = refl

no_worker : fault_of garnetd (line (codes "--port=0" ∷ codes "--accept=1" ∷ codes "--workers=0" ∷ [])) ≡ ValueValidation ∷ []
unfolding garnetd clap_on_literals
no_worker = refl

port_stands_twice : fault_of garnetd (line (codes "--port=0" ∷ codes "--accept=1" ∷ codes "--port=0" ∷ [])) ≡ ArgumentConflict ∷ []
unfolding garnetd clap_on_literals
port_stands_twice = refl

colour_is_not_known : fault_of garnetd (line (codes "--colour=red" ∷ [])) ≡ UnknownArgument ∷ []
unfolding garnetd clap_on_literals
colour_is_not_known = refl

help_is_asked_for : (fault_of garnetd (line (codes "--help" ∷ [])) ≡ DisplayHelp ∷ []) × (fault_of garnetd (line (codes "-V" ∷ [])) ≡ DisplayVersion ∷ [])
unfolding garnetd clap_on_literals
help_is_asked_for = (refl, refl)
