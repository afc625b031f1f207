-- Which file words name by the command line of `replay`, and how those that it does not take fail: each worked out by hand.
use Rattle.std.proofs.Common.{◌≡◌, List, [], ◌∷◌, Some, None, codes, refl, true}
use Rattle.clap.specs.Words.{Text, fault_of, takes}
use Rattle.clap.specs.declared.error.kind.ErrorKind.TheVariants.{ArgumentConflict, DisplayHelp, UnknownArgument}
use Rattle.clap.proofs.OnLiterals.{clap_on_literals}
use Rattle.schedules.specs.declared.run.Shown.TheVariants.{Report, Trace}
use Rattle.schedules.specs.declared.until.Until.TheVariants.{Done, Rest}
use Rattle.replaying.specs.CommandLine.{file_named, replay, shown_for, until_for}

-- the words after the program's name
abbrev line : List Text → List Text
line words = codes "replay" ∷ words

a_file_is_named : (takes replay (line (codes "a.schedule" ∷ [])) ≡ true) × (file_named (line (codes "a.schedule" ∷ [])) ≡ Some (codes "a.schedule"))
unfolding replay clap_on_literals
a_file_is_named = (refl, refl)

no_file_is_named : (takes replay (line []) ≡ true) × (file_named (line []) ≡ None)
unfolding replay clap_on_literals
no_file_is_named = (refl, refl)

two_files_are_too_many : fault_of replay (line (codes "one" ∷ codes "two" ∷ [])) ≡ UnknownArgument ∷ []
unfolding replay clap_on_literals
two_files_are_too_many = refl

help_is_asked_for : fault_of replay (line (codes "-h" ∷ [])) ≡ DisplayHelp ∷ []
unfolding replay clap_on_literals
help_is_asked_for = refl

a_report_is_asked_for : (shown_for (line []) ≡ Report) × (shown_for (line (codes "a.schedule" ∷ [])) ≡ Report)
unfolding replay clap_on_literals
a_report_is_asked_for = (refl, refl)

a_trace_is_asked_for : (shown_for (line (codes "--trace" ∷ [])) ≡ Trace) × (file_named (line (codes "--trace" ∷ [])) ≡ None)
unfolding replay clap_on_literals
a_trace_is_asked_for = (refl, refl)

a_trace_of_a_file_is_asked_for :
    (shown_for (line (codes "--trace" ∷ codes "a.schedule" ∷ [])) ≡ Trace)
    × (file_named (line (codes "--trace" ∷ codes "a.schedule" ∷ [])) ≡ Some (codes "a.schedule"))
unfolding replay clap_on_literals
a_trace_of_a_file_is_asked_for = (refl, refl)

a_trace_of_a_file_is_asked_for_behind_it :
    (shown_for (line (codes "a.schedule" ∷ codes "--trace" ∷ [])) ≡ Trace)
    × (file_named (line (codes "a.schedule" ∷ codes "--trace" ∷ [])) ≡ Some (codes "a.schedule"))
unfolding replay clap_on_literals
a_trace_of_a_file_is_asked_for_behind_it = (refl, refl)

two_flags_are_too_many : fault_of replay (line (codes "--trace" ∷ codes "--trace" ∷ [])) ≡ ArgumentConflict ∷ []
unfolding replay clap_on_literals
two_flags_are_too_many = refl

no_finish_is_asked_for : (until_for (line []) ≡ Done) × (until_for (line (codes "--trace" ∷ [])) ≡ Done)
unfolding replay clap_on_literals
no_finish_is_asked_for = (refl, refl)

a_finish_is_asked_for :
    (until_for (line (codes "--finish" ∷ codes "--trace" ∷ codes "a.schedule" ∷ [])) ≡ Rest)
    × (shown_for (line (codes "--finish" ∷ codes "--trace" ∷ codes "a.schedule" ∷ [])) ≡ Trace)
    × (file_named (line (codes "--finish" ∷ codes "--trace" ∷ codes "a.schedule" ∷ [])) ≡ Some (codes "a.schedule"))
unfolding replay clap_on_literals
a_finish_is_asked_for = (refl, refl, refl)
