-- The command line of `replay`, and the file that words name by it. Which words a command takes, and what it reads in them,
-- is clap's: https://docs.rs/clap.
use Rattle.std.specs.Prelude.{List, Option, None, Some, true, bytes_eq, codes, if◌then◌else◌}
use Rattle.clap.specs.declared.builder.action.ArgAction.TheVariants.{SetTrue}
use Rattle.schedules.specs.declared.run.Shown.{Shown}
use Rattle.schedules.specs.declared.run.Shown.TheVariants.{Report, Trace}
use Rattle.schedules.specs.declared.until.Until.{Until}
use Rattle.schedules.specs.declared.until.Until.TheVariants.{Done, Rest}
use Rattle.clap.specs.Words.{App, Rule, Text, first_of, matches_of, new_app, new_rule, with_rule}

-- A command with this name that tells its version, and takes nothing more.
abbrev pub named : Text → App
named name = record (new_app name) { top = record (new_app name).top { has_version = true } }

-- A word that is no option, or none.
abbrev pub file_argument : Rule
file_argument = record (new_rule (codes "file")) { value_names = 1 }

-- A flag: its first value is the text "true" where it is given, and else "false".
abbrev pub trace_flag : Rule
trace_flag = record (new_rule (codes "trace")) { long = Some (codes "trace"); action = Some SetTrue }

abbrev pub finish_flag : Rule
finish_flag = record (new_rule (codes "finish")) { long = Some (codes "finish"); action = Some SetTrue }

-- The command line of `replay`.
unfoldable pub replay : App
replay = with_rule (with_rule (with_rule (named (codes "replay")) trace_flag) finish_flag) file_argument

-- The file that words name, or none.
abbrev pub file_named : List Text → Option Text
file_named words = first_of (codes "file") (matches_of replay words)

-- What is to be written where the flag has this value, if one.
abbrev pub shown_by : Option Text → Shown
shown_by None = Report
shown_by (Some value) = if bytes_eq value (codes "true") then Trace else Report

-- What words ask to be written.
abbrev pub shown_for : List Text → Shown
shown_for words = shown_by (first_of (codes "trace") (matches_of replay words))

-- When a run ends where the flag has this value, if one.
abbrev pub until_by : Option Text → Until
until_by None = Done
until_by (Some value) = if bytes_eq value (codes "true") then Rest else Done

-- When words ask a run to end.
abbrev pub until_for : List Text → Until
until_for words = until_by (first_of (codes "finish") (matches_of replay words))
