-- Which command a verb makes of its arguments, and a shape of the words after a name.
use Rattle.std.specs.Prelude.{ℤ, ◌≡◌, Bool, List, ◌++◌, Option, None, Some, Result, Err, option_map}
use Rattle.words.specs.declared.command.SessionCommand.{SessionCommand}
use Rattle.words.specs.declared.command.SessionCommand.TheVariants.{Multi, Exec, Discard, Unwatch, Quit}
use Rattle.words.specs.declared.command.Command.{Command}
use Rattle.words.specs.declared.command.Command.TheVariants.{Ping, Echo, Get, SetNx, GetSet, GetDel, StrLen, Exists, Del, Append, Add, Subtract, MGet, MSet, MSetNx, Rename}
use Rattle.words.specs.declared.shapes.KeyVerb.{KeyVerb}
use Rattle.words.specs.declared.shapes.KeyVerb.TheVariants as key
use Rattle.words.specs.declared.shapes.ValueVerb.{ValueVerb}
use Rattle.words.specs.declared.shapes.ValueVerb.TheVariants as value
use Rattle.words.specs.declared.shapes.NumberVerb.{NumberVerb}
use Rattle.words.specs.declared.shapes.NumberVerb.TheVariants as number
use Rattle.words.specs.declared.shapes.KeysVerb.{KeysVerb}
use Rattle.words.specs.declared.shapes.KeysVerb.TheVariants as keys
use Rattle.words.specs.declared.shapes.SettingsVerb.{SettingsVerb}
use Rattle.words.specs.declared.shapes.SettingsVerb.TheVariants as settings
use Rattle.words.specs.declared.shapes.LoneVerb.{LoneVerb}
use Rattle.words.specs.declared.shapes.LoneVerb.TheVariants as lone
use Rattle.words.specs.declared.shapes.Shape.{Shape}
use Rattle.words.specs.declared.shapes.Shape.TheVariants as shape
use Rattle.words.specs.declared.reply.Refusal.{Refusal}
use Rattle.words.specs.declared.reply.Refusal.TheVariants.{UnknownCommand}
use Rattle.words.specs.Store.{Bytes}
use Rattle.words.specs.Commands.{one_key, key_and_value, key_value_options, key_and_number, key_offset_value, key_start_end, two_keys, some_keys, some_settings, optional_text, one_text, watched_keys, alone, by_one, any_long, keys_set}

abbrev pub of_key_verb : KeyVerb → Bytes → Command
of_key_verb key.Get = Get
of_key_verb key.GetDel = GetDel
of_key_verb key.StrLen = StrLen
of_key_verb key.Increment = by_one Add
of_key_verb key.Decrement = by_one Subtract

abbrev pub of_value_verb : ValueVerb → Bytes → Bytes → Command
of_value_verb value.SetNx = SetNx
of_value_verb value.GetSet = GetSet
of_value_verb value.Append = Append

abbrev pub of_number_verb : NumberVerb → Bytes → ℤ → Command
of_number_verb number.Add = Add
of_number_verb number.Subtract = Subtract

abbrev pub of_keys_verb : KeysVerb → List Bytes → Command
of_keys_verb keys.Exists = Exists
of_keys_verb keys.Del = Del
of_keys_verb keys.MGet = MGet

abbrev pub of_settings_verb : SettingsVerb → List (Bytes × Bytes) → Command
of_settings_verb settings.MSet = MSet
of_settings_verb settings.MSetNx = MSetNx

abbrev pub of_lone_verb : LoneVerb → SessionCommand
of_lone_verb lone.Multi = Multi
of_lone_verb lone.Exec = Exec
of_lone_verb lone.Discard = Discard
of_lone_verb lone.Unwatch = Unwatch
of_lone_verb lone.Quit = Quit

-- what the words after a name make, where they are to have this shape
abbrev pub shaped : Shape → List Bytes → Result Command Refusal
shaped (shape.OneKey verb) = one_key (of_key_verb verb)
shaped (shape.KeyAndValue verb) = key_and_value (of_value_verb verb)
shaped shape.KeyValueOptions = key_value_options
shaped (shape.KeyAndNumber verb) = key_and_number (of_number_verb verb)
shaped shape.KeyOffsetValue = key_offset_value
shaped shape.KeyStartEnd = key_start_end
shaped shape.TwoKeys = two_keys Rename
shaped (shape.SomeKeys verb) = some_keys (of_keys_verb verb)
shaped (shape.SomeSettings verb) = some_settings (of_settings_verb verb)
shaped shape.OptionalText = optional_text Ping
shaped shape.OneText = one_text Echo
shaped shape.WatchedKeys = watched_keys
shaped (shape.Alone verb) = alone (of_lone_verb verb)
shaped shape.Unknown = λ arguments. Err UnknownCommand

-- whether one of the keys of settings is too long
abbrev pub any_long_set : Option (List (Bytes × Bytes)) → Option Bool
any_long_set settings = option_map (λ all. any_long (keys_set all)) settings

-- the new list is the old one and these settings, if they are some
abbrev pub Adds : List (Bytes × Bytes) → Option (List (Bytes × Bytes)) → List (Bytes × Bytes) → Type 0
Adds old None new = Unit {0}
Adds old (Some settings) new = new ≡ old ++ settings
