-- Whether an operation has its place in a history, as a test that computes: for rows.
use Rattle.std.proofs.Common.{◌≡◌, refl, ◌&&◌, ◌||◌}
use Rattle.std.specs.Prelude.{Bool, true, false, List, [], ◌∷◌, length, nat_lt, not}
use Rattle.std.proofs.lemmas.Bool.{ltb-false}
use Rattle.words.specs.declared.limits.TheConstants.{VALUE_BYTES_MAX}
use Rattle.words.specs.declared.command.Command.{Command}
use Rattle.words.specs.declared.command.Command.TheVariants.{Ping, Echo, Get, Set, SetGet, SetNx, GetSet, GetDel, StrLen, Exists, Del, Append, SetRange, GetRange, Add, Subtract, MGet, MSet, MSetNx, Rename, Session, Bad}
use Rattle.words.specs.declared.command.SessionCommand.TheVariants as session
use Rattle.words.specs.declared.command.SessionCommand.TheVariants.{Multi, Discard, Unwatch, Quit}
use Rattle.words.specs.declared.history.Operation.{Operation}
use Rattle.words.specs.declared.history.Operation.TheVariants.{Run, Watch, Exec}
use Rattle.words.specs.Store.{Bytes}
use Rattle.words.specs.Commands.{any_long, keys_of, touches_keys, MayBeQueued}
use Rattle.words.specs.Bounds.{AreValuesBounded, IsBounded, AreBounded, values_of}
use Rattle.words.specs.History.{HasPlace, MayAllBeQueued}
use Rattle.words.proofs.Bounded.{short_keys}

abbrev any_value_long : List Bytes → Bool
any_value_long [] = false
any_value_long (value ∷ values) = nat_lt VALUE_BYTES_MAX (length value) || any_value_long values

abbrev is_within : Command → Bool
is_within command = not (any_long (keys_of command) || any_value_long (values_of command))

abbrev may_be_queued : Command → Bool
may_be_queued (Session Unwatch) = true
may_be_queued (Session _) = false
may_be_queued _ = true

abbrev may_all_be : List Command → Bool
may_all_be [] = true
may_all_be (command ∷ commands) = may_be_queued command && (is_within command && may_all_be commands)

abbrev pub has_place : Operation → Bool
has_place (Run command) = touches_keys command && is_within command
has_place (Watch keys) = true
has_place (Exec commands pairs) = may_all_be commands

both : (one two : Bool) → (one && two) ≡ true → (one ≡ true) × (two ≡ true)
both true two e = (refl, e)
both false two e = absurd (cc e)

neither : (one two : Bool) → not (one || two) ≡ true → (one ≡ false) × (two ≡ false)
neither true two e = absurd (cc e)
neither false true e = absurd (cc e)
neither false false e = (refl, refl)

first_of_two : (one two : Bool) → (one || two) ≡ false → (one ≡ false) × (two ≡ false)
first_of_two true two e = absurd (cc e)
first_of_two false two e = (refl, e)

values_within : (values : List Bytes) → any_value_long values ≡ false → AreValuesBounded values
values_within [] short = tt
values_within (value ∷ values) short =
    let parts = first_of_two (nat_lt VALUE_BYTES_MAX (length value)) (any_value_long values) short in
    (ltb-false VALUE_BYTES_MAX (length value) parts.0, values_within values parts.1)

within : (command : Command) → is_within command ≡ true → IsBounded command
within command test =
    let parts = neither (any_long (keys_of command)) (any_value_long (values_of command)) test in
    record { keys = short_keys (keys_of command) parts.0; values = values_within (values_of command) parts.1 }

queued_place : (command : Command) → may_be_queued command ≡ true → MayBeQueued command
queued_place (Session Unwatch) e = tt
queued_place (Session Multi) e = absurd (cc e)
queued_place (Session session.Exec) e = absurd (cc e)
queued_place (Session Discard) e = absurd (cc e)
queued_place (Session (session.Watch keys)) e = absurd (cc e)
queued_place (Session Quit) e = absurd (cc e)
queued_place (Ping text) e = tt
queued_place (Echo text) e = tt
queued_place (Get key) e = tt
queued_place (Set key value when) e = tt
queued_place (SetGet key value when) e = tt
queued_place (SetNx key value) e = tt
queued_place (GetSet key value) e = tt
queued_place (GetDel key) e = tt
queued_place (StrLen key) e = tt
queued_place (Exists keys) e = tt
queued_place (Del keys) e = tt
queued_place (Append key value) e = tt
queued_place (SetRange key offset value) e = tt
queued_place (GetRange key start end) e = tt
queued_place (Add key n) e = tt
queued_place (Subtract key n) e = tt
queued_place (MGet keys) e = tt
queued_place (MSet settings) e = tt
queued_place (MSetNx settings) e = tt
queued_place (Rename key name) e = tt
queued_place (Bad refusal) e = tt

queued_places : (commands : List Command) → may_all_be commands ≡ true → MayAllBeQueued commands × AreBounded commands
queued_places [] e = (tt, tt)
queued_places (command ∷ commands) e =
    let parts = both (may_be_queued command) (is_within command && may_all_be commands) e in
    let more = both (is_within command) (may_all_be commands) parts.1 in
    let rest = queued_places commands more.1 in
    ((queued_place command parts.0, rest.0), (within command more.0, rest.1))

pub place_by : (operation : Operation) → has_place operation ≡ true → HasPlace operation
place_by (Run command) e = let parts = both (touches_keys command) (is_within command) e in (parts.0, within command parts.1)
place_by (Watch keys) e = tt
place_by (Exec commands pairs) e = queued_places commands e
