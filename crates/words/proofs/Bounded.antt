-- Keys and values within the limits: of the commands that requests are, of their writes, and of the store that a legal history leaves.
use Rattle.std.proofs.Common.{subst, arith, ◌^◌, ◌≤◌}
use Rattle.std.specs.Prelude.{ℕ, ℤ, pos, negsuc, ◌≡◌, ◌+◌, ◌-◌, Bool, true, false, ◌||◌, cond, List, [], ◌∷◌, ◌++◌, length, take, drop, replicate, Option, Some, None, option_map, Result, IfOk, refl, nat_lt, unwrap_or, if◌then◌else◌, ◌+ℤ◌, ◌-ℤ◌}
use Rattle.std.proofs.Common.{length-append, length-take, length-drop}
use Rattle.std.proofs.lemmas.List.{length-replicate}
use Rattle.std.specs.Str.{bytes_eq}
use Rattle.std.specs.Map.{update}
use Rattle.std.specs.Fmt.{signed_decimal}
use Rattle.std.proofs.lemmas.Fmt.{length_signed_le}
use Rattle.std.proofs.lemmas.Bool.{ltb-true, ltb-false}
use Rattle.words.specs.declared.limits.TheConstants.{KEY_BYTES_MAX, VALUE_BYTES_MAX}
use Rattle.words.specs.declared.command.Command.{Command}
use Rattle.words.specs.declared.command.Command.TheVariants.{Ping, Echo, Get, Set, SetGet, SetNx, GetSet, GetDel, StrLen, Exists, Del, Append, SetRange, GetRange, Add, Subtract, MGet, MSet, MSetNx, Rename, Session, Bad}
use Rattle.words.specs.declared.command.SessionCommand.{SessionCommand}
use Rattle.words.specs.declared.command.SessionCommand.TheVariants as session
use Rattle.words.specs.declared.command.When.{When}
use Rattle.words.specs.declared.reply.CommandReply.TheVariants.{One}
use Rattle.words.specs.declared.reply.Item.TheVariants as item
use Rattle.words.specs.declared.reply.Line.TheVariants.{Done}
use Rattle.words.specs.declared.reply.Refusal.{Refusal}
use Rattle.words.specs.declared.reply.Refusal.TheVariants.{KeyTooLong, StringTooLong, Overflow, NoSuchKey}
use Rattle.words.specs.declared.history.Operation.{Operation}
use Rattle.words.specs.declared.history.Operation.TheVariants.{Run, Watch, Exec}
use Rattle.words.specs.declared.history.Entry.{Entry}
use Rattle.words.specs.Store.{Bytes, Store, Write, written}
use Rattle.words.specs.Numbers.{in_range, number_of}
use Rattle.words.specs.Spelling.{AreShort}
use Rattle.words.specs.Commands.{Row, is_name, is_long, any_long, of_key, of_keys, with_number, alone, optional_text, one_text, one_key, key_and_value, options_of, set_with, key_value_options, key_and_number, set_range, key_offset_value, key_start_end, two_keys, some_keys, watched_keys, in_pairs, keys_set, of_settings, some_settings, by_one, table, command_in, command_of}
use Rattle.words.specs.Bounds.{AreKeysBounded, AreValuesBounded, values_set, IsBounded, AreBounded, IsStoreBounded, AreWritesBounded}
use Rattle.words.specs.Answers.{Answer, answer, answers, line, bulk, refused, number, is_some, any_there, deletions, writes_set, grown, set_range_answer, overlaid, changed, number_at, value_of, allows}
use Rattle.words.specs.History.{History, Legal, HasPlace, outcome, was_not_done, writes_of, after}

-- What the words of a request make is within the limits, where it is a command.

-- a test of a length that does not hold bounds it
short_key : (key : Bytes) → is_long key ≡ false → length key ≤ KEY_BYTES_MAX
short_key key short = ltb-false KEY_BYTES_MAX (length key) short

either_long : (one two : Bool) → (one || two) ≡ false → (one ≡ false) × (two ≡ false)
either_long true two e = absurd (cc e)
either_long false two e = (refl, e)

pub short_keys : (keys : List Bytes) → any_long keys ≡ false → AreKeysBounded keys
short_keys [] short = tt
short_keys (key ∷ keys) short =
    let parts = either_long (is_long key) (any_long keys) short in (short_key key parts.0, short_keys keys parts.1)

bad : (refusal : Refusal) → IsBounded (Bad refusal)
bad refusal = record { keys = tt; values = tt }

of_key_fine : (key : Bytes) (command : Command) → (length key ≤ KEY_BYTES_MAX → IsBounded command) → IfOk (of_key key command) IsBounded
of_key_fine key command fine =
    elim (is_long key) as (λ long. is_long key ≡ long → IsBounded (if long then Bad KeyTooLong else command)) [
      | true ↦ λ long. bad KeyTooLong
      | false ↦ λ short. fine (short_key key short)
    ] refl

of_keys_fine : (keys : List Bytes) (command : Command) → (AreKeysBounded keys → IsBounded command) → IfOk (of_keys keys command) IsBounded
of_keys_fine keys command fine =
    elim (any_long keys) as (λ long. any_long keys ≡ long → IsBounded (if long then Bad KeyTooLong else command)) [
      | true ↦ λ long. bad KeyTooLong
      | false ↦ λ short. fine (short_keys keys short)
    ] refl

with_number_fine : (found : Option ℤ) (make : ℤ → Command) → ((n : ℤ) → IsBounded (make n)) → IsBounded (with_number found make)
with_number_fine None make fine = record { keys = tt; values = tt }
with_number_fine (Some n) make fine = fine n

-- the words after a command's name make, where they are within the limits themselves, what is within its limits
abbrev IsFine : (List Bytes → Result Command Refusal) → Type 0
IsFine make = (words : List Bytes) → AreShort words → IfOk (make words) IsBounded

alone_fine : (command : SessionCommand) → IsFine (alone command)
alone_fine command [] short = record { keys = tt; values = tt }
alone_fine command (word ∷ words) short = tt

optional_text_fine : IsFine (optional_text Ping)
optional_text_fine [] short = record { keys = tt; values = tt }
optional_text_fine (text ∷ []) short = record { keys = tt; values = tt }
optional_text_fine (text ∷ word ∷ words) short = tt

one_text_fine : IsFine (one_text Echo)
one_text_fine [] short = tt
one_text_fine (text ∷ []) short = record { keys = tt; values = tt }
one_text_fine (text ∷ word ∷ words) short = tt

one_key_fine : (make : Bytes → Command) → ((key : Bytes) → length key ≤ KEY_BYTES_MAX → IsBounded (make key)) → IsFine (one_key make)
one_key_fine make fine [] short = tt
one_key_fine make fine (key ∷ []) short = of_key_fine key (make key) (fine key)
one_key_fine make fine (key ∷ word ∷ words) short = tt

key_and_value_fine : (make : Bytes → Bytes → Command)
    → ((key value : Bytes) → length key ≤ KEY_BYTES_MAX → length value ≤ VALUE_BYTES_MAX → IsBounded (make key value)) → IsFine (key_and_value make)
key_and_value_fine make fine [] short = tt
key_and_value_fine make fine (key ∷ []) short = tt
key_and_value_fine make fine (key ∷ value ∷ []) short = of_key_fine key (make key value) (λ bounded. fine key value bounded short.1.0)
key_and_value_fine make fine (key ∷ value ∷ word ∷ words) short = tt

set_or_get_fine : (key value : Bytes) (when : When) (answers_old : Bool) → length key ≤ KEY_BYTES_MAX → length value ≤ VALUE_BYTES_MAX
    → IsBounded (if answers_old then SetGet key value when else Set key value when)
set_or_get_fine key value when true one two = record { keys = (one, tt); values = (two, tt) }
set_or_get_fine key value when false one two = record { keys = (one, tt); values = (two, tt) }

set_with_fine : (key value : Bytes) (options : Option (When × Bool)) → length key ≤ KEY_BYTES_MAX → length value ≤ VALUE_BYTES_MAX
    → IsBounded (set_with key value options)
set_with_fine key value None one two = record { keys = tt; values = tt }
set_with_fine key value (Some options) one two = set_or_get_fine key value options.0 options.1 one two

key_value_options_fine : IsFine key_value_options
key_value_options_fine [] short = tt
key_value_options_fine (key ∷ []) short = tt
key_value_options_fine (key ∷ value ∷ options) short =
    of_key_fine key (set_with key value (options_of options)) (λ bounded. set_with_fine key value (options_of options) bounded short.1.0)

key_and_number_fine : (make : Bytes → ℤ → Command) → ((key : Bytes) (n : ℤ) → length key ≤ KEY_BYTES_MAX → IsBounded (make key n)) → IsFine (key_and_number make)
key_and_number_fine make fine [] short = tt
key_and_number_fine make fine (key ∷ []) short = tt
key_and_number_fine make fine (key ∷ number ∷ []) short =
    of_key_fine key (with_number (number_of number) (make key)) (λ bounded. with_number_fine (number_of number) (make key) (λ n. fine key n bounded))
key_and_number_fine make fine (key ∷ number ∷ word ∷ words) short = tt

set_range_fine : (key value : Bytes) → length key ≤ KEY_BYTES_MAX → (n : ℤ) → IsBounded (set_range key value n)
set_range_fine key value bounded (pos n) = record { keys = (bounded, tt); values = tt }
set_range_fine key value bounded (negsuc n) = record { keys = tt; values = tt }

key_offset_value_fine : IsFine key_offset_value
key_offset_value_fine [] short = tt
key_offset_value_fine (key ∷ []) short = tt
key_offset_value_fine (key ∷ offset ∷ []) short = tt
key_offset_value_fine (key ∷ offset ∷ value ∷ []) short =
    of_key_fine key (with_number (number_of offset) (set_range key value))
    (λ bounded. with_number_fine (number_of offset) (set_range key value) (set_range_fine key value bounded))
key_offset_value_fine (key ∷ offset ∷ value ∷ word ∷ words) short = tt

key_start_end_fine : IsFine key_start_end
key_start_end_fine [] short = tt
key_start_end_fine (key ∷ []) short = tt
key_start_end_fine (key ∷ start ∷ []) short = tt
key_start_end_fine (key ∷ start ∷ end ∷ []) short =
    of_key_fine key (with_number (number_of start) (λ from. with_number (number_of end) (λ to. GetRange key from to)))
    (λ bounded. with_number_fine (number_of start) (λ from. with_number (number_of end) (λ to. GetRange key from to))
    (λ from. with_number_fine (number_of end) (λ to. GetRange key from to) (λ to. record { keys = (bounded, tt); values = tt })))
key_start_end_fine (key ∷ start ∷ end ∷ word ∷ words) short = tt

two_keys_fine : (make : Bytes → Bytes → Command) → ((key name : Bytes) → AreKeysBounded (key ∷ name ∷ []) → IsBounded (make key name))
    → IsFine (two_keys make)
two_keys_fine make fine [] short = tt
two_keys_fine make fine (key ∷ []) short = tt
two_keys_fine make fine (key ∷ name ∷ []) short = of_keys_fine (key ∷ name ∷ []) (make key name) (fine key name)
two_keys_fine make fine (key ∷ name ∷ word ∷ words) short = tt

some_keys_fine : (make : List Bytes → Command) → ((keys : List Bytes) → AreKeysBounded keys → IsBounded (make keys)) → IsFine (some_keys make)
some_keys_fine make fine [] short = tt
some_keys_fine make fine (key ∷ keys) short = of_keys_fine (key ∷ keys) (make (key ∷ keys)) (fine (key ∷ keys))

watched_keys_fine : IsFine watched_keys
watched_keys_fine [] short = tt
watched_keys_fine (key ∷ keys) short = record { keys = tt; values = tt }

abbrev ArePairsFine : Option (List (Bytes × Bytes)) → Type 0
ArePairsFine None = Unit {0}
ArePairsFine (Some settings) = AreValuesBounded (values_set settings)

more_pairs : (key value : Bytes) (pairs : Option (List (Bytes × Bytes))) → length value ≤ VALUE_BYTES_MAX → ArePairsFine pairs
    → ArePairsFine (option_map (λ settings. (key, value) ∷ settings) pairs)
more_pairs key value None bounded fine = tt
more_pairs key value (Some settings) bounded fine = (bounded, fine)

in_pairs_fine : (words : List Bytes) → AreShort words → ArePairsFine (in_pairs words)
in_pairs_fine [] short = tt
in_pairs_fine (key ∷ []) short = tt
in_pairs_fine (key ∷ value ∷ words) short = more_pairs key value (in_pairs words) short.1.0 (in_pairs_fine words short.1.1)

of_settings_fine : (make : List (Bytes × Bytes) → Command)
    → ((settings : List (Bytes × Bytes)) → AreKeysBounded (keys_set settings) → AreValuesBounded (values_set settings) → IsBounded (make settings))
    → (pairs : Option (List (Bytes × Bytes))) → ArePairsFine pairs → IfOk (of_settings make pairs) IsBounded
of_settings_fine make fine None values = tt
of_settings_fine make fine (Some settings) values = of_keys_fine (keys_set settings) (make settings) (λ keys. fine settings keys values)

some_settings_fine : (make : List (Bytes × Bytes) → Command)
    → ((settings : List (Bytes × Bytes)) → AreKeysBounded (keys_set settings) → AreValuesBounded (values_set settings) → IsBounded (make settings))
    → IsFine (some_settings make)
some_settings_fine make fine [] short = tt
some_settings_fine make fine (key ∷ words) short = of_settings_fine make fine (in_pairs (key ∷ words)) (in_pairs_fine (key ∷ words) short)

abbrev AreFine : List Row → Type 0
AreFine [] = Unit {0}
AreFine (row ∷ rows) = IsFine row.1 × AreFine rows

in_rows : (rows : List Row) → AreFine rows → (name : Bytes) → IsFine (command_in rows name)
in_rows [] fine name words short = tt
in_rows (row ∷ rows) fine name words short =
    elim (is_name row.0 name) as (λ named. IfOk (if named then row.1 words else command_in rows name words) IsBounded) [
      | true ↦ fine.0 words short
      | false ↦ in_rows rows fine.1 name words short
    ]

table_fine : AreFine table
table_fine = (
  one_key_fine Get (λ key bounded. record { keys = (bounded, tt); values = tt }),
  (
    key_value_options_fine,
    (
      key_and_value_fine SetNx (λ key value one two. record { keys = (one, tt); values = (two, tt) }),
      (
        key_and_value_fine GetSet (λ key value one two. record { keys = (one, tt); values = (two, tt) }),
        (
          one_key_fine GetDel (λ key bounded. record { keys = (bounded, tt); values = tt }),
          (
            one_key_fine StrLen (λ key bounded. record { keys = (bounded, tt); values = tt }),
            (
              some_keys_fine Exists (λ keys bounded. record { keys = bounded; values = tt }),
              (
                some_keys_fine Del (λ keys bounded. record { keys = bounded; values = tt }),
                (
                  key_and_value_fine Append (λ key value one two. record { keys = (one, tt); values = tt }),
                  (
                    key_offset_value_fine,
                    (
                      key_start_end_fine,
                      (
                        one_key_fine (by_one Add) (λ key bounded. record { keys = (bounded, tt); values = tt }),
                        (
                          one_key_fine (by_one Subtract) (λ key bounded. record { keys = (bounded, tt); values = tt }),
                          (
                            key_and_number_fine Add (λ key n bounded. record { keys = (bounded, tt); values = tt }),
                            (
                              key_and_number_fine Subtract (λ key n bounded. record { keys = (bounded, tt); values = tt }),
                              (
                                some_keys_fine MGet (λ keys bounded. record { keys = bounded; values = tt }),
                                (
                                  some_settings_fine MSet (λ settings keys values. record { keys = keys; values = values }),
                                  (
                                    some_settings_fine MSetNx (λ settings keys values. record { keys = keys; values = values }),
                                    (
                                      two_keys_fine Rename (λ key name bounded. record { keys = bounded; values = tt }),
                                      (
                                        optional_text_fine,
                                        (
                                          one_text_fine,
                                          (
                                            alone_fine session.Multi,
                                            (
                                              alone_fine session.Exec,
                                              (
                                                alone_fine session.Discard,
                                                (
                                                  watched_keys_fine,
                                                  (
                                                    alone_fine session.Unwatch,
                                                    (
                                                      alone_fine session.Quit,
                                                      tt,
                                                    ),
                                                  ),
                                                ),
                                              ),
                                            ),
                                          ),
                                        ),
                                      ),
                                    ),
                                  ),
                                ),
                              ),
                            ),
                          ),
                        ),
                      ),
                    ),
                  ),
                ),
              ),
            ),
          ),
        ),
      ),
    ),
  ),
)

-- the words of a request within the limits make no command beyond them
pub command_bounded : (words : List Bytes) → AreShort words → IfOk (command_of words) IsBounded
command_bounded [] short = tt
command_bounded (name ∷ words) short = in_rows table table_fine name words short.1

-- What a command within the limits writes is within them.

writes_append : (writes more : List Write) → AreWritesBounded writes → AreWritesBounded more → AreWritesBounded (writes ++ more)
writes_append [] more one two = two
writes_append (write ∷ writes) more one two = (one.0, one.1, writes_append writes more one.2 two)

either_bounded : (test : Bool) (one two : Answer) → AreWritesBounded one.1 → AreWritesBounded two.1 → AreWritesBounded (if test then one else two).1
either_bounded true one two is_one is_two = is_one
either_bounded false one two is_one is_two = is_two

settings_bounded : (settings : List (Bytes × Bytes)) → AreKeysBounded (keys_set settings) → AreValuesBounded (values_set settings)
    → AreWritesBounded (writes_set settings)
settings_bounded [] keys values = tt
settings_bounded (setting ∷ settings) keys values = (keys.0, values.0, settings_bounded settings keys.1 values.1)

deletions_bounded : (keys : List Bytes) (store : Store) → AreKeysBounded keys → AreWritesBounded (deletions store keys)
deletions_bounded [] store keys_are = tt
deletions_bounded (key ∷ keys) store keys_are =
    elim (is_some (store key))
    as (λ there. AreWritesBounded (if there then (key, None) ∷ deletions (update bytes_eq store key None) keys else deletions store keys)) [
      | true ↦ (keys_are.0, omega arith, deletions_bounded keys (update bytes_eq store key None) keys_are.1)
      | false ↦ deletions_bounded keys store keys_are.1
    ]

grown_bounded : (key value : Bytes) → length key ≤ KEY_BYTES_MAX → AreWritesBounded (grown key value).1
grown_bounded key value bounded =
    elim (nat_lt VALUE_BYTES_MAX (length value))
    as (λ long. nat_lt VALUE_BYTES_MAX (length value) ≡ long
    → AreWritesBounded (if long then refused StringTooLong else (number (length value), (key, Some value) ∷ [])).1) [
      | true ↦ λ long. tt
      | false ↦ λ short. (bounded, ltb-false VALUE_BYTES_MAX (length value) short, tt)
    ] refl

overlaid_length : (old : Bytes) (offset : ℕ) (bytes : Bytes) (most : ℕ) → length old ≤ most → offset + length bytes ≤ most
    → length (overlaid old offset bytes) ≤ most
overlaid_length old offset bytes most one two =
    omega (
      arith,
      length-append (take offset old) (replicate (offset - length old) 0 ++ (bytes ++ drop (offset + length bytes) old)),
      length-append (replicate (offset - length old) 0) (bytes ++ drop (offset + length bytes) old),
      length-append bytes (drop (offset + length bytes) old),
      length-take offset old,
      length-replicate {A = ℕ} (offset - length old) 0,
      length-drop (offset + length bytes) old,
      one,
      two,
    )

set_range_bounded : (key old : Bytes) (offset : ℕ) (value : Bytes) → length key ≤ KEY_BYTES_MAX → length old ≤ VALUE_BYTES_MAX
    → AreWritesBounded (set_range_answer key old offset value).1
set_range_bounded key old offset [] bounded is_short = tt
set_range_bounded key old offset (byte ∷ bytes) bounded is_short =
    let value : Bytes = overlaid old offset (byte ∷ bytes) in
    elim (nat_lt VALUE_BYTES_MAX (offset + length (byte ∷ bytes)))
    as (λ long. nat_lt VALUE_BYTES_MAX (offset + length (byte ∷ bytes)) ≡ long
    → AreWritesBounded (if long then refused StringTooLong else (number (length value), (key, Some value) ∷ [])).1) [
      | true ↦ λ long. tt
      | false ↦ λ short. (bounded, overlaid_length old offset (byte ∷ bytes) VALUE_BYTES_MAX is_short (ltb-false VALUE_BYTES_MAX (offset + length (byte ∷ bytes)) short), tt)
    ] refl

-- the text of a number of 64 bits has at most 20 bytes
number_short : (n : ℤ) → in_range n ≡ true → length (signed_decimal n) ≤ VALUE_BYTES_MAX
number_short (pos n) fits = let small = ltb-true n (2 ^ 63) fits in omega (arith, length_signed_le 19 (pos n) (omega arith) (omega arith))
number_short (negsuc n) fits = let small = ltb-true n (2 ^ 63) fits in omega (arith, length_signed_le 19 (negsuc n) (omega arith) (omega arith))

changed_bounded : (key : Bytes) (found : Option ℤ) (change : ℤ → ℤ) → length key ≤ KEY_BYTES_MAX → AreWritesBounded (changed key found change).1
changed_bounded key None change bounded = tt
changed_bounded key (Some n) change bounded =
    elim (in_range (change n))
    as (λ fits. in_range (change n) ≡ fits
    → AreWritesBounded (if fits then (One (item.Integer (change n)), (key, Some (signed_decimal (change n))) ∷ []) else refused Overflow).1) [
      | true ↦ λ fits. (bounded, number_short (change n) fits, tt)
      | false ↦ λ fits. tt
    ] refl

value_short : (found : Option Bytes) → ((value : Bytes) → found ≡ Some value → length value ≤ VALUE_BYTES_MAX) → length (value_of found) ≤ VALUE_BYTES_MAX
value_short None short = omega arith
value_short (Some value) short = short value refl

moved_bounded : (key name : Bytes) (value : Option Bytes) → length (value_of value) ≤ VALUE_BYTES_MAX → AreKeysBounded (key ∷ name ∷ [])
    → AreWritesBounded (if bytes_eq key name then [] else (key, None) ∷ (name, value) ∷ [])
moved_bounded key name value short are =
    elim (bytes_eq key name) as (λ test. AreWritesBounded (if test then [] else (key, None) ∷ (name, value) ∷ [])) [
      | true ↦ tt
      | false ↦ (are.0, omega arith, (are.1.0, short, tt))
    ]

answer_bounded : (command : Command) (store : Store) → IsStoreBounded store → IsBounded command → AreWritesBounded (answer store command).1
answer_bounded (Ping None) store values is = tt
answer_bounded (Ping (Some text)) store values is = tt
answer_bounded (Echo text) store values is = tt
answer_bounded (Get key) store values is = tt
answer_bounded (Set key value when) store values is =
    either_bounded (allows when (store key)) (line Done, (key, Some value) ∷ []) (bulk None, []) (is.keys.0, is.values.0, tt) tt
answer_bounded (SetGet key value when) store values is =
    elim (allows when (store key)) as (λ test. AreWritesBounded (if test then (key, Some value) ∷ [] else [])) [
      | true ↦ (is.keys.0, is.values.0, tt)
      | false ↦ tt
    ]
answer_bounded (SetNx key value) store values is =
    either_bounded (is_some (store key)) (number 0, []) (number 1, (key, Some value) ∷ []) tt (is.keys.0, is.values.0, tt)
answer_bounded (GetSet key value) store values is = (is.keys.0, is.values.0, tt)
answer_bounded (GetDel key) store values is =
    elim (is_some (store key)) as (λ there. AreWritesBounded (if there then (key, None) ∷ [] else [])) [
      | true ↦ (is.keys.0, omega arith, tt)
      | false ↦ tt
    ]
answer_bounded (StrLen key) store values is = tt
answer_bounded (Exists keys) store values is = tt
answer_bounded (Del keys) store values is = deletions_bounded keys store is.keys
answer_bounded (Append key value) store values is = grown_bounded key (value_of (store key) ++ value) is.keys.0
answer_bounded (SetRange key offset value) store values is =
    set_range_bounded key (value_of (store key)) offset value is.keys.0 (value_short (store key) (values key))
answer_bounded (GetRange key start end) store values is = tt
answer_bounded (Add key n) store values is = changed_bounded key (number_at (store key)) (λ old. old +ℤ n) is.keys.0
answer_bounded (Subtract key n) store values is = changed_bounded key (number_at (store key)) (λ old. old -ℤ n) is.keys.0
answer_bounded (MGet keys) store values is = tt
answer_bounded (MSet settings) store values is = settings_bounded settings is.keys is.values
answer_bounded (MSetNx settings) store values is =
    either_bounded (any_there store settings) (number 0, []) (number 1, writes_set settings) tt (settings_bounded settings is.keys is.values)
answer_bounded (Rename key name) store values is =
    either_bounded (is_some (store key)) (line Done, if bytes_eq key name then [] else (key, None) ∷ (name, store key) ∷ []) (refused NoSuchKey)
    (moved_bounded key name (store key) (value_short (store key) (values key)) is.keys) tt
answer_bounded (Session command) store values is = tt
answer_bounded (Bad refusal) store values is = tt

updated_bounded : (store : Store) (key : Bytes) (written : Option Bytes) → IsStoreBounded store → length (unwrap_or written []) ≤ VALUE_BYTES_MAX
    → IsStoreBounded (update bytes_eq store key written)
updated_bounded store key written values short other value is =
    elim (bytes_eq key other) as (λ test. cond test written (store other) ≡ Some value → length value ≤ VALUE_BYTES_MAX) [
      | true ↦ λ same. subst (λ (w : Option Bytes). length (unwrap_or w []) ≤ VALUE_BYTES_MAX) same short
      | false ↦ values other value
    ] is

pub written_bounded : (store : Store) (writes : List Write) → IsStoreBounded store → AreWritesBounded writes → IsStoreBounded (written store writes)
written_bounded store [] values are = values
written_bounded store (write ∷ writes) values are =
    written_bounded (update bytes_eq store write.0 write.1) writes (updated_bounded store write.0 write.1 values are.1) are.2

answers_bounded : (commands : List Command) (store : Store) → IsStoreBounded store → AreBounded commands → AreWritesBounded (answers store commands).1
answers_bounded [] store values are = tt
answers_bounded (command ∷ commands) store values are =
    let first : List Write = (answer store command).1 in
    let bounded = answer_bounded command store values are.0 in
    writes_append first (answers (written store first) commands).1 bounded
    (answers_bounded commands (written store first) (written_bounded store first values bounded) are.1)

pub outcome_bounded : (operation : Operation) (store : Store) → IsStoreBounded store → HasPlace operation → AreWritesBounded (outcome store operation).1
outcome_bounded (Run command) store values place = answer_bounded command store values place.1
outcome_bounded (Watch keys) store values place = tt
outcome_bounded (Exec commands pairs) store values place = answers_bounded commands store values place.1

entry_bounded : (store : Store) (entry : Entry) → IsStoreBounded store → HasPlace entry.operation → AreWritesBounded (writes_of store entry)
entry_bounded store entry values place =
    elim (was_not_done entry.reply) as (λ test. AreWritesBounded (if test then [] else (outcome store entry.operation).1)) [
      | true ↦ tt
      | false ↦ outcome_bounded entry.operation store values place
    ]

pub after_bounded : (history : History) → Legal history → IsStoreBounded (after history)
after_bounded [] legal = λ key value is. absurd (cc is)
after_bounded (entry ∷ before) legal =
    let values : IsStoreBounded (after before) = after_bounded before legal.0 in
    written_bounded (after before) (writes_of (after before) entry) values (entry_bounded (after before) entry values legal.1.place)
