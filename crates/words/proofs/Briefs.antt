-- A request that its words show to be one of those that are asked most: what command it is.
use Rattle.std.proofs.Common.{◌≡◌, ◌∙◌, Bool, true, false, not, ◌&&◌, List, [], ◌∷◌, Option, None, Some, refl, subst, ap, arith, if◌then◌else◌}
use Rattle.std.specs.Prelude.{ℤ, pos, codes, Ok}
use Rattle.std.specs.Str.{bytes_eq, str_to_ascii_lowercase}
use Rattle.std.proofs.lemmas.Slice.Eq.{bytes_eq-Decides}
use Rattle.std.proofs.lemmas.Bool.{and_parts}
use Rattle.words.specs.declared.command.Brief.{Brief}
use Rattle.words.specs.declared.command.Brief.TheVariants as brief
use Rattle.words.specs.declared.command.Count.{Count}
use Rattle.words.specs.declared.command.Count.TheVariants as count
use Rattle.words.specs.declared.command.Verb.{Verb}
use Rattle.words.specs.declared.command.Verb.TheVariants as verb
use Rattle.words.specs.declared.command.Command.TheVariants.{MSet}
use Rattle.words.specs.Store.{Bytes}
use Rattle.words.specs.Numbers.{number_of}
use Rattle.words.specs.Commands.{Row, any_long, command_in, command_of, in_pairs, is_name, is_long, keys_set, of_settings, table}
use Rattle.words.specs.Briefs.{are_settings, brief_of, brief_of_key, brief_of_many, brief_of_setting, commanded, counting, counts_by, pairs_of, verb_of_key, verb_of_value}
use Rattle.words.specs.Briefs.{IsGet, IsMGet, IsMSet, IsOne, IsPing, IsSet}

-- a word that is a name of the table is another name where that name is
spelled : (other listed name : Bytes) → is_name listed name ≡ true → is_name other name ≡ is_name other listed
spelled other listed name is =
    subst (λ (lower : Bytes). bytes_eq (str_to_ascii_lowercase other) lower ≡ bytes_eq (str_to_ascii_lowercase other) (str_to_ascii_lowercase listed))
    ((bytes_eq-Decides (str_to_ascii_lowercase listed) (str_to_ascii_lowercase name)).0 is) refl

-- so it finds the same row
same_row : (rows : List Row) (listed name : Bytes) (words : List Bytes) → is_name listed name ≡ true
    → command_in rows name words ≡ command_in rows listed words
same_row [] listed name words is = refl
same_row (row ∷ rows) listed name words is = rw (spelled row.0 listed name is, same_row rows listed name words is) refl

-- What a brief request says of its words.
abbrev Says : List Bytes → Brief → Type 0
Says words brief.Get = IsGet words
Says words brief.Set = IsSet words
Says words (brief.One verb) = IsOne verb words
Says words brief.Values = IsMGet words
Says words brief.Settings = IsMSet words
Says words brief.Ping = IsPing words
Says words brief.Other = Unit {0}

branch : (words : List Bytes) (is : Bool) (here there : Brief) → (is ≡ true → Says words here) → (is ≡ false → Says words there)
    → Says words (if is then here else there)
branch words true here there told other = told refl
branch words false here there told other = other refl

negated : (is : Bool) → not is ≡ true → is ≡ false
negated true is = let never : false ≡ true = is in absurd cc
negated false is = refl

-- what a name of the table makes of words is what a word that is that name makes of them
of_name : (listed name : Bytes) (words : List Bytes) → is_name listed name ≡ true → command_of (name ∷ words) ≡ command_in table listed words
of_name listed name words is = same_row table listed name words is

of_ping : (name : Bytes) → is_name (codes "PING") name ≡ true → IsPing (name ∷ [])
of_ping name is = record { name = name; words_are = refl; command = of_name (codes "PING") name [] is }

of_get : (name key : Bytes) → is_name (codes "GET") name ≡ true → is_long key ≡ false → IsGet (name ∷ key ∷ [])
of_get name key is fits =
    record { name = name; key = key; words_are = refl; command = of_name (codes "GET") name (key ∷ []) is ∙ rw (fits) refl }

of_set : (name key value : Bytes) → is_name (codes "SET") name ≡ true → is_long key ≡ false → IsSet (name ∷ key ∷ value ∷ [])
of_set name key value is fits =
    record {
      name = name;
      key = key;
      value = value;
      words_are = refl;
      command = of_name (codes "SET") name (key ∷ value ∷ []) is ∙ rw (fits) refl;
    }

-- a command of a key, whose row of the table is this
of_one : (verb : Verb) (listed name key : Bytes) → is_name listed name ≡ true
    → command_in table listed (key ∷ []) ≡ Ok (commanded verb key key) → IsOne verb (name ∷ key ∷ [])
of_one verb listed name key is row =
    record {
      name = name;
      key = key;
      others = [];
      words_are = refl;
      few = omega arith;
      command = of_name listed name (key ∷ []) is ∙ row;
    }

-- a command of a key and another word
of_two : (verb : Verb) (listed name key value : Bytes) → is_name listed name ≡ true
    → command_in table listed (key ∷ value ∷ []) ≡ Ok (commanded verb key value) → IsOne verb (name ∷ key ∷ value ∷ [])
of_two verb listed name key value is row =
    record {
      name = name;
      key = key;
      others = value ∷ [];
      words_are = refl;
      few = omega arith;
      command = of_name listed name (key ∷ value ∷ []) is ∙ row;
    }

of_mget : (name key : Bytes) (keys : List Bytes) → is_name (codes "MGET") name ≡ true → any_long (key ∷ keys) ≡ false → IsMGet (name ∷ key ∷ keys)
of_mget name key keys is fits =
    record { name = name; keys = key ∷ keys; words_are = refl; command = of_name (codes "MGET") name (key ∷ keys) is ∙ rw (fits) refl }

-- settings are the words two by two, and none of their keys is too long
paired : (words : List Bytes) → are_settings words ≡ true → (in_pairs words ≡ Some (pairs_of words)) × (any_long (keys_set (pairs_of words)) ≡ false)
paired [] is = (refl, refl)
paired (key ∷ []) is = let never : false ≡ true = is in absurd cc
paired (key ∷ value ∷ words) is =
    let parts : (not (is_long key) ≡ true) × (are_settings words ≡ true) = and_parts (not (is_long key)) (are_settings words) is in
    let rest : (in_pairs words ≡ Some (pairs_of words)) × (any_long (keys_set (pairs_of words)) ≡ false) = paired words parts.1 in
    (rw (rest.0) refl, rw (negated (is_long key) parts.0, rest.1) refl)

of_mset : (name key : Bytes) (words : List Bytes) → is_name (codes "MSET") name ≡ true → are_settings (key ∷ words) ≡ true → IsMSet (name ∷ key ∷ words)
of_mset name key words is fit =
    let pairs : (in_pairs (key ∷ words) ≡ Some (pairs_of (key ∷ words))) × (any_long (keys_set (pairs_of (key ∷ words))) ≡ false) =
    paired (key ∷ words) fit
    in
    record {
      name = name;
      others = key ∷ words;
      words_are = refl;
      command =
          of_name (codes "MSET") name (key ∷ words) is ∙ ap (of_settings MSet) pairs.0
          ∙ rw (pairs.1) refl;
    }

of_key : (name key : Bytes) → is_long key ≡ false → Says (name ∷ key ∷ []) (brief_of_key name)
of_key name key fits =
    let words : List Bytes = name ∷ key ∷ [] in
    branch words (is_name (codes "GET") name) brief.Get (verb_of_key name) (λ is. of_get name key is fits) (λ no_get.
    branch words (is_name (codes "INCR") name) _ _ (λ is. of_one (verb.Count (count.Add (pos 1))) (codes "INCR") name key is (rw (fits) refl)) (λ no_incr.
    branch words (is_name (codes "DECR") name) _ _ (λ is. of_one (verb.Count (count.Subtract (pos 1))) (codes "DECR") name key is (rw (fits) refl)) (λ no_decr.
    branch words (is_name (codes "DEL") name) _ _ (λ is. of_one verb.Del (codes "DEL") name key is (rw (fits) refl)) (λ no_del.
    branch words (is_name (codes "EXISTS") name) _ _ (λ is. of_one verb.Exists (codes "EXISTS") name key is (rw (fits) refl)) (λ no_exists.
    branch words (is_name (codes "STRLEN") name) _ _ (λ is. of_one verb.StrLen (codes "STRLEN") name key is (rw (fits) refl)) (λ no_strlen.
    branch words (is_name (codes "GETDEL") name) _ _ (λ is. of_one verb.GetDel (codes "GETDEL") name key is (rw (fits) refl)) (λ no_getdel.
    branch words (is_name (codes "MGET") name) brief.Values brief.Other (λ is. of_mget name key [] is (rw (fits) refl)) (λ no_mget. tt))))))))

of_number : (make : ℤ → Count) (listed name key value : Bytes) (number : Option ℤ) → is_name listed name ≡ true → is_long key ≡ false
    → ((n : ℤ) → number ≡ Some n → command_in table listed (key ∷ value ∷ []) ≡ Ok (counting (make n) key))
    → Says (name ∷ key ∷ value ∷ []) (counts_by make number)
of_number make listed name key value None is fits row = tt
of_number make listed name key value (Some n) is fits row = of_two (verb.Count (make n)) listed name key value is (row n refl)

of_setting : (name key value : Bytes) → is_long key ≡ false → Says (name ∷ key ∷ value ∷ []) (brief_of_setting name value)
of_setting name key value fits =
    let words : List Bytes = name ∷ key ∷ value ∷ [] in
    branch words (is_name (codes "SET") name) brief.Set (verb_of_value name value) (λ is. of_set name key value is fits) (λ no_set.
    branch words (is_name (codes "INCRBY") name) _ _
    (λ is. of_number count.Add (codes "INCRBY") name key value (number_of value) is fits (λ n number. rw (fits, number) refl)) (λ no_incrby.
    branch words (is_name (codes "DECRBY") name) _ _
    (λ is. of_number count.Subtract (codes "DECRBY") name key value (number_of value) is fits (λ n number. rw (fits, number) refl)) (λ no_decrby.
    branch words (is_name (codes "SETNX") name) _ _ (λ is. of_two verb.SetNx (codes "SETNX") name key value is (rw (fits) refl)) (λ no_setnx.
    branch words (is_name (codes "GETSET") name) _ _ (λ is. of_two verb.GetSet (codes "GETSET") name key value is (rw (fits) refl)) (λ no_getset.
    branch words (is_name (codes "APPEND") name) _ _ (λ is. of_two verb.Append (codes "APPEND") name key value is (rw (fits) refl)) (λ no_append.
    branch words (is_name (codes "MSET") name) _ _ (λ is. of_mset name key (value ∷ []) is (rw (fits) refl)) (λ no_mset.
    branch words (is_name (codes "MGET") name && not (is_long value)) brief.Values brief.Other
    (λ is.
    let parts : (is_name (codes "MGET") name ≡ true) × (not (is_long value) ≡ true) = and_parts (is_name (codes "MGET") name) (not (is_long value)) is in
    of_mget name key (value ∷ []) parts.0 (rw (fits, negated (is_long value) parts.1) refl))
    (λ no_mget. tt))))))))

of_many : (name key : Bytes) (others : List Bytes) → Says (name ∷ key ∷ others) (brief_of_many name (key ∷ others))
of_many name key others =
    let words : List Bytes = name ∷ key ∷ others in
    branch words (is_name (codes "MGET") name && not (any_long (key ∷ others))) brief.Values _
    (λ is.
    let parts : (is_name (codes "MGET") name ≡ true) × (not (any_long (key ∷ others)) ≡ true) =
    and_parts (is_name (codes "MGET") name) (not (any_long (key ∷ others))) is
    in
    of_mget name key others parts.0 (negated (any_long (key ∷ others)) parts.1))
    (λ no_mget.
    branch words (is_name (codes "MSET") name && are_settings (key ∷ others)) brief.Settings brief.Other
    (λ is.
    let parts : (is_name (codes "MSET") name ≡ true) × (are_settings (key ∷ others) ≡ true) =
    and_parts (is_name (codes "MSET") name) (are_settings (key ∷ others)) is
    in
    of_mset name key others parts.0 parts.1)
    (λ no_mset. tt))

unless_long : (words : List Bytes) (long : Bool) (told : Brief) → (long ≡ false → Says words told) → Says words (if long then brief.Other else told)
unless_long words true told says = tt
unless_long words false told says = says refl

-- what the words of a brief request say
pub says : (words : List Bytes) → Says words (brief_of words)
says [] = tt
says (name ∷ []) = branch (name ∷ []) (is_name (codes "PING") name) brief.Ping brief.Other (λ is. of_ping name is) (λ no_ping. tt)
says (name ∷ key ∷ []) = unless_long (name ∷ key ∷ []) (is_long key) (brief_of_key name) (λ fits. of_key name key fits)
says (name ∷ key ∷ value ∷ []) =
    unless_long (name ∷ key ∷ value ∷ []) (is_long key) (brief_of_setting name value) (λ fits. of_setting name key value fits)
says (name ∷ key ∷ value ∷ another ∷ others) = of_many name key (value ∷ another ∷ others)

-- a GET
pub brief_get : (words : List Bytes) → brief_of words ≡ brief.Get → IsGet words
brief_get words is = subst (Says words) is (says words)

-- a SET without an option
pub brief_set : (words : List Bytes) → brief_of words ≡ brief.Set → IsSet words
brief_set words is = subst (Says words) is (says words)

-- another command of one key
pub brief_one : (words : List Bytes) (verb : Verb) → brief_of words ≡ brief.One verb → IsOne verb words
brief_one words verb is = subst (Says words) is (says words)

-- an MGET
pub brief_values : (words : List Bytes) → brief_of words ≡ brief.Values → IsMGet words
brief_values words is = subst (Says words) is (says words)

-- an MSET
pub brief_settings : (words : List Bytes) → brief_of words ≡ brief.Settings → IsMSet words
brief_settings words is = subst (Says words) is (says words)

-- a PING without a text
pub brief_ping : (words : List Bytes) → brief_of words ≡ brief.Ping → IsPing words
brief_ping words is = subst (Says words) is (says words)
