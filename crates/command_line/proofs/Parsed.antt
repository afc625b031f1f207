-- What a parse of `garnetd` that succeeds gives: a number for each option, in its range.
use Rattle.std.proofs.Common.{◌≡◌, ◌∙◌, ◌<◌, ◌≤◌, ◌^◌, ap, ap₂, ℕ, Bool, true, false, List, [], ◌∷◌, map, length, is_some, Option, Some, None, codes, refl, sym, subst, inl, inr, arith, true≢false}
use Rattle.std.specs.Prelude.{pos}
use Rattle.std.specs.List.{list_all, slice_index_or}
use Rattle.std.specs.Str.{bytes_eq}
use Rattle.std.specs.Str.Parse.{digits_value, without_leading_plus}
use Rattle.std.proofs.lemmas.List.{length-map}
use Rattle.std.proofs.lemmas.Slice.Eq.{bytes_eq-Decides}
use Rattle.clap.specs.Words.{Accepts, App, HasMatchesOf, IsParsedFrom, IsPlain, Rule, Text, app_of, args_of, first_of, first_value, found_of, is_simple, matches_of, one_of, one_text, read_as, reading_of, rows_of, rule_of}
use Rattle.clap.specs.Facts.{least_values, unwrap_or_range}
use Rattle.clap.specs.Faults.{is_simple_and_free}
use Rattle.clap.specs.declared.builder.action.ArgAction.TheVariants.{Set}
use Rattle.clap.specs.declared.builder.arg.Arg.{Arg}
use Rattle.clap.specs.declared.builder.command.Command.{Command}
use Rattle.clap.specs.declared.builder.command.Command.TheViews.{out-Command}
use Rattle.clap.specs.declared.builder.range.ValueRange.{ValueRange}
use Rattle.clap.specs.declared.builder.value_parser.ValueParser.{ValueParser}
use Rattle.clap.specs.declared.builder.value_parser.ValueParser.TheVariants.{Signed, Unsigned}
use Rattle.clap.specs.declared.parser.matches.ArgMatches.{ArgMatches}
use Rattle.clap.proofs.CallerLemmas.{required_has_value}
use Rattle.clap.proofs.SimpleLemmas.{HasPlainFields, plain_fields}
use Rattle.clap.proofs.WalkLemmas.{first_value-rows, one_text-rows}
use Rattle.words.specs.declared.limits.TheConstants.{BUCKETS_DEFAULT, BUCKETS_MAX, CLIENTS_DEFAULT, CLIENTS_MAX, FRAMES_DEFAULT, FRAMES_MAX, FRAMES_MIN}
use Rattle.words.specs.declared.limits.TheConstants.{PLACES_DEFAULT, PLACES_MAX, PLACES_MIN, STRIPES_DEFAULT, STRIPES_MAX}
use Rattle.options.specs.declared.TheConstants.{ACCEPT_MAX}
use Rattle.options.specs.declared.DeviceKind.{DeviceKind}
use Rattle.options.specs.declared.Options.{Options}
use Rattle.command_line.specs.Given.{Gives, GivesOrDefault, HasGiven, IsGivenOrDefault, IsInRange, text_in}
use Rattle.command_line.specs.CommandLine.{AskFor, AsksForDevice, accept_option, device_word, garnetd, option_of, options, port_option, text_of}
use Rattle.command_line.proofs.Arguments.{is_alone_at, is_plain_rule, only_place, plain_args, rule_at, simple_is_alone}
use Rattle.command_line.proofs.Numbers.{Writes, signed_writes, unsigned_writes}
use Rattle.command_line.proofs.Texts.{StandsAlone, accepted, text_of_value}

pub garnetd_is_simple : is_simple garnetd ≡ true
unfolding garnetd
garnetd_is_simple = refl

pub garnetd_is_free : is_simple_and_free garnetd ≡ true
unfolding garnetd
garnetd_is_free = refl

not_own : (id other : List ℕ) → bytes_eq id other ≡ false → id ≡ other → ⊥
not_own id other differ same = true≢false (sym ((bytes_eq-Decides id other).1 same) ∙ differ)

module _ (old : Command) (is : app_of old ≡ garnetd) where
  rules_are : map rule_of (args_of old) ≡ options
  unfolding garnetd
  rules_are = ap (λ (a : App). a.top.rules) is

  fields : HasPlainFields old
  unfolding garnetd
  fields = plain_fields old (ap (λ (a : App). a.top.is_plain) is)

  negates : (out-Command old).subcommand_negates_reqs ≡ false
  unfolding garnetd
  negates = ap (λ (a : App). a.top.subcommand_negates_reqs) is

  plain : IsPlain old
  plain = (plain_args (args_of old) (ap (list_all is_plain_rule) rules_are), fields.groups)

  eight : length (args_of old) ≡ 8
  eight = sym (length-map (args_of old) rule_of) ∙ ap length rules_are

  -- the argument at a place has the rule that stands there
  alone : (k : ℕ) (d : Arg) (r : Rule) → k < 8 → slice_index_or options k (rule_of d) ≡ r → is_alone_at k r.id options ≡ true
      → bytes_eq r.id [] ≡ false → bytes_eq r.id (codes "help") ≡ false → bytes_eq r.id (codes "version") ≡ false → StandsAlone old k d
  alone k d r lt here one empty help version =
      let in_args : k < length (args_of old) = subst (λ n. k < n) (sym eight) lt in
      let id_is : (slice_index_or (args_of old) k d).id.now ≡ r.id = ap (λ (x : Rule). x.id) (rule_at (args_of old) options rules_are k d in_args ∙ here) in
      record {
        lt = in_args;
        only = λ j e below same.
            let id_there : (slice_index_or (args_of old) j e).id.now ≡ (slice_index_or options j (rule_of e)).id =
            ap (λ (x : Rule). x.id) (rule_at (args_of old) options rules_are j e below) in
            only_place k r.id options one j (rule_of e) (subst (λ n. j < n) eight below) (sym (ap₂ bytes_eq id_there id_is) ∙ same);
        named = λ e. not_own r.id [] empty (sym id_is ∙ e);
        own = λ auto. elim auto [
          | inl h ↦ not_own r.id (codes "help") help (sym id_is ∙ h)
          | inr h ↦ not_own r.id (codes "version") version (sym id_is ∙ h)
        ];
      }

module _ (old : Command) (is : app_of old ≡ garnetd) (m : ArgMatches) (p : IsParsedFrom old m) (k : ℕ) (d : Arg) (r : Rule) (q : ValueParser)
    (at : rule_of (slice_index_or (args_of old) k d) ≡ r) (own : StandsAlone old k d) (parser : r.parser ≡ Some q) (case : r.ignore_case ≡ false) where
  id_is : (slice_index_or (args_of old) k d).id.now ≡ r.id
  id_is = ap (λ (x : Rule). x.id) at

  -- a text that is given passed the parser
  passed : (u : List ℕ) → one_text (found_of m) r.id ≡ Some u → (t : List ℕ) × (u ≡ read_as (reading_of q) t) × Accepts false q t
  passed u has =
      let got = accepted old m p (plain old is) (fields old is).globals k d own q (ap (λ (x : Rule). x.parser) at ∙ parser) u
      (subst (λ w. one_text (found_of m) w ≡ Some u) (sym id_is) has) in
      (got.0, got.1, subst (λ (b : Bool). Accepts b q got.0) (ap (λ (x : Rule). x.ignore_case) at ∙ case) got.2)

  -- and a text is given where the option has to be there
  there : r.required ≡ true → r.action ≡ Some Set → r.range ≡ None → r.is_simple ≡ true → (u : List ℕ) × (one_text (found_of m) r.id ≡ Some u)
  there required action range simple =
      let a = slice_index_or (args_of old) k d in
      let alone_arg = simple_is_alone a (ap (λ (x : Rule). x.is_simple) at ∙ simple) in
      let one : least_values a ≡ 1 = ap (λ (x : Rule). (unwrap_or_range x.range).start_inclusive) at ∙ ap (λ (x : Option ValueRange). (unwrap_or_range x).start_inclusive) range in
      let has = required_has_value old m p (plain old is) (fields old is).globals (negates old is) k d own.lt
      (ap (λ (x : Rule). x.required) at ∙ required) (ap (λ (x : Rule). x.action) at ∙ action) alone_arg.val_delim (omega arith)
      own.only own.named own.own in
      text_of_value (found_of m) r.id (subst (λ w. is_some (first_value (found_of m) w) ≡ true) id_is has)

-- the number of a text
of_text : (given : Option (List ℕ)) (u : List ℕ) (low high : ℕ) → given ≡ Some u → Writes low high u → (n : ℕ) × Gives given n × (low ≤ n) × (n ≤ high)
of_text given u low high has writes =
    (digits_value 10 (without_leading_plus u), record { text = u; has = has; numeral = writes.numeral; value = refl }, writes.least, writes.most)

-- the number that stands for a text which may be left out, from `low` to `high`
pub record Reads (given : Option (List ℕ)) (default low high : ℕ) : Type 0 where
  pub number : ℕ
  pub gives : IsGivenOrDefault given default number
  pub least : low ≤ number
  pub most : number ≤ high

of_text_or : (given : Option (List ℕ)) (default low high : ℕ) → ((u : List ℕ) → given ≡ Some u → Writes low high u) → low ≤ default → default ≤ high
    → Reads given default low high
of_text_or None default low high writes least most = record { number = default; gives = inr (refl, refl); least = least; most = most }
of_text_or (Some u) default low high writes least most =
    let n = of_text (Some u) u low high refl (writes u refl) in
    record { number = n.0; gives = inl n.1; least = n.2; most = n.3 }

signed_text : (low high : ℕ) (u : List ℕ) → ((t : List ℕ) × (u ≡ read_as (reading_of (Signed (pos low) (pos high))) t) × Accepts false (Signed (pos low) (pos high)) t) → Writes low high u
signed_text low high u got = subst (Writes low high) (sym got.1) (signed_writes low high got.0 got.2)

unsigned_text : (low high : ℕ) (u : List ℕ) → ((t : List ℕ) × (u ≡ read_as (reading_of (Unsigned low high)) t) × Accepts false (Unsigned low high) t) → Writes low high u
unsigned_text low high u got = subst (Writes low high) (sym got.1) (unsigned_writes low high got.0 got.2)

some_arg : (xs : List Arg) → 0 < length xs → Arg
some_arg [] lt = absurd (omega arith)
some_arg (x ∷ xs) lt = x

-- what is read for the option at this place, a number that may be left out
read_or : (old : Command) (m : ArgMatches) → app_of old ≡ garnetd → IsParsedFrom old m → (k : ℕ) (d : Arg) (name : Text) (low high default : ℕ)
    → k < 8 → slice_index_or options k (rule_of d) ≡ option_of name (Unsigned low high) → is_alone_at k name options ≡ true
    → bytes_eq name [] ≡ false → bytes_eq name (codes "help") ≡ false → bytes_eq name (codes "version") ≡ false
    → low ≤ default → default ≤ high → Reads (text_in m name) default low high
read_or old m is p k d name low high default lt here one empty help version least most =
    let at = alone old is k d (option_of name (Unsigned low high)) lt here one empty help version in
    let rule = rule_at (args_of old) options (rules_are old is) k d at.lt ∙ here in
    of_text_or (text_in m name) default low high
    (λ u has. unsigned_text low high u (passed old is m p k d (option_of name (Unsigned low high)) (Unsigned low high) rule at refl refl u has)) least most

-- each option has its number, in its range
pub record IsRead (m : ArgMatches) : Type 0 where
  pub port : ℕ
  pub accept : ℕ
  pub gives_port : Gives (text_in m (codes "port")) port
  pub port_high : port ≤ 65535
  pub gives_accept : Gives (text_in m (codes "accept")) accept
  pub accept_low : 1 ≤ accept
  pub accept_high : accept ≤ ACCEPT_MAX
  pub stripes : Reads (text_in m (codes "stripes")) STRIPES_DEFAULT 1 STRIPES_MAX
  pub buckets : Reads (text_in m (codes "buckets")) BUCKETS_DEFAULT 1 BUCKETS_MAX
  pub frames : Reads (text_in m (codes "frames")) FRAMES_DEFAULT FRAMES_MIN FRAMES_MAX
  pub places : Reads (text_in m (codes "places")) PLACES_DEFAULT PLACES_MIN PLACES_MAX
  pub workers : Reads (text_in m (codes "workers")) CLIENTS_DEFAULT 1 CLIENTS_MAX

pub is_read : (old : Command) (m : ArgMatches) → app_of old ≡ garnetd → IsParsedFrom old m → IsRead m
is_read old m is p =
    let d = some_arg (args_of old) (omega (arith, eight old is)) in
    let at0 = alone old is 0 d port_option (omega arith) refl refl refl refl refl in
    let at1 = alone old is 1 d accept_option (omega arith) refl refl refl refl refl in
    let r0 = rule_at (args_of old) options (rules_are old is) 0 d at0.lt in
    let r1 = rule_at (args_of old) options (rules_are old is) 1 d at1.lt in
    let q0 = Signed (pos 0) (pos 65535) in
    let q1 = Signed (pos 1) (pos ACCEPT_MAX) in
    let t0 = there old is m p 0 d port_option q0 r0 at0 refl refl refl refl refl refl in
    let t1 = there old is m p 1 d accept_option q1 r1 at1 refl refl refl refl refl refl in
    let n0 = of_text (text_in m (codes "port")) t0.0 0 65535 t0.1 (signed_text 0 65535 t0.0 (passed old is m p 0 d port_option q0 r0 at0 refl refl t0.0 t0.1)) in
    let n1 = of_text (text_in m (codes "accept")) t1.0 1 ACCEPT_MAX t1.1 (signed_text 1 ACCEPT_MAX t1.0 (passed old is m p 1 d accept_option q1 r1 at1 refl refl t1.0 t1.1)) in
    record {
      port = n0.0;
      accept = n1.0;
      gives_port = n0.1;
      port_high = n0.3;
      gives_accept = n1.1;
      accept_low = n1.2;
      accept_high = n1.3;
      stripes = read_or old m is p 2 d (codes "stripes") 1 STRIPES_MAX STRIPES_DEFAULT (omega arith) refl refl refl refl refl (omega arith) (omega arith);
      buckets = read_or old m is p 3 d (codes "buckets") 1 BUCKETS_MAX BUCKETS_DEFAULT (omega arith) refl refl refl refl refl (omega arith) (omega arith);
      frames = read_or old m is p 4 d (codes "frames") FRAMES_MIN FRAMES_MAX FRAMES_DEFAULT (omega arith) refl refl refl refl refl (omega arith) (omega arith);
      places = read_or old m is p 5 d (codes "places") PLACES_MIN PLACES_MAX PLACES_DEFAULT (omega arith) refl refl refl refl refl (omega arith) (omega arith);
      workers = read_or old m is p 6 d (codes "workers") 1 CLIENTS_MAX CLIENTS_DEFAULT (omega arith) refl refl refl refl refl (omega arith) (omega arith);
    }

-- where a number or the default is given, what is left out is left out as a text
pub as_default : (given : Option (List ℕ)) (default n : ℕ) → IsGivenOrDefault given default n → GivesOrDefault given default n
as_default given default n (inl g) = inl g
as_default given default n (inr none) = inr (record { gives_none = λ k low g. none_is_none g; value = none.1 })
  where
    none_is_none : {k : ℕ} → Gives given k → ⊥
    none_is_none g =
        let bad : None ≡ Some g.text = sym none.0 ∙ g.has in
        cc

-- and what is left out as a number is left out as a text where a text writes a number of 64 bits
pub as_text : (given : Option (List ℕ)) (default low high n : ℕ) → high < 2 ^ 64 → Reads given default low high → GivesOrDefault given default n
    → IsGivenOrDefault given default n
as_text given default low high n below read (inl g) = inl g
as_text given default low high n below read (inr out) = elim read.gives [
  | inl g ↦ absurd (out.gives_none read.number (let most = read.most in omega arith) g)
  | inr none ↦ inr (none.0, out.value)
]

-- so the numbers that a parse of `garnetd` gives are in range
pub in_range : (old : Command) (m : ArgMatches) → app_of old ≡ garnetd → IsParsedFrom old m → IsInRange m
in_range old m is p =
    let r = is_read old m is p in
    record {
      port = r.port;
      accept = r.accept;
      stripes = r.stripes.number;
      buckets = r.buckets.number;
      frames = r.frames.number;
      places = r.places.number;
      workers = r.workers.number;
      numbers = record {
        gives_port = r.gives_port;
        gives_accept = r.gives_accept;
        gives_stripes = as_default _ _ _ r.stripes.gives;
        gives_buckets = as_default _ _ _ r.buckets.gives;
        gives_frames = as_default _ _ _ r.frames.gives;
        gives_places = as_default _ _ _ r.places.gives;
        gives_workers = as_default _ _ _ r.workers.gives;
      };
      port_high = (let high = r.port_high in omega arith);
      in_range = record {
        accept_low = r.accept_low;
        accept_high = r.accept_high;
        limits = record {
          stripes_low = r.stripes.least;
          stripes_high = r.stripes.most;
          buckets_low = r.buckets.least;
          buckets_high = r.buckets.most;
          frames_low = r.frames.least;
          frames_high = r.frames.most;
          places_low = r.places.least;
          places_high = r.places.most;
          clients_low = r.workers.least;
          clients_high = r.workers.most;
        };
      };
    }

-- the rows that a parse found are those of the words
rows_are : (old : Command) (m : ArgMatches) (words : List Text) → app_of old ≡ garnetd → HasMatchesOf (app_of old) words m
    → rows_of (found_of m) ≡ matches_of garnetd words
rows_are old m words is matches = (matches (ap is_simple is ∙ garnetd_is_simple)).0 ∙ ap (λ (a : App). matches_of a words) is

-- and so is the word for the device
word_is : (old : Command) (m : ArgMatches) (words : List Text) → app_of old ≡ garnetd → HasMatchesOf (app_of old) words m
    → first_value (found_of m) (codes "device") ≡ device_word words
word_is old m words is matches = first_value-rows (found_of m) (codes "device") ∙ ap (first_of (codes "device")) (rows_are old m words is matches)

-- what `given` finds the words ask for
pub asks_for : (old : Command) (m : ArgMatches) (words : List Text) (o : Options) → app_of old ≡ garnetd → IsParsedFrom old m → HasMatchesOf (app_of old) words m
    → HasGiven m o → (device : DeviceKind) → AsksForDevice (first_value (found_of m) (codes "device")) device → o.device ≡ device → AskFor words o
asks_for old m words o is p matches gives device asks has =
    let r = is_read old m is p in
    let rows = rows_are old m words is matches in
    let same : (id : List ℕ) → text_in m id ≡ text_of words id = λ id. one_text-rows (found_of m) id ∙ ap (one_of id) rows in
    record {
      port = subst (λ t. Gives t o.port) (same (codes "port")) gives.gives_port;
      accept = subst (λ t. Gives t o.accept) (same (codes "accept")) gives.gives_accept;
      stripes = subst (λ t. IsGivenOrDefault t STRIPES_DEFAULT o.stripes) (same (codes "stripes"))
          (as_text _ _ _ _ _ (omega arith) r.stripes gives.gives_stripes);
      buckets = subst (λ t. IsGivenOrDefault t BUCKETS_DEFAULT o.buckets) (same (codes "buckets"))
          (as_text _ _ _ _ _ (omega arith) r.buckets gives.gives_buckets);
      frames = subst (λ t. IsGivenOrDefault t FRAMES_DEFAULT o.frames) (same (codes "frames"))
          (as_text _ _ _ _ _ (omega arith) r.frames gives.gives_frames);
      places = subst (λ t. IsGivenOrDefault t PLACES_DEFAULT o.places) (same (codes "places"))
          (as_text _ _ _ _ _ (omega arith) r.places gives.gives_places);
      workers = subst (λ t. IsGivenOrDefault t CLIENTS_DEFAULT o.workers) (same (codes "workers"))
          (as_text _ _ _ _ _ (omega arith) r.workers gives.gives_workers);
      device = subst (λ w. AsksForDevice w o.device) (word_is old m words is matches)
          (subst (AsksForDevice (first_value (found_of m) (codes "device"))) (sym has) asks);
    }
