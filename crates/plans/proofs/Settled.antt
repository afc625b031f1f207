-- What a command of one key comes to is due to it.
use Rattle.std.proofs.Common.{◌≡◌, ◌≤◌, ◌∙◌, ℕ, Bool, true, false, [], ◌∷◌, List, Option, Some, None, cond, nat_lt, length, refl, sym, ap, subst, arith}
use Rattle.std.proofs.lemmas.Bool.{le-ltb}
use Rattle.std.proofs.Math.Nat.{add-zero}
use Rattle.std.specs.Prelude.{IfSome}
use Rattle.words.specs.declared.limits.TheConstants.{KEY_BYTES_MAX, VALUE_BYTES_MAX, WEIGHT_MAX}
use Rattle.words.specs.declared.command.Command.{Command}
use Rattle.words.specs.declared.command.Count.TheVariants as by
use Rattle.words.specs.declared.command.Verb.{Verb}
use Rattle.words.specs.declared.command.When.{When}
use Rattle.words.specs.declared.command.Verb.TheVariants as verb
use Rattle.words.specs.declared.history.Operation.TheVariants.{Run}
use Rattle.words.specs.declared.reply.Reply.{Reply}
use Rattle.words.specs.Answers.{Answer, answer}
use Rattle.words.specs.Bounds.{AreKeysBounded, IsBounded}
use Rattle.words.specs.Briefs.{commanded}
use Rattle.words.specs.Commands.{keys_of, set_with, touches_keys}
use Rattle.words.specs.History.{outcome, too_much}
use Rattle.words.specs.Locality.{AreSameAt}
use Rattle.words.specs.Store.{Bytes, Store, Write, empty, weight, written}
use Rattle.words.specs.Stripes.{stripe_of}
use Rattle.strings.specs.Overlays.{AreInline, IsInlineReply}
use Rattle.hybrid.specs.HybridLog.{HybridLog}
use Rattle.hybrid.specs.Lookups.{IsInPlace}
use Rattle.hybrid.specs.declared.stripe.find.Spot.{Spot}
use Rattle.gates.specs.Rule.{Meaning}
use Rattle.transact.specs.Tables.{AreThere, joined}
use Rattle.shards.specs.declared.shard.Shard.{Shard}
use Rattle.shards.specs.Shards.{logs_of, shard_log, weigh}
use Rattle.plans.specs.Memory.{IsBriefOn}
use Rattle.plans.specs.Settling.{IfGives, IfWrites, IsInlineOn, IsSettled, IsSpot, SettlesAs, changes}
use Rattle.plans.specs.declared.settling.Change.{Change}
use Rattle.plans.specs.declared.settling.Change.TheVariants as change
use Rattle.plans.specs.declared.settling.Settled.{Settled}
use Rattle.plans.proofs.Logs.{log_at}
use Rattle.plans.proofs.Plans.{Depends, answer_same, plan_of_answer}
use Rattle.plans.proofs.Stores.{same_key}

-- such a command reads or writes its key
pub one_touches : (verb : Verb) (key value : Bytes) → touches_keys (commanded verb key value) ≡ true
one_touches (verb.Count (by.Add n)) key value = refl
one_touches (verb.Count (by.Subtract n)) key value = refl
one_touches verb.SetNx key value = refl
one_touches verb.GetSet key value = refl
one_touches verb.Append key value = refl
one_touches verb.GetDel key value = refl
one_touches verb.StrLen key value = refl
one_touches verb.Exists key value = refl
one_touches verb.Del key value = refl

-- and names no other
pub one_names : (verb : Verb) (key value : Bytes) → keys_of (commanded verb key value) ≡ key ∷ []
one_names (verb.Count (by.Add n)) key value = refl
one_names (verb.Count (by.Subtract n)) key value = refl
one_names verb.SetNx key value = refl
one_names verb.GetSet key value = refl
one_names verb.Append key value = refl
one_names verb.GetDel key value = refl
one_names verb.StrLen key value = refl
one_names verb.Exists key value = refl
one_names verb.Del key value = refl

-- so it is with a SET, whatever its options
pub set_touches : (key value : Bytes) (when : When) (gets : Bool) → touches_keys (set_with key value (Some (when, gets))) ≡ true
set_touches key value when true = refl
set_touches key value when false = refl

pub set_names : (key value : Bytes) (when : When) (gets : Bool) → keys_of (set_with key value (Some (when, gets))) ≡ key ∷ []
set_names key value when true = refl
set_names key value when false = refl

pub set_short : (key value : Bytes) (when : When) (gets : Bool) → IsBounded (set_with key value (Some (when, gets))) → length value ≤ VALUE_BYTES_MAX
set_short key value when true bounded = bounded.values.0
set_short key value when false bounded = bounded.values.0

-- what is said of the text that the key gets, said otherwise
pub gives_then : (change : Change) (value : Bytes) (P Q : Bytes → Type 0) → ((text : Bytes) → P text → Q text) → IfGives change value P → IfGives change value Q
gives_then change.Nothing value P Q turn has = tt
gives_then change.Given value P Q turn has = turn value has
gives_then (change.Made text) value P Q turn has = turn text has
gives_then change.Deleted value P Q turn has = tt

-- and of what is written
writes_then : (change : Change) (value : Bytes) (P Q : Bytes → Type 0) → ((text : Bytes) → P text → Q text) → IfWrites change value P → IfWrites change value Q
writes_then change.Nothing value P Q turn has = tt
writes_then change.Given value P Q turn has = turn value has
writes_then (change.Made text) value P Q turn has = turn text has
writes_then change.Deleted value P Q turn has = turn [] has

light_text : (key text : Bytes) → length key ≤ KEY_BYTES_MAX → length text ≤ VALUE_BYTES_MAX → weigh (key, Some text) ≤ WEIGHT_MAX
light_text key text few short = omega (arith, few, short)

light_alone : (key : Bytes) → length key ≤ KEY_BYTES_MAX → weigh (key, None) ≤ WEIGHT_MAX
light_alone key few = omega (arith, few)

light_one : (w : Write) → weigh w ≤ WEIGHT_MAX → nat_lt WEIGHT_MAX (weight (w ∷ [])) ≡ false
light_one w light = le-ltb WEIGHT_MAX (weight (w ∷ [])) (subst (λ (m : ℕ). m ≤ WEIGHT_MAX) (sym (add-zero (weigh w))) light)

-- a change of one key is light
light_change : (change : Change) (key value : Bytes) → length key ≤ KEY_BYTES_MAX → IfGives change value (λ text. length text ≤ VALUE_BYTES_MAX)
    → nat_lt WEIGHT_MAX (weight (changes change key value)) ≡ false
light_change change.Nothing key value few short = refl
light_change change.Given key value few short = light_one (key, Some value) (light_text key value few short)
light_change (change.Made text) key value few short = light_one (key, Some text) (light_text key text few short)
light_change change.Deleted key value few short = light_one (key, None) (light_alone key few)

some_log : (a b : HybridLog) → Some a ≡ Some b → a ≡ b
some_log a b e = cc e

key_bounded : (key : Bytes) (command : Command) → keys_of command ≡ key ∷ [] → IsBounded command → length key ≤ KEY_BYTES_MAX
key_bounded key command names bounded = (subst AreKeysBounded names bounded.keys).0

module _ {R : Type 0} (n : ℕ) (parts : ℕ → Option (Shard R)) (key : Bytes) (part : Shard R) (there : parts (stripe_of n key) ≡ Some part) where
  -- a spot in the part of the key's stripe is one in the parts
  spot_at : (text : Bytes) (spot : Spot) → IsInPlace (shard_log part) key (length text) spot.address → IsSpot n (logs_of parts) key text spot
  spot_at text spot has = λ log is.
      subst (λ (l : HybridLog). IsInPlace l key (length text) spot.address) (some_log (shard_log part) log (sym (log_at parts (stripe_of n key) part there) ∙ is)) has

  spot_there : (change : Change) (value : Bytes) (spot : Option Spot) → IfSome spot (λ found. IfWrites change value (λ text. IsInPlace (shard_log part) key (length text) found.address))
      → IfSome spot (λ found. IfWrites change value (λ text. IsSpot n (logs_of parts) key text found))
  spot_there change value None has = tt
  spot_there change value (Some spot) has =
      writes_then change value (λ text. IsInPlace (shard_log part) key (length text) spot.address) (λ text. IsSpot n (logs_of parts) key text spot) (λ text. spot_at text spot) has

  module _ (law : Depends) (contents : Meaning (Shard R)) (command : Command) (value : Bytes) (Right : Type 0) (touches : touches_keys command ≡ true) (names : keys_of command ≡ key ∷ []) where
    settled_by : (settled : Settled) → AreThere n parts (key ∷ []) → IsBounded command
        → SettlesAs Right (joined contents n parts key) command key value settled
        → IfGives settled.change value (λ text. length text ≤ VALUE_BYTES_MAX)
        → IfSome settled.spot (λ spot. IfWrites settled.change value (λ text. IsInPlace (shard_log part) key (length text) spot.address))
        → IsSettled Right contents n parts key value command settled
    settled_by settled held bounded is short spot =
        let few : length key ≤ KEY_BYTES_MAX = key_bounded key command names bounded in
        let done : Answer = answer (joined contents n parts) command in
        let light : nat_lt WEIGHT_MAX (weight (changes settled.change key value)) ≡ false = light_change settled.change key value few short in
        record {
          due = λ right seen reads.
              let writes : done.1 ≡ changes settled.change key value = ap (λ (o : Reply × List Write). o.1) (is right (joined contents n parts) refl) in
              let heavy : nat_lt WEIGHT_MAX (weight done.1) ≡ false = ap (λ (ws : List Write). nat_lt WEIGHT_MAX (weight ws)) writes ∙ light in
              plan_of_answer contents n parts law seen command done settled.reply (changes settled.change key value) touches refl reads
              (subst (AreThere n parts) (sym names) held)
              (sym (ap (λ (o : Reply × List Write). o.0) (is right (joined contents n parts) refl)) ∙ sym (ap (λ b. cond b too_much (outcome (joined contents n parts) (Run command)).0) heavy))
              (sym writes ∙ sym (ap (λ b. cond b [] done.1) heavy));
          light = gives_then settled.change value (λ text. length text ≤ VALUE_BYTES_MAX) (λ text. weigh (key, Some text) ≤ WEIGHT_MAX) (λ text. light_text key text few) short;
          short = short;
          spot = spot_there settled.change value settled.spot spot;
        }

    -- what was settled on the part of the key's stripe is settled on the parts
    pub some_settled : (settled : Option Settled) → AreThere n parts (key ∷ []) → IsBounded command
        → IfSome settled (SettlesAs Right (joined contents n parts key) command key value)
        → IfSome settled (λ s. IfGives s.change value (λ text. length text ≤ VALUE_BYTES_MAX))
        → IfSome settled (λ s. IfSome s.spot (λ spot. IfWrites s.change value (λ text. IsInPlace (shard_log part) key (length text) spot.address)))
        → IfSome settled (IsSettled Right contents n parts key value command)
    some_settled None held bounded is short spot = tt
    some_settled (Some settled) held bounded is short spot = settled_by settled held bounded is short spot

-- A command that is brief on a store is answered and writes without an allocation there.
pub brief_inline : Depends → (verb : Verb) (key value : Bytes) (store : Store) → IsBriefOn store (commanded verb key value) → IsInlineOn store (commanded verb key value)
brief_inline law verb key value store brief =
    let command : Command = commanded verb key value in
    let named : Bytes = brief.0 in
    let alone : Store = written empty ((named, store named) ∷ []) in
    let at : alone named ≡ store named = ap (λ b. cond b (store named) None) (same_key named) in
    let same : answer alone command ≡ answer store command = answer_same law command alone store (subst (λ (keys : List Bytes). AreSameAt keys alone store) (sym brief.1.keys) (at, tt)) in
    record {
      reply = subst IsInlineReply (ap (λ (a : Answer). a.0) same) brief.1.texts.reply;
      writes = subst AreInline (ap (λ (a : Answer). a.1) same) brief.1.texts.writes;
    }
