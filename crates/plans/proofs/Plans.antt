-- What plans are due.
use Rattle.std.proofs.lemmas.Bool.{le-ltb}
use Rattle.std.proofs.Common.{◌≤◌, ◌≡◌, ◌∙◌, ℕ, Bool, true, false, List, [], ◌∷◌, ◌++◌, Option, Some, None, IsSome, refl, sym, ap, subst, cond, nat_lt, append_assoc, length, ◌+◌, if◌then◌else◌}
use Rattle.std.specs.Prelude.{ℤ, ◌+ℤ◌, ◌-ℤ◌}
use Rattle.words.specs.declared.limits.TheConstants.{WEIGHT_MAX, VALUE_BYTES_MAX}
use Rattle.words.specs.declared.command.Command.{Command}
use Rattle.words.specs.declared.command.Command.TheVariants.{Ping, Echo, Get, Set, SetGet, SetNx, GetSet, GetDel, StrLen, Exists, Del, Append, SetRange, GetRange, Add, Subtract, MGet, MSet, MSetNx, Rename, Session, Bad}
use Rattle.words.specs.declared.reply.CommandReply.{CommandReply}
use Rattle.words.specs.declared.reply.CommandReply.TheVariants.{One, Array}
use Rattle.words.specs.declared.reply.Item.{Item}
use Rattle.words.specs.declared.reply.Reply.{Reply}
use Rattle.words.specs.declared.reply.Reply.TheVariants as reply
use Rattle.words.specs.declared.history.Entry.{Entry}
use Rattle.words.specs.declared.history.Operation.{Operation}
use Rattle.words.specs.declared.history.Operation.TheVariants.{Run, Exec}
use Rattle.words.specs.Store.{Bytes, Store, Write, empty, written, writes_key, weight}
use Rattle.words.specs.Commands.{touches_keys, keys_of, keys_of_all}
use Rattle.words.specs.Numbers.{in_range}
use Rattle.words.specs.Answers.{Answer, answer, answers, allows, is_some, any_there, item_of, items_of, grown, set_range_answer, changed, number_at, value_of, line, bulk}
use Rattle.words.specs.History.{History, Pair, after, due, outcome, was_not_done, too_much, is_dirty, pairs_of, keys_named, writes_of, keys_of_pairs}
use Rattle.words.specs.declared.reply.Line.TheVariants.{Done}
use Rattle.words.specs.declared.command.When.TheVariants.{Always}
use Rattle.words.specs.Locality.{AreSameAt, IsNoneOf}
use Rattle.words.specs.Stripes.{stripe_of}
use Rattle.strings.specs.declared.overlay.Overlay.{Overlay}
use Rattle.strings.specs.Overlays.{shown}
use Rattle.gates.specs.Rule.{Meaning}
use Rattle.gates.specs.Passes.{AreWatched}
use Rattle.transact.specs.Plans.{IsPlan, made}
use Rattle.transact.specs.Tables.{AreThere, AllRead, AllMarked, any_marked, joined, joined_marks, keys_written, values_of}
use Rattle.plans.specs.Finding.{ReadsNothing}
use Rattle.plans.proofs.Stores.{written-append}
use Rattle.plans.proofs.Keys.{any_is, found_agrees, joined_at, joined_same, none_more, same_both, same_more, written_there}

-- A command that touches keys is never answered by the line of writes that weigh too much.

either_ran : (test : Bool) (one two : Answer) → was_not_done (reply.Single one.0) ≡ false → was_not_done (reply.Single two.0) ≡ false
    → was_not_done (reply.Single (if test then one else two).0) ≡ false
either_ran true one two is_one is_two = is_one
either_ran false one two is_one is_two = is_two

grown_ran : (key value : Bytes) → was_not_done (reply.Single (grown key value).0) ≡ false
grown_ran key value = either_ran (nat_lt VALUE_BYTES_MAX (length value)) _ _ refl refl

set_range_ran : (key old : Bytes) (offset : ℕ) (value : Bytes) → was_not_done (reply.Single (set_range_answer key old offset value).0) ≡ false
set_range_ran key old offset [] = refl
set_range_ran key old offset (byte ∷ bytes) = either_ran (nat_lt VALUE_BYTES_MAX (offset + length (byte ∷ bytes))) _ _ refl refl

changed_ran : (key : Bytes) (found : Option ℤ) (change : ℤ → ℤ) → was_not_done (reply.Single (changed key found change).0) ≡ false
changed_ran key None change = refl
changed_ran key (Some n) change = either_ran (in_range (change n)) _ _ refl refl

item_ran : (value : Option Bytes) → was_not_done (reply.Single (One (item_of value))) ≡ false
item_ran None = refl
item_ran (Some value) = refl

answer_ran : (command : Command) (store : Store) → touches_keys command ≡ true → was_not_done (reply.Single (answer store command).0) ≡ false
answer_ran (Ping text) store touches = absurd (cc touches)
answer_ran (Echo text) store touches = absurd (cc touches)
answer_ran (Get key) store touches = item_ran (store key)
answer_ran (Set key value when) store touches = either_ran (allows when (store key)) _ _ refl refl
answer_ran (SetGet key value when) store touches = item_ran (store key)
answer_ran (SetNx key value) store touches = either_ran (is_some (store key)) _ _ refl refl
answer_ran (GetSet key value) store touches = item_ran (store key)
answer_ran (GetDel key) store touches = item_ran (store key)
answer_ran (StrLen key) store touches = refl
answer_ran (Exists keys) store touches = refl
answer_ran (Del keys) store touches = refl
answer_ran (Append key value) store touches = grown_ran key (value_of (store key) ++ value)
answer_ran (SetRange key offset value) store touches = set_range_ran key (value_of (store key)) offset value
answer_ran (GetRange key start end) store touches = refl
answer_ran (Add key n) store touches = changed_ran key (number_at (store key)) (λ old. old +ℤ n)
answer_ran (Subtract key n) store touches = changed_ran key (number_at (store key)) (λ old. old -ℤ n)
answer_ran (MGet keys) store touches = refl
answer_ran (MSet settings) store touches = refl
answer_ran (MSetNx settings) store touches = either_ran (any_there store settings) _ _ refl refl
answer_ran (Rename key name) store touches = either_ran (is_some (store key)) _ _ refl refl
answer_ran (Session command) store touches = absurd (cc touches)
answer_ran (Bad refusal) store touches = absurd (cc touches)

-- The laws of operations that plans rest on.

abbrev pub Depends : Type 0
Depends = (operation : Operation) (one other : Store) → AreSameAt (keys_named operation) one other → outcome one operation ≡ outcome other operation

abbrev pub WritesNamed : Type 0
WritesNamed = (store : Store) (entry : Entry) (key : Bytes) → IsNoneOf (keys_named entry.operation) key → writes_key (writes_of store entry) key ≡ false

abbrev single : CommandReply → Reply → CommandReply
single other (reply.Single said) = said
single other _ = other

abbrev items : List CommandReply → Reply → List CommandReply
items other (reply.Array said) = said
items other _ = other

pub answer_same : Depends → (command : Command) (one other : Store) → AreSameAt (keys_of command) one other → answer one command ≡ answer other command
answer_same law command one other same =
    let is = law (Run command) one other same in λ i. (single (answer one command).0 (is i).0, (is i).1)

answers_same : Depends → (commands : List Command) (one other : Store) → AreSameAt (keys_of_all commands) one other → answers one commands ≡ answers other commands
answers_same law commands one other same =
    let is = law (Exec commands []) one other (same_more (keys_of_all commands) one other same) in λ i. (items (answers one commands).0 (is i).0, (is i).1)

-- an entry that is only looked at
abbrev pub entry_of : Operation → Entry
entry_of operation = record { session = 0; operation = operation; reply = reply.Array [] }

is_plan : (seen : History) (operation : Operation) (planned_reply one : Reply) (planned_writes ws : List Write) (heavy : Bool)
    → is_dirty seen (pairs_of operation) ≡ false → outcome (after seen) operation ≡ (one, ws) → heavy ≡ nat_lt WEIGHT_MAX (weight ws)
    → planned_reply ≡ cond heavy too_much one → planned_writes ≡ cond heavy [] ws → was_not_done one ≡ false
    → IsPlan seen operation planned_reply planned_writes
is_plan seen operation planned_reply one planned_writes ws heavy clean all heavy_is reply_is writes_are done =
    let due_is : due seen operation ≡ cond heavy too_much one =
    ap (λ b. cond b reply.NullArray (cond (nat_lt WEIGHT_MAX (weight (outcome (after seen) operation).1)) too_much (outcome (after seen) operation).0)) clean
    ∙ ap (λ (o : Reply × List Write). cond (nat_lt WEIGHT_MAX (weight o.1)) too_much o.0) all
    ∙ ap (λ b. cond b too_much one) (sym heavy_is) in
    let made_is : made seen operation ≡ cond (was_not_done (cond heavy too_much one)) [] ws =
    ap (λ (r : Reply). cond (was_not_done r) [] (outcome (after seen) operation).1) due_is ∙ ap (λ (o : Reply × List Write). cond (was_not_done (cond heavy too_much one)) [] o.1) all in
    record {
      reply_due = reply_is ∙ sym due_is;
      writes_due = writes_are
          ∙ elim heavy as (λ h. cond h [] ws ≡ cond (was_not_done (cond h too_much one)) [] ws) [
            | true ↦ refl
            | false ↦ ap (λ b. cond b [] ws) (sym done)
          ] ∙ sym made_is;
    }

-- stores that are the same at keys have the same items of them
same_items : (keys : List Bytes) (one other : Store) → AreSameAt keys one other → items_of one keys ≡ items_of other keys
same_items [] one other same = refl
same_items (key ∷ keys) one other same = λ i. item_of (same.0 i) ∷ same_items keys one other same.1 i

-- a command that reads nothing is answered as on an empty store
pub plan_of_unread : (seen : History) (command : Command) (done : CommandReply × List Write) (planned_reply : Reply) (planned_writes : List Write)
    → touches_keys command ≡ true → ReadsNothing command → done ≡ answer empty command
    → planned_reply ≡ cond (nat_lt WEIGHT_MAX (weight done.1)) too_much (reply.Single done.0) → planned_writes ≡ cond (nat_lt WEIGHT_MAX (weight done.1)) [] done.1
    → IsPlan seen (Run command) planned_reply planned_writes
plan_of_unread seen command done planned_reply planned_writes touches unread done_is reply_is writes_are =
    let all : done ≡ answer (after seen) command = done_is ∙ unread empty (after seen) in
    is_plan seen (Run command) planned_reply (reply.Single done.0) planned_writes done.1 (nat_lt WEIGHT_MAX (weight done.1)) refl
    (ap (λ (a : CommandReply × List Write). (reply.Single a.0, a.1)) (sym all)) refl reply_is writes_are
    (ap (λ (a : CommandReply × List Write). was_not_done (reply.Single a.0)) all ∙ answer_ran command (after seen) touches)

module _ {T : Type 0} (contents : Meaning T) (n : ℕ) (parts : ℕ → Option T) where
  -- what was found of keys shows what a store has of them of which there are the parts
  found_shows : (keys : List Bytes) (whole : Store) (found start : List Write) → start ≡ [] → found ≡ start ++ values_of (joined contents n parts) keys
      → AllRead contents n parts whole → AreThere n parts keys → AreSameAt keys (written empty found) whole
  found_shows keys whole found start none is reads there =
      same_both keys (written empty found) (joined contents n parts) whole
      (subst (λ (f : List Write). AreSameAt keys (written empty f) (joined contents n parts)) (sym (is ∙ ap (λ (s : List Write). s ++ values_of (joined contents n parts) keys) none))
      (found_agrees keys (joined contents n parts) empty))
      (joined_same contents n parts keys whole reads there)

  pub plan_of_one : Depends → (seen : History) (command : Command) (found start : List Write) (done : CommandReply × List Write) (planned_reply : Reply) (planned_writes : List Write)
      → touches_keys command ≡ true → start ≡ [] → found ≡ start ++ values_of (joined contents n parts) (keys_of command) → done ≡ answer (written empty found) command
      → AllRead contents n parts (after seen) → AreThere n parts (keys_of command)
      → planned_reply ≡ cond (nat_lt WEIGHT_MAX (weight done.1)) too_much (reply.Single done.0) → planned_writes ≡ cond (nat_lt WEIGHT_MAX (weight done.1)) [] done.1
      → IsPlan seen (Run command) planned_reply planned_writes
  plan_of_one law seen command found start done planned_reply planned_writes touches none found_is done_is reads there reply_is writes_are =
      let all : done ≡ answer (after seen) command =
      done_is ∙ answer_same law command (written empty found) (after seen) (found_shows (keys_of command) (after seen) found start none found_is reads there) in
      is_plan seen (Run command) planned_reply (reply.Single done.0) planned_writes done.1 (nat_lt WEIGHT_MAX (weight done.1)) refl
      (ap (λ (a : CommandReply × List Write). (reply.Single a.0, a.1)) (sym all)) refl reply_is writes_are
      (ap (λ (a : CommandReply × List Write). was_not_done (reply.Single a.0)) all ∙ answer_ran command (after seen) touches)

  -- a GET is answered what the part of its key has, and writes nothing
  pub plan_of_get : (seen : History) (key : Bytes) (value : Option Bytes) (planned_reply : Reply) (planned_writes : List Write) → value ≡ joined contents n parts key
      → AllRead contents n parts (after seen) → IsSome (parts (stripe_of n key)) → planned_reply ≡ reply.Single (bulk value) → planned_writes ≡ []
      → IsPlan seen (Run (Get key)) planned_reply planned_writes
  plan_of_get seen key value planned_reply planned_writes value_is reads there reply_is writes_are =
      is_plan seen (Run (Get key)) planned_reply (reply.Single (bulk value)) planned_writes [] false refl
      (ap (λ (v : Option Bytes). (reply.Single (bulk v), [])) (sym (value_is ∙ joined_at contents n parts (after seen) key reads there))) refl reply_is writes_are (item_ran value)

  -- a MGET is answered what the parts of its keys have, and writes nothing
  pub plan_of_items : (seen : History) (command : Command) (keys : List Bytes) (items start : List Item) (planned_reply : Reply) (planned_writes : List Write) → command ≡ MGet keys → start ≡ []
      → items ≡ start ++ items_of (joined contents n parts) keys → AllRead contents n parts (after seen) → AreThere n parts keys → planned_reply ≡ reply.Single (Array items) → planned_writes ≡ []
      → IsPlan seen (Run command) planned_reply planned_writes
  plan_of_items seen command keys items start planned_reply planned_writes is none items_are reads there reply_is writes_are =
      let all : items ≡ items_of (after seen) keys =
      items_are ∙ ap (λ (l : List Item). l ++ items_of (joined contents n parts) keys) none ∙ same_items keys (joined contents n parts) (after seen) (joined_same contents n parts keys (after seen) reads there) in
      subst (λ (x : Command). IsPlan seen (Run x) planned_reply planned_writes) (sym is)
      (is_plan seen (Run (MGet keys)) planned_reply (reply.Single (Array items)) planned_writes [] false refl
      (ap (λ (l : List Item). (reply.Single (Array l), [])) (sym all)) refl reply_is writes_are refl)

  pub plan_of_all : Depends → (seen : History) (commands : List Command) (watched : List Pair) (found start : List Write) (done : List CommandReply × List Write) (planned_reply : Reply) (planned_writes : List Write)
      → is_dirty seen watched ≡ false → start ≡ [] → found ≡ start ++ values_of (joined contents n parts) (keys_of_all commands) → done ≡ answers (written empty found) commands
      → AllRead contents n parts (after seen) → AreThere n parts (keys_of_all commands)
      → planned_reply ≡ cond (nat_lt WEIGHT_MAX (weight done.1)) too_much (reply.Array done.0) → planned_writes ≡ cond (nat_lt WEIGHT_MAX (weight done.1)) [] done.1
      → IsPlan seen (Exec commands watched) planned_reply planned_writes
  plan_of_all law seen commands watched found start done planned_reply planned_writes clean none found_is done_is reads there reply_is writes_are =
      let all : done ≡ answers (after seen) commands =
      done_is ∙ answers_same law commands (written empty found) (after seen) (found_shows (keys_of_all commands) (after seen) found start none found_is reads there) in
      is_plan seen (Exec commands watched) planned_reply (reply.Array done.0) planned_writes done.1 (nat_lt WEIGHT_MAX (weight done.1)) clean
      (ap (λ (a : List CommandReply × List Write). (reply.Array a.0, a.1)) (sym all)) refl reply_is writes_are refl

  -- a command that was run on what the parts have together
  pub plan_of_answer : Depends → (seen : History) (command : Command) (done : CommandReply × List Write) (planned_reply : Reply) (planned_writes : List Write)
      → touches_keys command ≡ true → done ≡ answer (joined contents n parts) command
      → AllRead contents n parts (after seen) → AreThere n parts (keys_of command)
      → planned_reply ≡ cond (nat_lt WEIGHT_MAX (weight done.1)) too_much (reply.Single done.0) → planned_writes ≡ cond (nat_lt WEIGHT_MAX (weight done.1)) [] done.1
      → IsPlan seen (Run command) planned_reply planned_writes
  plan_of_answer law seen command done planned_reply planned_writes touches done_is reads there reply_is writes_are =
      let all : done ≡ answer (after seen) command =
      done_is ∙ answer_same law command (joined contents n parts) (after seen) (joined_same contents n parts (keys_of command) (after seen) reads there) in
      is_plan seen (Run command) planned_reply (reply.Single done.0) planned_writes done.1 (nat_lt WEIGHT_MAX (weight done.1)) refl
      (ap (λ (a : CommandReply × List Write). (reply.Single a.0, a.1)) (sym all)) refl reply_is writes_are
      (ap (λ (a : CommandReply × List Write). was_not_done (reply.Single a.0)) all ∙ answer_ran command (after seen) touches)

  -- commands that were run on what the parts have together
  pub plan_of_run : Depends → (seen : History) (commands : List Command) (watched : List Pair) (done : List CommandReply × List Write) (planned_reply : Reply) (planned_writes : List Write)
      → is_dirty seen watched ≡ false → done ≡ answers (joined contents n parts) commands
      → AllRead contents n parts (after seen) → AreThere n parts (keys_of_all commands)
      → planned_reply ≡ cond (nat_lt WEIGHT_MAX (weight done.1)) too_much (reply.Array done.0) → planned_writes ≡ cond (nat_lt WEIGHT_MAX (weight done.1)) [] done.1
      → IsPlan seen (Exec commands watched) planned_reply planned_writes
  plan_of_run law seen commands watched done planned_reply planned_writes clean done_is reads there reply_is writes_are =
      let all : done ≡ answers (after seen) commands =
      done_is ∙ answers_same law commands (joined contents n parts) (after seen) (joined_same contents n parts (keys_of_all commands) (after seen) reads there) in
      is_plan seen (Exec commands watched) planned_reply (reply.Array done.0) planned_writes done.1 (nat_lt WEIGHT_MAX (weight done.1)) clean
      (ap (λ (a : List CommandReply × List Write). (reply.Array a.0, a.1)) (sym all)) refl reply_is writes_are refl

  -- there is a part for each key that a command writes
  pub answer_there : WritesNamed → (command : Command) (store : Store) (ws : List Write) → ws ≡ (answer store command).1 → AreThere n parts (keys_of command) → AreThere n parts (keys_written ws)
  answer_there law command store ws is there =
      subst (λ (l : List Write). AreThere n parts (keys_written l)) (sym is)
      (written_there contents n parts (keys_of command) (answer store command).1 (answer store command).1 (law store (entry_of (Run command))) (λ key e. e) there)

  pub answers_there : WritesNamed → (commands : List Command) (store : Store) (ws : List Write) → ws ≡ (answers store commands).1 → AreThere n parts (keys_of_all commands) → AreThere n parts (keys_written ws)
  answers_there law commands store ws is there =
      subst (λ (l : List Write). AreThere n parts (keys_written l)) (sym is)
      (written_there contents n parts (keys_of_all commands) (answers store commands).1 (answers store commands).1
      (λ key none. law store (entry_of (Exec commands [])) key (none_more (keys_of_all commands) key none)) (λ key e. e) there)

  -- the marks of all that is watched tell whether a transaction is dirty
  pub dirty_is : (seen : History) (own : ℕ) (watched : List Pair) (keys : List Bytes) (b : Bool) → keys ≡ keys_of_pairs watched → b ≡ any_marked (joined_marks contents n parts) own keys
      → AllMarked contents n parts seen own watched → AreThere n parts keys → AreWatched watched watched → is_dirty seen watched ≡ b
  dirty_is seen own watched keys b keys_are is marked there once =
      sym (is ∙ ap (any_marked (joined_marks contents n parts) own) keys_are
      ∙ any_is contents n parts seen own watched watched marked (subst (AreThere n parts) keys_are there) once)

due_null : (seen : History) (commands : List Command) (watched : List Pair) → is_dirty seen watched ≡ true → due seen (Exec commands watched) ≡ reply.NullArray
due_null seen commands watched dirty = ap (λ b. cond b reply.NullArray (due seen (Exec commands []))) dirty

pub null_plan : (seen : History) (commands : List Command) (watched : List Pair) (r : Reply) (ws : List Write) → is_dirty seen watched ≡ true → r ≡ reply.NullArray → ws ≡ []
    → IsPlan seen (Exec commands watched) r ws
null_plan seen commands watched r ws dirty r_is ws_are =
    record {
      reply_due = r_is ∙ sym (due_null seen commands watched dirty);
      writes_due = ws_are ∙ sym (ap (λ (x : Reply). cond (was_not_done x) [] (outcome (after seen) (Exec commands watched)).1) (due_null seen commands watched dirty));
    }

-- Commands that run one after the other.

module _ (o0 o1 : Overlay) (command : Command) (others all : List Command) (writes : o1.writes ≡ o0.writes ++ (answer (shown o0) command).1) (found : o1.found ≡ o0.found) (are : all ≡ command ∷ others) where
  shown_more : shown o1 ≡ written (shown o0) (answer (shown o0) command).1
  shown_more =
      ap (λ (f : List Write). written (written empty f) o1.writes) found
      ∙ ap (λ (w : List Write). written (written empty o0.found) w) writes
      ∙ written-append o0.writes (answer (shown o0) command).1 (written empty o0.found)

  pub replies_more : (r0 r1 r2 : List CommandReply) (said : CommandReply) → said ≡ (answer (shown o0) command).0 → r1 ≡ r0 ++ said ∷ []
      → r2 ≡ r1 ++ (answers (shown o1) others).0 → r2 ≡ r0 ++ (answers (shown o0) all).0
  replies_more r0 r1 r2 said said_is one two =
      two ∙ ap (λ (r : List CommandReply). r ++ (answers (shown o1) others).0) one
      ∙ append_assoc r0 (said ∷ []) (answers (shown o1) others).0
      ∙ ap (λ (x : CommandReply). r0 ++ x ∷ (answers (shown o1) others).0) said_is
      ∙ ap (λ (s : Store). r0 ++ (answer (shown o0) command).0 ∷ (answers s others).0) shown_more
      ∙ ap (λ (l : List Command). r0 ++ (answers (shown o0) l).0) (sym are)

  pub writes_more : (w2 : List Write) → w2 ≡ o1.writes ++ (answers (shown o1) others).1 → w2 ≡ o0.writes ++ (answers (shown o0) all).1
  writes_more w2 two =
      two ∙ ap (λ (w : List Write). w ++ (answers (shown o1) others).1) writes
      ∙ append_assoc o0.writes (answer (shown o0) command).1 (answers (shown o1) others).1
      ∙ ap (λ (s : Store). o0.writes ++ ((answer (shown o0) command).1 ++ (answers s others).1)) shown_more
      ∙ ap (λ (l : List Command). o0.writes ++ (answers (shown o0) l).1) (sym are)

-- a SET without an option is done where it is not too heavy
pub plan_of_set : (seen : History) (key value : Bytes) (heavy : Bool) (planned_reply : Reply) (planned_writes : List Write) → heavy ≡ nat_lt WEIGHT_MAX (weight ((key, Some value) ∷ []))
    → planned_reply ≡ cond heavy too_much (reply.Single (line Done)) → planned_writes ≡ cond heavy [] ((key, Some value) ∷ []) → IsPlan seen (Run (Set key value Always)) planned_reply planned_writes
plan_of_set seen key value heavy planned_reply planned_writes heavy_is reply_is writes_are =
    is_plan seen (Run (Set key value Always)) planned_reply (reply.Single (line Done)) planned_writes ((key, Some value) ∷ []) heavy refl refl heavy_is reply_is writes_are refl

-- writes that are light are made
pub light_writes : (due ws : List Write) → due ≡ ws → weight due ≤ WEIGHT_MAX → ws ≡ (if nat_lt WEIGHT_MAX (weight ws) then [] else ws)
light_writes due ws is light =
    let few : weight ws ≤ WEIGHT_MAX = subst (λ (l : List Write). weight l ≤ WEIGHT_MAX) is light in
    sym (ap (λ (b : Bool). if b then [] else ws) (le-ltb WEIGHT_MAX (weight ws) few))
