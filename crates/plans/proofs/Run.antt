-- Commands that run one after the other, each on what its keys have.
use Rattle.std.proofs.Common.{◌≡◌, ◌∙◌, ◌++◌, ◌∷◌, ◌+◌, ◌||◌, [], ℕ, List, length, Bool, true, false, cond, bytes_eq, if◌then◌else◌, arith, Option, Some, None, IfSome, append_assoc, append-nil, refl, sym, ap, subst}
use Rattle.std.specs.Map.{update}
use Rattle.words.specs.declared.command.Command.{Command}
use Rattle.words.specs.declared.reply.CommandReply.{CommandReply}
use Rattle.words.specs.Answers.{answer, answers, any_there, count_there, deletions, is_some, item_of, items_of, number, writes_set}
use Rattle.words.specs.declared.command.Command.TheVariants.{Exists, Del, MGet, MSetNx}
use Rattle.words.specs.declared.reply.CommandReply.TheVariants.{Array}
use Rattle.words.specs.declared.reply.Item.{Item}
use Rattle.words.specs.Commands.{keys_of, keys_set}
use Rattle.words.specs.Locality.{AreSameAt}
use Rattle.words.specs.Store.{Bytes, Store, Write, empty, writes_key, written}
use Rattle.hybrid.specs.Writing.{AreFit}
use Rattle.transact.specs.Tables.{AreThere, keys_written, values_of}
use Rattle.plans.specs.Running.{AreAlike, AsksPresence, HasRun, HasRunOn, HasShown, IsFound, ReadsOne, stand_in}
use Rattle.plans.specs.Sizes.{AllShort, AreShort, IsShort, IsSized}
use Rattle.plans.proofs.Found.{short_more, short_one, short_written}
use Rattle.plans.proofs.Keys.{found_agrees, values_of-append}
use Rattle.plans.proofs.Sized.{fit_both, short_fit}
use Rattle.plans.proofs.Stores.{same_key, written-append, written_same}

left_false : (a b : Bool) → (a || b) ≡ false → a ≡ false
left_false true b e = absurd (cc e)
left_false false b e = refl

right_false : (a b : Bool) → (a || b) ≡ false → b ≡ false
right_false true b e = absurd (cc e)
right_false false b e = e

-- of what there is, what follows
pub some_then : {A : Type 0} (P Q : A → Type 0) (o : Option A) → ((x : A) → P x → Q x) → IfSome o P → IfSome o Q
some_then P Q None turn has = has
some_then P Q (Some x) turn has = turn x has

-- writes leave two stores the same at keys at which they were
same_after : (keys : List Bytes) (one other : Store) (writes : List Write) → AreSameAt keys one other → AreSameAt keys (written one writes) (written other writes)
same_after [] one other writes same = tt
same_after (key ∷ keys) one other writes same = (written_same writes one other key same.0, same_after keys one other writes same.1)

-- a command was run on what was found, whose answer is that on the store where it is right
runs_so : (Right : Type 0) (store found : Store) (command : Command) (before after : List Write) (reply : CommandReply) → AllShort found → (Right → answer (written found before) command ≡ answer (written store before) command)
    → HasRun found command before after reply → HasRunOn Right store command before after reply
runs_so Right store found command before after reply short same ran = record {
  found = found;
  short = short;
  writes_are = ran.writes_are;
  is = λ right. record {
    reply_is = ran.reply_is ∙ ap (λ a. a.0) (same right);
    writes_are = ran.writes_are ∙ ap (λ (a : CommandReply × List Write). before ++ a.1) (same right);
  };
}

-- what was found of a key, as an overlay finds it
pub record AreFound (Right : Type 0) (store : Store) (key : Bytes) (found : List Write) : Type 0 where
  pub value : Option Bytes
  pub are : found ≡ (key, value) ∷ []
  pub has : IsFound Right store key value

-- what was found of a key is what a store has of it, after writes too
found_is : (Right : Type 0) (own store : Store) (key : Bytes) (found before : List Write) → AreFound Right own key found → store key ≡ own key → Right → written (written empty found) before key ≡ written store before key
found_is Right own store key found before has same right =
    (same_after (key ∷ []) (written empty found) store before
    (subst (λ (f : List Write). AreSameAt (key ∷ []) (written empty f) store) (sym (has.are ∙ ap (λ (v : Option Bytes). (key, v) ∷ []) (has.has.is right ∙ sym same))) (found_agrees (key ∷ []) store empty))).0

-- a command that reads this key alone was run on what was found of it
pub runs_one : (Right : Type 0) (own store : Store) (key : Bytes) (command : Command) (before after : List Write) (reply : CommandReply) (found : List Write)
    → ReadsOne key command → AreFound Right own key found → store key ≡ own key → HasRun (written empty found) command before after reply → HasRunOn Right store command before after reply
runs_one Right own store key command before after reply found reads has same ran =
    runs_so Right store (written empty found) command before after reply
    (subst (λ (f : List Write). AllShort (written empty f)) (sym has.are) (short_one key has.value has.has.short))
    (λ right. reads (written (written empty found) before) (written store before) (found_is Right own store key found before has same right))
    ran

-- the item of a key after writes
pub item_one : (Right : Type 0) (own store : Store) (key : Bytes) (before : List Write) (item : Item) (found : List Write) → AreFound Right own key found → store key ≡ own key → item ≡ item_of (written (written empty found) before key)
    → Right → item ≡ item_of (written store before key)
item_one Right own store key before item found has same is right = is ∙ ap item_of (found_is Right own store key found before has same right)

-- a stand-in is there where the value is
stands : (value : Option Bytes) → is_some (stand_in value) ≡ is_some value
stands None = refl
stands (Some value) = refl

alike_of : (keys : List Bytes) (one store : Store) → AreSameAt keys one (λ key. stand_in (store key)) → AreAlike keys one store
alike_of [] one store same = tt
alike_of (key ∷ keys) one store same = (ap is_some same.0 ∙ stands (store key), alike_of keys one store same.1)

alike_at : (writes : List Write) (one other : Store) (key : Bytes) → is_some (one key) ≡ is_some (other key) → is_some (written one writes key) ≡ is_some (written other writes key)
alike_at [] one other key same = same
alike_at (write ∷ writes) one other key same =
    alike_at writes (update bytes_eq one write.0 write.1) (update bytes_eq other write.0 write.1) key
    (elim (bytes_eq write.0 key) as (λ b. is_some (cond b write.1 (one key)) ≡ is_some (cond b write.1 (other key))) [ true ↦ refl | false ↦ same ])

alike_after : (keys : List Bytes) (one other : Store) (writes : List Write) → AreAlike keys one other → AreAlike keys (written one writes) (written other writes)
alike_after [] one other writes same = tt
alike_after (key ∷ keys) one other writes same = (alike_at writes one other key same.0, alike_after keys one other writes same.1)

pub stands_in : (value : Option Bytes) → (if is_some value then Some [] else None) ≡ stand_in value
stands_in None = refl
stands_in (Some value) = refl

pub stand_short : (there : Bool) → IsShort (if there then Some [] else None)
stand_short true = omega arith
stand_short false = omega arith

-- one key more was shown
pub shown_more : (Right : Type 0) (store : Store) (keys : List Bytes) (key : Bytes) (value : Option Bytes) (start found more : List Write) → HasShown Right store keys start found → more ≡ found ++ (key, value) ∷ [] → IsShort value
    → (Right → value ≡ stand_in (store key)) → HasShown Right store (keys ++ key ∷ []) start more
shown_more Right store keys key value start found more has is short stands_is = record {
  short = λ before. subst AreShort (sym is) (short_more found (key, value) (has.short before) short);
  is = λ right.
      is ∙ ap (λ (v : Option Bytes). found ++ (key, v) ∷ []) (stands_is right) ∙ ap (λ (f : List Write). f ++ (key, stand_in (store key)) ∷ []) (has.is right)
      ∙ append_assoc start (values_of (λ k. stand_in (store k)) keys) ((key, stand_in (store key)) ∷ [])
      ∙ ap (λ (f : List Write). start ++ f) (sym (values_of-append (λ k. stand_in (store k)) keys (key ∷ [])));
}

-- which keys are there was shown, of a command that asks that
pub runs_present : (Right : Type 0) (store : Store) (command : Command) (before after : List Write) (reply : CommandReply) (start shown : List Write) → start ≡ [] → HasShown Right store (keys_of command) start shown → AsksPresence command
    → HasRun (written empty shown) command before after reply → HasRunOn Right store command before after reply
runs_present Right store command before after reply start shown none has presence ran =
    runs_so Right store (written empty shown) command before after reply
    (short_written shown empty (λ key. omega arith) (has.short (subst AreShort (sym none) tt)))
    (λ right. presence (written (written empty shown) before) (written store before)
    (alike_after (keys_of command) (written empty shown) store before
    (alike_of (keys_of command) (written empty shown) store
    (subst (λ (f : List Write). AreSameAt (keys_of command) (written empty f) (λ key. stand_in (store key)))
    (sym (has.is right ∙ ap (λ (l : List Write). l ++ values_of (λ key. stand_in (store key)) (keys_of command)) none)) (found_agrees (keys_of command) (λ key. stand_in (store key)) empty)))))
    ran

-- Commands that ask which of their keys are there.
there_count : (keys : List Bytes) (one other : Store) → AreAlike keys one other → count_there one keys ≡ count_there other keys
there_count [] one other same = refl
there_count (key ∷ keys) one other same = λ i. (if same.0 i then 1 else 0) + there_count keys one other same.1 i

there_any : (settings : List (Bytes × Bytes)) (one other : Store) → AreAlike (keys_set settings) one other → any_there one settings ≡ any_there other settings
there_any [] one other same = refl
there_any (setting ∷ settings) one other same = λ i. same.0 i || there_any settings one other same.1 i

there_deleted : (keys : List Bytes) (one other : Store) → AreAlike keys one other → deletions one keys ≡ deletions other keys
there_deleted [] one other same = refl
there_deleted (key ∷ keys) one other same = λ i.
    if same.0 i then (key, None) ∷ there_deleted keys (update bytes_eq one key None) (update bytes_eq other key None) (alike_after keys one other ((key, None) ∷ []) same.1) i else there_deleted keys one other same.1 i

pub exists_asks : (keys : List Bytes) → AsksPresence (Exists keys)
exists_asks keys one other same = ap (λ n. (number n, [])) (there_count keys one other same)

pub del_asks : (keys : List Bytes) → AsksPresence (Del keys)
del_asks keys one other same = ap (λ (w : List Write). (number (length w), w)) (there_deleted keys one other same)

pub msetnx_asks : (settings : List (Bytes × Bytes)) → AsksPresence (MSetNx settings)
msetnx_asks settings one other same = ap (λ b. if b then (number 0, []) else (number 1, writes_set settings)) (there_any settings one other same)

-- what was written before and what the command writes fits, where the one does, and the other on short values
pub run_fits : (Right : Type 0) (store : Store) (command : Command) (before after : List Write) (reply : CommandReply) → HasRunOn Right store command before after reply → AreFit before → IsSized command → AreFit after
run_fits Right store command before after reply on fits sized =
    subst AreFit (sym on.writes_are)
    (fit_both before (answer (written on.found before) command).1 fits
    (sized (written on.found before) (short_written before on.found on.short (short_fit before fits))))

-- one command, and then others
pub replies_next : (store : Store) (command : Command) (others all : List Command) (before after : List Write) (said : CommandReply) (replies more : List CommandReply) → HasRun store command before after said
    → all ≡ command ∷ others → more ≡ replies ++ said ∷ [] → more ++ (answers (written store after) others).0 ≡ replies ++ (answers (written store before) all).0
replies_next store command others all before after said replies more ran are is =
    ap (λ (r : List CommandReply). r ++ (answers (written store after) others).0) is
    ∙ append_assoc replies (said ∷ []) (answers (written store after) others).0
    ∙ ap (λ (x : CommandReply). replies ++ x ∷ (answers (written store after) others).0) ran.reply_is
    ∙ ap (λ (s : Store). replies ++ (answer (written store before) command).0 ∷ (answers s others).0) (ap (written store) ran.writes_are ∙ written-append before (answer (written store before) command).1 store)
    ∙ ap (λ (l : List Command). replies ++ (answers (written store before) l).0) (sym are)

pub writes_next : (store : Store) (command : Command) (others all : List Command) (before after : List Write) (said : CommandReply) → HasRun store command before after said
    → all ≡ command ∷ others → after ++ (answers (written store after) others).1 ≡ before ++ (answers (written store before) all).1
writes_next store command others all before after said ran are =
    ap (λ (w : List Write). w ++ (answers (written store after) others).1) ran.writes_are
    ∙ append_assoc before (answer (written store before) command).1 (answers (written store after) others).1
    ∙ ap (λ (s : Store). before ++ ((answer (written store before) command).1 ++ (answers s others).1)) (ap (written store) ran.writes_are ∙ written-append before (answer (written store before) command).1 store)
    ∙ ap (λ (l : List Command). before ++ (answers (written store before) l).1) (sym are)

-- there is a part for each key that is written, and for those of more writes
pub there_both : {T : Type 0} (n : ℕ) (parts : ℕ → Option T) (one two all : List Write) → all ≡ one ++ two → AreThere n parts (keys_written one) → AreThere n parts (keys_written two) → AreThere n parts (keys_written all)
there_both n parts one two all is there more = subst (λ (l : List Write). AreThere n parts (keys_written l)) (sym is) (both one there)
  where
    both : (ws : List Write) → AreThere n parts (keys_written ws) → AreThere n parts (keys_written (ws ++ two))
    both [] there = more
    both (w ∷ ws) there = (there.0, both ws there.1)

-- a command that was run after no writes
pub run_first : (Right : Type 0) (store : Store) (command : Command) (start writes : List Write) (reply : CommandReply) → HasRunOn Right store command start writes reply → start ≡ [] → Right → (reply, writes) ≡ answer store command
run_first Right store command start writes reply on none right =
    let ran : HasRun store command [] writes reply = subst (λ (w : List Write). HasRun store command w writes reply) none (on.is right) in
    λ i. (ran.reply_is i, ran.writes_are i)

-- its writes, whatever was found
pub first_writes : (Right : Type 0) (store : Store) (command : Command) (start writes : List Write) (reply : CommandReply) (on : HasRunOn Right store command start writes reply) → start ≡ [] → writes ≡ (answer on.found command).1
first_writes Right store command start writes reply on none =
    on.writes_are ∙ ap (λ (w : List Write). w ++ (answer (written on.found w) command).1) none

-- the items of keys after writes
pub runs_items : (Right : Type 0) (store : Store) (keys : List Bytes) (command : Command) (before after : List Write) (items : List Item) → command ≡ MGet keys → after ≡ before → (Right → items ≡ items_of (written store before) keys)
    → HasRunOn Right store command before after (Array items)
runs_items Right store keys command before after items is same are = subst (λ (x : Command). HasRunOn Right store x before after (Array items)) (sym is) (record {
  found = empty;
  short = λ key. omega arith;
  writes_are = same ∙ sym (append-nil before);
  is = λ right. record { reply_is = ap Array (are right); writes_are = same ∙ sym (append-nil before) };
})

-- a key that writes leave has what it had
pub written_apart : (writes : List Write) (store : Store) (key : Bytes) → writes_key writes key ≡ false → written store writes key ≡ store key
written_apart [] store key none = refl
written_apart (write ∷ writes) store key none =
    let here : bytes_eq write.0 key ≡ false = left_false (bytes_eq write.0 key) (writes_key writes key) none in
    written_apart writes (update bytes_eq store write.0 write.1) key (right_false (bytes_eq write.0 key) (writes_key writes key) none)
    ∙ ap (λ b. cond b write.1 (store key)) here

-- a command was run on what its key has, which no write before it is to
pub run_apart : (key : Bytes) (value : Option Bytes) (command : Command) (before after : List Write) (reply : CommandReply) (done : CommandReply × List Write) → writes_key before key ≡ false
    → ((store : Store) → store key ≡ value → answer store command ≡ done) → reply ≡ done.0 → after ≡ before ++ done.1 → HasRun (written empty ((key, value) ∷ [])) command before after reply
run_apart key value command before after reply done none told said wrote =
    let alone : Store = written empty ((key, value) ∷ []) in
    let at : alone key ≡ value = ap (λ b. cond b value None) (same_key key) in
    let is : answer (written alone before) command ≡ done = told (written alone before) (written_apart before alone key none ∙ at) in
    record { reply_is = said ∙ ap (λ (a : CommandReply × List Write). a.0) (sym is); writes_are = wrote ∙ ap (λ (a : CommandReply × List Write). before ++ a.1) (sym is) }
