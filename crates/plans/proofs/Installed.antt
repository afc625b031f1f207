-- What is installed after a plan is what its entry leaves.
use Rattle.std.proofs.Common.{◌≡◌, ◌≢◌, ◌∙◌, ◌||◌, ℕ, Bool, true, false, List, [], ◌∷◌, Option, Some, None, IsSome, refl, sym, ap, subst, cond, nat_eq, bytes_eq, eq-eqb, ne_eqb}
use Rattle.words.specs.declared.reply.Reply.{Reply}
use Rattle.words.specs.declared.history.Operation.{Operation}
use Rattle.words.specs.declared.history.Entry.{Entry}
use Rattle.words.specs.Store.{Bytes, Write, written, writes_key}
use Rattle.words.specs.History.{History, Pair, after, outcome, writes_of, was_not_done, is_among, keys_of_pairs}
use Rattle.words.specs.Watches.{touched, begun, mark_at, mark_of, mark_after, watched_at}
use Rattle.words.specs.Stripes.{stripe_of}
use Rattle.words.specs.Session.{Asked, operation_of}
use Rattle.words.specs.Session as asked
use Rattle.gates.specs.Rule.{Meaning}
use Rattle.transact.specs.declared.call.Call.{Call}
use Rattle.transact.specs.declared.call.Call.TheVariants.{One, Watch, Exec, Forget}
use Rattle.transact.specs.Calls.{asked_of}
use Rattle.transact.specs.Plans.{IsPlan, IsInstalled, EndsAll, keys_begun, keys_ended}
use Rattle.transact.specs.Tables.{Change, Became, AllRead, AllMarked, Stand, begins, clears, touches, touches_and_clears, joined_marks, mark_in}
use Rattle.plans.proofs.Stores.{some_of, some_is}
use Rattle.plans.proofs.Become.{became_both, became_read}

-- the writes of a planned entry are those of the plan
pub planned_writes : (seen : History) (session : ℕ) (operation : Operation) (reply : Reply) (ws : List Write) → IsPlan seen operation reply ws
    → writes_of (after seen) (record { session = session; operation = operation; reply = reply }) ≡ ws
planned_writes seen session operation reply ws plan =
    ap (λ (r : Reply). cond (was_not_done r) [] (outcome (after seen) operation).1) plan.reply_due ∙ sym plan.writes_due

-- what a call makes of marks, from before its plan on
abbrev pub changes : Call → (own : ℕ) → List Write → Change
changes call own ws key number mark = touches_and_clears ws own (keys_ended call) key number (begins own (keys_begun call) key number mark)

pub not_among : (pairs : List Pair) (key : Bytes) → is_among (keys_of_pairs pairs) key ≡ false → watched_at pairs key ≡ None
not_among [] key e = refl
not_among (pair ∷ pairs) key e = elim (bytes_eq pair.0 key) as (λ b. (b || is_among (keys_of_pairs pairs) key) ≡ false → cond b (Some pair.1) (watched_at pairs key) ≡ None) [
  | true ↦ λ x. absurd cc
  | false ↦ λ x. not_among pairs key x
] e

-- to other sessions, marks are touched
pub others_touched : (call : Call) (own : ℕ) (ws : List Write) (key : Bytes) (number : ℕ) (m : Option Bool) → number ≢ own → changes call own ws key number m ≡ touched (writes_key ws key) m
others_touched call own ws key number m ne =
    let other : nat_eq own number ≡ false = ne_eqb own number (λ e. ne (sym e)) in
    ap (λ (o : Bool). cond o (cond (is_among (keys_ended call) key) None (touched (writes_key ws key) (cond o (cond (is_among (keys_begun call) key) (begun m) m) m)))
    (touched (writes_key ws key) (cond o (cond (is_among (keys_begun call) key) (begun m) m) m))) other

no_write : (m : Option Bool) → touched false m ≡ m
no_write None = refl
no_write (Some m) = refl

own_is : (call : Call) (own : ℕ) (ws : List Write) (key : Bytes) (m : Option Bool)
    → changes call own ws key own m ≡ cond (is_among (keys_ended call) key) None (touched (writes_key ws key) (cond (is_among (keys_begun call) key) (begun m) m))
own_is call own ws key m =
    ap (λ (o : Bool). cond o (cond (is_among (keys_ended call) key) None (touched (writes_key ws key) (cond o (cond (is_among (keys_begun call) key) (begun m) m) m)))
    (touched (writes_key ws key) (cond o (cond (is_among (keys_begun call) key) (begun m) m) m))) (eq-eqb own own refl)

-- its own session's marks are as its operation leaves them
pub own_after : (call : Call) (own : ℕ) (a : Asked) (seen : History) (watched : List Pair) (reply : Reply) (ws : List Write) (key : Bytes) (m : Option Bool)
    → asked_of call ≡ Some a → EndsAll call watched → IsPlan seen (operation_of watched a) reply ws → m ≡ mark_at seen watched key
    → changes call own ws key own m ≡ mark_after (operation_of watched a) (writes_key ws key) key m
own_after (One command) own a seen watched reply ws key m asks ends plan mark =
    own_is (One command) own ws key m ∙ ap (λ (x : Asked). mark_after (operation_of watched x) (writes_key ws key) key m) (some_is (asked.Run command) a (Some (asked.Run command)) refl asks)
own_after (Watch keys) own a seen watched reply ws key m asks ends plan mark =
    let is : asked.Watch keys ≡ a = some_is (asked.Watch keys) a (Some (asked.Watch keys)) refl asks in
    let none : ws ≡ [] = (subst (λ (x : Asked). IsPlan seen (operation_of watched x) reply ws) (sym is) plan).writes_due in
    own_is (Watch keys) own ws key m
    ∙ ap (λ (l : List Write). touched (writes_key l key) (cond (is_among keys key) (begun m) m)) none
    ∙ no_write (cond (is_among keys key) (begun m) m)
    ∙ ap (λ (x : Asked). mark_after (operation_of watched x) (writes_key ws key) key m) is
own_after (Exec commands watching) own a seen watched reply ws key m asks ends plan mark =
    let is : asked.Exec commands ≡ a = some_is (asked.Exec commands) a (Some (asked.Exec commands)) refl asks in
    own_is (Exec commands watching) own ws key m
    ∙ ap (λ (l : List Bytes). cond (is_among l key) None (touched (writes_key ws key) m)) ends
    ∙ ap (λ (x : Option Bool). cond (is_among (keys_of_pairs watched) key) None (touched (writes_key ws key) x)) mark
    ∙ elim (is_among (keys_of_pairs watched) key) as (λ b. is_among (keys_of_pairs watched) key ≡ b → cond b None (touched (writes_key ws key) (mark_at seen watched key)) ≡ None) [
      | true ↦ λ e. refl
      | false ↦ λ e. ap (λ (o : Option ℕ). touched (writes_key ws key) (mark_of seen key o)) (not_among watched key e)
    ] refl
    ∙ ap (λ (x : Asked). mark_after (operation_of watched x) (writes_key ws key) key m) is
own_after (Forget watching) own a seen watched reply ws key m asks ends plan mark = absurd (cc asks)

module _ {T : Type 0} (contents : Meaning T) (n : ℕ) where
  -- a plan and its install, together
  pub call_became : (call : Call) (own : ℕ) (ws : List Write) (a b c : ℕ → Option T) → Became contents n [] (begins own (keys_begun call)) a b
      → Became contents n ws (touches_and_clears ws own (keys_ended call)) b c → Became contents n ws (changes call own ws) a c
  call_became call own ws a b c = became_both contents n [] ws (begins own (keys_begun call)) (touches_and_clears ws own (keys_ended call)) (changes call own ws) a b c (λ key number m. refl)

  pub marks_became : (ws : List Write) (change : Change) (a b : ℕ → Option T) (key : Bytes) (number : ℕ) → Became contents n ws change a b → IsSome (b (stripe_of n key))
      → joined_marks contents n b key number ≡ change key number (joined_marks contents n a key number)
  marks_became ws change a b key number became some =
      let part = some_of (b (stripe_of n key)) some in
      let was = became.was (stripe_of n key) part.0 part.1 in
      ap (mark_in contents key number) part.1 ∙ was.2.marks key number refl ∙ ap (λ (o : Option T). change key number (mark_in contents key number o)) (sym was.1)

  before_there : (ws : List Write) (change : Change) (a b : ℕ → Option T) (i : ℕ) → Became contents n ws change a b → IsSome (b i) → IsSome (a i)
  before_there ws change a b i became some =
      let part = some_of (b i) some in subst IsSome (sym (became.was i part.0 part.1).1) refl

  pub installed : (call : Call) (own : ℕ) (x : Asked) (seen : History) (watched : List Pair) (reply : Reply) (ws : List Write) (a c : ℕ → Option T)
      → asked_of call ≡ Some x → EndsAll call watched → IsPlan seen (operation_of watched x) reply ws → Stand contents n a seen own watched → Became contents n ws (changes call own ws) a c
      → IsInstalled contents n seen (record { session = own; operation = operation_of watched x; reply = reply }) a c
  installed call own x seen watched reply ws a c asks ends plan stand became =
      let entry : Entry = record { session = own; operation = operation_of watched x; reply = reply } in
      let same : writes_of (after seen) entry ≡ ws = planned_writes seen own (operation_of watched x) reply ws plan in
      record {
        there = λ i. (became.there i, before_there ws (changes call own ws) a c i became);
        read = subst (λ (l : List Write). AllRead contents n c (written (after seen) l)) (sym same) (became_read contents n ws (changes call own ws) a c (after seen) became stand.read);
        own = λ key some.
            marks_became ws (changes call own ws) a c key own became some
            ∙ own_after call own x seen watched reply ws key (joined_marks contents n a key own) asks ends plan
            (Rattle.plans.proofs.Keys.joined_mark contents n a seen own watched key stand.marked (before_there ws (changes call own ws) a c (stripe_of n key) became some))
            ∙ ap (λ (l : List Write). mark_after entry.operation (writes_key l key) key (joined_marks contents n a key own)) (sym same);
        others = λ key number some ne.
            marks_became ws (changes call own ws) a c key number became some
            ∙ others_touched call own ws key number (joined_marks contents n a key number) ne
            ∙ ap (λ (l : List Write). touched (writes_key l key) (joined_marks contents n a key number)) (sym same);
        aside = λ i old new e f key number ne.
            let was = became.was i new f in
            was.2.aside key number ne ∙ ap (λ (p : T). contents.marks p key number) (some_is was.0 old (a i) was.1 e);
      }

-- there is a part for each key whose watch a call ends
pub ended_there : {T : Type 0} (contents : Meaning T) (n : ℕ) (parts : ℕ → Option T) (call : Call) → Rattle.transact.specs.Tables.AreThere n parts (Rattle.transact.specs.Calls.call_keys call)
    → Rattle.transact.specs.Tables.AreThere n parts (keys_ended call)
ended_there contents n parts (One command) there = tt
ended_there contents n parts (Watch keys) there = tt
ended_there contents n parts (Exec commands watching) there = (Rattle.plans.proofs.Keys.there_append contents n parts (Rattle.words.specs.Commands.keys_of_all commands) watching there).1
ended_there contents n parts (Forget watching) there = there
