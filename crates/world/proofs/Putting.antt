-- What a call that is planned makes of the stripes when it is installed, and what watches leave that end.
use Rattle.std.proofs.Common.{◌≡◌, ◌∙◌, ℕ, zero, suc, ◌<◌, ◌≤◌, Bool, true, false, List, [], ◌∷◌, length, Option, None, refl, sym, ap, subst, nat_eq, if◌then◌else◌, ⊎_elim, arith, ne_eqb}
use Rattle.std.specs.Bool.{◌==◌}
use mathlib.Core.Path.{fun_ext}
use Rattle.words.specs.declared.reply.Reply.{Reply}
use Rattle.words.specs.Store.{Bytes, Write}
use Rattle.words.specs.History.{is_among}
use Rattle.words.specs.Stripes.{stripe_of}
use Rattle.words.specs.Session.{operation_of}
use Rattle.hybrid.specs.HybridLog.{HybridLog}
use Rattle.transact.specs.declared.call.Call.{Call}
use Rattle.transact.specs.declared.call.Call.TheVariants.{One, Watch, Exec, Forget}
use Rattle.transact.specs.Calls.{call_keys}
use Rattle.transact.specs.Plans.{IsEntry, IsPlan, keys_begun, keys_ended}
use Rattle.transact.specs.Submits.{stripes_asked}
use Rattle.transact.specs.Tables.{AreThere, Became, begins, clears, joined, touches_and_clears}
use Rattle.plans.specs.declared.planned.Planned.{Planned}
use Rattle.shards.specs.declared.shard.Shard.{Shard}
use Rattle.shards.specs.Rooms.{AreRoomy, HaveGrown, MakesRoom}
use Rattle.shards.specs.Shards.{SameLogs, shard_marks, shard_meaning}
use Rattle.plans.specs.Planning.{MayPlan}
use Rattle.plans.specs.Sizes.{AllShort, IsPlaced}
use Rattle.world_log.specs.Places.{Receipt, Shelves, Wrote, view}
use Rattle.world_log.specs.PlanLaws.{logs_lent, with_parts}
use Rattle.world_log.specs.Stripes.{IsEven, IsFew, KeepsOthers, acts_for, lent, marks_of, stores_of}
use Rattle.world_log.specs.Types.{Stripes}
use Rattle.world_log.specs.declared.logs.WorldLog.{WorldLog}
use Rattle.world_model.specs.Commits.{marks_changed}
use Rattle.world_model.specs.Enabled.{first_missing}
use Rattle.world.specs.Planning.{HasCleared, HasPut, HasRun, looks_up}
use Rattle.world.specs.Stripes.{HasInstalled}
use Rattle.world.proofs.Calls.{IsDueOn}
use Rattle.world.proofs.Installing.{begins_none, calls_there, clears_none, even_acts, has_forgotten, has_installed, keeps_same, only_clears}

-- THE PARTS OF A CALL

-- where its client lacks no stripe of a call, all are lent to it
pub lent_all : (stripes : Stripes) (c : ℕ) (call : Call) → IsEven stripes
    → first_missing stripes.holders.items c (stripes_asked (length stripes.holders.items) call) ≡ None
    → AreThere (length stripes.holders.items) (lent (acts_for stripes c)) (call_keys call)
lent_all stripes c call even none = calls_there (acts_for stripes c) (call_keys call) (even_acts stripes c even) none

pub there_of : (stripes acting : Stripes) (n c : ℕ) (keys : List Bytes) → acting ≡ acts_for stripes c → n ≡ length acting.holders.items
    → AreThere (length stripes.holders.items) (lent (acts_for stripes c)) keys → AreThere n (lent acting) keys
there_of stripes acting n c keys acts count there =
    let same : n ≡ length stripes.holders.items = count ∙ ap (λ (s : Stripes). length s.holders.items) acts in
    subst (λ (k : ℕ). AreThere k (lent acting) keys) (sym same)
    (subst (λ (s : Stripes). AreThere (length stripes.holders.items) (lent s) keys) (sym acts) there)

pub some_of_them : (stripes acting : Stripes) (n c : ℕ) → acting ≡ acts_for stripes c → n ≡ length acting.holders.items → n ≡ length stripes.holders.items
some_of_them stripes acting n c acts count = count ∙ ap (λ (s : Stripes). length s.holders.items) acts

pub few_of : (stripes acting : Stripes) (c : ℕ) → acting ≡ acts_for stripes c → IsEven stripes → IsFew acting
few_of stripes acting c acts even = subst (λ (s : Stripes). IsFew s) (sym acts) (even.some, even.most)

-- so its client may plan the call
pub may_plan : (stripes acting : Stripes) (n c : ℕ) (call : Call) → acting ≡ acts_for stripes c → n ≡ length acting.holders.items → IsEven stripes
    → first_missing stripes.holders.items c (stripes_asked (length stripes.holders.items) call) ≡ None → IsEntry call → IsPlaced call
    → MayPlan (IsFew acting) n (lent acting) call
may_plan stripes acting n c call acts count even none entry place = record {
  may = record { can_lend = few_of stripes acting c acts even; there = there_of stripes acting n c (call_keys call) acts count (lent_all stripes c call even none) };
  entry = entry;
  place = place;
}

roomy_of : (stripes acting : Stripes) (n c : ℕ) (writes : List Write) → acting ≡ acts_for stripes c → n ≡ length acting.holders.items
    → AreRoomy (length stripes.holders.items) (logs_lent (acts_for stripes c)) writes → AreRoomy n (logs_lent acting) writes
roomy_of stripes acting n c writes acts count room =
    subst (λ (k : ℕ). AreRoomy k (logs_lent acting) writes) (sym (some_of_them stripes acting n c acts count))
    (subst (λ (s : Stripes). AreRoomy (length stripes.holders.items) (logs_lent s) writes) (sym acts) room)

-- who acts is nothing of what the stripes hold
of_acts : (stripes later : Stripes) (c : ℕ) (call : Call) (writes : List Write) → HasInstalled (acts_for stripes c) writes (marks_changed c call writes) later
    → HasInstalled stripes writes (marks_changed c call writes) later
of_acts stripes later c call writes is = record { holders = is.holders; stores = is.stores; marks = is.marks }

cleared_acts : (stripes later : Stripes) (c : ℕ) (keys : List Bytes) → HasInstalled (acts_for stripes c) [] (clears c keys) later
    → HasInstalled stripes [] (clears c keys) later
cleared_acts stripes later c keys is = record { holders = is.holders; stores = is.stores; marks = is.marks }

-- a call that looks keys up begins no watch
begun_none : (call : Call) → looks_up call ≡ true → (key : Bytes) → is_among (keys_begun call) key ≡ false
begun_none (One command) looks key = refl
begun_none (Watch keys) looks key = absurd (cc looks)
begun_none (Exec commands watching) looks key = refl
begun_none (Forget watching) looks key = absurd (cc looks)

began_nothing : (n c : ℕ) (call : Call) (parts : ℕ → Option (Shard Receipt)) → looks_up call ≡ true
    → Became (shard_meaning ⊥) n [] (begins c (keys_begun call)) parts parts
began_nothing n c call parts looks = record {
  there = λ i some. some;
  was = λ i part at. (
    part,
    at,
    record {
      here = λ key on. refl;
      away = λ key off. refl;
      marks = λ key session on. sym (begins_none c (keys_begun call) key session (shard_marks part key session) (begun_none call looks key));
      aside = λ key session off. refl;
    },
  );
}

-- A PLAN IS INSTALLED

pub record Put (n : ℕ) (acting : Stripes) (c : ℕ) (call : Call) (writes : List Write) (later : Stripes) : Type 0 where
  pub became : Became (shard_meaning ⊥) n writes (touches_and_clears writes c (keys_ended call)) (lent acting) (lent later)
  pub grown : HaveGrown n writes (logs_lent acting) (logs_lent later)
  pub keeps : KeepsOthers acting later

-- the same of as many stripes, by the same client
pub put_as : (acting : Stripes) (n m a b : ℕ) (call : Call) (writes : List Write) (later : Stripes) → n ≡ m → a ≡ b → Put n acting a call writes later → Put m acting b call writes later
put_as acting n m a b call writes later count same put =
    subst (λ (k : ℕ). Put k acting b call writes later) count (subst (λ (k : ℕ). Put n acting k call writes later) same put)

put_acts : (stripes acting : Stripes) (n c : ℕ) (call : Call) (writes : List Write) (later : Stripes) → acting ≡ acts_for stripes c
    → n ≡ length acting.holders.items → Put n acting c call writes later → Put (length stripes.holders.items) (acts_for stripes c) c call writes later
put_acts stripes acting n c call writes later acts count put =
    subst (λ (k : ℕ). Put k (acts_for stripes c) c call writes later) (some_of_them stripes acting n c acts count)
    (subst (λ (s : Stripes). Put n s c call writes later) acts put)

pub put_is : (old : WorldLog) (acting : Stripes) (n c : ℕ) (call : Call) (planned : Planned) (later : Stripes) → acting ≡ acts_for old.stripes c
    → n ≡ length acting.holders.items → IsEven old.stripes → looks_up call ≡ true
    → first_missing old.stripes.holders.items c (stripes_asked (length old.stripes.holders.items) call) ≡ None
    → AreRoomy (length old.stripes.holders.items) (logs_lent (acts_for old.stripes c)) planned.writes
    → Put n acting c call planned.writes later → HasPut old c call planned (with_parts old later old.device)
put_is old acting n c call planned later acts count even looks none room put =
    let stripes : Stripes = acts_for old.stripes c in
    let is = put_acts old.stripes acting n c call planned.writes later acts count put in
    record {
      installed = of_acts old.stripes later c call planned.writes
          (has_installed stripes stripes later c call planned.writes (even_acts old.stripes c even) (keeps_same stripes) is.keeps
          (began_nothing (length old.stripes.holders.items) c call (lent stripes) looks) is.became (lent_all old.stripes c call even none) room);
      keeps = is.keeps;
      grown = is.grown;
      else_same = refl;
    }

-- A CALL IS RUN

no_share : {A : Type 0} → 0 < 0 → A
no_share is = absurd (omega (arith, is))

-- for no writes no page leaves its frame
pub made_nothing : (n k : ℕ) (old new : ℕ → Option HybridLog) (before after : Shelves) → MakesRoom Wrote view n k [] old before new after
    → ((i : ℕ) → new i ≡ old i) × (after ≡ before)
made_nothing n zero old new before after makes = makes
made_nothing n (suc k) old new before after makes =
    let others = made_nothing n k old makes.0 before makes.1 makes.2 in
    ⊎_elim
    (λ none. ((λ i. none.1 i ∙ others.0 i), none.2 ∙ others.1))
    (λ some. no_share some.0)
    makes.3

pub record Ran (n : ℕ) (acting : Stripes) (before : Shelves) (c : ℕ) (call : Call) (planned : Planned) (mid : Stripes) (after : Shelves) (later : Stripes) : Type 0 where
  pub due : AllShort (joined (shard_meaning ⊥) n (lent acting))
      → IsDueOn n acting c call (λ asked seen watched. IsPlan seen (operation_of watched asked) planned.reply planned.writes)
  pub begun : Became (shard_meaning ⊥) n [] (begins c (keys_begun call)) (lent acting) (lent mid)
  pub keeps : KeepsOthers acting mid
  pub makes : MakesRoom Wrote view n n planned.writes (logs_lent acting) before (logs_lent mid) after
  pub put : Put n mid c call planned.writes later

pub keeps_both : (old mid new : Stripes) → KeepsOthers old mid → KeepsOthers mid new → KeepsOthers old new
keeps_both old mid new one two = record {
  holders = two.holders ∙ one.holders;
  acting = two.acting ∙ one.acting;
  count = two.count ∙ one.count;
  queues = λ i. two.queues i ∙ one.queues i;
  others = λ i away. two.others i (rw (one.holders, one.acting) away) ∙ one.others i away;
  waits = λ i. two.waits i ∙ one.waits i;
}

grown_from : (n : ℕ) (old mid new : ℕ → Option HybridLog) → ((i : ℕ) → mid i ≡ old i) → HaveGrown n [] mid new → HaveGrown n [] old new
grown_from n old mid new same grown = subst (λ (l : ℕ → Option HybridLog). HaveGrown n [] l new) (fun_ext same) grown

no_room : (n : ℕ) (logs : ℕ → Option HybridLog) → AreRoomy n logs []
no_room n logs i some = no_share some

ran_acts : (old : WorldLog) (c : ℕ) (call : Call) (planned : Planned) (mid : Stripes) (after : Shelves) (later : Stripes) → IsEven old.stripes
    → first_missing old.stripes.holders.items c (stripes_asked (length old.stripes.holders.items) call) ≡ None → planned.writes ≡ []
    → Ran (length old.stripes.holders.items) (acts_for old.stripes c) old.device c call planned mid after later
    → HasRun old c call planned.reply (with_parts old later after)
ran_acts old c call planned mid after later even none nothing ran =
    let stripes : Stripes = acts_for old.stripes c in
    let n : ℕ = length old.stripes.holders.items in
    let put : Put n mid c call [] later = subst (λ (ws : List Write). Put n mid c call ws later) nothing ran.put in
    let makes : MakesRoom Wrote view n n [] (logs_lent stripes) old.device (logs_lent mid) after =
    subst (λ (ws : List Write). MakesRoom Wrote view n n ws (logs_lent stripes) old.device (logs_lent mid) after) nothing ran.makes in
    let same = made_nothing n n (logs_lent stripes) (logs_lent mid) old.device after makes in
    record {
      due = λ short asked seen watched asks stand ends are.
          subst (λ (ws : List Write). IsPlan seen (operation_of watched asked) planned.reply ws) nothing (ran.due short asked seen watched asks stand ends are);
      installed = of_acts old.stripes later c call []
          (has_installed stripes mid later c call [] (even_acts old.stripes c even) ran.keeps put.keeps ran.begun put.became
          (lent_all old.stripes c call even none) (no_room n (logs_lent mid)));
      keeps = keeps_both stripes mid later ran.keeps put.keeps;
      grown = grown_from n (logs_lent stripes) (logs_lent mid) (logs_lent later) same.0 put.grown;
      else_same = ap (with_parts old later) same.1;
    }

pub ran_is : (old : WorldLog) (acting : Stripes) (n c : ℕ) (call : Call) (planned : Planned) (reply : Reply) (mid : Stripes) (after : Shelves) (later : Stripes)
    → acting ≡ acts_for old.stripes c → n ≡ length acting.holders.items → IsEven old.stripes
    → first_missing old.stripes.holders.items c (stripes_asked (length old.stripes.holders.items) call) ≡ None → planned.writes ≡ []
    → reply ≡ planned.reply → Ran n acting old.device c call planned mid after later → HasRun old c call reply (with_parts old later after)
ran_is old acting n c call planned reply mid after later acts count even none nothing replies ran =
    subst (λ (r : Reply). HasRun old c call r (with_parts old later after)) (sym replies)
    (ran_acts old c call planned mid after later even none nothing
    (subst (λ (k : ℕ). Ran k (acts_for old.stripes c) old.device c call planned mid after later) (some_of_them old.stripes acting n c acts count)
    (subst (λ (s : Stripes). Ran n s old.device c call planned mid after later) acts ran)))

-- a list of length 0
pub none_in : {A : Type 0} (items all : List A) (t : Bool) → t ≡ true → t ≡ (length items == 0) → items ≡ all → all ≡ []
none_in [] all t is test same = sym same
none_in (item ∷ items) all t is test same =
    let apart : nat_eq (length (item ∷ items)) 0 ≡ false = ne_eqb (length (item ∷ items)) 0 (λ none. absurd (omega (arith, none))) in
    cc (sym is ∙ test ∙ apart)

-- WATCHES END

pub record Cleared (n : ℕ) (acting : Stripes) (c : ℕ) (keys : List Bytes) (later : Stripes) : Type 0 where
  pub became : Became (shard_meaning ⊥) n [] (clears c keys) (lent acting) (lent later)
  pub logs : SameLogs (lent acting) (lent later)
  pub keeps : KeepsOthers acting later

pub cleared_is : (old : WorldLog) (acting : Stripes) (n c : ℕ) (keys : List Bytes) (later : Stripes) → acting ≡ acts_for old.stripes c
    → n ≡ length acting.holders.items → IsEven old.stripes
    → AreThere (length old.stripes.holders.items) (lent (acts_for old.stripes c)) keys
    → Cleared n acting c keys later → HasCleared old c keys (with_parts old later old.device)
cleared_is old acting n c keys later acts count even there cleared =
    let stripes : Stripes = acts_for old.stripes c in
    let is : Cleared (length old.stripes.holders.items) stripes c keys later =
    subst (λ (k : ℕ). Cleared k stripes c keys later) (some_of_them old.stripes acting n c acts count)
    (subst (λ (s : Stripes). Cleared n s c keys later) acts cleared) in
    record {
      installed = cleared_acts old.stripes later c keys
          (only_clears stripes later c keys (has_forgotten stripes later c keys (Forget keys) refl (even_acts old.stripes c even) is.keeps is.became there));
      keeps = is.keeps;
      logs = is.logs;
      else_same = refl;
    }

either_same : {A : Type 0} (t : Bool) (a : A) → a ≡ (if t then a else a)
either_same true a = refl
either_same false a = refl

-- a call that ends none
pub cleared_nothing : (old : WorldLog) (acting : Stripes) (c : ℕ) (keys : List Bytes) → acting ≡ acts_for old.stripes c → keys ≡ []
    → HasCleared old c keys (with_parts old acting old.device)
cleared_nothing old acting c keys acts none =
    subst (λ (ks : List Bytes). HasCleared old c ks (with_parts old acting old.device)) (sym none)
    (subst (λ (s : Stripes). HasCleared old c [] (with_parts old s old.device)) (sym acts) (record {
      installed = record {
        holders = refl;
        stores = λ i key. either_same (nat_eq (stripe_of (length old.stripes.holders.items) key) i) (stores_of old.stripes i key);
        marks = λ key session. sym (clears_none c [] key session (marks_of old.stripes key session) refl);
      };
      keeps = keeps_same (acts_for old.stripes c);
      logs = λ i. refl;
      else_same = refl;
    }))
