-- Commands of one key, as calls.
use Rattle.std.proofs.Common.{◌≡◌, ◌∷◌, ℕ, [], Option, Some, None, Result, Ok, Err, IfOk, OnErr, IsSome, false, true, refl, sym, subst}
use Rattle.words.specs.declared.command.Count.TheVariants as by
use Rattle.words.specs.declared.command.Verb.{Verb}
use Rattle.words.specs.declared.command.Verb.TheVariants as verb
use Rattle.words.specs.Briefs.{commanded}
use Rattle.words.specs.Commands.{keys_of, touches_keys}
use Rattle.words.specs.Store.{Bytes, Store}
use Rattle.words.specs.declared.command.Command.{Command}
use Rattle.shards.specs.declared.shard.Shard.{Shard}
use Rattle.shards.specs.Shards.{shard_meaning}
use Rattle.plans.specs.Memory.{IsBriefOn, NeedsNoMemoryOn}
use Rattle.plans.specs.Settling.{IsSettled}
use Rattle.plans.specs.declared.settling.Settled.{Settled}
use Rattle.engine.specs.Entering.{IsPlanned, command_by}
use Rattle.engine.specs.declared.one.Does.{Does}
use Rattle.engine.specs.declared.one.Does.TheVariants as does
use Rattle.engine.specs.Memory.{one_call}

-- one reads and writes its key
pub one_touches : (verb : Verb) (key value : Bytes) → touches_keys (commanded verb key value) ≡ true
one_touches (verb.Count (by.Add n)) key value = refl
one_touches (verb.Count (by.Subtract n)) key value = refl
one_touches verb.SetNx key value = refl
one_touches verb.GetSet key value = refl
one_touches verb.Append key value = refl
one_touches verb.GetDel key value = refl
one_touches verb.StrLen key value = refl
one_touches verb.Exists key value = refl
one_touches verb.Del key value = refl

-- and names no other
pub one_names : (verb : Verb) (key value : Bytes) → keys_of (commanded verb key value) ≡ key ∷ []
one_names (verb.Count (by.Add n)) key value = refl
one_names (verb.Count (by.Subtract n)) key value = refl
one_names verb.SetNx key value = refl
one_names verb.GetSet key value = refl
one_names verb.Append key value = refl
one_names verb.GetDel key value = refl
one_names verb.StrLen key value = refl
one_names verb.Exists key value = refl
one_names verb.Del key value = refl

-- the same of one that is carried out
pub done_touches : (does : Does) (key value : Bytes) → touches_keys (command_by does key value) ≡ true
done_touches (does.Verb verb) key value = one_touches verb key value
done_touches (does.Set when true) key value = refl
done_touches (does.Set when false) key value = refl

pub done_names : (does : Does) (key value : Bytes) → keys_of (command_by does key value) ≡ key ∷ []
done_names (does.Verb verb) key value = one_names verb key value
done_names (does.Set when true) key value = refl
done_names (does.Set when false) key value = refl

-- it may be planned
pub one_planned : (verb : Verb) (key value : Bytes) → IsPlanned (one_call verb key value)
one_planned (verb.Count (by.Add n)) key value = record { entry = refl; other = λ k v is. absurd (cc is) }
one_planned (verb.Count (by.Subtract n)) key value = record { entry = refl; other = λ k v is. absurd (cc is) }
one_planned verb.SetNx key value = record { entry = refl; other = λ k v is. absurd (cc is) }
one_planned verb.GetSet key value = record { entry = refl; other = λ k v is. absurd (cc is) }
one_planned verb.Append key value = record { entry = refl; other = λ k v is. absurd (cc is) }
one_planned verb.GetDel key value = record { entry = refl; other = λ k v is. absurd (cc is) }
one_planned verb.StrLen key value = record { entry = refl; other = λ k v is. absurd (cc is) }
one_planned verb.Exists key value = record { entry = refl; other = λ k v is. absurd (cc is) }
one_planned verb.Del key value = record { entry = refl; other = λ k v is. absurd (cc is) }

-- one that is planned without a growth is brief
pub one_brief : (verb : Verb) (key value : Bytes) (store : Store) → NeedsNoMemoryOn store (one_call verb key value) → IsBriefOn store (commanded verb key value)
one_brief (verb.Count (by.Add n)) key value store needs = needs
one_brief (verb.Count (by.Subtract n)) key value store needs = needs
one_brief verb.SetNx key value store needs = needs
one_brief verb.GetSet key value store needs = needs
one_brief verb.Append key value store needs = needs
one_brief verb.GetDel key value store needs = needs
one_brief verb.StrLen key value store needs = needs
one_brief verb.Exists key value store needs = needs
one_brief verb.Del key value store needs = needs

-- what it comes to, where parts are the same
pub settled_still : {R : Type 0} (steady Right : Type 0) (n m : ℕ) (before later : ℕ → Option (Shard R)) (key value : Bytes) (command : Command) (settled : Settled) → (steady → Right) → m ≡ n → later ≡ before
    → IsSettled Right (shard_meaning steady) n before key value command settled → IsSettled steady (shard_meaning steady) m later key value command settled
settled_still {R} steady Right n m before later key value command settled turn count same has =
    subst (λ (k : ℕ). IsSettled steady (shard_meaning steady) k later key value command settled) (sym count)
    (subst (λ (p : ℕ → Option (Shard R)). IsSettled steady (shard_meaning steady) n p key value command settled) (sym same)
    (record { due = λ t. has.due (turn t); light = has.light; short = has.short; spot = has.spot }))

pub none_some : {A : Type 0} (o : Option A) → o ≡ None → IsSome o → ⊥
none_some (Some a) is some = absurd (cc is)
none_some None is some = absurd (cc some)

pub ok_then : {A E : Type 0} (result : Result A E) (P Q : A → Type 0) → ((a : A) → P a → Q a) → IfOk result P → IfOk result Q
ok_then (Ok a) P Q turn has = turn a has
ok_then (Err e) P Q turn has = tt

pub err_then : {A E : Type 0} (result : Result A E) (P Q : Type 0) → (P → Q) → OnErr result P → OnErr result Q
err_then (Ok a) P Q turn has = tt
err_then (Err e) P Q turn has = turn has
