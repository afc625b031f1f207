-- Plans that were not made, and what they are answered.
use Rattle.std.proofs.Common.{◌≡◌, ◌+◌, ◌<◌, ℕ, List, [], ◌∷◌, Option, Some, true, false, cond, eq-eqb, refl, sym, ap, subst, arith}
use Rattle.words.specs.declared.command.Command.{Command}
use Rattle.words.specs.declared.command.Command.TheVariants.{Set}
use Rattle.words.specs.Commands.{touches_keys}
use Rattle.words.specs.declared.reply.Reply.{Reply}
use Rattle.words.specs.declared.command.When.TheVariants.{Always}
use Rattle.words.specs.History.{Pair, after}
use Rattle.words.specs.Session.{line_reply, watched_at_fault}
use Rattle.words.specs.Store.{Bytes, Store, Write}
use Rattle.words.specs.Stripes.{stripe_of}
use Rattle.words.specs.declared.history.Operation.TheVariants.{Run}
use Rattle.words.specs.declared.reply.Line.TheVariants.{Done}
use Rattle.gates.specs.declared.view.Knowledge.{Knowledge}
use Rattle.transact.specs.declared.call.Call.{Call}
use Rattle.transact.specs.declared.call.Call.TheVariants.{One, Watch, Exec, Forget}
use Rattle.transact.specs.Calls.{asked_of}
use Rattle.transact.specs.Plans.{IsEntry, IsPlan}
use Rattle.transact.specs.Submits.{asked_for}
use Rattle.shards.specs.Rooms.{share}
use Rattle.shards.specs.Shards.{weigh}
use Rattle.plans.specs.declared.stop.Stop.{Stop}
use Rattle.plans.specs.declared.stop.Stop.TheVariants as stop
use Rattle.hybrid.specs.HybridLog.{Kept}
use Rattle.plans.specs.Planning.{MatchStop}
use Rattle.plans.specs.Sizes.{IsPlaced}
use Rattle.plans.specs.Stops.{IfCold, IfFull, IfNoMemory, faults}
use Rattle.engine.specs.Calls.{HasItsPlace, IsUndone, Promises}
use Rattle.engine.specs.Entering.{given}
use Rattle.engine.specs.Passes.{know}
use Rattle.engine.specs.Memory.{AsksNoMemory, set_call}
use Rattle.engine.specs.Stops.{fault_of, report_of}
use Rattle.gates.specs.declared.view.Refused.{Refused}
use Rattle.engine.proofs.Entering.{stopped_by}

-- a call that has its place in the history has it whatever its session watches
pub is_placed : (call : Call) (watched : List Pair) → HasItsPlace watched (asked_of call) → IsPlaced call
is_placed (One command) watched place = place
is_placed (Watch keys) watched place = tt
is_placed (Exec commands watching) watched place = place
is_placed (Forget watching) watched place = tt

-- a key that is given a value or deleted is written in its stripe
written_there : (n : ℕ) (key : Bytes) (value : Option Bytes) → 0 < share n (stripe_of n key) ((key, value) ∷ [])
written_there n key value =
    let here : share n (stripe_of n key) ((key, value) ∷ []) ≡ weigh (key, value) + 0 =
    ap (λ b. cond b (weigh (key, value)) 0 + 0) (eq-eqb (stripe_of n key) (stripe_of n key) refl) in
    omega (arith, here)

module _ {R : Type 0} where
  -- each case of why a plan was not made
  pub cold_in : (s : Stop R) (C : List Kept → Type 0) (M F : Type 0) (U : ℕ → Type 0) → MatchStop s C M F U → IfCold s C
  cold_in stop.OutOfMemory C M F U has = tt
  cold_in stop.DeviceFault C M F U has = tt
  cold_in (stop.StoreFull stripe) C M F U has = tt
  cold_in (stop.Cold receipts) C M F U has = has

  pub memory_in : (s : Stop R) (C : List Kept → Type 0) (M F : Type 0) (U : ℕ → Type 0) → MatchStop s C M F U → ¬ M → IfNoMemory s ⊥
  memory_in stop.OutOfMemory C M F U has none = none has
  memory_in stop.DeviceFault C M F U has none = tt
  memory_in (stop.StoreFull stripe) C M F U has none = tt
  memory_in (stop.Cold receipts) C M F U has none = tt

  pub full_in : (s : Stop R) (C : List Kept → Type 0) (M F : Type 0) (U : ℕ → Type 0) → MatchStop s C M F U → IfFull s U
  full_in stop.OutOfMemory C M F U has = tt
  full_in stop.DeviceFault C M F U has = tt
  full_in (stop.StoreFull stripe) C M F U has = has
  full_in (stop.Cold receipts) C M F U has = tt

  -- what is said of a full stripe, said otherwise
  pub full_then : (s : Stop R) (P Q : ℕ → Type 0) → ((i : ℕ) → P i → Q i) → IfFull s P → IfFull s Q
  full_then stop.OutOfMemory P Q turn has = tt
  full_then stop.DeviceFault P Q turn has = tt
  full_then (stop.StoreFull stripe) P Q turn has = turn stripe has
  full_then (stop.Cold receipts) P Q turn has = tt

  -- a call that needs no memory is not stopped by want of it
  pub not_wanted : (promises : Promises) (call : Call) (s : Stop R) (store : Store) → (AsksNoMemory (promises.steady × promises.lends) store (asked_for call) → IfNoMemory s ⊥)
      → IfNoMemory s (¬ AsksNoMemory (promises.steady × promises.lends) store (asked_for call))
  not_wanted promises call stop.OutOfMemory store never = never
  not_wanted promises call stop.DeviceFault store never = tt
  not_wanted promises call (stop.StoreFull stripe) store never = tt
  not_wanted promises call (stop.Cold receipts) store never = tt

  -- the plan of a call that writes nothing was not made
  pub stopped_quietly : (promises : Promises) (call : Call) (s : Stop R) (start mid : Knowledge) (f0 f1 : ℕ) → IsEntry call → watched_at_fault mid.watched (asked_for call) ≡ mid.watched → mid ≡ start
      → IfCold s (λ receipts. ⊥) → IfFull s (λ stripe. ⊥) → f1 ≡ f0 + faults s → IfNoMemory s (¬ AsksNoMemory (promises.steady × promises.lends) (after start.seen) (asked_for call))
      → IsUndone promises [] (asked_of call) (fault_of s) (know start f0) (know mid f1)
  stopped_quietly promises call stop.OutOfMemory start mid f0 f1 entry kept same cold full failures memory =
      stopped_by {R = R} promises call stop.OutOfMemory (record { retire = false; drain = false }) start mid mid f0 f1 entry (ap (λ (w : List Pair). record mid { watched = w }) (sym kept)) same cold failures memory tt
  stopped_quietly promises call stop.DeviceFault start mid f0 f1 entry kept same cold full failures memory =
      stopped_by {R = R} promises call stop.DeviceFault (record { retire = false; drain = false }) start mid mid f0 f1 entry (ap (λ (w : List Pair). record mid { watched = w }) (sym kept)) same cold failures memory tt
  stopped_quietly promises call (stop.StoreFull stripe) start mid f0 f1 entry kept same cold full failures memory = absurd full
  stopped_quietly promises call (stop.Cold receipts) start mid f0 f1 entry kept same cold full failures memory = absurd cold

  -- there was no room for what a command writes
  pub writes_stopped : (promises : Promises) (command : Command) (writes : List Write) (said : Reply) (s : Stop R) (refused : Refused) (start mid : Knowledge) (f0 f1 : ℕ) → touches_keys command ≡ true → mid ≡ start
      → IfCold s (λ receipts. ⊥) → IfNoMemory s ⊥ → f1 ≡ f0 + faults s → IfFull s (λ stripe. 0 < share promises.stripes stripe writes) → (promises.steady → IsPlan start.seen (Run command) said writes)
      → IsUndone promises [] (asked_of (One command)) (fault_of s) (know start f0) (know (given false (report_of s refused) mid) f1)
  writes_stopped promises command writes said stop.OutOfMemory refused start mid f0 f1 touches same cold memory failures own plan = absurd memory
  writes_stopped promises command writes said stop.DeviceFault refused start mid f0 f1 touches same cold memory failures own plan =
      stopped_by {R = R} promises (One command) stop.DeviceFault refused start mid mid f0 f1 touches refl same cold failures tt tt
  writes_stopped promises command writes said (stop.StoreFull stripe) refused start mid f0 f1 touches same cold memory failures own plan =
      stopped_by {R = R} promises (One command) (stop.StoreFull stripe) refused start mid (given false (report_of {R = R} (stop.StoreFull stripe) refused) mid) f0 f1 touches refl same cold failures tt
      (λ t. subst (λ (l : List Write). 0 < share promises.stripes stripe l) (plan t).writes_due own)
  writes_stopped promises command writes said (stop.Cold receipts) refused start mid f0 f1 touches same cold memory failures own plan = absurd cold

  -- there was no room for what a command gives its key, or for its deletion
  pub put_stopped : (promises : Promises) (command : Command) (key : Bytes) (value : Option Bytes) (said : Reply) (s : Stop R) (refused : Refused) (start mid : Knowledge) (f0 f1 : ℕ) → touches_keys command ≡ true → mid ≡ start → IfCold s (λ receipts. ⊥)
      → IfNoMemory s ⊥ → f1 ≡ f0 + faults s → IfFull s (λ stripe. stripe ≡ stripe_of promises.stripes key) → (promises.steady → IsPlan start.seen (Run command) said ((key, value) ∷ []))
      → IsUndone promises [] (asked_of (One command)) (fault_of s) (know start f0) (know (given false (report_of s refused) mid) f1)
  put_stopped promises command key value said s refused start mid f0 f1 touches same cold memory failures own plan =
      writes_stopped promises command ((key, value) ∷ []) said s refused start mid f0 f1 touches same cold memory failures
      (full_then s (λ stripe. stripe ≡ stripe_of promises.stripes key) (λ stripe. 0 < share promises.stripes stripe ((key, value) ∷ []))
      (λ stripe is. subst (λ (i : ℕ). 0 < share promises.stripes i ((key, value) ∷ [])) (sym is) (written_there promises.stripes key value)) own)
      plan

  -- there was no room for what a SET without an option writes
  pub set_stopped : (promises : Promises) (key value : Bytes) (s : Stop R) (refused : Refused) (start mid : Knowledge) (f0 f1 : ℕ) → mid ≡ start → IfCold s (λ receipts. ⊥) → IfNoMemory s ⊥ → f1 ≡ f0 + faults s
      → IfFull s (λ stripe. stripe ≡ stripe_of promises.stripes key) → IsPlan start.seen (Run (Set key value Always)) (line_reply Done) ((key, Some value) ∷ [])
      → IsUndone promises [] (asked_of (set_call key value)) (fault_of s) (know start f0) (know (given false (report_of s refused) mid) f1)
  set_stopped promises key value s refused start mid f0 f1 same cold memory failures own plan =
      put_stopped promises (Set key value Always) key (Some value) (line_reply Done) s refused start mid f0 f1 refl same cold memory failures own (λ t. plan)
