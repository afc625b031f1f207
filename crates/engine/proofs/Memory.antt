-- Calls that need no memory are not answered by want of it.
use Rattle.std.proofs.Common.{◌≡◌, ◌≤◌, ℕ, length, unwrap_or, [], Option, refl, sym, subst}
use Rattle.words.specs.declared.word.TheConstants.{WORD_INLINE}
use Rattle.words.specs.declared.command.Command.{Command}
use Rattle.words.specs.declared.command.Command.TheVariants.{Get, Set}
use Rattle.words.specs.declared.command.When.TheVariants.{Always}
use Rattle.words.specs.Commands.{keys_of}
use Rattle.words.specs.History.{after}
use Rattle.words.specs.Store.{Bytes, Store}
use Rattle.gates.specs.Rule.{Meaning}
use Rattle.gates.specs.declared.held.Held.{Held}
use Rattle.gates.specs.Helds.{known_to}
use Rattle.transact.specs.declared.call.Call.{Call}
use Rattle.transact.specs.declared.call.Call.TheVariants.{One, Watch, Exec, Forget}
use Rattle.transact.specs.Calls.{call_keys}
use Rattle.transact.specs.Submits.{asked_for}
use Rattle.transact.specs.Tables.{AllRead, AreThere, joined}
use Rattle.shards.specs.declared.shard.Shard.{Shard}
use Rattle.plans.specs.Memory.{IsBrief, IsBriefOn, IsPlannedInPlace, NeedsNoMemoryOn}
use Rattle.shards.specs.Shards.{shard_meaning}
use Rattle.engine.specs.Memory.{AsksNoMemory, NeedsNoMemory, set_call}
use Rattle.engine.proofs.Parts.{joined_at}
use Rattle.engine.proofs.Entering.{Fit, parts_of, stands}

module _ {T : Type 0} (contents : Meaning T) (n : ℕ) (parts : ℕ → Option T) (store : Store) (reads : AllRead contents n parts store) where
  -- a command that is brief on the store that a history leaves is so on the parts of that store
  brief_joined : (command : Command) → AreThere n parts (keys_of command) → IsBriefOn store command → IsBriefOn (joined contents n parts) command
  brief_joined command there brief = (
    brief.0,
    subst (λ (v : Option Bytes). IsBrief brief.0 v command)
        (sym (joined_at n contents parts store brief.0 reads (subst (AreThere n parts) brief.1.keys there).0)) brief.1,
  )

  placed_joined : (command : Command) → AreThere n parts (keys_of command) → IsPlannedInPlace store command → IsPlannedInPlace (joined contents n parts) command
  placed_joined (Get key) there placed = subst (λ (v : Option Bytes). length (unwrap_or v []) ≤ WORD_INLINE) (sym (joined_at n contents parts store key reads there.0)) placed
  placed_joined command there placed = brief_joined command there placed

  -- what a call needs on a store, it needs on the parts of that store
  needs_joined : (call : Call) → AreThere n parts (call_keys call) → NeedsNoMemoryOn store call → NeedsNoMemoryOn (joined contents n parts) call
  needs_joined (One command) there needs = placed_joined command there needs
  needs_joined (Watch keys) there needs = absurd needs
  needs_joined (Exec commands watching) there needs = absurd needs
  needs_joined (Forget watching) there needs = absurd needs

needs_in : (near : Type 0) (store : Store) (command : Command) → ((key value : Bytes) → One command ≡ set_call key value → ⊥) → NeedsNoMemory near store command
    → near × IsPlannedInPlace store command
needs_in near store (Set key value Always) never needs = absurd (never key value refl)
needs_in near store _ never needs = needs

pub needs_near : (near : Type 0) (store : Store) (call : Call) → ((key value : Bytes) → call ≡ set_call key value → ⊥) → AsksNoMemory near store (asked_for call)
    → near × NeedsNoMemoryOn store call
needs_near near store (One command) never asks = needs_in near store command never asks
needs_near near store (Watch keys) never asks = absurd asks
needs_near near store (Exec commands watching) never asks = absurd asks
needs_near near store (Forget watching) never asks = absurd asks

-- A call that is no SET without an option, and needs no memory where pages are near, needs none on the parts that are held.
pub asks_on : {R : Type 0} (steady lends : Type 0) (n : ℕ) (held : Held (Shard R)) (call : Call) → Fit steady n held → AreThere n (parts_of steady held) (call_keys call)
    → ((key value : Bytes) → call ≡ set_call key value → ⊥) → AsksNoMemory (steady × lends) (after (known_to held).seen) (asked_for call)
    → steady × lends × NeedsNoMemoryOn (joined (shard_meaning steady) n (parts_of steady held)) call
asks_on steady lends n held call fit there never asks =
    let needs = needs_near (steady × lends) (after (known_to held).seen) call never asks in
    (needs.0.0, needs.0.1, needs_joined (shard_meaning steady) n (parts_of steady held) (after (known_to held).seen) (stands steady n (known_to held).number held refl fit needs.0.0).read call there needs.1)
