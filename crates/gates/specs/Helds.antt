-- Held stripes: what there is of them.
use Rattle.std.specs.Prelude.{◌≡◌, ◌↔◌, ◌<◌, ◌≤◌, ◌∷◌, ◌++◌, ℕ, IsSome, Bool, true, false, List, [], reverse, refl, Result, IfOk, OnOk, OnErr}
use Rattle.std.proofs.Common.{◌∙◌, ap}
use Rattle.std.specs.Borrow.{MutBor}
use Rattle.gates.specs.Sets.{times, part_at}
use Rattle.gates.specs.Rule.{Meaning}
use Rattle.gates.specs.declared.view.Knowledge.{Knowledge}
use Rattle.gates.specs.declared.gates.Gates.{Gates}
use Rattle.gates.specs.declared.gates.Pass.{Pass}
use Rattle.gates.specs.declared.held.Held.{Held}
use Rattle.words.specs.declared.history.Entry.{Entry}
use Rattle.words.specs.declared.history.Operation.{Operation}
use Rattle.words.specs.declared.reply.Reply.{Reply}
use Rattle.words.specs.Session.{Asked, operation_of}
use Rattle.gates.specs.Passes.{known, parts_in, taken_in, stripes_in, stripes_of, IsHolding, takes_in, AllFit, AreAsTaken, Learned, ToldBusy, WasTold, Committed}
use Rattle.gates.specs.declared.gates.CommitsWornOut.{CommitsWornOut}
use Rattle.gates.specs.declared.view.Note.TheVariants.{Busy, Worn}

module _ {T : Type 0} where
  -- the gates whose stripes are held
  abbrev pub gates_of : Held T → Gates T
  gates_of held = held.gates.now

  -- what the pass knows that holds
  abbrev pub known_to : Held T → Knowledge
  known_to held = known held.pass.now

  -- which borrow of the pass it is
  abbrev pub borrow_of : Held T → ℕ
  borrow_of held = held.pass.ghost_name

  -- whether an entry was committed while this is held
  abbrev pub has_committed : Held T → Bool
  has_committed held = held.committed

  -- the number of the pass that holds
  abbrev pub number_of : Held T → ℕ
  number_of held = held.pass.now.number

  -- the operation that is asked of the pass that holds: a transaction goes by all that it watches
  abbrev pub operation_asked : Held T → Asked → Operation
  operation_asked held asked = operation_of (known held.pass.now).watched asked

  -- an entry of the pass that holds
  abbrev pub entry_of : Held T → Operation → Reply → Entry
  entry_of held operation reply = record { session = (known held.pass.now).number; operation = operation; reply = reply }

  -- the parts that are held, each with its stripe
  abbrev pub held_parts : Held T → List (ℕ × T)
  held_parts held = parts_in held.pass.now

  -- what was taken, each with its stripe: the moment, and the part as it was then
  abbrev pub held_taken : Held T → List (ℕ × (ℕ × T))
  held_taken held = taken_in held.pass.now

  -- how many stripes the gates have
  abbrev pub held_stripes : Held T → ℕ
  held_stripes held = stripes_of held.gates.now

  -- the pass has the stripes of these gates that are held
  pub record IsOpen (trusted : Type 0) (held : Held T) : Type 0 where
    pub holding : IsHolding trusted held.gates.now held.pass.now
    pub order : stripes_in held.pass.now ≡ held.order

  -- nothing of what is held differs but parts
  pub record SameHold (before later : Held T) : Type 0 where
    pub gates : later.gates ≡ before.gates
    pub pass : later.pass.ghost_name ≡ before.pass.ghost_name
    pub number : later.pass.now.number ≡ before.pass.now.number
    pub known : known later.pass.now ≡ known before.pass.now
    pub committed : later.committed ≡ before.committed
    pub taken : taken_in later.pass.now ≡ taken_in before.pass.now

  -- there is one stripe at least, and there are 64 at most
  pub few_held : {trusted : Type 0} (held : Held T) → IsOpen trusted held → (1 ≤ held_stripes held) × (held_stripes held ≤ 64)
  few_held held is_open = held.gates.now.small

  -- the gates stay, with as many stripes
  pub stripes_stay : (before later : Held T) → SameHold before later → held_stripes later ≡ held_stripes before
  stripes_stay before later same = ap (λ g. stripes_of g.now) same.gates

  -- and the pass
  pub holder_stays : (before later : Held T) → SameHold before later → number_of later ≡ number_of before
  holder_stays before later same = same.number

  -- nothing differs from itself
  pub same_as_it : (held : Held T) → SameHold held held
  same_as_it held = record { gates = refl; pass = refl; number = refl; known = refl; committed = refl; taken = refl }

  -- what two changes keep
  pub same_by_both : (one two three : Held T) → SameHold one two → SameHold two three → SameHold one three
  same_by_both one two three first second = record {
    gates = second.gates ∙ first.gates;
    pass = second.pass ∙ first.pass;
    number = second.number ∙ first.number;
    known = second.known ∙ first.known;
    committed = second.committed ∙ first.committed;
    taken = second.taken ∙ first.taken;
  }

  -- A commit of an operation, with the answer whether it was made: the pass has what it held, and its entry is the newest of what it has
  -- seen, or it was told that commits are worn out.
  pub record HasCommitted (trusted : Type 0) (before : Held T) (operation : Operation) (reply : Reply) (later : Held T) (result : Result ℕ CommitsWornOut) : Type 0 where
    pub open_still : IsOpen trusted later
    pub gates : gates_of later ≡ gates_of before
    pub pass : borrow_of later ≡ borrow_of before
    pub parts : held_parts later ≡ held_parts before
    pub taken : held_taken later ≡ held_taken before
    pub ok : IfOk result (λ place. Committed (stripes_of (gates_of before)) (held_parts before) (entry_of before operation reply) place (known_to before) (known_to later))
    pub once : OnOk result (has_committed later ≡ true)
    pub worn : OnErr result (WasTold Worn (known_to before) (known_to later))
    pub none : OnErr result (has_committed later ≡ false)

  -- A pass may take one stripe more, which it does not have. What it has fits.
  pub record MayTake (contents : Meaning T) (gates : Gates T) (stripe : ℕ) (pass : Pass T) : Type 0 where
    pub holding : IsHolding contents.trusted gates pass
    pub below : stripe < stripes_of gates
    pub other : times stripe (stripes_in pass) ≡ 0
    pub fit : AllFit contents (stripes_of gates) (known pass) (taken_in pass) (parts_in pass)
    pub lent : AreAsTaken (taken_in pass) (parts_in pass)

  -- It has taken that stripe, whose part comes last, and was told of this stripe alone that another pass had it.
  pub record TookOneMore (contents : Meaning T) (gates : Gates T) (stripe : ℕ) (before now : Pass T) : Type 0 where
    pub holding : IsHolding contents.trusted gates now
    pub fit : AllFit contents (stripes_of gates) (known now) (taken_in now) (parts_in now)
    pub lent : AreAsTaken (taken_in now) (parts_in now)
    pub learned : Learned (known before) (known now)
    pub told : ToldBusy (stripe ∷ []) (known before) (known now)
    pub parts : (part : T) × (parts_in now ≡ parts_in before ++ (stripe, part) ∷ [])
    pub takes : takes_in now ≡ stripe ∷ takes_in before

  -- one try took the stripe, and told nothing
  abbrev pub TookAtOnce : ℕ → (before now : Pass T) → Type 0
  TookAtOnce stripe before now =
      Learned (known before) (known now)
      × ((known now).notes ≡ (known before).notes)
      × ((part : T) × (parts_in now ≡ parts_in before ++ (stripe, part) ∷ []))
      × (takes_in now ≡ stripe ∷ takes_in before)

  -- one try found that another pass has the stripe, and took nothing
  abbrev pub WasRefused : ℕ → (before now : Pass T) → Type 0
  WasRefused stripe before now =
      WasTold (Busy stripe) (known before) (known now) × (parts_in now ≡ parts_in before) × (takes_in now ≡ takes_in before)

  -- A pass has taken these stripes of the gates with one try each, and nothing else. What it knows only grew, its own entries are the same, it
  -- was told nothing, and each part fits, as in `HasTaken`.
  pub record TookAll (contents : Meaning T) (gates : Gates T) (stripes : List ℕ) (before now : Pass T) : Type 0 where
    pub holding : IsHolding contents.trusted gates now
    pub all : stripes_in now ≡ stripes
    pub has : (stripe : ℕ) → IsSome (part_at (parts_in now) stripe) ↔ (0 < times stripe stripes)
    pub learned : Learned (known before) (known now)
    pub notes : (known now).notes ≡ (known before).notes
    pub fit : AllFit contents (stripes_of gates) (known now) (taken_in now) (parts_in now)
    pub lent : AreAsTaken (taken_in now) (parts_in now)
    pub rising : takes_in now ≡ reverse stripes

  -- what the pass behind a reference has is held, and nothing was committed since
  pub record HasHeld (trusted : Type 0) (gates : Gates T) (pass : MutBor (Pass T)) (held : Held T) : Type 0 where
    pub gates_are : held.gates.now ≡ gates
    pub pass_is : held.pass.ghost_name ≡ pass.ghost_name
    pub same : held.pass.now ≡ pass.now
    pub is_open : IsOpen trusted held
    pub fresh : held.committed ≡ false

  -- The pass behind a reference has taken these stripes of the gates, and nothing else. What it knows only grew, its own entries are the
  -- same, it was told of stripes of these alone that others had them, and each part fits: it reads as its part of what the history leaves that it has seen, and its marks say which of the pass's
  -- watched keys were written in it.
  pub record HasTaken (contents : Meaning T) (gates : Gates T) (stripes : List ℕ) (pass : MutBor (Pass T)) (held : Held T) : Type 0 where
    pub gates_are : held.gates.now ≡ gates
    pub pass_is : held.pass.ghost_name ≡ pass.ghost_name
    pub is_open : IsOpen contents.trusted held
    pub has : (stripe : ℕ) → IsSome (part_at (held_parts held) stripe) ↔ (0 < times stripe stripes)
    pub learned : Learned (known pass.now) (known held.pass.now)
    pub told : ToldBusy stripes (known pass.now) (known held.pass.now)
    pub fit : AllFit contents (stripes_of gates) (known held.pass.now) (held_taken held) (held_parts held)
    pub lent : AreAsTaken (held_taken held) (held_parts held)
    pub rising : takes_in held.pass.now ≡ reverse stripes
    pub fresh : held.committed ≡ false

  -- stripes that a pass took with one try each, after this, are held as taken from then on
  abbrev pub IsTakenSince : Meaning T → Gates T → List ℕ → MutBor (Pass T) → Held T → Type 0
  IsTakenSince contents gates stripes pass held =
      (before : Pass T) → TookAll contents gates stripes before pass.now → HasTaken contents gates stripes (record pass { now = before }) held

  -- and the pass was told nothing since
  abbrev pub IsToldNothingSince : Meaning T → Gates T → List ℕ → Pass T → Held T → Type 0
  IsToldNothingSince contents gates stripes pass held =
      (before : Pass T) → TookAll contents gates stripes before pass → (known_to held).notes ≡ (known before).notes
