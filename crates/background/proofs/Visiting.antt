-- What is held fits after a step that leaves what its part stands for.
use Rattle.std.proofs.Common.{◌≡◌, ◌≢◌, ◌∙◌, ℕ, List, [], ◌∷◌, ◌++◌, Option, Some, Bor, Bool, false, true, ◌<◌, ◌⊎◌, arith, unwrap_or, append_assoc, sym, ap, subst, ⊎_elim}
use Rattle.std.proofs.lemmas.Bool.{cases_eq}
use Rattle.std.specs.Bool.{OnFalse, OnTrue}
use Rattle.words.specs.Store.{Bytes}
use Rattle.words.specs.Watches.{Marks}
use Rattle.gates.specs.declared.view.Knowledge.{Knowledge}
use Rattle.gates.specs.declared.view.Note.{Note}
use Rattle.gates.specs.declared.view.Note.TheVariants.{Busy, Worn, Full, Idle, Done, Seen}
use Rattle.words.specs.History.{History}
use Rattle.gates.specs.declared.gates.Gates.{Gates}
use Rattle.gates.specs.declared.held.Held.{Held}
use Rattle.gates.specs.Sets.{part_at, times}
use Rattle.gates.specs.Rule.{Meaning}
use Rattle.gates.specs.Plays.{kept}
use Rattle.gates.specs.Passes.{AllFit, AreBusy, FitsPart, Learned, ToldBusy, stripes_of}
use Rattle.gates.specs.Helds.{SameHold, gates_of, held_parts, held_taken, known_to}
use Rattle.background.specs.Visits.{Visited, HasStepped}

-- what an option is
pub some_same : {A : Type 0} (a b : A) (o : Option A) → o ≡ Some a → o ≡ Some b → a ≡ b
some_same {A} a b o one two = ap (λ (x : Option A). unwrap_or x a) (sym one ∙ two)

pub fit_after : {T : Type 0} (contents : Meaning T) (n : ℕ) (k : Knowledge) (took : List (ℕ × (ℕ × T))) (parts last : List (ℕ × T)) (i : ℕ) (old new : T)
    → part_at parts i ≡ Some old → part_at last i ≡ Some new → ((j : ℕ) → j ≢ i → part_at last j ≡ part_at parts j)
    → (contents.trusted → (key : Bytes) → contents.store new key ≡ contents.store old key) → contents.marks new ≡ contents.marks old → AllFit contents n k took parts → AllFit contents n k took last
fit_after {T} contents n k took parts last i old new was is others store marks fit t j q e = ⊎_elim
    (λ same.
    let q_is : new ≡ q = some_same new q (part_at last i) is (ap (part_at last) (sym same) ∙ e) in
    let f : FitsPart contents n k took i old = fit t i old was in
    let g : FitsPart contents n k took i new = record {
      reads = λ key. store t key ∙ f.reads key;
      marks = λ key here. ap (λ (m : Marks). m key k.number) marks ∙ f.marks key here;
      was = f.was;
      taken = f.taken;
      early = f.early;
      own_marks = λ key number elsewhere. ap (λ (m : Marks). m key number) marks ∙ f.own_marks key number elsewhere;
      others = λ key number here ne. ap (λ (m : Marks). m key number) marks ∙ f.others key number here ne;
    } in
    subst (λ (l : ℕ). FitsPart contents n k took l q) (sym same) (subst (FitsPart contents n k took i) q_is g))
    (λ ne. fit t j q (sym (others j ne) ∙ e))
    (cases_eq j i)

-- stripes were taken, and given back with this told
pub visited : (stripes : List ℕ) (told : List Note) (before held later : Knowledge) → Learned before held → ToldBusy stripes before held → later ≡ kept false told held → Visited stripes told before later
visited stripes told before held later learned busy is = subst (Visited stripes told before) (sym is) record {
  number = learned.number;
  mine = learned.mine;
  watched = learned.watched;
  seen = learned.seen;
  busy = (busy.0, ap (λ (l : List Note). told ++ l) busy.1, busy.2);
}

-- they were taken with one try each
pub visited_at_once : (told : List Note) (before held later : Knowledge) → Learned before held → held.notes ≡ before.notes → later ≡ kept false told held → Visited [] told before later
visited_at_once told before held later learned same is = visited [] told before held later learned ([], same, tt) is

busy_both : (stripes : List ℕ) (one two : List Note) → AreBusy stripes one → AreBusy stripes two → AreBusy stripes (one ++ two)
busy_both stripes [] two first second = second
busy_both stripes (Busy stripe ∷ one) two first second = (first.0, busy_both stripes one two first.1 second)
busy_both stripes (Worn ∷ one) two first second = absurd first
busy_both stripes (Full stripe refused ∷ one) two first second = absurd first
busy_both stripes (Idle stripe work ∷ one) two first second = absurd first
busy_both stripes (Done stripe work ∷ one) two first second = absurd first
busy_both stripes (Seen stripe look ∷ one) two first second = absurd first

-- a visit that told nothing, and another one
pub visited_twice : (stripes : List ℕ) (told : List Note) (a b c : Knowledge) → Visited stripes [] a b → Visited stripes told b c → Visited stripes told a c
visited_twice stripes told a b c one two = record {
  number = two.number ∙ one.number;
  mine = two.mine ∙ one.mine;
  watched = two.watched ∙ one.watched;
  seen = (two.seen.0 ++ one.seen.0, two.seen.1 ∙ ap (λ (l : History). two.seen.0 ++ l) one.seen.1 ∙ sym (append_assoc two.seen.0 one.seen.0 a.seen));
  busy = (
    two.busy.0 ++ one.busy.0,
    two.busy.1 ∙ ap (λ (l : List Note). told ++ (two.busy.0 ++ l)) one.busy.1 ∙ ap (λ (l : List Note). told ++ l) (sym (append_assoc two.busy.0 one.busy.0 a.notes)),
    busy_both stripes two.busy.0 one.busy.0 two.busy.2 one.busy.2,
  );
}

-- what is held fits after a step at one stripe
pub fit_held : {T : Type 0} (contents : Meaning T) (gates : Gates T) (stripe : ℕ) (Says : T → T → Type 0) (before later : Held T) → before.gates.now ≡ gates → SameHold before later
    → HasStepped contents stripe (part_at (held_parts before)) (part_at (held_parts later)) Says
    → AllFit contents (stripes_of gates) (known_to before) (held_taken before) (held_parts before) → AllFit contents (stripes_of (gates_of later)) (known_to later) (held_taken later) (held_parts later)
fit_held {T} contents gates stripe Says before later of same s fit =
    let n : ℕ = stripes_of gates in
    let last = held_parts later in
    let f : AllFit contents n (known_to before) (held_taken before) last =
    fit_after contents n (known_to before) (held_taken before) (held_parts before) last stripe s.old s.new s.was s.is s.others s.store s.marks fit in
    subst (λ (m : ℕ). AllFit contents m (known_to later) (held_taken later) last) (sym (ap (λ (x : Bor (Gates T)). stripes_of x.now) same.gates ∙ ap stripes_of of))
    (subst (λ (k : Knowledge). AllFit contents n k (held_taken later) last) (sym same.known)
    (subst (λ (took : List (ℕ × (ℕ × T))). AllFit contents n (known_to before) took last) (sym same.taken) f))

-- and after nothing has changed
pub fit_same : {T : Type 0} (contents : Meaning T) (before later : Held T) → SameHold before later → part_at (held_parts later) ≡ part_at (held_parts before)
    → AllFit contents (stripes_of (gates_of before)) (known_to before) (held_taken before) (held_parts before) → AllFit contents (stripes_of (gates_of later)) (known_to later) (held_taken later) (held_parts later)
fit_same {T} contents before later same parts fit t j q e =
    let f : FitsPart contents (stripes_of (gates_of before)) (known_to before) (held_taken before) j q = fit t j q (ap (λ (p : ℕ → Option T). p j) (sym parts) ∙ e) in
    subst (λ (m : ℕ). FitsPart contents m (known_to later) (held_taken later) j q) (sym (ap (λ (x : Bor (Gates T)). stripes_of x.now) same.gates))
    (subst (λ (k : Knowledge). FitsPart contents (stripes_of (gates_of before)) k (held_taken later) j q) (sym same.known)
    (subst (λ (took : List (ℕ × (ℕ × T))). FitsPart contents (stripes_of (gates_of before)) (known_to before) took j q) (sym same.taken) f))

-- a number of a set of one is that one
pub one_of : (a b : ℕ) (none set : List ℕ) → none ≡ [] → (0 < times a set → (a ≡ b) ⊎ (0 < times a none)) → 0 < times a set → a ≡ b
one_of a b none set empty has some = ⊎_elim (λ same. same) (λ other. absurd (omega (arith, subst (λ (l : List ℕ). 0 < times a l) empty other))) (has some)

-- where a bool is so
pub on_true : (P : Type 0) (b : Bool) → b ≡ true → OnTrue b P → P
on_true P b is p = subst (λ (x : Bool). OnTrue x P) is p

pub on_false : (P : Type 0) (b : Bool) → b ≡ false → OnFalse b P → P
on_false P b is p = subst (λ (x : Bool). OnFalse x P) is p
