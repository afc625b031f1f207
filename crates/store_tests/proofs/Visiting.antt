-- What is held fits after a step that leaves what its part stands for.
use Rattle.std.proofs.Common.{◌≡◌, ◌≢◌, ◌∙◌, ℕ, List, [], ◌∷◌, ◌++◌, Option, Some, Bor, false, unwrap_or, sym, ap, subst, ⊎_elim}
use Rattle.std.proofs.lemmas.Bool.{cases_eq}
use Rattle.words.specs.Store.{Bytes}
use Rattle.words.specs.Watches.{Marks}
use Rattle.gates.specs.declared.view.Knowledge.{Knowledge}
use Rattle.gates.specs.declared.view.Note.{Note}
use Rattle.gates.specs.declared.gates.Gates.{Gates}
use Rattle.gates.specs.declared.held.Held.{Held}
use Rattle.gates.specs.Sets.{part_at}
use Rattle.gates.specs.Rule.{Meaning}
use Rattle.gates.specs.Plays.{kept}
use Rattle.gates.specs.Pages.{Pages}
use Rattle.gates.specs.Passes.{AllFit, FitsPart, Learned, ToldBusy, stripes_of}
use Rattle.gates.specs.Helds.{SameHold, gates_of, held_parts, held_taken, known_to}
use Rattle.store_tests.specs.Visits.{Visited, HasStepped}

some_same : {A : Type 0} (a b : A) (o : Option A) → o ≡ Some a → o ≡ Some b → a ≡ b
some_same {A} a b o one two = ap (λ (x : Option A). unwrap_or x a) (sym one ∙ two)

pub fit_after : {T : Type 0} (contents : Meaning T) (n : ℕ) (k : Knowledge) (took : List (ℕ × (ℕ × T))) (parts last : List (ℕ × T)) (i : ℕ) (old new : T)
    → part_at parts i ≡ Some old → part_at last i ≡ Some new → ((j : ℕ) → j ≢ i → part_at last j ≡ part_at parts j)
    → (contents.trusted → (key : Bytes) → contents.store new key ≡ contents.store old key) → contents.marks new ≡ contents.marks old → AllFit contents n k took parts → AllFit contents n k took last
fit_after {T} contents n k took parts last i old new was is others store marks fit t j q e = ⊎_elim
    (λ same.
    let q_is : new ≡ q = some_same new q (part_at last i) is (ap (part_at last) (sym same) ∙ e) in
    let f : FitsPart contents n k took i old = fit t i old was in
    let g : FitsPart contents n k took i new = record {
      reads = λ key. store t key ∙ f.reads key;
      marks = λ key here. ap (λ (m : Marks). m key k.number) marks ∙ f.marks key here;
      was = f.was;
      taken = f.taken;
      early = f.early;
      own_marks = λ key number elsewhere. ap (λ (m : Marks). m key number) marks ∙ f.own_marks key number elsewhere;
      others = λ key number here ne. ap (λ (m : Marks). m key number) marks ∙ f.others key number here ne;
    } in
    subst (λ (l : ℕ). FitsPart contents n k took l q) (sym same) (subst (FitsPart contents n k took i) q_is g))
    (λ ne. fit t j q (sym (others j ne) ∙ e))
    (cases_eq j i)

-- a stripe was taken, and given back with this told
pub visited : (stripe : ℕ) (told : List Note) (before held later : Knowledge) → Learned before held → ToldBusy (stripe ∷ []) before held → later ≡ kept false told held → Visited stripe told before later
visited stripe told before held later learned busy is = subst (Visited stripe told before) (sym is) record {
  number = learned.number;
  mine = learned.mine;
  watched = learned.watched;
  seen = learned.seen;
  busy = (busy.0, ap (λ (l : List Note). told ++ l) busy.1, busy.2);
}

-- what is held fits after a step at one stripe
pub fit_held : {T : Type 0} (contents : Meaning T) (gates : Gates T) (stripe : ℕ) (Says : Pages → Pages → Type 0) (before later : Held T) → before.gates.now ≡ gates → SameHold before later
    → HasStepped contents stripe (part_at (held_parts before)) (part_at (held_parts later)) Says
    → AllFit contents (stripes_of gates) (known_to before) (held_taken before) (held_parts before) → AllFit contents (stripes_of (gates_of later)) (known_to later) (held_taken later) (held_parts later)
fit_held {T} contents gates stripe Says before later of same s fit =
    let n : ℕ = stripes_of gates in
    let last = held_parts later in
    let f : AllFit contents n (known_to before) (held_taken before) last =
    fit_after contents n (known_to before) (held_taken before) (held_parts before) last stripe s.old s.new s.was s.is s.others s.store s.marks fit in
    subst (λ (m : ℕ). AllFit contents m (known_to later) (held_taken later) last) (sym (ap (λ (x : Bor (Gates T)). stripes_of x.now) same.gates ∙ ap stripes_of of))
    (subst (λ (k : Knowledge). AllFit contents n k (held_taken later) last) (sym same.known)
    (subst (λ (took : List (ℕ × (ℕ × T))). AllFit contents n (known_to before) took last) (sym same.taken) f))
