-- What a pass has taken with one try each, and holds.
use Rattle.std.proofs.Common.{◌↔◌, ◌<◌, ◌∙◌, ℕ, List, [], IsSome, sym, ap, subst}
use Rattle.std.specs.Borrow.{MutBor}
use Rattle.gates.specs.Sets.{times, part_at}
use Rattle.gates.specs.Rule.{Meaning}
use Rattle.gates.specs.declared.gates.Gates.{Gates}
use Rattle.gates.specs.declared.gates.Pass.{Pass}
use Rattle.gates.specs.declared.held.Held.{Held}
use Rattle.gates.specs.Passes.{AllFit, AreAsTaken, Learned, known, parts_in, stripes_of, taken_in, takes_in}
use Rattle.gates.specs.Helds.{HasHeld, HasTaken, TookAll}

-- it is taken, from before the tries on
pub taken_at_once : {T : Type 0} (contents : Meaning T) (gates : Gates T) (stripes : List ℕ) (before : Pass T) (pass : MutBor (Pass T)) (held : Held T)
    → TookAll contents gates stripes before pass.now → HasHeld contents.trusted gates pass held → HasTaken contents gates stripes (record pass { now = before }) held
taken_at_once {T} contents gates stripes before pass held took holds = record {
  gates_are = holds.gates_are;
  pass_is = holds.pass_is;
  is_open = holds.is_open;
  has = subst (λ (p : Pass T). (stripe : ℕ) → IsSome (part_at (parts_in p) stripe) ↔ (0 < times stripe stripes)) (sym holds.same) took.has;
  learned = subst (λ (p : Pass T). Learned (known before) (known p)) (sym holds.same) took.learned;
  told = ([], ap (λ (p : Pass T). (known p).notes) holds.same ∙ took.notes, tt);
  fit = subst (λ (p : Pass T). AllFit contents (stripes_of gates) (known p) (taken_in p) (parts_in p)) (sym holds.same) took.fit;
  lent = subst (λ (p : Pass T). AreAsTaken (taken_in p) (parts_in p)) (sym holds.same) took.lent;
  rising = ap (λ (p : Pass T). takes_in p) holds.same ∙ took.rising;
  fresh = holds.fresh;
}
