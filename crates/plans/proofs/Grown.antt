-- What writes make of logs, one after the other.
use Rattle.std.proofs.Common.{◌≡◌, ◌∙◌, ⊎_elim, ℕ, ◌+◌, List, [], ◌∷◌, Option, true, false, sym, ap, subst, refl, arith}
use Rattle.std.proofs.lemmas.Bool.{cases_eq}
use Rattle.words.specs.Store.{Write, writes_key}
use Rattle.words.specs.Stripes.{stripe_of}
use Rattle.hybrid.specs.HybridLog.{HybridLog, IsGrown}
use Rattle.hybrid.specs.Growth.{GrowthLaws}
use Rattle.shards.specs.Rooms.{GrowsAt, HaveGrown, share}
use Rattle.shards.specs.Shards.{weigh}
use Rattle.plans.proofs.Rooms.{share_away, share_hidden, share_last}
use Rattle.plans.proofs.Stores.{some_is}

-- no writes
pub grown_none : (laws : GrowthLaws) (n : ℕ) (logs : ℕ → Option HybridLog) → HaveGrown n [] logs logs
grown_none laws n logs = record { was = λ i new is. (new, is, laws.none new); unwritten = λ i none. refl }

-- a write that a later one hides is not made
pub grown_hidden : (n : ℕ) (w : Write) (ws : List Write) (a c : ℕ → Option HybridLog) → writes_key ws w.0 ≡ true → HaveGrown n ws a c → HaveGrown n (w ∷ ws) a c
grown_hidden n w ws a c hidden grown = record {
  was = λ i new is.
      let was = grown.was i new is in (was.0, was.1, subst (λ (k : ℕ). IsGrown was.0 new k) (sym (share_hidden n i w ws hidden)) was.2);
  unwritten = λ i none. grown.unwritten i (sym (share_hidden n i w ws hidden) ∙ none);
}

-- a write, and then others
pub grown_more : (laws : GrowthLaws) (n : ℕ) (w : Write) (ws : List Write) (a b c : ℕ → Option HybridLog) → writes_key ws w.0 ≡ false → GrowsAt (stripe_of n w.0) (weigh w) a b
    → HaveGrown n ws b c → HaveGrown n (w ∷ ws) a c
grown_more laws n w ws a b c last one rest = record {
  was = λ i new is.
      let mid = rest.was i new is in
      ⊎_elim
      (λ at.
      let same : mid.0 ≡ one.new = some_is mid.0 one.new (b i) mid.1 (ap b at ∙ one.is) in
      let first : IsGrown one.old mid.0 (weigh w) = subst (λ (p : HybridLog). IsGrown one.old p (weigh w)) (sym same) one.grown in
      let both : IsGrown one.old new (weigh w + share n i ws) = laws.more one.old mid.0 new (weigh w) (share n i ws) first mid.2 in
      (one.old, ap a at ∙ one.was, subst (λ (k : ℕ). IsGrown one.old new k) (sym (share_last n i w ws (sym at) last)) both))
      (λ ne. (mid.0, sym (one.others i ne) ∙ mid.1, subst (λ (k : ℕ). IsGrown mid.0 new k) (sym (share_away n i w ws (λ e. ne (sym e)))) mid.2))
      (cases_eq i (stripe_of n w.0));
  unwritten = λ i none. ⊎_elim
      (λ at. let is : share n i (w ∷ ws) ≡ weigh w + share n i ws = share_last n i w ws (sym at) last in absurd (omega (arith, is, none)))
      (λ ne. rest.unwritten i (sym (share_away n i w ws (λ e. ne (sym e))) ∙ none) ∙ one.others i ne)
      (cases_eq i (stripe_of n w.0));
}

-- logs that are the same have grown as they have
pub grown_as : (n : ℕ) (ws : List Write) (a b c : ℕ → Option HybridLog) → HaveGrown n ws a b → ((i : ℕ) → c i ≡ b i) → HaveGrown n ws a c
grown_as n ws a b c grown same = record { was = λ i new is. grown.was i new (sym (same i) ∙ is); unwritten = λ i none. same i ∙ grown.unwritten i none }
