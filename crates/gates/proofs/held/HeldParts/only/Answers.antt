use Rattle.std.proofs.Common.{◌∙◌}
use Rattle.std.specs.Option.{IfSome}
use Rattle.std.proofs.Common.{ℕ, IsSome, ◌≡◌, List, ◌∷◌, [], Option, Some, None}
use Rattle.gates.specs.Sets.{part_at}
use Rattle.gates.specs.Helds.{held_parts}
use Rattle.gates.proofs.Turning.{held_alone}
use Rattle.gates.proofs.held.HeldParts.only.Goals as goal

alone : (order : List ℕ) (found : Option ℕ) (P : ℕ → Type 0) → IfSome found (λ s. order ≡ s ∷ []) → ((s : ℕ) → order ≡ s ∷ [] → P s) → IfSome found P
alone order None P is to = tt
alone order (Some s) P is to = to s is

pub returns : goal.returns
returns g c =
    alone c.args.self.now.order c.only.result (λ only. (stripe : ℕ) → IsSome (part_at (held_parts c.args.self.now) stripe) → stripe ≡ only) c.only.ensures
    (λ s is stripe. held_alone s stripe (held_parts c.args.self.now) (c.requires.order ∙ is))
