-- What is told of parts that are not there.
use Rattle.std.proofs.Common.{◌≡◌, ◌∙◌, ℕ, List, [], refl, sym, ap}
use Rattle.gates.specs.Sets.{part_at}
use Rattle.gates.specs.Rule.{Meaning}
use Rattle.gates.specs.Background.{IsAt, IsToldOf, notes_of}
use Rattle.gates.specs.declared.report.Report.{Report}
use Rattle.gates.specs.declared.report.Report.TheVariants as report

none_at : {T : Type 0} (parts : List (ℕ × T)) (stripe : ℕ) (P : T → Type 0) → parts ≡ [] → IsAt parts stripe P → ⊥
none_at {T} parts stripe P none at = absurd (cc (ap (λ (l : List (ℕ × T)). part_at l stripe) (sym none) ∙ at.there))

-- nothing is told where nothing is held
pub none_told : {T : Type 0} (contents : Meaning T) (took : List (ℕ × (ℕ × T))) (parts : List (ℕ × T)) (told : Report) → parts ≡ [] → IsToldOf contents took parts told → notes_of told ≡ []
none_told {T} contents took parts report.Nothing none is = refl
none_told {T} contents took parts (report.Full stripe refused) none is = absurd (none_at parts stripe _ none is)
none_told {T} contents took parts (report.Idle stripe work) none is = absurd (none_at parts stripe _ none is)
none_told {T} contents took parts (report.Done stripe work) none is = absurd (none_at parts stripe _ none is)
none_told {T} contents took parts (report.Seen stripe look) none is = absurd (none_at parts stripe _ none is)
