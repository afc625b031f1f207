-- What is looked at in a stripe.
use Rattle.std.specs.Prelude.{ℕ, ◌≡◌, ◌+◌, Bool}
use Rattle.gates.specs.declared.view.Look.{Look}
use Rattle.gates.specs.declared.view.Look.TheVariants.{FewerExpected, FewerFree, HalfUsed, Used}
use Rattle.hybrid.specs.declared.stripe.TheConstants.{CALL_PAGES, CLEAN_PAGES}
use Rattle.background.specs.declared.look.Kind.{Kind}
use Rattle.background.specs.declared.look.Kind.TheVariants as kind

-- what is seen answers what is looked at
abbrev pub Answers : Kind → Look → Type 0
Answers kind.HalfUsed look = (answer : Bool) × (look ≡ HalfUsed answer)
Answers kind.Used look = (count : ℕ) × (look ≡ Used count)
Answers kind.FewerFree look = (answer : Bool) × (look ≡ FewerFree CALL_PAGES answer)
Answers kind.FewerExpected look = (answer : Bool) × (look ≡ FewerExpected (CLEAN_PAGES + 1) answer)
