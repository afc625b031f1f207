use Rattle.std.proofs.Common.{◌≡◌, rules, refl}
use Rattle.std.specs.Cmp.Lexicographic.{slice_cmp}
use Rattle.std.specs.Ordering.{nat_cmp}
use Rattle.std.proofs.lemmas.Map.Keys.{IsDistinct-from_sorted}
use Rattle.watch.specs.Marked.{marks_of}
use Rattle.watch.proofs.Changes.{all_cleared}
use Rattle.watch.proofs.Marks.clear.Goals as goal

pub returns : goal.returns
unfolding marks_of
returns c =
    all_cleared c.args.seat _ (λ f. f.0 ≡ c.args.seat) (λ f key seats some after g is t. (record { kept = λ yes s. search rules; none = λ no s. search rules }, search rules))
    _ c.args.self.now.keys.entries c.retain.new.self.entries refl (IsDistinct-from_sorted (slice_cmp nat_cmp) _ c.retain.ensures.was_ordered) c.retain.ensures.filtered
