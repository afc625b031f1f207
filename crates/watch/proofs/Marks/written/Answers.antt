use Rattle.std.proofs.Common.{◌≡◌, rules, tests, sym, ◌∙◌}
use Rattle.std.specs.Cmp.Lexicographic.{slice_cmp}
use Rattle.std.specs.List.{list_any}
use Rattle.std.specs.Map.{values_of}
use Rattle.std.specs.Ordering.{nat_cmp}
use Rattle.std.proofs.lemmas.Iterator.Consumers.{YieldsList-from_rest}
use Rattle.std.proofs.lemmas.Iterator.Search.{any_from_yields_List}
use Rattle.std.proofs.lemmas.Map.Keys.{IsDistinct-from_sorted}
use Rattle.watch.specs.Marked.{marks_of}
use Rattle.watch.proofs.Changes.{says_of, some_written, written_found}
use Rattle.watch.proofs.Marks.written.Goals as goal

pub returns : goal.returns
unfolding marks_of
returns c =
    let entries = c.args.self.now.keys.entries in
    let any : c.any.result ≡ list_any (says_of c.args.seat) (values_of entries) =
    any_from_yields_List (says_of c.args.seat) _ _ c.any.result c.any.ensures.ran (YieldsList-from_rest (values_of entries) c.values.ensures.rest) (λ x b q k. search (rules, tests)) in (
      λ yes. some_written c.args.seat entries (IsDistinct-from_sorted (slice_cmp nat_cmp) _ c.values.ensures.ordered) (sym any ∙ yes),
      λ found. any ∙ written_found c.args.seat found.0 entries found.1,
    )
