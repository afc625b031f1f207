use Rattle.std.proofs.Common.{◌∙◌, ℕ, List, set, replicate, ap, arith}
use Rattle.epoch.proofs.Steps.{opens_anew}
use Rattle.epoch.proofs.epochs.Epochs.new.Goals as goal

pub of_words-requires : goal.of_words-requires
of_words-requires c =
    opens_anew c.args.seats c.as_slice.result.now
    (c.as_slice.ensures.value ∙ ap (λ (l : List ℕ). set l 0 1) (c.in_ok-words.ensures.items_if_clones_equal (λ y h. h) ∙ ap (λ (n : ℕ). replicate n 0) c.word_index.ensures))
    (omega (arith, c.requires.few))
