-- What a pass watches that begins to watch one key.
use Rattle.std.proofs.Common.{◌≡◌, ◌∙◌, ℕ, List, [], ◌∷◌, ◌++◌, length, Some, ap}
use Rattle.words.specs.declared.reply.Reply.{Reply}
use Rattle.words.specs.Store.{Bytes}
use Rattle.words.specs.History.{keys_of_pairs}
use Rattle.words.specs.Watches.{with_keys}
use Rattle.words.specs.Session.{Watch}
use Rattle.engine.specs.Passes.{Known}
use Rattle.engine.specs.Calls.{IsDone}

-- a pass that watched nothing watches one key alone
pub watches_one : (stripes : List ℕ) (keys : List Bytes) (key : Bytes) (reply : Reply) (was now : Known) → IsDone stripes (Some (Watch keys)) reply was now
    → was.watched ≡ [] → keys ≡ key ∷ [] → keys_of_pairs now.watched ≡ key ∷ []
watches_one stripes keys key reply was now done nothing one =
    ap keys_of_pairs done.watched
    ∙ ap (λ pairs. keys_of_pairs (with_keys pairs keys (length (done.others ++ was.seen)))) nothing
    ∙ ap (λ ks. keys_of_pairs (with_keys [] ks (length (done.others ++ was.seen)))) one
