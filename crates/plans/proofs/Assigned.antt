-- Settings as writes.
use Rattle.std.proofs.Common.{◌≡◌, List, [], ◌∷◌, refl, ap}
use Rattle.words.specs.Answers.{writes_set}
use Rattle.words.specs.Commands.{keys_set}
use Rattle.words.specs.Store.{Bytes}
use Rattle.transact.specs.Tables.{keys_written}

-- the keys that they write
pub keys_of_settings : (settings : List (Bytes × Bytes)) → keys_written (writes_set settings) ≡ keys_set settings
keys_of_settings [] = refl
keys_of_settings (setting ∷ settings) = ap (λ (keys : List Bytes). setting.0 ∷ keys) (keys_of_settings settings)
