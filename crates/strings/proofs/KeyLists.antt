-- The keys of settings, and of commands of several keys.
use Rattle.std.proofs.Common.{ap, inl, inr, ◌⊎◌}
use Rattle.std.specs.Prelude.{ℕ, zero, suc, ◌≡◌, List, [], ◌∷◌, length, Some, slice_get, option_map, refl}
use Rattle.words.specs.declared.command.Command.{Command}
use Rattle.words.specs.declared.command.Command.TheVariants.{Exists, Del, MGet, MSet, MSetNx}
use Rattle.words.specs.Store.{Bytes}
use Rattle.words.specs.Commands.{keys_of, keys_set}

pub keys_set-length : (settings : List (Bytes × Bytes)) → length (keys_set settings) ≡ length settings
keys_set-length [] = refl
keys_set-length (setting ∷ settings) = ap (λ n. suc n) (keys_set-length settings)

pub keys_set-at : (settings : List (Bytes × Bytes)) (place : ℕ) (setting : Bytes × Bytes) → slice_get settings place ≡ Some setting
    → slice_get (keys_set settings) place ≡ Some setting.0
keys_set-at [] place setting is = absurd cc
keys_set-at (first ∷ settings) zero setting is = ap (option_map (λ (s : Bytes × Bytes). s.0)) is
keys_set-at (first ∷ settings) (suc place) setting is = keys_set-at settings place setting is

-- the keys of a command of settings
pub of_settings : (command : Command) (settings : List (Bytes × Bytes)) → (command ≡ MSet settings) ⊎ (command ≡ MSetNx settings)
    → keys_of command ≡ keys_set settings
of_settings command settings is = elim is [ inl e ↦ ap keys_of e | inr e ↦ ap keys_of e ]

-- the keys of a command of keys
pub of_keys : (command : Command) (keys : List Bytes) → (command ≡ Exists keys) ⊎ ((command ≡ Del keys) ⊎ (command ≡ MGet keys)) → keys_of command ≡ keys
of_keys command keys is = elim is [ inl e ↦ ap keys_of e | inr other ↦ elim other [ inl e ↦ ap keys_of e | inr e ↦ ap keys_of e ] ]
