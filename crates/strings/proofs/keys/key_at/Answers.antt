use Rattle.std.proofs.Common.{◌∙◌, ◌<◌, ap, sym, subst, arith, length, ℕ, Some, refl}
use Rattle.std.specs.List.{slice_get}
use Rattle.std.proofs.lemmas.Option.{slice_get_read}
use Rattle.words.specs.Store.{Bytes}
use Rattle.strings.proofs.KeyLists.{keys_set-length, keys_set-at, of_settings, of_keys}
use Rattle.strings.proofs.keys.key_at.Goals as goal

pub bounds-as_slice-place : goal.bounds-as_slice-place
bounds-as_slice-place c =
    let same = ap length (of_settings c.args.command.now c.in-MSet.settings c.in-MSet.is) ∙ keys_set-length c.in-MSet.settings ∙ sym (ap length c.as_slice.ensures) in
    subst (λ (n : ℕ). c.args.place < n) same c.requires

pub offset_bounds-as_slice-place : goal.offset_bounds-as_slice-place
offset_bounds-as_slice-place c =
    let same = ap length (of_settings c.args.command.now c.in-MSet.settings c.in-MSet.is) ∙ keys_set-length c.in-MSet.settings ∙ sym (ap length c.as_slice.ensures) in
    let below : c.args.place < length c.as_slice.result.now = subst (λ (n : ℕ). c.args.place < n) same c.requires in
    omega arith

pub returns-in-MSet : goal.returns-in-MSet
returns-in-MSet c =
    let same = ap length (of_settings c.args.command.now c.in-MSet.settings c.in-MSet.is) ∙ keys_set-length c.in-MSet.settings ∙ sym (ap length c.as_slice.ensures) in
    let below : c.args.place < length c.as_slice.result.now = subst (λ (n : ℕ). c.args.place < n) same c.requires in
    ap (λ keys. slice_get keys c.args.place) (of_settings c.args.command.now c.in-MSet.settings c.in-MSet.is)
    ∙ keys_set-at c.in-MSet.settings c.args.place c.index-as_slice-place.result
    (ap (λ settings. slice_get settings c.args.place) (sym c.as_slice.ensures)
    ∙ slice_get_read c.as_slice.result.now (length c.as_slice.result.now) c.args.place c.index-as_slice-place.result refl below c.index-as_slice-place.is)
    ∙ ap (λ (setting : Bytes × Bytes). Some setting.0) c.index-as_slice-place.is

pub returns-in-Exists : goal.returns-in-Exists
returns-in-Exists c =
    let same = ap length (of_keys c.args.command.now c.in-Exists.keys c.in-Exists.is) ∙ sym (ap length c.as_slice-in-Exists.ensures) in
    let below : c.args.place < length c.as_slice-in-Exists.result.now = subst (λ (n : ℕ). c.args.place < n) same c.requires in
    ap (λ keys. slice_get keys c.args.place) (of_keys c.args.command.now c.in-Exists.keys c.in-Exists.is)
    ∙ ap (λ keys. slice_get keys c.args.place) (sym c.as_slice-in-Exists.ensures)
    ∙ slice_get_read c.as_slice-in-Exists.result.now (length c.as_slice-in-Exists.result.now) c.args.place c.index-as_slice-place-in-Exists.result refl below
    c.index-as_slice-place-in-Exists.is
