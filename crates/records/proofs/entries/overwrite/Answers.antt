use Rattle.std.specs.Prelude.{vec_capacity}
use Rattle.std.proofs.Common.{◌≡◌, ◌∙◌, ℕ, List, length, ap, arith, sym, subst, length-take, length-drop, rules}
use Rattle.std.specs.Option.{option_copied}
use Rattle.records.proofs.Changed.{held-there, held-key_length, held-value_length, held-capacity, memory-changed, memory-stays, length-changed, lent-again}
use Rattle.records.specs.Memory.{bytes_of, IsPageMemory}
use Rattle.records.proofs.There.{HasChanged, listed-IsThere}
use Rattle.records.proofs.entries.overwrite.Goals as goal

pub u16_at-key_length-requires : goal.u16_at-key_length-requires
u16_at-key_length-requires c =
    let there = listed-IsThere _ _ _ c.requires.laid_out c.requires.fits.listed in
    omega (arith, held-there c.page.inside.bytes.items c.args.page.now _ _ _ c.page.invariant c.page.view_is there, ap (λ (l : List ℕ). length l) c.as_mut_slice-bytes.ensures.value)

pub u32_at-old_length-requires : goal.u32_at-old_length-requires
u32_at-old_length-requires c =
    let there = listed-IsThere _ _ _ c.requires.laid_out c.requires.fits.listed in
    omega (arith, held-there c.page.inside.bytes.items c.args.page.now _ _ _ c.page.invariant c.page.view_is there, ap (λ (l : List ℕ). length l) c.as_mut_slice-bytes.ensures.value)

pub u32_at-capacity-requires : goal.u32_at-capacity-requires
u32_at-capacity-requires c =
    let there = listed-IsThere _ _ _ c.requires.laid_out c.requires.fits.listed in
    omega (arith, held-there c.page.inside.bytes.items c.args.page.now _ _ _ c.page.invariant c.page.view_is there, ap (λ (l : List ℕ). length l) c.as_mut_slice-bytes.ensures.value)

pub slice_bounds-rewrite_value-end : goal.slice_bounds-rewrite_value-end
slice_bounds-rewrite_value-end c =
    let there = listed-IsThere _ _ _ c.requires.laid_out c.requires.fits.listed in
    let held = held-there c.page.inside.bytes.items c.args.page.now _ _ _ c.page.invariant c.page.view_is there in
    let key = held-key_length c.page.inside.bytes.items c.args.page.now _ _ _ c.page.invariant c.page.view_is there c.as_mut_slice-bytes.result.now _ c.as_mut_slice-bytes.ensures.value c.u16_at-key_length.ensures in
    let room = held-capacity c.page.inside.bytes.items c.args.page.now _ _ _ c.page.invariant c.page.view_is there c.as_mut_slice-bytes.result.now _ c.as_mut_slice-bytes.ensures.value c.u32_at-capacity.ensures in
    omega (arith, held, key, room, ap (λ (l : List ℕ). length l) c.as_mut_slice-bytes.ensures.value)

pub rewrite_value-requires-clause-value : goal.rewrite_value-requires-clause-value
rewrite_value-requires-clause-value c =
    let there = listed-IsThere _ _ _ c.requires.laid_out c.requires.fits.listed in
    let held = held-there c.page.inside.bytes.items c.args.page.now _ _ _ c.page.invariant c.page.view_is there in
    let key = held-key_length c.page.inside.bytes.items c.args.page.now _ _ _ c.page.invariant c.page.view_is there c.as_mut_slice-bytes.result.now _ c.as_mut_slice-bytes.ensures.value c.u16_at-key_length.ensures in
    let room = held-capacity c.page.inside.bytes.items c.args.page.now _ _ _ c.page.invariant c.page.view_is there c.as_mut_slice-bytes.result.now _ c.as_mut_slice-bytes.ensures.value c.u32_at-capacity.ensures in
    omega (arith, held, key, room, ap (λ (l : List ℕ). length l) c.as_mut_slice-bytes.ensures.value, c.requires.fits.fits, length-take {A = ℕ}, length-drop {A = ℕ})

pub rewrite_value-requires-clause-old : goal.rewrite_value-requires-clause-old
rewrite_value-requires-clause-old c =
    let there = listed-IsThere _ _ _ c.requires.laid_out c.requires.fits.listed in
    let held = held-there c.page.inside.bytes.items c.args.page.now _ _ _ c.page.invariant c.page.view_is there in
    let key = held-key_length c.page.inside.bytes.items c.args.page.now _ _ _ c.page.invariant c.page.view_is there c.as_mut_slice-bytes.result.now _ c.as_mut_slice-bytes.ensures.value c.u16_at-key_length.ensures in
    let old = held-value_length c.page.inside.bytes.items c.args.page.now _ _ _ c.page.invariant c.page.view_is there c.as_mut_slice-bytes.result.now _ c.as_mut_slice-bytes.ensures.value c.u32_at-old_length.ensures in
    let room = held-capacity c.page.inside.bytes.items c.args.page.now _ _ _ c.page.invariant c.page.view_is there c.as_mut_slice-bytes.result.now _ c.as_mut_slice-bytes.ensures.value c.u32_at-capacity.ensures in
    let ok = there.ok in
    omega (arith, held, key, old, room, ok.value_fits, ap (λ (l : List ℕ). length l) c.as_mut_slice-bytes.ensures.value, length-take {A = ℕ}, length-drop {A = ℕ})

pub invariant_of-page : goal.invariant_of-page
invariant_of-page c =
    let there = listed-IsThere _ _ _ c.requires.laid_out c.requires.fits.listed in
    let is = c.as_mut_slice-bytes.ensures.value in
    let key = held-key_length c.page.inside.bytes.items c.args.page.now _ _ _ c.page.invariant c.page.view_is there c.as_mut_slice-bytes.result.now _ is c.u16_at-key_length.ensures in
    let old = held-value_length c.page.inside.bytes.items c.args.page.now _ _ _ c.page.invariant c.page.view_is there c.as_mut_slice-bytes.result.now _ is c.u32_at-old_length.ensures in
    let room = held-capacity c.page.inside.bytes.items c.args.page.now _ _ _ c.page.invariant c.page.view_is there c.as_mut_slice-bytes.result.now _ is c.u32_at-capacity.ensures in
    let stays = memory-stays c.page.inside.bytes.items c.args.page.now _ _ _ c.page.invariant c.page.view_is there
    c.as_mut_slice-bytes.result.now c.rewrite_value.new.slot _ _ _ (option_copied c.args.value) is c.requires.laid_out c.requires.fits.listed c.requires.fits.fits key old room c.rewrite_value.ensures in
    let long : length c.page.inside.bytes.items ≡ c.page.inside.bytes.len = search rules in
    let again = lent-again c.page.inside.bytes.len c.page.inside.bytes.items _ long (length-changed c.page.inside.bytes.items c.args.page.now _ _ _ c.page.invariant c.page.view_is there
    c.as_mut_slice-bytes.result.now c.rewrite_value.new.slot _ _ _ (option_copied c.args.value) is c.requires.laid_out c.requires.fits.listed c.requires.fits.fits key old room c.rewrite_value.ensures ∙ ap (λ (l : List ℕ). length l) is) in
    subst (λ (i : List ℕ). IsPageMemory i (vec_capacity c.page.inside.bytes)) (sym again) stays

pub returns : goal.returns
returns c =
    let there = listed-IsThere _ _ _ c.requires.laid_out c.requires.fits.listed in
    let is = c.as_mut_slice-bytes.ensures.value in
    let key = held-key_length c.page.inside.bytes.items c.args.page.now _ _ _ c.page.invariant c.page.view_is there c.as_mut_slice-bytes.result.now _ is c.u16_at-key_length.ensures in
    let old = held-value_length c.page.inside.bytes.items c.args.page.now _ _ _ c.page.invariant c.page.view_is there c.as_mut_slice-bytes.result.now _ is c.u32_at-old_length.ensures in
    let room = held-capacity c.page.inside.bytes.items c.args.page.now _ _ _ c.page.invariant c.page.view_is there c.as_mut_slice-bytes.result.now _ is c.u32_at-capacity.ensures in
    let changed = memory-changed c.page.inside.bytes.items c.args.page.now _ _ _ c.page.invariant c.page.view_is there
    c.as_mut_slice-bytes.result.now c.rewrite_value.new.slot _ _ _ (option_copied c.args.value) is c.requires.laid_out c.requires.fits.listed c.requires.fits.fits key old room c.rewrite_value.ensures in
    let long : length c.page.inside.bytes.items ≡ c.page.inside.bytes.len = search rules in
    let again = lent-again c.page.inside.bytes.len c.page.inside.bytes.items _ long (length-changed c.page.inside.bytes.items c.args.page.now _ _ _ c.page.invariant c.page.view_is there
    c.as_mut_slice-bytes.result.now c.rewrite_value.new.slot _ _ _ (option_copied c.args.value) is c.requires.laid_out c.requires.fits.listed c.requires.fits.fits key old room c.rewrite_value.ensures ∙ ap (λ (l : List ℕ). length l) is) in
    let F : List ℕ → Type 0 = λ i. HasChanged c.args.page.now (bytes_of i) c.args.offset (option_copied c.args.value) in
    let done = subst F (sym again) changed in
    record { changed = done.records_are; end = done.end_is; number = done.number_is; laid_out = done.laid_out }
