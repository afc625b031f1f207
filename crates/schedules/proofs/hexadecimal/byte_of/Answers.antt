use Rattle.std.proofs.Common.{sym, ◌∙◌, ◌∷◌, []}
use Rattle.schedules.proofs.Hexes.{byte_spells, one_byte, upper_spells_none, unread_spells_no_byte}
use Rattle.schedules.proofs.hexadecimal.byte_of.Goals as goal

pub returns-then-has_upper_case : goal.returns-then-has_upper_case
returns-then-has_upper_case c =
    λ byte fits is. upper_spells_none c.args.text.now (byte ∷ []) (sym c.has_upper_case.ensures ∙ c.if-has_upper_case.true) (one_byte byte fits) is

pub returns-in_err-ok : goal.returns-in_err-ok
returns-in_err-ok c =
    let none = sym c.ok.ensures.value ∙ c.in_err-ok.was in
    rw c.from_residual.ensures (unread_spells_no_byte c.args.text.now c.decode_to_slice.new.out c.decode_to_slice.result c.decode_to_slice.ensures.value none)

pub returns : goal.returns
returns c =
    let lower = sym c.has_upper_case.ensures ∙ c.if-has_upper_case.false in
    let some = sym c.ok.ensures.value ∙ c.in_ok-ok.was in
    byte_spells c.args.text.now c.decode_to_slice.new.out c.decode_to_slice.result c.in_ok-ok.field-0 lower c.decode_to_slice.ensures.value some c.decode_to_slice.auto.out
