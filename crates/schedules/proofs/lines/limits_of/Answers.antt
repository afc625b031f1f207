use Rattle.std.proofs.Common.{rules, ◌≡◌, ◌∷◌, [], List, ℕ, codes, sym, subst}
use Rattle.schedules.specs.Lines.{IsFirstReading}
use Rattle.schedules.proofs.Readings.{reads_first}
use Rattle.schedules.proofs.lines.limits_of.Goals as goal

pub returns : goal.returns
returns c =
    let named : c.args.name.now ≡ codes "world" = search (rules) in
    let P : List ℕ → Type 0 = λ name. IsFirstReading (name ∷ c.args.clients.now ∷ c.args.stripes.now ∷ c.args.frames.now ∷ []) c.new.result in
    subst P (sym named)
    (reads_first c.args.clients.now c.args.stripes.now c.args.frames.now c.in_ok-clients.clients c.in_ok-stripes.stripes c.in_ok-frames.frames c.new.result
    c.in_ok-clients.ensures c.in_ok-stripes.ensures c.in_ok-frames.ensures c.new.ensures.in_range c.new.ensures.numbers)
