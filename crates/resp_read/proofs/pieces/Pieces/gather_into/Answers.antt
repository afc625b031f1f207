use Rattle.std.proofs.Common.{rules, ◌++◌, ◌∙◌, ap, take, drop, List, ℕ}
use Rattle.resp_read.proofs.PieceLemmas.{gathering_next}
use Rattle.resp_read.proofs.pieces.Pieces.gather_into.Goals as goal

pub loop-piece-preserved : goal.loop-piece-preserved
loop-piece-preserved c =
    let e = c.gather-in-Some.ensures in
    gathering_next _ c.self.inside.later.items c.loop-piece.index c.in-Some.piece.now c.loop-piece.gathered.items c.gather-in-Some.new.gathered.items c.loop-piece.gathered.capacity c.gather-in-Some.new.gathered.capacity c.loop-piece.wanted.from c.gather-in-Some.new.self.from c.loop-piece.wanted.count c.gather-in-Some.new.self.count c.loop-piece.invariant c.in-Some.ensures.item.3.0 c.in-Some.ensures.lookup
    (λ rest. e.goes_on rest ∙ ap (λ (b : List ℕ). c.loop-piece.gathered.items ++ take c.loop-piece.wanted.count (drop c.loop-piece.wanted.from (b ++ rest))) c.as_slice-in-Some.ensures)
    e.room

pub loop-piece-init : goal.loop-piece-init
loop-piece-init c = search rules
