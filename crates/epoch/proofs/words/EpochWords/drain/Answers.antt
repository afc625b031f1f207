use Rattle.std.proofs.Common.{rules, arith, ap, sym, subst, refl, ◌∙◌}
use Rattle.epoch.proofs.Steps.{tells_any}
use Rattle.epoch.proofs.Moments.{clear}
use Rattle.epoch.proofs.Scanning.{blocked_scanned, scanned}
use Rattle.epoch.specs.Seats.{OnlyScanned, HasScanned}
use Rattle.epoch.proofs.words.EpochWords.drain.Goals as goal

pub split_seat-token-requires : goal.split_seat-token-requires
split_seat-token-requires c =
    let sized = c.args.self.now.sized in
    let shared = c.args.self.now.table.shared in
    (c.scan.ensures.of ∙ c.requires, omega arith, tells_any shared.key c.scan.new.seat.id c.scan.new.seat.me.0)

pub returns-then-not-scan-clause-told : goal.returns-then-not-scan-clause-told
returns-then-not-scan-clause-told c =
    search (rules, blocked_scanned c.args.e c.args.seat.now.me.0 c.scan.new.seat.me.0)

pub returns-then-not-scan-clause-none : goal.returns-then-not-scan-clause-none
returns-then-not-scan-clause-none c = search rules

pub returns-clause-table : goal.returns-clause-table
returns-clause-table c = c.split_seat-token.ensures.0 ∙ c.scan.ensures.of

pub returns-clause-only : goal.returns-clause-only
returns-clause-only c =
    subst (OnlyScanned c.args.seat.now.me.0) (sym (ap (λ m. m.0) c.split_seat-token.ensures.2)) c.scan.ensures.only

pub returns-clause-told : goal.returns-clause-told
returns-clause-told c =
    let past = c.if-not-scan.ensures.past refl in
    subst (HasScanned c.args.seat.now.me.0) (sym (ap (λ m. m.0) c.split_seat-token.ensures.2))
    (scanned c.args.e c.args.seat.now.me.0 c.scan.new.seat.me.0 c.args.self.now.seats past)

pub returns-clause-of : goal.returns-clause-of
returns-clause-of c = c.split_seat-token.ensures.3 ∙ c.scan.ensures.of

pub returns-clause-clear : goal.returns-clause-clear
returns-clause-clear c = λ s ruled at.
    let token = c.split_seat-token in
    let past = c.if-not-scan.ensures.past refl in
    clear c.args.self.now.seats s ruled token.result.id token.result.me.0 at c.scan.new.seat.me.0 c.args.e
    (ap (λ m. m.0) token.ensures.4) past.passed past.above
