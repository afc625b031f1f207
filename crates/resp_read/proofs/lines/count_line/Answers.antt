use Rattle.std.proofs.Common.{arith, refl, ◌-◌, List, ℕ, take, drop, length}
use Rattle.std.proofs.lemmas.List.{take_rest}
use Rattle.resp_read.proofs.Numbers.{bytes_by_sign, front_of_nothing, front_without_star, count_part, count_part_few, count_no_digit, count_bad_digit, count_more, count_ends}
use Rattle.resp_read.proofs.lines.count_line.Goals as goal

pub returns-in-empty : goal.returns-in-empty
returns-in-empty c = (omega arith, front_of_nothing c.args.bytes.now c.in-empty.len_below)

pub returns-in_default : goal.returns-in_default
returns-in_default c = front_without_star c.args.bytes.now c.in_default.len_at_least (λ e. absurd (omega arith))

pub returns-then-at-gt0 : goal.returns-then-at-gt0
returns-then-at-gt0 c =
    let bytes : List ℕ = c.args.bytes.now in
    let digits : List ℕ = take (length bytes - 1) (drop 1 bytes) in
    count_ends bytes digits _ c.loop-at.at c.loop-at.count c.line_end.result (bytes_by_sign bytes 42 c.in-42.len_at_least (omega arith)) c.loop-at.invariant c.if-at-gt0.true c.loop-at-test.true c.if-byte-eq13.true (take_rest digits _) c.line_end.ensures

pub returns-in_default-digit_of : goal.returns-in_default-digit_of
returns-in_default-digit_of c =
    let bytes : List ℕ = c.args.bytes.now in
    count_no_digit bytes _ c.loop-at.at c.loop-at.count _ (bytes_by_sign bytes 42 c.in-42.len_at_least (omega arith)) c.loop-at.invariant c.loop-at-test.true refl c.in_default-digit_of.ensures c.else-byte-eq13.either

pub returns-then-count-eq0 : goal.returns-then-count-eq0
returns-then-count-eq0 c =
    let bytes : List ℕ = c.args.bytes.now in
    let e = c.in-Some.ensures in
    count_bad_digit bytes _ c.loop-at.at c.loop-at.count c.in-Some.digit (bytes_by_sign bytes 42 c.in-42.len_at_least (omega arith)) c.loop-at.invariant c.loop-at-test.true e.1 e.0 c.then-count-eq0.either

pub loop-at-preserved : goal.loop-at-preserved
loop-at-preserved c =
    let e = c.in-Some.ensures in
    count_more _ c.loop-at.at c.loop-at.count c.in-Some.digit c.loop-at.invariant c.loop-at-test.true e.1 e.0 (omega arith) (omega arith)

pub returns : goal.returns
returns c =
    let bytes : List ℕ = c.args.bytes.now in
    let starred = bytes_by_sign bytes 42 c.in-42.len_at_least (omega arith) in
    (count_part_few bytes _ c.loop-at.at c.loop-at.count starred c.loop-at.invariant c.loop-at-test.false, count_part bytes _ c.loop-at.at c.loop-at.count starred c.loop-at.invariant c.loop-at-test.false)
