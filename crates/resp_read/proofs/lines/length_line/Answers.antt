use Rattle.std.proofs.Common.{arith, refl, ◌-◌, List, ℕ, take, drop, length}
use Rattle.std.proofs.lemmas.List.{take_rest}
use Rattle.resp_read.proofs.Numbers.{bytes_by_sign, word_of_nothing, word_without_dollar, length_part, length_part_few, length_no_digit, length_leading_zero, length_too_long, length_too_large, length_more, length_ends}
use Rattle.resp_read.proofs.lines.length_line.Goals as goal

pub returns-in-empty : goal.returns-in-empty
returns-in-empty c = (omega arith, λ left. word_of_nothing left c.args.size c.args.bytes.now c.in-empty.len_below)

pub returns-in_default : goal.returns-in_default
returns-in_default c = λ left. word_without_dollar left c.args.size c.args.bytes.now c.in_default.len_at_least (λ e. absurd (omega arith))

pub returns-then-at-gt0 : goal.returns-then-at-gt0
returns-then-at-gt0 c =
    let bytes : List ℕ = c.args.bytes.now in
    let digits : List ℕ = take (length bytes - 1) (drop 1 bytes) in
    length_ends c.args.size bytes digits _ c.loop-at.at c.loop-at.length c.line_end.result (bytes_by_sign bytes 36 c.in-36.len_at_least (omega arith)) c.loop-at.invariant c.if-at-gt0.true c.loop-at-test.true c.if-byte-eq13.true (take_rest digits _) c.line_end.ensures

pub returns-in_default-digit_of : goal.returns-in_default-digit_of
returns-in_default-digit_of c =
    let bytes : List ℕ = c.args.bytes.now in
    λ left. length_no_digit left c.args.size bytes _ c.loop-at.at c.loop-at.length _ (bytes_by_sign bytes 36 c.in-36.len_at_least (omega arith)) c.loop-at.invariant c.loop-at-test.true refl c.in_default-digit_of.ensures c.else-byte-eq13.either

pub returns-then-length-eq0 : goal.returns-then-length-eq0
returns-then-length-eq0 c =
    let bytes : List ℕ = c.args.bytes.now in
    let e = c.in-Some.ensures in
    λ left. length_leading_zero left c.args.size bytes _ c.loop-at.at c.loop-at.length c.in-Some.digit (bytes_by_sign bytes 36 c.in-36.len_at_least (omega arith)) c.loop-at.invariant c.loop-at-test.true e.1 c.if-at-gt0-2.true c.if-length-eq0.true

pub returns-then-length-gt-WORD_BYTES_MAX : goal.returns-then-length-gt-WORD_BYTES_MAX
returns-then-length-gt-WORD_BYTES_MAX c =
    let bytes : List ℕ = c.args.bytes.now in
    let e = c.in-Some.ensures in
    λ left. length_too_long left c.args.size bytes _ c.loop-at.at c.loop-at.length c.in-Some.digit (bytes_by_sign bytes 36 c.in-36.len_at_least (omega arith)) c.loop-at.invariant c.loop-at-test.true e.1 e.0 c.if-length-gt-WORD_BYTES_MAX.true

pub returns-then-size-length-gt-REQUEST_BYTES_MAX : goal.returns-then-size-length-gt-REQUEST_BYTES_MAX
returns-then-size-length-gt-REQUEST_BYTES_MAX c =
    let bytes : List ℕ = c.args.bytes.now in
    let e = c.in-Some.ensures in
    λ left. length_too_large left c.args.size bytes _ c.loop-at.at c.loop-at.length c.in-Some.digit (bytes_by_sign bytes 36 c.in-36.len_at_least (omega arith)) c.loop-at.invariant c.loop-at-test.true e.1 c.else-at-gt0-2.either e.0 c.if-length-gt-WORD_BYTES_MAX.false c.if-size-length-gt-REQUEST_BYTES_MAX.true

pub loop-at-preserved : goal.loop-at-preserved
loop-at-preserved c =
    let e = c.in-Some.ensures in
    length_more c.args.size _ c.loop-at.at c.loop-at.length c.in-Some.digit c.loop-at.invariant c.loop-at-test.true e.1 c.else-at-gt0-2.either e.0 c.if-length-gt-WORD_BYTES_MAX.false c.if-size-length-gt-REQUEST_BYTES_MAX.false

pub returns : goal.returns
returns c =
    let bytes : List ℕ = c.args.bytes.now in
    let signed = bytes_by_sign bytes 36 c.in-36.len_at_least (omega arith) in
    (length_part_few c.args.size bytes _ c.loop-at.at c.loop-at.length signed c.loop-at.invariant c.loop-at-test.false, λ left. length_part left c.args.size bytes _ c.loop-at.at c.loop-at.length signed c.loop-at.invariant c.loop-at-test.false)
