use Rattle.std.proofs.Common.{rules, arith}
use Rattle.options.specs.Settings.{AreInRange}
use Rattle.command_line.proofs.Unique.{has_given, in_range_too, none_where, none_anyway}
use Rattle.command_line.proofs.given.Goals as goal

pub returns-in_err-port-clause-none : goal.returns-in_err-port-clause-none
returns-in_err-port-clause-none c =
    none_anyway c.from_residual.result _ (λ there. c.in_err-port.ensures.none there.port there.numbers.gives_port there.port_high)

pub returns-in_err-accept-clause-none : goal.returns-in_err-accept-clause-none
returns-in_err-accept-clause-none c =
    none_anyway c.from_residual-in_err-accept.result _ (λ there.
    let high = there.in_range.accept_high in c.in_err-accept.ensures.none there.accept there.numbers.gives_accept (omega arith))

pub returns-clause-none : goal.returns-clause-none
returns-clause-none c =
    none_where c.new.result
    (AreInRange c.in_ok-accept.accept c.given_or-stripes.result c.given_or-buckets.result c.given_or-frames.result c.given_or-places.result c.given_or-workers.result)
    _ c.new.ensures.in_range.1
    (λ refused there.
    refused (in_range_too _ c.in_ok-accept.accept c.given_or-stripes.result c.given_or-buckets.result c.given_or-frames.result c.given_or-places.result
    c.given_or-workers.result there (search rules)
    (search rules) c.given_or-stripes.ensures (search rules) c.given_or-buckets.ensures (search rules) c.given_or-frames.ensures
    (search rules) c.given_or-places.ensures (search rules) c.given_or-workers.ensures))

pub returns-clause-numbers : goal.returns-clause-numbers
returns-clause-numbers c =
    has_given _ c.new.result _ _ _ _ _ _ _ _ c.new.ensures.numbers (record {
      gives_port = c.in_ok-port.ensures.some;
      gives_accept = c.in_ok-accept.ensures.some;
      gives_stripes = c.given_or-stripes.ensures;
      gives_buckets = c.given_or-buckets.ensures;
      gives_frames = c.given_or-frames.ensures;
      gives_places = c.given_or-places.ensures;
      gives_workers = c.given_or-workers.ensures;
    })
