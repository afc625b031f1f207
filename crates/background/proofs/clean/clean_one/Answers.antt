use Rattle.std.proofs.Common.{◌≡◌, ◌∷◌, [], ◌+◌, ◌≤◌, ℕ, Ok, Err, false, nat_eq, arith}
use Rattle.std.proofs.lemmas.Bool.Decides.{nat_tests}
use Rattle.epoch.specs.Seats as seats
use Rattle.gates.specs.Passes.{known}
use Rattle.background.specs.declared.clean.TheConstants.{ROUNDS}
use Rattle.background.specs.declared.clean.Round.TheVariants as round
use Rattle.background.proofs.Settling.{cleaned_later, looked_twice, ok_is, round_is}
use Rattle.background.proofs.clean.clean_one.Goals as goal

few : (n : ℕ) → nat_eq n ROUNDS ≡ false → n ≤ ROUNDS → n + 1 ≤ ROUNDS
few n not below = grind (arith, nat_tests)

pub returns-in-Ok-Ended-clause-cleaned : goal.returns-in-Ok-Ended-clause-cleaned
returns-in-Ok-Ended-clause-cleaned g c =
    let is : c.clean_round-came.result.0 ≡ Ok (round.Ended c.in-Ok-Ended.done) = ok_is c.clean_round-came.result.0 c.in-Ok-Ended.field-0 (round.Ended c.in-Ok-Ended.done) c.in-Ok-Ended.is (rw c.in-Ok-Ended.is at c.in-Ok-Ended.field-0-is) in
    cleaned_later g.R.Shows.lends (c.args.at.now.stripe ∷ []) c.args.at.now.stripe (Ok c.in-Ok-Ended.done) (g.D.Device.failures c.args.device.now) (g.D.Device.failures c.rounds.device) (g.D.Device.failures c.clean_round-came.new.device)
    (known c.args.pass.now) (known c.rounds.pass) (known c.clean_round-came.new.pass) (seats.known c.args.seat) (seats.known c.rounds.seat) (seats.known c.clean_round-came.result.1) c.rounds.invariant.looked
    (round_is c.clean_round-came.result.0 (Ok (round.Ended c.in-Ok-Ended.done)) _ _ is c.clean_round-came.ensures.came)

pub returns-in-Err-clause-cleaned : goal.returns-in-Err-clause-cleaned
returns-in-Err-clause-cleaned g c =
    let is : c.clean_round-came.result.0 ≡ Err c.in-Err.fault = cc in
    cleaned_later g.R.Shows.lends (c.args.at.now.stripe ∷ []) c.args.at.now.stripe (Err c.in-Err.fault) (g.D.Device.failures c.args.device.now) (g.D.Device.failures c.rounds.device) (g.D.Device.failures c.clean_round-came.new.device)
    (known c.args.pass.now) (known c.rounds.pass) (known c.clean_round-came.new.pass) (seats.known c.args.seat) (seats.known c.rounds.seat) (seats.known c.clean_round-came.result.1) c.rounds.invariant.looked
    (round_is c.clean_round-came.result.0 (Err c.in-Err.fault) _ _ is c.clean_round-came.ensures.came)

pub rounds-preserved : goal.rounds-preserved
rounds-preserved g c =
    let is : c.clean_round-came.result.0 ≡ Ok round.Again = ok_is c.clean_round-came.result.0 c.in-Ok-Again.field-0 round.Again c.in-Ok-Again.is (rw c.in-Ok-Again.is at c.in-Ok-Again.field-0-is) in
    let again = round_is c.clean_round-came.result.0 (Ok round.Again) _ _ is c.clean_round-came.ensures.came in
    record {
      resting = c.clean_round-came.ensures.own;
      outside = c.clean_round-came.ensures.outside;
      right = c.clean_round-came.ensures.right;
      few = few c.rounds.round again.0 c.rounds.invariant.few;
      looked = looked_twice (c.args.at.now.stripe ∷ []) (g.D.Device.failures c.args.device.now) (g.D.Device.failures c.rounds.device) (g.D.Device.failures c.clean_round-came.new.device)
          (known c.args.pass.now) (known c.rounds.pass) (known c.clean_round-came.new.pass) (seats.known c.args.seat) (seats.known c.rounds.seat) (seats.known c.clean_round-came.result.1)
          c.rounds.invariant.looked again.1;
    }
