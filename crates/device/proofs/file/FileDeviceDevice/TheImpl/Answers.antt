use Rattle.std.proofs.Common.{Result, Ok, Err, IfOk}
use Rattle.device.proofs.file.FileDeviceDevice.TheImpl.Goals as goal

-- what holds of each value
each_ok : {A E : Type 0} (r : Result A E) (P : A → Type 0) → ((a : A) → P a) → IfOk r P
each_ok (Ok a) P each = each a
each_ok (Err e) P each = tt

-- A file serves no receipt, so what the trait says of served ones holds.
pub write-tells : goal.write-tells
write-tells g x x' c =
    let e = c.ensures in
    record {
      shown = e.shown;
      wrote = each_ok c.result _ (λ r. tt);
      fresh = each_ok c.result _ (λ r served. served);
      served = λ honest. absurd honest;
      still_served = λ r served. served;
      failure = e.failure;
      no_failure = e.no_failure;
      counted = e.counted;
      no_read = e.no_read;
      no_release = e.no_release;
    }
