-- The ranges of what a server is started with.
use Rattle.std.specs.Prelude.{ℕ, ◌≡◌, ◌≤◌}
use Rattle.words.specs.Sizes.{AreInRange as AreLimits}
use Rattle.options.specs.declared.TheConstants.{ACCEPT_MAX}
use Rattle.options.specs.declared.DeviceKind.{DeviceKind}
use Rattle.options.specs.declared.Options.{Options}

-- each number lies in the range of its option: all but the first are limits of the store, with a client for each worker
pub record AreInRange (accept stripes buckets frames places workers : ℕ) : Type 0 where
  pub accept_low : 1 ≤ accept
  pub accept_high : accept ≤ ACCEPT_MAX
  pub limits : AreLimits stripes buckets frames places workers

-- the options have these numbers, and this device
pub record HasSettings (options : Options) (port accept stripes buckets frames places workers : ℕ) (device : DeviceKind) : Type 0 where
  pub port_is : options.port ≡ port
  pub accept_is : options.accept ≡ accept
  pub stripes_are : options.stripes ≡ stripes
  pub buckets_are : options.buckets ≡ buckets
  pub frames_are : options.frames ≡ frames
  pub places_are : options.places ≡ places
  pub workers_are : options.workers ≡ workers
  pub device_is : options.device ≡ device
