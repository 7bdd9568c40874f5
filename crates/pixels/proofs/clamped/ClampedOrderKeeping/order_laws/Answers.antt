use mathlib.Core.Path.{refl}
use Rattle.integers.proofs.Rounds.{clamped_rises}
use Rattle.integers.proofs.Orders.{order}
use Rattle.pixels.proofs.Same.{same_clamped}
use Rattle.pixels.specs.Clamps.{clamp}
use Rattle.pixels.proofs.clamped.ClampedOrderKeeping.order_laws.Goals as goal

pub returns : goal.returns
returns g c = let m = g.M.Measure in order (λ a. a.value) clamp m.ONE m.scaled m.quotient same_clamped refl clamped_rises g.met.M.Measure.scaled_rises
