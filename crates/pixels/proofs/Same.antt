-- Two scalars that hold the same number are the same. Assumes nothing.
use mathlib.Core.Path.{◌≡◌}
use Rattle.integers.proofs.Ints.{fits_path}
use Rattle.pixels.specs.declared.types.Clamped.{Clamped}

pub same_clamped : {M : Type 0} (a b : Clamped M) → a.value ≡ b.value → a ≡ b
same_clamped a b e = λ i. record { value = e i; measure = a.measure; fits = fits_path e a.fits b.fits i }
