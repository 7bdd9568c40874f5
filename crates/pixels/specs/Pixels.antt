-- Pixel: a count of 256ths, clamped at the ends of i32, whose products, quotients and fractions are rounded. Assumes nothing.
use Rattle.std.specs.Prelude.{ℕ, Bool, ℤ, pos, ◌*ℤ◌}
use Rattle.scalar.specs.Ops.{Ops}
use Rattle.integers.specs.Rounds.{rounded}
use Rattle.pixels.specs.declared.types.Clamped.{Clamped}
use Rattle.pixels.specs.declared.types.Parts256.{Parts256}
use Rattle.pixels.specs.Clamps.{clamp, clamped_ops, clamped_less, clamped_absolute}

abbrev pub Pixel : Type 0
Pixel = Clamped Parts256

-- the pixel of any count of 256ths: it is clamped
abbrev pub pixel : ℤ → Pixel
pixel = clamp

abbrev pub pixel_ops : Ops Pixel
pixel_ops = clamped_ops (pos 256) (λ z. rounded z (pos 256)) (λ a b. rounded (pos 256 *ℤ a) b)

abbrev pub pixel_less : Pixel → Pixel → Bool
pixel_less = clamped_less

abbrev pub pixel_absolute : Pixel → Pixel
pixel_absolute = clamped_absolute

-- the fraction n / d: the floor of 256 n / d, clamped
abbrev pub pixel_of : ℤ → ℕ → Pixel
pixel_of n d = pixel (rounded (pos 256 *ℤ n) (pos d))
