-- Whole: integers that are clamped at the ends of i32. A quotient truncates; n / 0 is 0. Assumes nothing.
use Rattle.std.specs.Prelude.{Bool, ℤ, pos}
use Rattle.scalar.specs.Ops.{Ops}
use Rattle.integers.specs.Rounds.{truncated}
use Rattle.pixels.specs.declared.types.Clamped.{Clamped}
use Rattle.pixels.specs.declared.types.Ones.{Ones}
use Rattle.pixels.specs.Clamps.{clamp, clamped_ops, clamped_less, clamped_absolute}

abbrev pub Whole : Type 0
Whole = Clamped Ones

-- the whole number of any integer: it is clamped
abbrev pub whole : ℤ → Whole
whole = clamp

abbrev pub whole_ops : Ops Whole
whole_ops = clamped_ops (pos 1) (λ z. z) truncated

abbrev pub whole_less : Whole → Whole → Bool
whole_less = clamped_less

abbrev pub whole_absolute : Whole → Whole
whole_absolute = clamped_absolute
